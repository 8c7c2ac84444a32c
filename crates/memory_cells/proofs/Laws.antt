-- The laws of the three functions that take an address, each proved once: a refused one changes nothing, a done one changes no cell
-- but its own, lengths stay, protected cells of FLASH stay, bytes stay bytes. The argument is one, over any patch that fits.
-- Assumes nothing.
use mathlib.Core.Path.{◌≡◌, ◌∙◌, refl}
use mathlib.Core.Bool.{true, ◌&&◌}
use mathlib.Core.List.{List}
use mathlib.Core.Logic.{◌⊎◌, ⊎_elim, inl, inr}
use Prim.Native.Nat.{ℕ, ◌+◌, ◌≤◌, ◌<◌}
use native.Mathlib.Omega.{arith}
use lib.Dec.{eqb, lit<}
use lib.ListN.{length, get_or, replicate}
use borrow.Author.Tests.{eqb-true, eq-eqb, ne_eqb}
use Rattle.base.specs.Parts.{part, patch, Bytes}
use Rattle.base.proofs.Choice.{by_cond}
use Rattle.base.proofs.Bytes.{bytes_patch, bytes_part, bytes_replicate}
use Rattle.base.proofs.Patched.{part_length, length_patch, elsewhere_patch}
use Rattle.memory_address.specs.Places.{flash_cells, eeprom_cells, eeprom_cell}
use Rattle.memory_address.specs.Rule.{protected, legal_flash, legal_eeprom, cells_of}
use Rattle.memory_address.proofs.Laws.{zero_numbered, flash_within, eeprom_within, spares_protected, rim_protected}
use Rattle.memory_leaves.specs.Leaves.{combined, flash_cells_after, eeprom_cells_after, erased_cells}
use Rattle.memory_cells.specs.Memory.{if_done, flash_number, eeprom_number, flash_written, flash_erased, eeprom_written}
use Rattle.memory_leaves.proofs.Combined.{bytes_combined}
use Rattle.memory_leaves.proofs.Lengths.{length_flash_after, length_eeprom_after, length_erased}

-- ---- one argument: n cells at b are replaced by as many, where the number is 0, and lie within

module _ (number : ℕ) (m : List ℕ) (b n : ℕ) (new : List ℕ) (as_many : length new ≡ length (part m b n))
    (fits : number ≡ 0 → b + n ≤ length m) where
  within : number ≡ 0 → b + length new ≤ length m
  within e = let f = fits e in rw (as_many, part_length m b n f) f

  changed_length : length (if_done number (patch m b new) m) ≡ length m
  changed_length =
      by_cond (λ (x : List ℕ). length x ≡ length m) (eqb number 0) _ _
      (λ t. length_patch m b new (within (eqb-true number 0 t))) (λ _. refl)

  -- a cell that a done one does not cover
  changed_elsewhere : (i : ℕ) → (number ≡ 0 → (i < b) ⊎ (b + n ≤ i)) → get_or (if_done number (patch m b new) m) i 0 ≡ get_or m i 0
  changed_elsewhere i o =
      by_cond (λ (x : List ℕ). get_or x i 0 ≡ get_or m i 0) (eqb number 0) _ _
      (λ t.
      let e = eqb-true number 0 t in
      let l : length new ≡ n = as_many ∙ part_length m b n (fits e) in
      elsewhere_patch m b new (within e) i (⊎_elim (λ h. inl h) (λ h. inr (rw l h)) (o e)))
      (λ _. refl)

  changed_bytes : Bytes m → Bytes new → Bytes (if_done number (patch m b new) m)
  changed_bytes h k = by_cond Bytes (eqb number 0) _ _ (λ _. bytes_patch m b new h k) (λ _. h)

flash_done : (m : List ℕ) (a command : ℕ) → flash_number m a command ≡ 0 → (length m ≡ 65536) × (legal_flash a command ≡ true)
flash_done m a command e =
    let z = zero_numbered (eqb (length m) flash_cells) (legal_flash a command) e in
    (eqb-true (length m) 65536 z.0, z.1)

pub eeprom_done : (m : List ℕ) (p command : ℕ) → eeprom_number m p command ≡ 0 → (length m ≡ 1024) × (legal_eeprom p command ≡ true)
eeprom_done m p command e =
    let z = zero_numbered (eqb (length m) eeprom_cells) (legal_eeprom p command) e in
    (eqb-true (length m) 1024 z.0, z.1)

-- ---- the three functions: where their cells lie, and the laws of each

pub flash_fits : (m : List ℕ) (a command : ℕ) → flash_number m a command ≡ 0 → a + cells_of command ≤ length m
flash_fits m a command e = let d = flash_done m a command e in rw d.0 (flash_within a command d.1).1

pub eeprom_fits : (m : List ℕ) (p command : ℕ) → eeprom_number m p command ≡ 0 → eeprom_cell p + cells_of command ≤ length m
eeprom_fits m p command e = let d = eeprom_done m p command e in let w = eeprom_within p command d.1 in omega arith

-- a number but 0 is a memory left as it was
pub written_refused : (m : List ℕ) (a : ℕ) (new : List ℕ) → (flash_number m a 0x02 ≡ 0 → ⊥) → flash_written m a new ≡ m
unfolding flash_written
written_refused m a new h = rw (ne_eqb (flash_number m a 0x02) 0 h)

pub erased_refused : (m : List ℕ) (a : ℕ) → (flash_number m a 0x03 ≡ 0 → ⊥) → flash_erased m a ≡ m
unfolding flash_erased
erased_refused m a h = rw (ne_eqb (flash_number m a 0x03) 0 h)

pub eeprom_written_refused : (m : List ℕ) (p : ℕ) (new : List ℕ) → (eeprom_number m p 0x02 ≡ 0 → ⊥) → eeprom_written m p new ≡ m
unfolding eeprom_written
eeprom_written_refused m p new h = rw (ne_eqb (eeprom_number m p 0x02) 0 h)

-- a done write or erase covers no protected cell
spared : (m : List ℕ) (a command i : ℕ) → (command ≡ 0x01 → ⊥) → protected i ≡ true → flash_number m a command ≡ 0
    → (i < a) ⊎ (a + cells_of command ≤ i)
spared m a command i unread p e = spares_protected a command i (flash_done m a command e).1 unread p

module _ (m : List ℕ) (a : ℕ) (new : List ℕ) where
  pub written_length : length (flash_written m a new) ≡ length m
  unfolding flash_written
  written_length =
      changed_length (flash_number m a 0x02) m a 8 (flash_cells_after (part m a 8) new) (length_flash_after (part m a 8) new)
      (flash_fits m a 0x02)

  written_but_row : (i : ℕ) → (flash_number m a 0x02 ≡ 0 → (i < a) ⊎ (a + 8 ≤ i)) → get_or (flash_written m a new) i 0 ≡ get_or m i 0
  unfolding flash_written
  written_but_row =
      changed_elsewhere (flash_number m a 0x02) m a 8 (flash_cells_after (part m a 8) new) (length_flash_after (part m a 8) new)
      (flash_fits m a 0x02)

  pub written_elsewhere : (i : ℕ) → (i < a) ⊎ (a + 8 ≤ i) → get_or (flash_written m a new) i 0 ≡ get_or m i 0
  written_elsewhere i o = written_but_row i (λ _. o)

  -- a protected cell stays, whatever the address
  pub written_protected : (i : ℕ) → protected i ≡ true → get_or (flash_written m a new) i 0 ≡ get_or m i 0
  written_protected i p = written_but_row i (spared m a 0x02 i (λ q. omega arith) p)

  pub written_bytes : Bytes m → Bytes (flash_written m a new)
  unfolding flash_written flash_cells_after
  written_bytes h =
      changed_bytes (flash_number m a 0x02) m a 8 (flash_cells_after (part m a 8) new) (length_flash_after (part m a 8) new)
      (flash_fits m a 0x02) h
      (by_cond Bytes (eqb (length (part m a 8)) 8 && eqb (length new) 8) _ _
      (λ _. bytes_combined (part m a 8) new (bytes_part m a 8 h)) (λ _. bytes_part m a 8 h))

  pub eeprom_written_length : length (eeprom_written m a new) ≡ length m
  unfolding eeprom_written
  eeprom_written_length =
      changed_length (eeprom_number m a 0x02) m (eeprom_cell a) 8 (eeprom_cells_after (part m (eeprom_cell a) 8) new)
      (length_eeprom_after (part m (eeprom_cell a) 8) new) (eeprom_fits m a 0x02)

  pub eeprom_written_elsewhere : (i : ℕ) → (i < eeprom_cell a) ⊎ (eeprom_cell a + 8 ≤ i)
      → get_or (eeprom_written m a new) i 0 ≡ get_or m i 0
  unfolding eeprom_written
  eeprom_written_elsewhere i o =
      changed_elsewhere (eeprom_number m a 0x02) m (eeprom_cell a) 8 (eeprom_cells_after (part m (eeprom_cell a) 8) new)
      (length_eeprom_after (part m (eeprom_cell a) 8) new) (eeprom_fits m a 0x02) i (λ _. o)

  pub eeprom_written_bytes : Bytes m → Bytes new → Bytes (eeprom_written m a new)
  unfolding eeprom_written eeprom_cells_after
  eeprom_written_bytes h k =
      changed_bytes (eeprom_number m a 0x02) m (eeprom_cell a) 8 (eeprom_cells_after (part m (eeprom_cell a) 8) new)
      (length_eeprom_after (part m (eeprom_cell a) 8) new) (eeprom_fits m a 0x02) h
      (by_cond Bytes (eqb (length (part m (eeprom_cell a) 8)) 8 && eqb (length new) 8) _ _
      (λ _. k) (λ _. bytes_part m (eeprom_cell a) 8 h))

module _ (m : List ℕ) (a : ℕ) where
  pub erased_length : length (flash_erased m a) ≡ length m
  unfolding flash_erased
  erased_length =
      changed_length (flash_number m a 0x03) m a 64 (erased_cells (part m a 64)) (length_erased (part m a 64))
      (flash_fits m a 0x03)

  erased_but_block : (i : ℕ) → (flash_number m a 0x03 ≡ 0 → (i < a) ⊎ (a + 64 ≤ i)) → get_or (flash_erased m a) i 0 ≡ get_or m i 0
  unfolding flash_erased
  erased_but_block =
      changed_elsewhere (flash_number m a 0x03) m a 64 (erased_cells (part m a 64)) (length_erased (part m a 64))
      (flash_fits m a 0x03)

  pub erased_elsewhere : (i : ℕ) → (i < a) ⊎ (a + 64 ≤ i) → get_or (flash_erased m a) i 0 ≡ get_or m i 0
  erased_elsewhere i o = erased_but_block i (λ _. o)

  -- a protected cell stays, whatever the address
  pub erased_protected : (i : ℕ) → protected i ≡ true → get_or (flash_erased m a) i 0 ≡ get_or m i 0
  erased_protected i p = erased_but_block i (spared m a 0x03 i (λ q. omega arith) p)

  pub erased_bytes : Bytes m → Bytes (flash_erased m a)
  unfolding flash_erased erased_cells
  erased_bytes h =
      changed_bytes (flash_number m a 0x03) m a 64 (erased_cells (part m a 64)) (length_erased (part m a 64))
      (flash_fits m a 0x03) h
      (by_cond Bytes (eqb (length (part m a 64)) 64) _ _
      (λ _. bytes_replicate 64 0xFF (lit< tt)) (λ _. bytes_part m a 64 h))

-- ---- FLASH below the rim stays, whatever the address

pub written_below_rim : (m : List ℕ) (a : ℕ) (new : List ℕ) (i : ℕ) → i < 0x001000 → get_or (flash_written m a new) i 0 ≡ get_or m i 0
written_below_rim m a new i l = written_protected m a new i (rim_protected i l)

pub erased_below_rim : (m : List ℕ) (a i : ℕ) → i < 0x001000 → get_or (flash_erased m a) i 0 ≡ get_or m i 0
erased_below_rim m a i l = erased_protected m a i (rim_protected i l)

-- ---- a done command, cell for cell

pub written_done : (m : List ℕ) (a : ℕ) (new : List ℕ) → length m ≡ 65536 → legal_flash a 0x02 ≡ true → length new ≡ 8
    → flash_written m a new ≡ patch m a (combined (part m a 8) new)
unfolding flash_written flash_cells_after
written_done m a new l h k =
    let w = flash_within a 0x02 h in
    simp (eq-eqb (length m) 65536 l, h, eq-eqb (length (part m a 8)) 8 (part_length m a 8 (omega arith)), eq-eqb (length new) 8 k)

pub erased_done : (m : List ℕ) (a : ℕ) → length m ≡ 65536 → legal_flash a 0x03 ≡ true
    → flash_erased m a ≡ patch m a (replicate 64 0xFF)
unfolding flash_erased erased_cells
erased_done m a l h =
    let w = flash_within a 0x03 h in
    simp (eq-eqb (length m) 65536 l, h, eq-eqb (length (part m a 64)) 64 (part_length m a 64 (omega arith)))

pub eeprom_written_done : (m : List ℕ) (p : ℕ) (new : List ℕ) → length m ≡ 1024 → legal_eeprom p 0x02 ≡ true → length new ≡ 8
    → eeprom_written m p new ≡ patch m (eeprom_cell p) new
unfolding eeprom_written eeprom_cells_after
eeprom_written_done m p new l h k =
    let w = eeprom_within p 0x02 h in
    let c = eeprom_cell p in
    simp (eq-eqb (length m) 1024 l, h, eq-eqb (length (part m c 8)) 8 (part_length m c 8 (omega arith)), eq-eqb (length new) 8 k)
