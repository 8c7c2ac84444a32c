-- The laws of a shown row: eight cells where the number is 0, none where it isn't; of which memory, and where they lie.
-- Assumes nothing.
use Rattle.std.specs.Prelude.{Option, Some, None}
use mathlib.Core.Path.{◌≡◌, refl}
use mathlib.Core.Bool.{Bool, true, false, cond}
use mathlib.Core.List.{List, []}
use Prim.Native.Nat.{ℕ, ◌+◌}
use native.Mathlib.Nat.{suc-ne-zero}
use native.Mathlib.Omega.{arith}
use lib.Dec.{eqb}
use lib.ListN.{length}
use denote.Ref.{Bor}
use borrow.Author.Tests.{eqb-true}
use Rattle.base.specs.Parts.{part}
use Rattle.base.proofs.Choice.{both_true}
use Rattle.base.proofs.Patched.{part_length}
use Rattle.memory_address.specs.Places.{full, eeprom_cell}
use Rattle.memory_address.specs.Rule.{ruled, ruled_number, legal_flash, legal_eeprom}
use Rattle.memory_address.specs.declared.Address.TheVariants.{Flash, Eeprom}
use Rattle.memory_address.proofs.Laws.{Within, ruled_within, flash_ruled, eeprom_ruled}
use Rattle.memory_row.specs.Shown.{row_at, shown, shown_at, shown_number}
use Rattle.memory_address.specs.declared.Address.{Address}

full_lengths : (flash eeprom : List ℕ) → full flash eeprom ≡ true → (length flash ≡ 65536) × (length eeprom ≡ 1024)
full_lengths flash eeprom e =
    let p = both_true (eqb (length flash) 65536) (eqb (length eeprom) 1024) e in
    (eqb-true (length flash) 65536 p.0, eqb-true (length eeprom) 1024 p.1)

-- "the part is empty exactly if the number isn't 0": with number 0 it has eight cells
pub eight_shown : (flash eeprom : List ℕ) (a : ℕ) → shown_number flash eeprom a ≡ 0 → length (shown flash eeprom a) ≡ 8
unfolding shown shown_number
eight_shown flash eeprom a e = go (full flash eeprom) refl (ruled a 0x01) (ruled_within a 0x01) e
  where
    go : (b : Bool) → full flash eeprom ≡ b → (r : Option Address) → Within 8 a r → cond b (ruled_number r) 1 ≡ 0
        → length (cond b (row_at flash eeprom r) []) ≡ 8
    go true t (Some (Flash f)) w z = let l = full_lengths flash eeprom t in part_length flash f.0 8 (omega arith)
    go true t (Some (Eeprom p)) w z =
        let l = full_lengths flash eeprom t in part_length eeprom (eeprom_cell p.0) 8 (omega arith)
    go true t None w z = absurd (suc-ne-zero 7 z)
    go false t r w z = absurd (suc-ne-zero 0 z)

-- with another number it is empty
pub none_shown : (flash eeprom : List ℕ) (a : ℕ) → (shown_number flash eeprom a ≡ 0 → ⊥) → shown flash eeprom a ≡ []
unfolding shown shown_number
none_shown flash eeprom a n = go (full flash eeprom) (ruled a 0x01) n
  where
    go : (b : Bool) (r : Option Address) → (cond b (ruled_number r) 1 ≡ 0 → ⊥) → cond b (row_at flash eeprom r) [] ≡ []
    go true (Some x) m = absurd (m refl)
    go true None m = refl
    go false r m = refl

-- over full memories: the row of FLASH, and of EEPROM
pub shown_flash : (flash eeprom : List ℕ) (a : ℕ) → full flash eeprom ≡ true → legal_flash a 0x01 ≡ true
    → shown flash eeprom a ≡ part flash a 8
unfolding shown
shown_flash flash eeprom a f l = simp (f, flash_ruled a 0x01 l)

pub shown_eeprom : (flash eeprom : List ℕ) (a : ℕ) → full flash eeprom ≡ true → legal_eeprom a 0x01 ≡ true
    → shown flash eeprom a ≡ part eeprom (eeprom_cell a) 8
unfolding shown
shown_eeprom flash eeprom a f l = simp (f, eeprom_ruled a 0x01 l)

-- "the eight cells themselves": the part lies in the memory that is lent, as many places on as the address or the cell says
pub lies_in_flash : (flash eeprom : Bor (List ℕ)) (a : ℕ) → full flash.now eeprom.now ≡ true → legal_flash a 0x01 ≡ true
    → shown_at flash eeprom a ≡ (flash.ref_ptr.0, a + flash.ref_ptr.1)
unfolding shown_at
lies_in_flash flash eeprom a f l = simp (f, flash_ruled a 0x01 l)

pub lies_in_eeprom : (flash eeprom : Bor (List ℕ)) (a : ℕ) → full flash.now eeprom.now ≡ true → legal_eeprom a 0x01 ≡ true
    → shown_at flash eeprom a ≡ (eeprom.ref_ptr.0, eeprom_cell a + eeprom.ref_ptr.1)
unfolding shown_at
lies_in_eeprom flash eeprom a f l = simp (f, eeprom_ruled a 0x01 l)
