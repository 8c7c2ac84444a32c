-- The plain reading: Leave's cell ends 0x00, the memories keep their sizes, a legal item's cells lie within its memory and hold its
-- bytes, and no other cell changes.
-- Assumes nothing.
use mathlib.Core.Path.{◌≡◌, refl, ap, ◌∙◌}
use mathlib.Core.List.{List, [], ◌∷◌, append_assoc}
use Prim.Native.Nat.{ℕ, ◌+◌, ◌≤◌}
use native.Mathlib.Omega.{arith}
use lib.ListN.{length, get_or, take, drop, length-set}
use lib.Seq.{sets, sets-eq, length-sets, get_or-set_same, get_or-set_other}
use Rattle.base.specs.Parts.{patch}
use Rattle.base.proofs.Patched.{elsewhere_patch}
use Rattle.memory_address.specs.Places.{flash_cells, eeprom_cells, eeprom_cell, bootfl}
use Rattle.recipe.specs.Items.{Item, block, row, Recipe, Legal, LegalItem, LegalItems}
use Rattle.recipe.proofs.Inside.{block_inside, row_inside}
use Rattle.recipe.specs.Plain.{Memories, plain_item, plain_items, plainly, OutsideFlash, OutsideEeprom, Each}

-- cells that lie within are set as a patch
pub sets_patch : (m : List ℕ) (a : ℕ) (cells : List ℕ) → a + length cells ≤ length m → sets m a cells ≡ patch m a cells
unfolding patch
sets_patch m a cells h = sets-eq cells m a h ∙ append_assoc (take a m) cells (drop (a + length cells) m)

-- a legal Block sets its 64 cells of FLASH, a legal Row its 8 cells of EEPROM, and each nothing else
pub plain_block : (a : ℕ) (d : List ℕ) (m : Memories) → LegalItem (block a d) → length m.flash ≡ flash_cells
    → plain_item (block a d) m ≡ record { flash = patch m.flash a d; eeprom = m.eeprom }
plain_block a d m h l =
    let w = block_inside a d h in
    ap (λ (f : List ℕ). record { flash = f; eeprom = m.eeprom }) (sets_patch m.flash a d (omega arith))

pub plain_row : (a : ℕ) (d : List ℕ) (m : Memories) → LegalItem (row a d) → length m.eeprom ≡ eeprom_cells
    → plain_item (row a d) m ≡ record { flash = m.flash; eeprom = patch m.eeprom (eeprom_cell a) d }
plain_row a d m h l =
    let w = row_inside a d h in
    ap (λ (e : List ℕ). record { flash = m.flash; eeprom = e }) (sets_patch m.eeprom (eeprom_cell a) d (omega arith))

-- the sizes stay
pub plain_item_sizes : (i : Item) (m : Memories)
    → (length (plain_item i m).flash ≡ length m.flash) × (length (plain_item i m).eeprom ≡ length m.eeprom)
plain_item_sizes (block a d) m = (length-sets m.flash a d, refl)
plain_item_sizes (row a d) m = (refl, length-sets m.eeprom (eeprom_cell a) d)

pub plain_items_sizes : (is : List Item) (m : Memories)
    → (length (plain_items is m).flash ≡ length m.flash) × (length (plain_items is m).eeprom ≡ length m.eeprom)
unfolding plain_items
plain_items_sizes [] m = (refl, refl)
plain_items_sizes (i ∷ is) m =
    let p = plain_items_sizes is (plain_item i m) in
    let q = plain_item_sizes i m in
    (p.0 ∙ q.0, p.1 ∙ q.1)

-- "Leave sets BOOTFL to 0x00"
pub bootfl_zero : (r : Recipe) (m : Memories) → length m.eeprom ≡ eeprom_cells → get_or (plainly r m).eeprom (eeprom_cell bootfl) 0 ≡ 0x00
unfolding plainly
bootfl_zero r m l =
    get_or-set_same (plain_items r.items m).eeprom (eeprom_cell bootfl) 0x00 0
    (omega (arith, (plain_items_sizes r.items m).1))

pub plain_sizes : (r : Recipe) (m : Memories)
    → (length (plainly r m).flash ≡ length m.flash) × (length (plainly r m).eeprom ≡ length m.eeprom)
unfolding plainly
plain_sizes r m =
    let p = plain_items_sizes r.items m in
    (p.0, length-set (plain_items r.items m).eeprom (eeprom_cell bootfl) 0 ∙ p.1)

-- ---- what no item names

item_flash_kept : (k : ℕ) (i : Item) (m : Memories) → LegalItem i → length m.flash ≡ flash_cells → OutsideFlash k i
    → get_or (plain_item i m).flash k 0 ≡ get_or m.flash k 0
item_flash_kept k (block a d) m h l o =
    ap (λ (x : Memories). get_or x.flash k 0) (plain_block a d m h l)
    ∙ elsewhere_patch m.flash a d (let w = block_inside a d h in omega arith) k o
item_flash_kept k (row a d) m h l o = refl

item_eeprom_kept : (k : ℕ) (i : Item) (m : Memories) → LegalItem i → length m.eeprom ≡ eeprom_cells → OutsideEeprom k i
    → get_or (plain_item i m).eeprom k 0 ≡ get_or m.eeprom k 0
item_eeprom_kept k (block a d) m h l o = refl
item_eeprom_kept k (row a d) m h l o =
    ap (λ (x : Memories). get_or x.eeprom k 0) (plain_row a d m h l)
    ∙ elsewhere_patch m.eeprom (eeprom_cell a) d (let w = row_inside a d h in omega arith) k o

-- a cell of FLASH that no Block names is unchanged
pub flash_unchanged : (k : ℕ) (is : List Item) (m : Memories) → LegalItems is → length m.flash ≡ flash_cells → Each (OutsideFlash k) is
    → get_or (plain_items is m).flash k 0 ≡ get_or m.flash k 0
unfolding plain_items
flash_unchanged k [] m h l o = refl
flash_unchanged k (i ∷ is) m h l o =
    flash_unchanged k is (plain_item i m) h.1 ((plain_item_sizes i m).0 ∙ l) o.1 ∙ item_flash_kept k i m h.0 l o.0

-- a cell of EEPROM that no Row names is unchanged by the items; Leave sets BOOTFL besides
pub eeprom_unchanged : (k : ℕ) (is : List Item) (m : Memories) → LegalItems is → length m.eeprom ≡ eeprom_cells
    → Each (OutsideEeprom k) is → get_or (plain_items is m).eeprom k 0 ≡ get_or m.eeprom k 0
unfolding plain_items
eeprom_unchanged k [] m h l o = refl
eeprom_unchanged k (i ∷ is) m h l o =
    eeprom_unchanged k is (plain_item i m) h.1 ((plain_item_sizes i m).1 ∙ l) o.1 ∙ item_eeprom_kept k i m h.0 l o.0

pub plain_flash_unchanged : (k : ℕ) (r : Recipe) (m : Memories) → Legal r → length m.flash ≡ flash_cells
    → Each (OutsideFlash k) r.items → get_or (plainly r m).flash k 0 ≡ get_or m.flash k 0
unfolding plainly
plain_flash_unchanged k r m h l o = flash_unchanged k r.items m h.each l o

pub plain_eeprom_unchanged : (k : ℕ) (r : Recipe) (m : Memories) → Legal r → length m.eeprom ≡ eeprom_cells
    → (k ≡ eeprom_cell bootfl → ⊥) → Each (OutsideEeprom k) r.items → get_or (plainly r m).eeprom k 0 ≡ get_or m.eeprom k 0
unfolding plainly
plain_eeprom_unchanged k r m h l b o =
    get_or-set_other (plain_items r.items m).eeprom (eeprom_cell bootfl) k 0x00 0 b ∙ eeprom_unchanged k r.items m h.each l o
