-- What the memories hold after the recipe of cells, read plainly: every given cell its byte, 0xFF in the rest of a touched block or row,
-- every other cell what it held, and BOOTFL 0x00. Blocks set FLASH alone and rows EEPROM alone, each cell by the part that it lies in.
-- Assumes nothing.
use mathlib.Core.Path.{◌≡◌, refl, sym, ap, ◌∙◌}
use mathlib.Core.Bool.{true, cond}
use mathlib.Core.List.{List, [], ◌∷◌, ◌++◌}
use mathlib.Core.Logic.{⊎_elim}
use Prim.Native.Nat.{ℕ, ◌+◌, ◌-◌, ◌/◌, ◌%◌, ◌<◌}
use native.Mathlib.Nat.{zero-add}
use native.Mathlib.Omega.{arith}
use lib.Dec.{eqb}
use lib.ListN.{length, get_or}
use lib.Seq.{sets, get_or-set_same, get_or-set_other}
use borrow.Author.Tests.{eqb-true, eqb-false, ne_eqb}
use Rattle.base.proofs.Choice.{by_cond}
use Rattle.memory_address.specs.Places.{eeprom_cell, bootfl}
use Rattle.recipe.specs.Items.{block, row}
use Rattle.recipe.specs.Plain.{Memories, plain_item, plain_items, plainly}
use Rattle.recipe.proofs.Plainly.{plain_items_sizes, plain_sizes}
use Rattle.hex_rules.specs.Cells.{Cell, given_at, byte_at, touched}
use Rattle.hex_rules.specs.Recipe.{items_of, recipe_of}
use Rattle.hex_rules.specs.Holding.{Holds, flash_after, eeprom_after}
use Rattle.hex_rules.specs.Printing.{EachOnce}
use Rattle.hex_rules.proofs.LegalCells.{legal_cell_numbers}
use Rattle.hex_rules.proofs.GivenCells.{given_touched, given_byte, given_place, given_legal}
use Rattle.hex_rules.proofs.EachItem.{blocks_of, rows_of}
use Rattle.hex_rules.proofs.PlainUpward.{plain_append, untouched, upward_inside}

-- a Block sets FLASH from its place on, a Row EEPROM from the cell of its place on
block_sets : (a p : ℕ) (d : List ℕ) (m : Memories) → a ≡ 0x000000 + p → (plain_item (block a d) m).flash ≡ sets m.flash p d
block_sets a p d m e = ap (λ (n : ℕ). sets m.flash n d) (e ∙ zero-add p)

row_sets : (a p : ℕ) (d : List ℕ) (m : Memories) → a ≡ 0xF00000 + p → (plain_item (row a d) m).eeprom ≡ sets m.eeprom p d
row_sets a p d m e = let at : eeprom_cell a ≡ p = omega arith in ap (λ (n : ℕ). sets m.eeprom n d) at

module _ (cells : List Cell) (before : Memories) where
  -- the memories behind all items
  items_flash : (k : ℕ) → length before.flash ≡ 65536 → k < 65536
      → get_or (plain_items (items_of cells) before).flash k 0 ≡ flash_after cells before.flash k
  unfolding items_of
  items_flash k long h =
      ap (λ (x : Memories). get_or x.flash k 0) (plain_append (blocks_of cells) (rows_of cells) before)
      ∙ ap (λ (l : List ℕ). get_or l k 0)
      (untouched (λ x. x.flash) row 8 cells (λ a d m. refl) 128 0xF00000 (plain_items (blocks_of cells) before))
      ∙ simp zero-add at
      (upward_inside (λ x. x.flash) 0x000000 block 64 cells block_sets 1024 0x000000 0 refl before k (k - k % 64) (k / 64) (omega arith)
      (omega arith) (omega arith) (omega arith) (omega arith))

  items_eeprom : (k : ℕ) → length before.eeprom ≡ 1024 → k < 1024
      → get_or (plain_items (items_of cells) before).eeprom k 0
      ≡ cond (touched cells (0xF00000 + (k - k % 8)) 8) (byte_at cells (0xF00000 + k)) (get_or before.eeprom k 0)
  unfolding items_of
  items_eeprom k long h =
      let kept = untouched (λ x. x.eeprom) block 64 cells (λ a d m. refl) 1024 0x000000 before in
      let long' : length (plain_items (blocks_of cells) before).eeprom ≡ 1024 = ap length kept ∙ long in
      ap (λ (x : Memories). get_or x.eeprom k 0) (plain_append (blocks_of cells) (rows_of cells) before)
      ∙ upward_inside (λ x. x.eeprom) 0xF00000 row 8 cells row_sets 128 0xF00000 0 refl (plain_items (blocks_of cells) before) k
      (k - k % 8) (k / 8) (omega arith) (omega arith) (omega arith) (omega arith) (omega arith)
      ∙ ap (λ (l : List ℕ). cond (touched cells (0xF00000 + (k - k % 8)) 8) (byte_at cells (0xF00000 + k)) (get_or l k 0)) kept

  -- and behind Leave, which sets BOOTFL
  made_eeprom : (m g k : ℕ) → length before.eeprom ≡ 1024 → k < 1024
      → get_or (plainly (recipe_of m g cells) before).eeprom k 0 ≡ eeprom_after cells before.eeprom k
  unfolding plainly recipe_of
  made_eeprom m g k long h =
      let e = (plain_items (items_of cells) before).eeprom in
      let size = (plain_items_sizes (items_of cells) before).1 in
      by_cond (λ (v : ℕ). get_or (plainly (recipe_of m g cells) before).eeprom k 0 ≡ v) (eqb k (eeprom_cell bootfl)) 0x00
      (cond (touched cells (0xF00000 + (k - k % 8)) 8) (byte_at cells (0xF00000 + k)) (get_or before.eeprom k 0))
      (λ t.
      let here : k ≡ eeprom_cell bootfl = eqb-true k (eeprom_cell bootfl) t in
      rw here (get_or-set_same e (eeprom_cell bootfl) 0x00 0 (omega arith)))
      (λ f. get_or-set_other e (eeprom_cell bootfl) k 0x00 0 (eqb-false k (eeprom_cell bootfl) f) ∙ items_eeprom k long h)

-- "every cell the file gives, 0xFF in the rest of a touched block or row, and no other change, save BOOTFL, which ends 0x00"
pub made_holds : (m g : ℕ) (cells : List Cell) (before : Memories) → length before.flash ≡ 65536 → length before.eeprom ≡ 1024
    → Holds cells before (plainly (recipe_of m g cells) before)
unfolding plainly recipe_of
made_holds m g cells before flashLong eepromLong =
    let sizes = plain_sizes (recipe_of m g cells) before in
    record {
      flash_size = sizes.0;
      eeprom_size = sizes.1;
      flash = λ k h. items_flash cells before k flashLong h;
      eeprom = λ k h. made_eeprom cells before m g k eepromLong h;
    }

-- ---- one given cell

-- a given cell of FLASH touches its block, and one of EEPROM its row
pub given_touched_flash : (cells : List Cell) (k : ℕ) → given_at cells k ≡ true → touched cells (k - k % 64) 64 ≡ true
given_touched_flash cells k e = given_touched cells k (k - k % 64) 64 e (omega arith) (omega arith)

pub given_touched_eeprom : (cells : List Cell) (k : ℕ) → given_at cells (0xF00000 + k) ≡ true
    → touched cells (0xF00000 + (k - k % 8)) 8 ≡ true
given_touched_eeprom cells k e = given_touched cells (0xF00000 + k) (0xF00000 + (k - k % 8)) 8 e (omega arith) (omega arith)

module _ (m g : ℕ) (xs : List Cell) (c : Cell) (ys : List Cell) (before : Memories) (once : EachOnce [] (xs ++ (c ∷ ys)))
    (flashLong : length before.flash ≡ 65536) (eepromLong : length before.eeprom ≡ 1024) where
  -- every cell of FLASH that the file gives has its byte afterwards
  pub file_cell_flash : c.place < 65536 → get_or (plainly (recipe_of m g (xs ++ (c ∷ ys))) before).flash c.place 0 ≡ c.byte
  file_cell_flash h =
      (made_holds m g (xs ++ (c ∷ ys)) before flashLong eepromLong).flash c.place h
      ∙ rw (given_touched_flash (xs ++ (c ∷ ys)) c.place (given_place xs c ys)) (given_byte [] xs c ys once)

  -- and so has every cell of EEPROM but BOOTFL
  pub file_cell_eeprom : (k : ℕ) → c.place ≡ 0xF00000 + k → (k ≡ eeprom_cell bootfl → ⊥)
      → get_or (plainly (recipe_of m g (xs ++ (c ∷ ys))) before).eeprom k 0 ≡ c.byte
  file_cell_eeprom k at other =
      let cells = xs ++ (c ∷ ys) in
      let inside : k < 1024 =
      ⊎_elim (λ n. absurd (omega arith)) (λ n. omega arith) (legal_cell_numbers c.place (given_legal [] xs c ys once)) in
      let row = given_touched_eeprom cells k (ap (given_at cells) (sym at) ∙ given_place xs c ys) in
      (made_holds m g cells before flashLong eepromLong).eeprom k inside
      ∙ rw (ne_eqb k (eeprom_cell bootfl) other, row) (ap (byte_at cells) (sym at) ∙ given_byte [] xs c ys once)
