-- The recipe of cells given once is a legal one: a touched block has a legal cell in it, so that it may be erased, and a touched row one
-- that may be written. There are at most 1,024 and 128 of them, and so a bound of its bytes, which the numbers of Open don't change.
-- Assumes nothing.
use mathlib.Core.Path.{◌≡◌}
use mathlib.Core.Bool.{true}
use mathlib.Core.List.{List, [], ◌∷◌, ◌++◌}
use Prim.Native.Nat.{ℕ, ◌+◌, ◌-◌, ◌*◌, ◌%◌, ◌≤◌, ◌<◌}
use native.Mathlib.Omega.{arith}
use lib.ListN.{length, length-append}
use Rattle.recipe.specs.Items.{Item, block, row, Legal, LegalItem, LegalItems, printed_items, printed}
use Rattle.recipe.specs.Plain.{Each}
use Rattle.hex_rules.specs.Cells.{Cell, touched}
use Rattle.hex_rules.specs.Recipe.{contents, items_of, recipe_of}
use Rattle.hex_rules.specs.Converting.{bytes_of}
use Rattle.hex_rules.specs.Printing.{EachOnce}
use Rattle.hex_rules.proofs.LegalCells.{flash_cell_block, eeprom_cell_row}
use Rattle.hex_rules.proofs.GivenCells.{touched_legal, byte_small}
use Rattle.recipe.proofs.Printing.{printed_append}
use Rattle.hex_rules.proofs.EachItem.{blocks_of, rows_of, contents_length, contents_bytes, each_append}
use Rattle.hex_rules.proofs.EachItem.{each_upward, few_upward, small_upward}

each_legal : (is : List Item) → Each LegalItem is → LegalItems is
each_legal [] h = tt
each_legal (i ∷ is) h = (h.0, each_legal is h.1)

module _ (cells : List Cell) (once : EachOnce [] cells) where
  -- a touched block may be erased, and a touched row of EEPROM be written
  pub block_legal : (b i : ℕ) → b ≡ 0x000000 + 64 * i → i < 1024 → touched cells b 64 ≡ true → LegalItem (block b (contents cells b 64))
  block_legal b i e l t =
      let c = touched_legal [] cells b 64 once t in
      let k = c.0 in
      let start : k - k % 64 ≡ b = omega (arith, c.1, c.2) in (
        rw start at (flash_cell_block k c.3 (omega (arith, c.2))),
        contents_length cells b 64,
        contents_bytes cells (λ a. byte_small [] cells a once) b 64,
      )

  pub row_legal : (b i : ℕ) → b ≡ 0xF00000 + 8 * i → i < 128 → touched cells b 8 ≡ true → LegalItem (row b (contents cells b 8))
  row_legal b i e l t =
      let c = touched_legal [] cells b 8 once t in
      let k = c.0 in
      let start : k - k % 8 ≡ b = omega (arith, c.1, c.2) in (
        rw start at (eeprom_cell_row k c.3 (omega (arith, c.1))),
        contents_length cells b 8,
        contents_bytes cells (λ a. byte_small [] cells a once) b 8,
      )

-- the recipe of cells given once is legal
pub made_legal : (m g : ℕ) (cells : List Cell) → m < 256 → g < 256 → EachOnce [] cells → Legal (recipe_of m g cells)
unfolding recipe_of items_of
made_legal m g cells hm hg once =
    record {
      module_byte = hm;
      group_byte = hg;
      few = omega (arith, length-append (blocks_of cells) (rows_of cells), few_upward block 64 cells 1024 0x000000, few_upward row 8 cells 128 0xF00000);
      each = each_legal (blocks_of cells ++ rows_of cells)
          (each_append LegalItem (blocks_of cells) (rows_of cells) (each_upward block 64 cells LegalItem 1024 0x000000 (block_legal cells once))
          (each_upward row 8 cells LegalItem 128 0xF00000 (row_legal cells once)));
    }

-- its bytes are four and those of its items, whatever numbers Open gives
pub printed_size : (m g : ℕ) (cells : List Cell) → length (bytes_of m g cells) ≡ 4 + length (printed_items (items_of cells))
unfolding bytes_of printed recipe_of
printed_size m g cells = omega (arith, length-append (printed_items (items_of cells)) (0x0F ∷ []))

-- and never more than these: 1,024 of 68 and 128 of 12
pub items_size : (cells : List Cell) → length (printed_items (items_of cells)) ≤ 71168
unfolding items_of
items_size cells =
    omega (
      arith,
      printed_append (blocks_of cells) (rows_of cells),
      small_upward block 64 cells (λ a d. omega arith) 1024 0x000000,
      small_upward row 8 cells (λ a d. omega arith) 128 0xF00000,
    )
