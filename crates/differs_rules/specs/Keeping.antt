-- Which items of a recipe are kept over an image of FLASH, and how many erases that is. Document 02, A6: "write the recipe without each
-- Block whose 64 bytes already stand there as the earlier items leave them; Rows all stay".
use Rattle.std.specs.Prelude.{ℕ, ◌+◌, Bool, false, cond, List, [], ◌∷◌, ◌++◌}
use Rattle.base.specs.Parts.{part}
use Rattle.memory_same.specs.Same.{same}
use Rattle.recipe.specs.Items.{Item, block, row, Recipe}
use Rattle.recipe.specs.Plain.{plain_item}

-- FLASH as an item leaves it: read plainly, over an EEPROM that has no say in it
abbrev pub left_by : Item → List ℕ → List ℕ
left_by i flash = (plain_item i (record { flash = flash; eeprom = [] })).flash

-- "as the earlier items leave them": items in their order
unfoldable pub left_by_all : List Item → List ℕ → List ℕ
left_by_all [] flash = flash
left_by_all (i ∷ is) flash = left_by_all is (left_by i flash)

-- "whose 64 bytes already stand there"; "Rows all stay"
abbrev pub stands : Item → List ℕ → Bool
stands (block address cells) flash = same (part flash address 64) cells
stands (row address cells) flash = false

-- the items that are kept over a FLASH, each looked at as the ones before it, kept or not, leave it
unfoldable pub kept_items : List Item → List ℕ → List Item
kept_items [] flash = []
kept_items (i ∷ is) flash = cond (stands i flash) [] (i ∷ []) ++ kept_items is (left_by i flash)

-- the shorter recipe: the numbers stay
unfoldable pub kept_recipe : Recipe → List ℕ → Recipe
kept_recipe r image = record {
  module_number = r.module_number;
  group_number = r.group_number;
  items = kept_items r.items image;
}

-- "Report the erase count. It equals the number of blocks kept": a Block is one erase, a Row none
abbrev pub erases_of : Item → ℕ
erases_of (block address cells) = 1
erases_of (row address cells) = 0

unfoldable pub block_count : List Item → ℕ
block_count [] = 0
block_count (i ∷ is) = erases_of i + block_count is
