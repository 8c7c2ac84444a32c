-- The recipe of given cells, by the cells alone. Document 02, A5: "Open with given numbers, one Block per touched FLASH block upward, one
-- Row per touched EEPROM row upward, Leave".
use Rattle.std.specs.Prelude.{ℕ, zero, suc, ◌+◌, cond, List, [], ◌∷◌, ◌++◌}
use Rattle.recipe.specs.Items.{Item, block, row, Recipe}
use Rattle.hex_rules.specs.Cells.{Cell, byte_at, touched}

-- the bytes of so many places from a on
unfoldable pub contents : List Cell → ℕ → ℕ → List ℕ
contents cells a zero = []
contents cells a (suc n) = byte_at cells a ∷ contents cells (suc a) n

-- an item at a, where one of its places is given
abbrev pub item_at : (ℕ → List ℕ → Item) → ℕ → List Cell → ℕ → List Item
item_at item size cells a = cond (touched cells a size) (item a (contents cells a size) ∷ []) []

-- "upward": the items of one size, n of them from a on, those that are touched
unfoldable pub upward : (ℕ → List ℕ → Item) → ℕ → List Cell → ℕ → ℕ → List Item
upward item size cells zero a = []
upward item size cells (suc n) a = item_at item size cells a ++ upward item size cells n (a + size)

-- the 1,024 blocks of FLASH, and the 128 rows of EEPROM
unfoldable pub items_of : List Cell → List Item
items_of cells = upward block 64 cells 1024 0x000000 ++ upward row 8 cells 128 0xF00000

-- "Open with given numbers"
unfoldable pub recipe_of : ℕ → ℕ → List Cell → Recipe
recipe_of m g cells = record { module_number = m; group_number = g; items = items_of cells }
