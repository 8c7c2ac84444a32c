-- How many items of a list stand at an address, and in which order. Document 02, A5: "one Block per touched FLASH block upward, one Row per
-- touched EEPROM row upward".
use Rattle.std.specs.Prelude.{ℕ, ◌+◌, ◌<◌, Bool, false, cond, List, [], ◌∷◌, map, eqb}
use Rattle.recipe.specs.Items.{Item, block, row}

-- how many items pass a test
abbrev pub how_many : (Item → Bool) → List Item → ℕ
how_many test [] = 0
how_many test (i ∷ is) = cond (test i) 1 0 + how_many test is

-- whether an item is the Block, or the Row, of this address
abbrev pub is_block_at : ℕ → Item → Bool
is_block_at a (block b d) = eqb b a
is_block_at a (row b d) = false

abbrev pub is_row_at : ℕ → Item → Bool
is_row_at a (block b d) = false
is_row_at a (row b d) = eqb b a

abbrev pub blocks_at : ℕ → List Item → ℕ
blocks_at a is = how_many (is_block_at a) is

abbrev pub rows_at : ℕ → List Item → ℕ
rows_at a is = how_many (is_row_at a) is

-- the addresses of items, in their order
abbrev pub place_of : Item → ℕ
place_of (block a d) = a
place_of (row a d) = a

abbrev pub places_of : List Item → List ℕ
places_of is = map place_of is

-- "upward": each smaller than the next
abbrev pub Ascending : List ℕ → Type 0
Ascending [] = Unit {0}
Ascending (a ∷ []) = Unit {0}
Ascending (a ∷ b ∷ rest) = (a < b) × Ascending (b ∷ rest)
