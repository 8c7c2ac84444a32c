-- What the theorems say of an item and a FLASH.
use Rattle.std.specs.Prelude.{ℕ, ◌≡◌, List, [], ◌∷◌}
use Rattle.base.specs.Parts.{part}
use Rattle.recipe.specs.Items.{Item, block, row}

-- a Block's cells stand in FLASH already; a Row has none there
abbrev pub StandsIn : List ℕ → Item → Type 0
StandsIn flash (block address cells) = part flash address 64 ≡ cells
StandsIn flash (row address cells) = Unit {0}

-- FLASH is what the image is, on the cells that a Block names
abbrev pub AgreesOn : List ℕ → List ℕ → Item → Type 0
AgreesOn image flash (block address cells) = part flash address 64 ≡ part image address 64
AgreesOn image flash (row address cells) = Unit {0}

-- the Rows of items
unfoldable pub rows_of : List Item → List Item
rows_of [] = []
rows_of (block address cells ∷ is) = rows_of is
rows_of (row address cells ∷ is) = row address cells ∷ rows_of is
