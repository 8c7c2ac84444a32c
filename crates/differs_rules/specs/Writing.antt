-- What is answered of a recipe over an image, and the output after it. Document 02, A6: "A FLASH image of another length than 65,536 is
-- refused with a new number, checked after the recipe's own faults and before 26".
use Rattle.std.specs.Prelude.{ℕ, cond, List, ◌++◌, eqb, ltb, length, drop}
use Rattle.memory_address.specs.Places.{flash_cells}
use Rattle.recipe.specs.Translation.{Translated, Frames, Refused as Fault, checked}
use Rattle.recipe.specs.Items.{Recipe, printed}
use Rattle.recipe.specs.Reading.{recipe_of}
use Rattle.differs_rules.specs.Differences.{Differences, Kept, Refused}
use Rattle.differs_rules.specs.Keeping.{kept_recipe, block_count}

-- the recipe that is written for an input
unfoldable pub kept_of : List ℕ → List ℕ → Recipe
kept_of input image = kept_recipe (recipe_of input) image

-- where the recipe has no fault: the image's length, with number 36, then 26, then "the erase count", and how many bytes are written
abbrev pub unless_refused : Recipe → ℕ → ℕ → Differences
unless_refused kept cells room =
    cond (eqb cells flash_cells)
    (cond (ltb room (length (printed kept))) (Refused 26 0) (Kept (block_count kept.items) (length (printed kept))))
    (Refused 36 0)

-- "the recipe's own faults" come first: their numbers and places are what the translator's reading finds
abbrev pub answered : Translated → Recipe → ℕ → ℕ → Differences
answered (Fault number place) kept cells room = Refused number place
answered (Frames count) kept cells room = unless_refused kept cells room

unfoldable pub differences : List ℕ → List ℕ → ℕ → Differences
differences input image room = answered (checked input) (kept_of input image) (length image) room

-- the output after an answer: as it was, or the shorter recipe, and what is behind it as it was
abbrev pub output_after : Differences → Recipe → List ℕ → List ℕ
output_after (Refused number place) kept output = output
output_after (Kept erases size) kept output = printed kept ++ drop size output

unfoldable pub differences_output : List ℕ → List ℕ → List ℕ → List ℕ
differences_output input image output = output_after (differences input image (length output)) (kept_of input image) output
