-- What is answered of a text, and the output after it. Document 02, A5: "Recipe refusal 26 comes last, and a refusal leaves the output
-- untouched".
use Rattle.std.specs.Prelude.{ℕ, cond, List, ◌++◌, ltb, length, drop}
use Rattle.recipe.specs.Items.{printed}
use Rattle.hex_rules.specs.Refusing.{Converted, Made, Refused}
use Rattle.hex_rules.specs.Text.{lines_of}
use Rattle.hex_rules.specs.Cells.{Cell}
use Rattle.hex_rules.specs.Checks.{Read, gives, refused, nothing, lines_read}
use Rattle.hex_rules.specs.Recipe.{recipe_of}

-- a text, read from line 1 on
unfoldable pub text_read : List ℕ → Read
text_read text = lines_read (lines_of text) 1 nothing

-- the bytes of the recipe of cells
unfoldable pub bytes_of : ℕ → ℕ → List Cell → List ℕ
bytes_of m g cells = printed (recipe_of m g cells)

-- the answer where the output has `room` bytes: the recipe's length, or "26 output shorter than needed", which names line 0
abbrev pub answered : Read → ℕ → ℕ → ℕ → Converted
answered (refused number line) m g room = Refused number line
answered (gives cells) m g room = cond (ltb room (length (bytes_of m g cells))) (Refused 26 0) (Made (length (bytes_of m g cells)))

unfoldable pub converted : List ℕ → ℕ → ℕ → ℕ → Converted
converted text m g room = answered (text_read text) m g room

-- the output after an answer: as it was, or the recipe, and what is behind it as it was
abbrev pub output_by : Converted → Read → ℕ → ℕ → List ℕ → List ℕ
output_by (Refused number line) read m g output = output
output_by (Made size) (refused number line) m g output = output
output_by (Made size) (gives cells) m g output = bytes_of m g cells ++ drop size output

unfoldable pub converted_output : List ℕ → ℕ → ℕ → List ℕ → List ℕ
converted_output text m g output = output_by (converted text m g (length output)) (text_read text) m g output
