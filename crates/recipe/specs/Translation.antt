-- What the translator answers, and the output after it. Document 01, "The recipe".
use Rattle.std.specs.Prelude.{ℕ, ◌*◌, true, false, cond, List, ◌++◌, ltb, length, drop, Result, Ok, Err}
use Rattle.recipe.specs.declared.Fault.{Fault}
use Rattle.recipe.specs.declared.Fault.TheVariants.{NoLeave, UnknownKind, CutShort, OutOfPlace, IllegalAddress, TooManyItems, ShortOutput}
use Rattle.recipe.specs.declared.Refusal.{Refusal}
use Rattle.recipe.specs.Frames.{frames_of, joined, frame_count}
use Rattle.recipe.specs.Reading.{Stop, at_end, fault, reading, recipe_of}

-- what becomes of a recipe: how many frames, or the refusal's number and the place it names
pub data Translated : Type 0 where
  Frames : ℕ → Translated
  Refused : ℕ → ℕ → Translated

-- "20 no Leave yet", "21 unknown kind", "22 body cut short", "23 out of place", "24 address illegal", "25 it would be item 2,049",
-- "26 output shorter than needed"
abbrev pub fault_number : Fault → ℕ
fault_number NoLeave = 20
fault_number UnknownKind = 21
fault_number CutShort = 22
fault_number OutOfPlace = 23
fault_number IllegalAddress = 24
fault_number TooManyItems = 25
fault_number ShortOutput = 26

-- what the code answers, in document 01's numbers
abbrev pub in_numbers : Result ℕ Refusal → Translated
in_numbers (Ok count) = Frames count
in_numbers (Err r) = Refused (fault_number r.fault) r.place

-- document 01's number and value for an answer: 0 and the frame count, or a refusal's number and the place
abbrev pub translated_number : Translated → ℕ
translated_number (Frames count) = 0
translated_number (Refused number place) = number

abbrev pub translated_value : Translated → ℕ
translated_value (Frames count) = count
translated_value (Refused number place) = place

-- "Refusals name the item's starting byte"; "At the end: 20 no Leave yet, place the length (empty input too)"; else "Success reports
-- the frame count"
abbrev pub answer_at : Stop → ℕ → ℕ → Translated
answer_at (fault number place) size count = Refused number place
answer_at (at_end false) size count = Refused 20 size
answer_at (at_end true) size count = Frames count

-- "Last: 26 output shorter than needed, place 0", where the output has `room` bytes
abbrev pub unless_short : Translated → ℕ → Translated
unless_short (Refused number place) room = Refused number place
unless_short (Frames count) room = cond (ltb room (12 * count)) (Refused 26 0) (Frames count)

-- the answer to a recipe but for the output's length
unfoldable pub checked : List ℕ → Translated
checked input = answer_at (reading input).stop (length input) (frame_count (recipe_of input))

unfoldable pub translated : List ℕ → ℕ → Translated
translated input room = unless_short (checked input) room

-- the output after an answer: "output untouched", or the frames and "bytes behind the last frame stay"
abbrev pub output_by : Translated → List ℕ → List ℕ → List ℕ
output_by (Refused number place) input output = output
output_by (Frames count) input output = joined (frames_of (recipe_of input)) ++ drop (12 * count) output

unfoldable pub translated_output : List ℕ → List ℕ → List ℕ
translated_output input output = output_by (translated input (length output)) input output
