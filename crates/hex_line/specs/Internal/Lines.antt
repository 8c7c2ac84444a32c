-- The line that starts at a place of a text, as it is read.
use Rattle.std.specs.Prelude.{ℕ, ◌+◌, ◌-◌, ◌||◌, cond, List, [], ◌∷◌, ◌++◌, eqb, length, get_or, drop, replicate, Option, Some, None}
use Rattle.hex_rules.specs.Text.{lf, lines_of}
use Rattle.hex_rules.specs.Record.{record_of, bad_digit, bad_length}
use Rattle.hex_line.specs.declared.Line.{Line}

-- how many characters end a line: none at the end of the text, one for LF, two for CR LF
abbrev pub ending : List ℕ → ℕ
ending behind = cond (eqb (length behind) 0) 0 (cond (eqb (get_or behind 0 0) lf) 1 2)

-- bytes, filled up with 0 to 260, which is the longest record: five and 255 of data
abbrev pub filled : List ℕ → List ℕ
filled bytes = bytes ++ replicate (260 - length bytes) 0

-- a line in form
abbrev pub good_line : ℕ → List ℕ → List ℕ → Line
good_line at t l = record { next = at + (length l + ending (drop (length l) t)); bytes = filled (record_of l) }

-- the first of a text's lines, where the text starts at a place; none where it is no record in form
abbrev pub line_by : ℕ → List ℕ → List (List ℕ) → Option Line
line_by at t [] = None
line_by at t (l ∷ ls) = cond (bad_digit l || bad_length l) None (Some (good_line at t l))

-- the line at a place; where the text has ended there is none
unfoldable pub line_at : List ℕ → ℕ → Option Line
line_at text at = line_by at (drop at text) (lines_of (drop at text))
