-- Cells printed as records, so that what is read back can be said: runs of bytes from a place on, each behind a type 04 with its upper
-- half, and the end record last.
use Rattle.std.specs.Prelude.{ℕ, ◌+◌, ◌-◌, ◌/◌, ◌%◌, ◌≤◌, ◌<◌, ◌≡◌, true, false, cond, List, [], ◌∷◌, ◌++◌, ltb, length}
use Rattle.base.specs.Parts.{Bytes, sum_of}
use Rattle.hex_rules.specs.Text.{lf}
use Rattle.hex_rules.specs.Record.{colon}
use Rattle.hex_rules.specs.Cells.{Cell, cells_from, legal_cell, given_at, some_outside, some_twice}

-- bytes from a place on
pub record Run : Type 0 where
  pub start : ℕ
  pub bytes : List ℕ

-- the character of a number below 16
abbrev pub digit : ℕ → ℕ
digit d = cond (ltb d 10) (0x30 + d) (0x37 + d)

-- a byte as two digits
abbrev pub pairs : List ℕ → List ℕ
pairs [] = []
pairs (b ∷ bs) = digit (b / 16) ∷ digit (b % 16) ∷ pairs bs

-- a record's bytes but the sum: the count, the address, the type and the data
abbrev pub unsummed : ℕ → ℕ → List ℕ → List ℕ
unsummed address type cells = length cells ∷ address / 256 % 256 ∷ address % 256 ∷ type ∷ cells

-- and with it: what is missing to a multiple of 256
abbrev pub summed : List ℕ → List ℕ
summed bs = bs ++ ((256 - sum_of bs % 256) % 256 ∷ [])

-- a record as a line, without its ending
abbrev pub line_of : List ℕ → List ℕ
line_of bs = colon ∷ pairs (summed bs)

-- the two lines of a run: the upper half, and the data
abbrev pub run_lines : Run → List (List ℕ)
run_lines r =
    line_of (unsummed 0 0x04 (r.start / 16777216 % 256 ∷ r.start / 65536 % 256 ∷ []))
    ∷ line_of (unsummed (r.start % 65536) 0x00 r.bytes)
    ∷ []

abbrev pub runs_lines : List Run → List (List ℕ)
runs_lines [] = line_of (unsummed 0 0x01 []) ∷ []
runs_lines (r ∷ rs) = run_lines r ++ runs_lines rs

-- lines as a text, each ending in LF
abbrev pub text_of : List (List ℕ) → List ℕ
text_of [] = []
text_of (l ∷ ls) = l ++ (lf ∷ text_of ls)

unfoldable pub printed_runs : List Run → List ℕ
printed_runs rs = text_of (runs_lines rs)

-- the cells of runs
abbrev pub run_cells : List Run → List Cell
run_cells [] = []
run_cells (r ∷ rs) = cells_from r.start r.bytes ++ run_cells rs

-- runs behind given cells: at most 255 bytes each, of the legal areas, each cell given once
abbrev pub Printable : List Cell → List Run → Type 0
Printable before [] = Unit {0}
Printable before (r ∷ rs) =
    (length r.bytes ≤ 255)
    × Bytes r.bytes
    × (some_outside (cells_from r.start r.bytes) ≡ false)
    × (some_twice before (cells_from r.start r.bytes) ≡ false)
    × Printable (before ++ cells_from r.start r.bytes) rs

-- each cell as a run of its own
abbrev pub singly : List Cell → List Run
singly [] = []
singly (c ∷ cs) = record { start = c.place; bytes = c.byte ∷ [] } ∷ singly cs

-- cells of the legal areas behind given ones, each given once
abbrev pub EachOnce : List Cell → List Cell → Type 0
EachOnce before [] = Unit {0}
EachOnce before (c ∷ cs) =
    (legal_cell c.place ≡ true)
    × (c.byte < 256)
    × (given_at before c.place ≡ false)
    × EachOnce (before ++ (c ∷ [])) cs
