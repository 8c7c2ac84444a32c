-- The checks at a line, and the first bad line. Document 02, A5: "Refuse with a new number each and the line, from 1 .. Checks at a line
-- are in that order, then the first bad line decides".
use Rattle.std.specs.Prelude.{ℕ, suc, ◌+◌, ◌*◌, Bool, false, ◌||◌, cond, List, [], ◌∷◌, ◌++◌, eqb}
use Rattle.recipe.specs.Faults.{first_of}
use Rattle.hex_rules.specs.Record.{record_of, address_of, type_of, data_of, upper_of, bad_digit, bad_length, bad_sum, other_type}
use Rattle.hex_rules.specs.Cells.{Cell, cells_from, some_outside, some_twice}

-- what the lines before gave: the upper half of addresses, the cells, and whether an end record came
pub record Given : Type 0 where
  pub upper : ℕ
  pub cells : List Cell
  pub ended : Bool

-- "Before a type 04 the upper half is 0"
abbrev pub nothing : Given
nothing = record { upper = 0; cells = []; ended = false }

-- the cells of a record, where its type is 00
abbrev pub cells_of : Given → List ℕ → List Cell
cells_of g r = cond (eqb (type_of r) 0x00) (cells_from (65536 * g.upper + address_of r) (data_of r)) []

-- "bad digit or length, bad record sum, other type, a cell outside the legal areas, a cell given twice, missing or early end record":
-- the refusals at a line, each with its condition, in their order
unfoldable pub rules_at : Given → List ℕ → List (ℕ × Bool)
rules_at g line =
    (30, bad_digit line || bad_length line)
    ∷ (31, bad_sum (record_of line))
    ∷ (32, other_type (record_of line))
    ∷ (33, some_outside (cells_of g (record_of line)))
    ∷ (34, some_twice g.cells (cells_of g (record_of line)))
    ∷ (35, g.ended)
    ∷ []

unfoldable pub fault_at : Given → List ℕ → ℕ
fault_at g line = first_of (rules_at g line)

-- and what is given behind a record: a type 04 gives the upper half, a type 00 its cells, and a type 01 is the end
unfoldable pub with_record : Given → List ℕ → Given
with_record g r = record {
  upper = cond (eqb (type_of r) 0x04) (upper_of r) g.upper;
  cells = g.cells ++ cells_of g r;
  ended = g.ended || eqb (type_of r) 0x01;
}

-- what a text comes to: its cells, or a refusal's number and the line
pub data Read : Type 0 where
  gives : List Cell → Read
  refused : ℕ → ℕ → Read

-- behind the last line: "a missing end names the line after the last"
abbrev pub at_the_end : ℕ → Given → Read
at_the_end number g = cond g.ended (gives g.cells) (refused 35 number)

-- the lines from this number on, behind what is given
unfoldable pub lines_read : List (List ℕ) → ℕ → Given → Read
lines_read [] number g = at_the_end number g
lines_read (l ∷ ls) number g =
    cond (eqb (fault_at g l) 0) (lines_read ls (suc number) (with_record g (record_of l))) (refused (fault_at g l) number)
