-- Which line decides, said without a reading: lines that are without fault one behind the other, the first bad line behind such lines, and
-- texts that have none. Document 02, A5: "the first bad line decides; a missing end names the line after the last".
use Rattle.std.specs.Prelude.{ℕ, ◌≡◌, List, [], ◌∷◌, ◌++◌}
use Rattle.hex_rules.specs.Text.{lines_of}
use Rattle.hex_rules.specs.Record.{record_of}
use Rattle.hex_rules.specs.Checks.{Given, nothing, fault_at, with_record}

-- lines without fault, each behind those before it, and what they give
abbrev pub Gave : List (List ℕ) → Given → Given → Type 0
Gave [] before after = before ≡ after
Gave (l ∷ ls) before after = (fault_at before l ≡ 0) × Gave ls (with_record before (record_of l)) after

-- a text whose first bad line this is: the lines before it are without fault
pub record FirstBad (text : List ℕ) (before : List (List ℕ)) (line : List ℕ) (given : Given) : Type 0 where
  pub behind : List (List ℕ)
  pub lines : lines_of text ≡ before ++ (line ∷ behind)
  pub gave : Gave before nothing given
  pub bad : fault_at given line ≡ 0 → ⊥

-- a text with no bad line, and what its lines give
abbrev pub NoneBad : List ℕ → Given → Type 0
NoneBad text given = Gave (lines_of text) nothing given
