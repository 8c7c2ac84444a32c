-- What the reading of a text comes to, with the table: a refusal, or the cells that the text gives, marked.
use Rattle.std.specs.Prelude.{◌≡◌, ℕ, List, Result, Ok, Err}
use Rattle.hex_rules.specs.Cells.{Cell}
use Rattle.hex_rules.specs.Checks.{gives, refused}
use Rattle.hex_rules.specs.Converting.{text_read}
use Rattle.hex_rules.specs.declared.Refusal.{Refusal}
use Rattle.hex_rules.specs.Refusing.{fault_number}
use Rattle.hex_read.specs.Internal.Marks.{Marks}

-- a text that gives cells, and a table that marks them
pub record Marked (text table : List ℕ) : Type 0 where
  pub cells : List Cell
  pub read : text_read text ≡ gives cells
  pub marks : Marks cells table

-- after a refusal the table is of no more use
abbrev pub Reads : Result (Unit {0}) Refusal → List ℕ → List ℕ → Type 0
Reads (Ok _) text table = Marked text table
Reads (Err refusal) text table = text_read text ≡ refused (fault_number refusal.fault) refusal.line
