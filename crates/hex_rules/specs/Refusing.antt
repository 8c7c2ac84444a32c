-- The numbers of what `convert` answers. Document 02, A5: "Refuse with a new number each and the line".
use Rattle.std.specs.Prelude.{ℕ, Result, Ok, Err}
use Rattle.hex_rules.specs.declared.Fault.{Fault}
use Rattle.hex_rules.specs.declared.Fault.TheVariants.{BadForm, BadSum, OtherType, CellOutside, CellTwice, WrongEnd, NoRoom}
use Rattle.hex_rules.specs.declared.Refusal.{Refusal}

-- what becomes of a text: the length of the recipe that was made, in bytes, or the refusal's number and the line it names
pub data Converted : Type 0 where
  Made : ℕ → Converted
  Refused : ℕ → ℕ → Converted

-- the number of a fault
abbrev pub fault_number : Fault → ℕ
fault_number BadForm = 30
fault_number BadSum = 31
fault_number OtherType = 32
fault_number CellOutside = 33
fault_number CellTwice = 34
fault_number WrongEnd = 35
fault_number NoRoom = 26

-- an answer with its number
abbrev pub in_numbers : Result ℕ Refusal → Converted
in_numbers (Ok size) = Made size
in_numbers (Err refusal) = Refused (fault_number refusal.fault) refusal.line
