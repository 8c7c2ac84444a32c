-- What a result says of its number, and what holds where it is no refusal.
-- Assumes nothing.
use mathlib.Core.Path.{◌≡◌}
use native.Mathlib.Omega.{arith}
use Rattle.std.specs.Prelude.{Result, Ok, Err, OnOk}
use Rattle.hex_rules.specs.declared.Fault.{Fault}
use Rattle.hex_rules.specs.declared.Fault.TheVariants.{BadForm, BadSum, OtherType, CellOutside, CellTwice, WrongEnd, NoRoom}
use Rattle.hex_rules.specs.Refusing.{fault_number}

-- no fault has the number 0
pub fault_some : (f : Fault) → fault_number f ≡ 0 → ⊥
fault_some BadForm e = omega arith
fault_some BadSum e = omega arith
fault_some OtherType e = omega arith
fault_some CellOutside e = omega arith
fault_some CellTwice e = omega arith
fault_some WrongEnd e = omega arith
fault_some NoRoom e = omega arith

pub on_ok_always : {A E P : Type 0} (r : Result A E) → P → OnOk r P
on_ok_always (Ok x) p = p
on_ok_always (Err e) p = tt
