-- What is found at an item, by its number.
use Rattle.std.specs.Prelude.{ℕ, Result, Ok, Err, ⊤}
use Rattle.recipe.specs.declared.Fault.{Fault}
use Rattle.recipe.specs.Translation.{fault_number}

-- the number of what is found at an item: 0 where it is without fault
abbrev pub found_number : Result ⊤ Fault → ℕ
found_number (Ok u) = 0
found_number (Err f) = fault_number f
