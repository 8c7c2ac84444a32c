-- What becomes of a recipe over an image, in numbers: how many erases the shorter recipe has and how many bytes, or the refusal's number and
-- the place it names. And what the code answers, in those numbers.
use Rattle.std.specs.Prelude.{ℕ, Result, Ok, Err}
use Rattle.recipe.specs.Translation as translation
use Rattle.differs_rules.specs.declared.Fault as fault
use Rattle.differs_rules.specs.declared.Fault.TheVariants.{Recipe, OtherLength}
use Rattle.differs_rules.specs.declared.Kept as kept
use Rattle.differs_rules.specs.declared.Refusal.{Refusal}

pub data Differences : Type 0 where
  Kept : ℕ → ℕ → Differences
  Refused : ℕ → ℕ → Differences

-- "A FLASH image of another length than 65,536 is refused with a new number": 36; the others are the translator's
abbrev pub fault_number : fault.Fault → ℕ
fault_number (Recipe f) = translation.fault_number f
fault_number OtherLength = 36

abbrev pub in_numbers : Result kept.Kept Refusal → Differences
in_numbers (Ok k) = Kept k.erases k.size
in_numbers (Err r) = Refused (fault_number r.fault) r.place
