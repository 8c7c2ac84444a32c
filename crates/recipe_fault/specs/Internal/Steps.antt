-- Where a walk over a recipe stands: the place, the number of the item there, and whether Leave has come.
use Rattle.std.specs.Prelude.{ℕ, ◌-◌, ◌≤◌, ◌<◌, ◌≡◌, Bool, List, length, drop}
use Rattle.recipe.specs.Faults.{fault_at}
use Rattle.recipe.specs.Reading.{Reading, read_from}

-- the reading from a place on: with item 2,049 it may look once more
abbrev pub read_on : List ℕ → ℕ → ℕ → Bool → Reading
read_on input place number ended = read_from (2050 - number) (drop place input) place number ended

-- at the place stands an item without fault
pub record AtItem (input : List ℕ) (place number : ℕ) (ended : Bool) : Type 0 where
  pub inside : place < length input
  pub faultless : fault_at (drop place input) number ended ≡ 0
  pub few : number ≤ 2049
