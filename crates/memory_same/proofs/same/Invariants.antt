-- `memory_same::same` meets its contract: before each turn, what is asked of all cells is known of those before, and asked of those that
-- are left.
-- Assumes nothing.
use mathlib.Core.Bool.{◌&&◌}
use mathlib.Core.Path.{◌≡◌}
use lib.ListN.{length, drop}
use Rattle.memory_same.specs.Same.{same}
use Rattle.memory_same.proofs.same.Given as goal

abbrev pub invariant-loop-a : goal.invariant-loop-a
invariant-loop-a l =
    let n = length l.yielded in same l.x l.y ≡ (l.equal && same (drop n l.x) (drop n l.y))
