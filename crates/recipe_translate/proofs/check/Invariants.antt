-- `recipe_translate::check` meets its contract. The loop keeps that the reading from the start is what was read so far and then the
-- reading from the cursor on, and that the input holds bytes once Leave has come; what is left of the input falls.
-- Assumes nothing.
use mathlib.Core.Path.{◌≡◌}
use mathlib.Core.Bool.{true}
use Prim.Native.Nat.{◌-◌}
use lib.ListN.{length}
use Rattle.base.specs.Parts.{Bytes}
use Rattle.recipe_translate.proofs.Walking.{Kept}
use Rattle.recipe_translate.proofs.check.Given as goal

abbrev pub invariant-loop-c : goal.invariant-loop-c
invariant-loop-c l = Kept l.input l.c × (l.c.ended ≡ true → Bytes l.input)

abbrev pub decreases-loop-c : goal.decreases-loop-c
decreases-loop-c l = length l.input - l.c.place
