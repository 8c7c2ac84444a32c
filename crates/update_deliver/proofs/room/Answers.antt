-- `update_deliver::room` meets its contract: the smaller of the two.
-- Assumes nothing.
use mathlib.Core.Bool.{cond}
use mathlib.Core.Path.{◌≡◌, ◌∙◌}
use Prim.Native.Nat.{ℕ, ◌*◌, ◌/◌, min}
use native.Mathlib.Omega.{arith}
use lib.Dec.{ltb}
use borrow.Author.Tests.{ltb-true, ltb-false}
use Rattle.base.proofs.Choice.{by_cond}
use Rattle.update_deliver.specs.Delivering.{room_for}
use Rattle.update_deliver.proofs.room.Goals as goal

smaller : (x y : ℕ) → min x y ≡ cond (ltb y x) y x
smaller x y =
    by_cond (λ (r : ℕ). min x y ≡ r) (ltb y x) y x
    (λ t. let h = ltb-true y x t in omega arith)
    (λ t. let h = ltb-false y x t in omega arith)

pub returns : goal.returns
unfolding room_for
returns c = c.min.ensures ∙ smaller c.args.frames (12 * (c.args.answers / 14))
