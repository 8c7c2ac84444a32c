-- `differs_write::walk::look_over` meets its contract. Before each turn the walk is one that the items so far lead to (`Seen`); what is left
-- of the recipe falls.
-- Assumes nothing.
use Prim.Native.Nat.{◌-◌}
use lib.ListN.{length}
use Rattle.differs_write.proofs.Seeing.{Seen}
use Rattle.differs_write.proofs.walk.look_over.Given as goal

abbrev pub invariant-loop-w : goal.invariant-loop-w
invariant-loop-w l = Seen l.recipe l.image l.last l.places l.w

abbrev pub decreases-loop-w : goal.decreases-loop-w
decreases-loop-w l = length l.recipe - l.w.place
