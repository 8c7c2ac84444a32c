-- `differs_write::copy::put_kept` meets its contract: before each turn, what stands before the last place is put.
-- Assumes nothing.
use Rattle.differs_write.proofs.Putting.{Copied}
use Rattle.differs_write.proofs.copy.put_kept.Given as goal

abbrev pub invariant-loop-place : goal.invariant-loop-place
invariant-loop-place l = Copied l.recipe l.places l.initial.output l.output l.from l.at l.place-index
