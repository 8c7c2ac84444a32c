-- `hex_read::read_text` meets its contract. The loop keeps what the lines so far gave, and that the table marks it.
-- Assumes nothing.
use Prim.Native.Nat.{◌-◌}
use lib.ListN.{length}
use Rattle.hex_read.proofs.Walking.{Kept}
use Rattle.hex_read.proofs.read_text.Given as goal

abbrev pub invariant-loop-at : goal.invariant-loop-at
invariant-loop-at l = Kept l.text l.table l.at l.number l.upper l.ended

abbrev pub decreases-loop-at : goal.decreases-loop-at
decreases-loop-at l = length l.text - l.at
