-- `hex_put::size_of_items` meets its contract. The loop keeps the size of the items so far.
-- Assumes nothing.
use Prim.Native.Nat.{◌*◌, ◌/◌}
use lib.ListN.{length}
use Rattle.hex_put.proofs.Putting.{Along, Sized}
use Rattle.hex_put.proofs.size_of_items.Given as goal

abbrev pub invariant-loop-item : goal.invariant-loop-item
invariant-loop-item l =
    Along l.places l.size l.item-iterator (length l.yielded)
    × Sized l.places l.size (length l.places / l.size) 0 l.all (length l.yielded * l.size) (length l.yielded)
