-- `hex_put::put_items` meets its contract. The loop keeps that the items so far are put, and the next goes behind them.
-- Assumes nothing.
use Prim.Native.Nat.{◌*◌, ◌/◌}
use lib.ListN.{length}
use Rattle.recipe.specs.Internal.Kinds.{code}
use Rattle.hex_put.proofs.Putting.{Along, Putting}
use Rattle.hex_put.proofs.put_items.Given as goal

abbrev pub invariant-loop-item : goal.invariant-loop-item
invariant-loop-item l =
    Along l.places l.size l.item-iterator (length l.yielded)
    × Putting l.initial.output l.at (code l.kind) l.size l.places (length l.places / l.size) 0 l.first l.output l.to (length l.yielded * l.size)
    l.address (length l.yielded)
