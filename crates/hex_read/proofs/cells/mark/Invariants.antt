-- `hex_read::cells::mark` meets its contract: after i turns the first i places are marked, and none of them was before.
-- Assumes nothing.
use mathlib.Core.Path.{◌≡◌}
use lib.ListN.{drop}
use Rattle.base.proofs.Stored.{mix}
use Rattle.hex_put.specs.Internal.Table.{some_marked}
use Rattle.hex_read.specs.Internal.Giving.{entries}
use Rattle.hex_read.proofs.cells.mark.Given as goal

abbrev pub invariant-loop-i : goal.invariant-loop-i
invariant-loop-i l = (l.places ≡ mix (entries l.bytes) l.initial.places l.i) × (some_marked l.initial.places ≡ some_marked (drop l.i l.initial.places))
