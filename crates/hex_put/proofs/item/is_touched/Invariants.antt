-- `hex_put::item::is_touched` meets its contract: before each turn, what is asked of all places is known of those before, and asked of
-- those that are left.
-- Assumes nothing.
use mathlib.Core.Bool.{◌||◌}
use mathlib.Core.Path.{◌≡◌}
use lib.ListN.{drop}
use Rattle.hex_put.specs.Internal.Table.{some_marked}
use Rattle.hex_put.proofs.item.is_touched.Given as goal

abbrev pub invariant-loop-place : goal.invariant-loop-place
invariant-loop-place l = some_marked l.places ≡ (l.marked || some_marked (drop l.place-index l.places))
