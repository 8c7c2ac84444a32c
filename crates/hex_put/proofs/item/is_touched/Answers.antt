-- `hex_put::item::is_touched` meets its contract: before each turn, what is asked of all places is known of those before, and asked of
-- those that are left.
-- Assumes nothing.
use mathlib.Core.Path.{refl}
use native.Mathlib.Numerals.{add-one}
use Rattle.hex_put.proofs.Marking.{one_more_lem, all_looked_at}
use native.Mathlib.Omega.{arith}
use Rattle.hex_put.proofs.item.is_touched.Goals as goal

pub loop-place-preserved : goal.loop-place-preserved
loop-place-preserved c =
    let l = c.loop-place in
    rw add-one (one_more_lem c.args.places.now l.place-index l.marked _ c.loop-place-test.true refl l.invariant)

pub returns : goal.returns
returns c = all_looked_at c.args.places.now c.loop-place.place-index c.loop-place.marked (omega arith) c.loop-place.invariant
