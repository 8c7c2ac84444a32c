-- `differs_write::copy::put_kept` meets its contract: before each turn, what stands before the last place is put.
-- Assumes nothing.
use native.Mathlib.Omega.{arith}
use Rattle.differs_write.proofs.Putting.{copied_start, place_inside, copied_next, copied_end}
use Rattle.differs_write.proofs.copy.put_kept.Goals as goal

pub loop-place-init : goal.loop-place-init
loop-place-init c = copied_start c.args.recipe.now c.args.places.now c.args.output.now c.requires.0 c.requires.1

pub slice_bounds-put-end : goal.slice_bounds-put-end
slice_bounds-put-end c = omega (arith, (place_inside c.loop-place.invariant c.loop-place-test.true).1)

pub loop-place-preserved : goal.loop-place-preserved
loop-place-preserved c = copied_next c.loop-place.invariant c.loop-place-test.true _ c.put.ensures

pub returns : goal.returns
returns c = copied_end c.loop-place.invariant c.loop-place-test.false _ c.put-2.ensures
