-- Only what can come is said: the room does for every recipe, so that a refusal is 20 to 25 or 36, and a recipe that was made stands in it
-- whole, no longer than the whole one.
use Rattle.std.proofs.Common.{refl, arith, length-take}
use Rattle.differences.proofs.HasRoom.{answer_not_short, answer_fits}
use Rattle.differences.proofs.shorten.Goals as goal

pub slice_bounds-shorter-end : goal.slice_bounds-shorter-end
slice_bounds-shorter-end c =
    let fits = answer_fits _ _ _ c.in-Ok.ensures.0 _ _ refl in
    omega (arith, fits.0, c.differences.auto.output)

pub slice_bounds-write_recipe-end : goal.slice_bounds-write_recipe-end
slice_bounds-write_recipe-end c =
    let fits = answer_fits _ _ _ c.in-Ok.ensures.0 _ _ refl in
    simp length-take (omega (arith, fits.0, c.differences.auto.output))

pub write_recipe-requires : goal.write_recipe-requires
write_recipe-requires c =
    let fits = answer_fits _ _ _ c.in-Ok.ensures.0 _ _ refl in
    simp length-take (
      omega (arith, fits.2, fits.0, c.differences.auto.output),
      omega (arith, fits.1),
      omega (arith, c.requires),
    )

pub refuse-requires : goal.refuse-requires
refuse-requires c = answer_not_short _ _ _ c.in-Err.ensures.0 (omega (arith, c.requires)) _ _ refl
