-- Only what can come is said: the room does for every text, so that no refusal is of the room, and a recipe that was made stands in it whole.
use Rattle.std.proofs.Common.{rules, refl, ap, arith, length-take}
use Rattle.hex_rules.specs.Refusing.{fault_number}
use Rattle.hex_program.proofs.HasRoom.{answer_refused, answer_fits}
use Rattle.hex_program.proofs.convert.Goals as goal

pub refuse-requires : goal.refuse-requires
refuse-requires c = λ e. let h = answer_refused _ _ _ _ c.in-Err.ensures.0 (search rules) _ _ refl in omega (arith, h.0, ap fault_number e)

pub slice_bounds-recipe-end : goal.slice_bounds-recipe-end
slice_bounds-recipe-end c =
    let fits = answer_fits _ _ _ _ c.in-Ok.ensures.0 _ refl in
    omega (arith, fits, c.convert.auto.output)

pub slice_bounds-write_recipe-end : goal.slice_bounds-write_recipe-end
slice_bounds-write_recipe-end c =
    let fits = answer_fits _ _ _ _ c.in-Ok.ensures.0 _ refl in
    simp length-take (omega (arith, fits, c.convert.auto.output))
