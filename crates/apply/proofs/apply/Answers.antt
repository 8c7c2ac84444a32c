-- Only what can come is printed: the room does for a recipe of at most 4,096 bytes, so that a refusal is 20 to 24, and all answers are told.
use mathlib.Core.Path.{ap}
use Rattle.std.proofs.Common.{ℕ, ◌*◌, ◌≤◌, rules, arith, length-take}
use Rattle.recipe.specs.Translation.{in_numbers}
use Rattle.apply.proofs.HasRoom.{step_has_room, step_tells_all}
use Rattle.apply.proofs.apply.Goals as goal

pub print_refusal-requires : goal.print_refusal-requires
print_refusal-requires c =
    step_has_room _ _ _ _ _ _ c.deliver-delivered.ensures c.requires (search rules) (search rules) _ _ (ap in_numbers c.in-Err.is)

-- what is told fits the room for it
within_room : (count n : ℕ) → 14 * count ≤ n → n ≤ 15162 → 14 * count ≤ 15162
within_room count n h k = omega arith

pub overflow_mul-answers : goal.overflow_mul-answers
overflow_mul-answers c =
    let told = step_tells_all _ _ _ _ _ _ c.deliver-delivered.ensures _ (ap in_numbers c.in-Ok.is) in
    let few = within_room _ _ told (search rules) in
    omega (arith, few)

pub slice_bounds-answers-end : goal.slice_bounds-answers-end
slice_bounds-answers-end c =
    let told = step_tells_all _ _ _ _ _ _ c.deliver-delivered.ensures _ (ap in_numbers c.in-Ok.is) in
    omega (arith, told, c.deliver-delivered.auto.answers)

pub slice_bounds-print_answers-end : goal.slice_bounds-print_answers-end
slice_bounds-print_answers-end c =
    let told = step_tells_all _ _ _ _ _ _ c.deliver-delivered.ensures _ (ap in_numbers c.in-Ok.is) in
    simp length-take (omega (arith, told, c.deliver-delivered.auto.answers))
