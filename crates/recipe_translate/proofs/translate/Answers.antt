-- `recipe_translate::translate` meets its contract: what the check found, and whether the output has room.
-- Assumes nothing.
use native.Mathlib.Omega.{arith}
use Rattle.std.proofs.lemmas.Result.{err_from_is_err_and}
use Rattle.recipe_translate.proofs.Answers.{answer_refused, answer_short, answer_done, enough}
use Rattle.recipe_translate.proofs.translate.Goals as goal

pub returns-in_err-count : goal.returns-in_err-count
returns-in_err-count c =
    let a = answer_refused c.args.recipe.now c.args.output.now _ _ c.in_err-count.ensures.0 in
    let p = err_from_is_err_and c.from_residual.result c.from_residual.ensures.1 in
    rw (p.1, p.2) (a.0, a.1, tt)

pub returns-then-output-count : goal.returns-then-output-count
returns-then-output-count c =
    let a = answer_short c.args.recipe.now c.args.output.now _ c.in_ok-count.ensures.0 (omega arith) in
    (a.0, a.1, tt)

pub put_frames-requires : goal.put_frames-requires
put_frames-requires c = enough c.args.recipe.now c.args.output.now _ c.in_ok-count.ensures.0 (omega arith)

pub returns : goal.returns
returns c =
    let a = answer_done c.args.recipe.now c.args.output.now _ c.in_ok-count.ensures.0 (omega arith) _ c.put_frames.ensures in
    (a.0, a.1, c.in_ok-count.ensures.1)
