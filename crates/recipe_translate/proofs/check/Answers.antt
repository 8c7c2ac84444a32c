-- `recipe_translate::check` meets its contract. The loop keeps that the reading from the start is what was read so far and then the
-- reading from the cursor on, and that the input holds bytes once Leave has come; what is left of the input falls.
-- Assumes nothing.
use mathlib.Core.Path.{refl}
use mathlib.Core.Bool.{false≢true}
use borrow.Author.Tests.{not-false, not-true}
use Rattle.recipe.proofs.Answers.{numbered}
use Rattle.recipe_translate.proofs.Walking.{kept_start, kept_done, kept_open, kept_fault, kept_next, at_cursor}
use Rattle.recipe_translate.proofs.check.Goals as goal

pub loop-c-init : goal.loop-c-init
loop-c-init c = (kept_start c.args.input.now, λ z. absurd (false≢true z))

pub returns-in-Err : goal.returns-in-Err
returns-in-Err c = (
  kept_fault c.args.input.now c.loop-c.c c.loop-c.invariant.0 _ c.loop-c-test.true c.in-Err.ensures (numbered c.in-Err.fault),
  tt,
)

pub loop-c-preserved : goal.loop-c-preserved
loop-c-preserved c =
    let i = c.loop-c.invariant.0 in
    let at = at_cursor c.args.input.now c.loop-c.c i 0 c.loop-c-test.true c.in_default.ensures refl in
    (kept_next c.args.input.now c.loop-c.c i c.next-c.result at c.next-c.ensures.0, λ _. c.next-c.ensures.1)

pub returns-then-not-c : goal.returns-then-not-c
returns-then-not-c c = (kept_open c.args.input.now c.loop-c.c c.loop-c.invariant.0 c.loop-c-test.false (not-true _ c.if-not-c.true), tt)

pub returns : goal.returns
returns c =
    let i = c.loop-c.invariant in
    let ended = not-false _ c.if-not-c.false in
    (kept_done c.args.input.now c.loop-c.c i.0 c.loop-c-test.false ended, i.1 ended)
