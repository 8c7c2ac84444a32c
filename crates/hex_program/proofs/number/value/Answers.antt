-- No digits, a digit that is none of the base, a value that is too large, and a value that is read to the end.
use Rattle.std.proofs.Common.{◌≤◌, ◌<◌, refl, sym, ap, ◌∙◌, arith, get_or, rules}
use Rattle.std.specs.Char.{digit_value}
use borrow.Author.Tests.{eqb-true, eqb-false}
use Rattle.hex_program.proofs.Numbers.{no_digits, digit_found, digit_missing, one_more_lem, too_large, wrong_digit, all_read}
use Rattle.hex_program.proofs.number.value.Goals as goal

pub returns-then-is_empty : goal.returns-then-is_empty
returns-then-is_empty c = no_digits _ _ (eqb-true _ _ (sym c.if-is_empty.ensures))

pub returns-in_err-value : goal.returns-in_err-value
returns-in_err-value c =
    let s = c.loop-c in
    let a = c.args in
    let byte : get_or a.word.now s.c-index 0 < 256 = search rules in
    let none : c.args.base ≤ digit_value (get_or a.word.now s.c-index 0) = omega (arith, ap digit_value c.from.ensures, c.in_err-value.ensures.value) in
    c.from_residual.ensures
    ∙ wrong_digit a.base s.value a.word.now s.c-index s.invariant.1 (omega arith) _ refl (digit_missing _ a.base byte (omega arith) none)

pub returns-then-value-gt255 : goal.returns-then-value-gt255
returns-then-value-gt255 c =
    let s = c.loop-c in
    let a = c.args in
    let v = c.in_ok-value.ensures.value in
    let byte : get_or a.word.now s.c-index 0 < 256 = search rules in
    let below : c.in_ok-value.field-0 < a.base = omega (arith, v) in
    too_large a.base s.value a.word.now s.c-index s.invariant.1 (omega arith) c.in_ok-value.field-0
    (digit_found _ _ a.base byte (omega arith) (ap digit_value (sym c.from.ensures) ∙ sym v.1) below) (omega arith) below (omega arith)

pub loop-c-preserved : goal.loop-c-preserved
loop-c-preserved c =
    let s = c.loop-c in
    let a = c.args in
    let v = c.in_ok-value.ensures.value in
    let byte : get_or a.word.now s.c-index 0 < 256 = search rules in
    let below : c.in_ok-value.field-0 < a.base = omega (arith, v) in (
      omega arith,
      one_more_lem a.base s.value a.word.now s.c-index s.invariant.1 (omega arith) c.in_ok-value.field-0
          (digit_found _ _ a.base byte (omega arith) (ap digit_value (sym c.from.ensures) ∙ sym v.1) below) below,
    )

pub returns : goal.returns
returns c =
    let s = c.loop-c in
    all_read c.args.base s.value c.args.word.now s.c-index s.invariant.1 (eqb-false _ _ (sym c.if-is_empty.ensures)) s.invariant.0 (omega arith)
