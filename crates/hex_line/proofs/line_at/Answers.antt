-- `hex_line::line_at` meets its contract: where it answers none, a first line in form would pass the test that failed, and behind all of
-- them the characters that were read are the first line.
-- Assumes nothing.
use native.Mathlib.Omega.{arith}
use mathlib.Core.Path.{◌∙◌}
use Rattle.hex_line.proofs.Found.{no_rest, no_count, short, no_ending, no_digits, other_count, next_fits, found}
use Rattle.hex_line.proofs.line_at.Goals as goal

pub returns-in_err-rest : goal.returns-in_err-rest
returns-in_err-rest c = c.from_residual.ensures ∙ no_rest _ _ (omega (arith, c.in_err-rest.ensures.lookup))

pub returns-in_err-count : goal.returns-in_err-count
returns-in_err-count c =
    c.from_residual-in_err-count.ensures
    ∙ no_count c.args.text.now c.args.at _ c.in_ok-rest.ensures.lookup.0.2 c.in_err-count.ensures

pub returns-in_err-digits : goal.returns-in_err-digits
returns-in_err-digits c =
    c.from_residual-in_err-digits.ensures
    ∙ short c.args.text.now c.args.at _ c.in_ok-rest.ensures.lookup.0.2 _ c.in_ok-count.ensures (omega (arith, c.in_err-digits.ensures.lookup))

pub returns-in_err-ending : goal.returns-in_err-ending
returns-in_err-ending c =
    c.from_residual-in_err-ending.ensures
    ∙ no_ending c.args.text.now c.args.at _ c.in_ok-rest.ensures.lookup.0.2 _ c.in_ok-count.ensures c.in_err-ending.ensures

pub returns-in_err-bytes : goal.returns-in_err-bytes
returns-in_err-bytes c =
    c.from_residual-in_err-bytes.ensures
    ∙ no_digits c.args.text.now c.args.at _ c.in_ok-rest.ensures.lookup.0.2 _ c.in_ok-count.ensures _ c.in_ok-digits.ensures.lookup.0.2
    c.in_err-bytes.ensures

pub returns-then-bad_count : goal.returns-then-bad_count
returns-then-bad_count c =
    other_count c.args.text.now c.args.at _ c.in_ok-rest.ensures.lookup.0.2 _ c.in_ok-count.ensures _ c.in_ok-digits.ensures.lookup.0.2
    _ c.in_ok-bytes.ensures _ c.bad_count.ensures c.if-bad_count.true

pub overflow_add-result-2 : goal.overflow_add-result-2
overflow_add-result-2 c =
    let h =
    next_fits c.args.text.now c.args.at _ c.in_ok-rest.ensures.lookup.0.2 _ c.in_ok-count.ensures _ c.in_ok-digits.ensures.lookup.0.2
    _ c.in_ok-bytes.ensures _ c.bad_count.ensures _ c.in_ok-digits.ensures.lookup.0.1 c.in_ok-ending.ensures c.if-bad_count.false in
    omega arith

pub returns : goal.returns
returns c =
    found c.args.text.now c.args.at _ c.in_ok-rest.ensures.lookup.0.2 _ c.in_ok-count.ensures _ c.in_ok-digits.ensures.lookup.0.2
    _ c.in_ok-bytes.ensures _ c.bad_count.ensures _ c.in_ok-digits.ensures.lookup.0.1 c.in_ok-ending.ensures c.if-bad_count.false
