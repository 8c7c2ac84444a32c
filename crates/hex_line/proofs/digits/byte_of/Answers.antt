-- `hex_line::digits::byte_of` meets its contract, by the two digits.
-- Assumes nothing.
use mathlib.Core.Path.{◌∙◌, sym}
use native.Mathlib.Omega.{arith}
use Rattle.hex_line.proofs.Choosing.{digit_found, high_missing, low_missing, both_found}
use Rattle.hex_line.proofs.digits.byte_of.Goals as goal

pub returns-in_err-digit : goal.returns-in_err-digit
returns-in_err-digit c = c.from_residual.ensures ∙ high_missing _ c.args.low (sym c.in_err-digit.ensures)

pub overflow_mul-result : goal.overflow_mul-result
overflow_mul-result c = let d = digit_found _ _ (sym c.in_ok-digit.ensures) in omega (arith, d.2)

pub returns-in_err-digit-2 : goal.returns-in_err-digit-2
returns-in_err-digit-2 c = c.from_residual-in_err-digit-2.ensures ∙ low_missing c.args.high _ (sym c.in_err-digit-2.ensures)

pub overflow_add-result : goal.overflow_add-result
overflow_add-result c =
    let d = digit_found _ _ (sym c.in_ok-digit.ensures) in
    let e = digit_found _ _ (sym c.in_ok-digit-2.ensures) in
    omega (arith, d.2, e.2)

pub returns : goal.returns
returns c = both_found _ _ _ _ (sym c.in_ok-digit.ensures) (sym c.in_ok-digit-2.ensures)
