-- `hex_line::digits::digit` meets its contract: the table is right.
-- Assumes nothing.
use mathlib.Core.Path.{refl}
use borrow.Author.Rules.{rules}
use Rattle.hex_line.proofs.Table.{digit_table, some_digit, no_digit}
use Rattle.hex_line.proofs.digits.digit.Goals as goal

pub returns-then-value-lt16 : goal.returns-then-value-lt16
unfolding digit_table
returns-then-value-lt16 c = some_digit c.args.c _ (search rules) refl c.if-value-lt16.true

pub returns : goal.returns
unfolding digit_table
returns c = no_digit c.args.c _ (search rules) refl c.if-value-lt16.false
