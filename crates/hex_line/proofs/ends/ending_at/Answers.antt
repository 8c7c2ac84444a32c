-- `hex_line::ends::ending_at` meets its contract: each pattern.
-- Assumes nothing.
use native.Mathlib.Omega.{arith}
use Rattle.hex_line.proofs.Ending.{ends_text, ends_lf, ends_cr_lf, ends_not}
use Rattle.hex_line.proofs.ends.ending_at.Goals as goal

pub returns-in-empty : goal.returns-in-empty
returns-in-empty c = ends_text _ (omega arith)

pub returns-in-13 : goal.returns-in-13
returns-in-13 c = ends_cr_lf _ (omega arith) (omega arith) (omega arith)

pub returns-in-10 : goal.returns-in-10
returns-in-10 c = ends_lf _ (omega arith) (omega arith)

pub returns-in-10-2 : goal.returns-in-10-2
returns-in-10-2 c = ends_lf _ (omega arith) (omega arith)

pub returns-in_default : goal.returns-in_default
returns-in_default c = ends_not _ (omega arith) (λ e. omega arith) (λ l e f. omega arith)

pub returns-in_default-2 : goal.returns-in_default-2
returns-in_default-2 c = ends_not _ (omega arith) (λ e. omega arith) (λ l e f. omega arith)

pub returns-in_default-3 : goal.returns-in_default-3
returns-in_default-3 c = ends_not _ (omega arith) (λ e. omega arith) (λ l e f. omega arith)
