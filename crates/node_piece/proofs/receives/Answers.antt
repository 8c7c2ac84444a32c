-- `node_piece::receives` meets its contract: of a tidy mode tidying makes the same, and of another one with nothing staged.
-- Assumes nothing.
use mathlib.Core.Path.{◌∙◌, sym}
use Rattle.node_piece.proofs.Returning.{kept_as_tidied, lost_as_tidied}
use Rattle.node_piece.proofs.receives.Goals as goal

pub returns-then-is_tidy : goal.returns-then-is_tidy
returns-then-is_tidy c = kept_as_tidied c.args.n c.args.r (sym c.is_tidy.ensures ∙ c.if-is_tidy.true)

pub returns : goal.returns
returns c = c.with_mode.ensures ∙ lost_as_tidied c.args.n c.args.r (sym c.is_tidy.ensures ∙ c.if-is_tidy.false)
