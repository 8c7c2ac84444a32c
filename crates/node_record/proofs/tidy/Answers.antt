-- `node_record::tidy` meets its contract: receiver and mode are tidied, each by its own function.
-- Assumes nothing.
use mathlib.Core.Path.{◌∙◌, sym}
use Rattle.node_record.proofs.Tidied.{kept_tidied, lost_tidied}
use Rattle.node_record.proofs.tidy.Goals as goal

pub returns-then-is_tidy : goal.returns-then-is_tidy
returns-then-is_tidy c =
    kept_tidied c.args.node c.tidy_receiver.result c.tidy_receiver.ensures (sym c.is_tidy.ensures ∙ c.if-is_tidy.true)

pub returns : goal.returns
returns c =
    c.with_mode.ensures
    ∙ lost_tidied c.args.node c.tidy_receiver.result c.tidy_receiver.ensures (sym c.is_tidy.ensures ∙ c.if-is_tidy.false)
