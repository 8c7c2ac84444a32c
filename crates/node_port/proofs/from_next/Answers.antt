-- `node_port::from_next` meets its contract: what stays held begins at the first 0xAA behind the first byte.
-- Assumes nothing.
use mathlib.Core.Path.{◌∙◌, sym, ap}
use Rattle.base.specs.Parts.{part}
use Rattle.node_rules.specs.Record.{receiving}
use Rattle.node_port.proofs.Keeping.{from_some, from_none}
use Rattle.node_port.proofs.from_next.Goals as goal

pub returns-in-Some : goal.returns-in-Some
returns-in-Some c =
    c.holding.ensures ∙ ap receiving (from_some (part c.args.fifteen 1 14) c.in-Some.i (sym c.first_start.ensures ∙ c.in-Some.is))

pub returns-in-None : goal.returns-in-None
returns-in-None c =
    c.none_held.ensures ∙ ap receiving (from_none (part c.args.fifteen 1 14) (sym c.first_start.ensures ∙ c.in-None.is))
