-- `node_gather::hold` meets its contract: as many bytes as there is room for, or as there are, come behind those that are held.
-- Assumes nothing.
use Rattle.node_gather.proofs.Holding.{ends, completes}
use Rattle.node_gather.proofs.hold.Goals as goal

pub returns-then-count-lt15 : goal.returns-then-count-lt15
returns-then-count-lt15 c =
    let a = c.args in
    ends a.receiver a.piece.now a.from c.min-more.result _ c.requires.0 c.requires.1 c.requires.2 c.min-more.ensures
    c.copy_from_slice.ensures.after a.c c.if-count-lt15.true

pub returns-else-count-lt15 : goal.returns-else-count-lt15
returns-else-count-lt15 c =
    let a = c.args in
    completes a.receiver a.piece.now a.from c.min-more.result _ c.requires.0 c.requires.1 c.requires.2 c.min-more.ensures
    c.copy_from_slice.ensures.after a.c c.whole-outcome.result c.if-count-lt15.false c.whole-outcome.ensures
