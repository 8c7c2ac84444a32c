-- `node_gather::gather` meets its contract: a right frame straight from the piece, or else byte behind byte.
-- Assumes nothing.
use mathlib.Core.Path.{◌∙◌, sym}
use Rattle.node_gather.proofs.Holding.{tidy_receiver, told_at_once, told_by_one}
use Rattle.node_gather.proofs.gather.Goals as goal

pub hold-requires : goal.hold-requires
hold-requires c =
    let t = c.tidy_receiver-r in
    ((tidy_receiver t.result c.args.receiver t.ensures).0, c.start-from.ensures.0, c.start-from.ensures.1)

pub returns-in-Some : goal.returns-in-Some
returns-in-Some c =
    let a = c.args in
    let t = c.tidy_receiver-r in
    let s = c.start-from in
    told_at_once a.receiver t.result a.piece.now s.result t.ensures s.ensures.0 a.c c.in-Some.frame (sym c.at_once.ensures ∙ c.in-Some.is)

pub returns-in-None : goal.returns-in-None
returns-in-None c =
    let a = c.args in
    let t = c.tidy_receiver-r in
    let s = c.start-from in
    told_by_one a.receiver t.result a.piece.now s.result t.ensures s.ensures.0 a.c c.hold.result c.hold.ensures
