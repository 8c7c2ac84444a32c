-- `node_gather::at_once` meets its contract: where something is held, or bytes are few, no frame is there.
-- Assumes nothing.
use mathlib.Core.Logic.{inl, inr}
use native.Mathlib.Omega.{arith}
use lib.ListN.{drop, length-take, length-drop}
use Rattle.base.specs.Parts.{part}
use Rattle.node_gather.proofs.Holding.{none_at_once}
use Rattle.node_gather.proofs.at_once.Goals as goal
use Rattle.node_gather.proofs.at_once.Goals.{then-count-ne0-via-then-count-ne0, then-count-ne0-via-else-count-ne0+then-piece-from-lt15}

pub returns-then-count-ne0 : goal.returns-then-count-ne0
returns-then-count-ne0 c =
    let a = c.args in
    let there = part a.piece.now a.from 15 in
    elim c.then-count-ne0.branch [
      | then-count-ne0-via-then-count-ne0 w ↦ none_at_once a.count there (inl w.if-count-ne0.true)
      | then-count-ne0-via-else-count-ne0+then-piece-from-lt15 w ↦
          let n = length-take 15 (drop a.from a.piece.now) in
          let d = length-drop a.from a.piece.now in
          let short = w.if-piece-from-lt15.true in
          none_at_once a.count there (inr (λ e. omega (arith, n, d, short, e)))
    ]
