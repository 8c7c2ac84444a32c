-- `node_gather::start` meets its contract: where nothing is held the bytes before the first 0xAA are skipped, all of them where there is none.
-- Assumes nothing.
use mathlib.Core.Path.{◌≡◌, ◌∙◌, sym}
use native.Mathlib.Omega.{arith}
use borrow.Author.Tests.{eq-eqb}
use Rattle.base.proofs.Choice.{cond_true}
use Rattle.node_gather.specs.Internal.Gathered.{skip_count}
use Rattle.node_gather.proofs.Filling.{skip_few, skips_found}
use Rattle.node_gather.proofs.start.Goals as goal

pub returns-then-count-eq0 : goal.returns-then-count-eq0
returns-then-count-eq0 c =
    let a = c.args in
    let bs = a.piece.now in
    let few = skip_few bs in
    let is : c.unwrap_or.result ≡ skip_count bs = rw c.first_start.ensures at c.unwrap_or.ensures ∙ skips_found bs in (
      is ∙ sym (cond_true _ (skip_count bs) 0 (eq-eqb a.count 0 c.if-count-eq0.true)),
      omega (arith, is, few),
    )
