-- `update_deliver::handing::put` meets its contract: where fourteen bytes fit they replace a part.
-- Assumes nothing.
use mathlib.Core.Path.{◌≡◌, ◌∙◌}
use lib.ListN.{length}
use native.Mathlib.Omega.{arith}
use Rattle.base.proofs.Patched.{put_fits}
use borrow.Author.Rules.{rules}
use Rattle.update_deliver.proofs.handing.put.Goals as goal

pub returns : goal.returns
returns c =
    let a = c.args in
    let room = c.requires in
    let fourteen : length a.telling ≡ 14 = search rules in
    c.put.ensures ∙ put_fits a.output.now a.at a.telling (omega arith)
