-- `recipe_item::put::put_pair` meets its contract: two frames, one behind the other.
-- Assumes nothing.
use mathlib.Core.Path.{◌≡◌, ◌∙◌, refl}
use Prim.Native.Nat.{◌+◌}
use lib.ListN.{length}
use native.Mathlib.Omega.{arith}
use borrow.Author.Rules.{rules}
use Rattle.base.proofs.Patched.{put_fits}
use Rattle.recipe.specs.Frames.{address_frame, data_frame}
use Rattle.recipe_item.proofs.Emitting.{patched_pair}
use Rattle.recipe_item.proofs.put.put_pair.Goals as goal

pub returns : goal.returns
returns c =
    let a = c.args in
    let room = c.requires in
    let first : length c.address_frame.result ≡ 12 = search rules in
    let second : length c.data_frame.result ≡ 12 = search rules in
    let same = c.put.auto.output in
    patched_pair a.output.now
    c.put.new.output c.put-2.new.output _ _
    (address_frame a.numbers.module.0 a.numbers.group.0 a.command a.address) (data_frame a.numbers.module.0 a.numbers.group.0 a.cells)
    a.at (omega arith) refl
    c.address_frame.ensures
    c.data_frame.ensures
    (c.put.ensures ∙ put_fits a.output.now a.at c.address_frame.result (omega arith))
    (c.put-2.ensures ∙ put_fits c.put.new.output (a.at + 12) c.data_frame.result (omega arith))
