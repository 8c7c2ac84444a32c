-- `hex_put::item::put_item` meets its contract: four bytes, and behind them those of the places.
-- Assumes nothing.
use mathlib.Core.Path.{◌∙◌, refl, ap}
use Rattle.base.specs.Internal.Putting.{put_at}
use Rattle.recipe.specs.Internal.Kinds.{code}
use Rattle.hex_put.proofs.Putting.{head_is, item_put_lem}
use Rattle.hex_put.proofs.item.put_item.Goals as goal

pub returns : goal.returns
returns c =
    let a = c.args in
    item_put_lem a.output.now _ _ a.places.now _ a.at c.requires refl
    ((rw c.byte_of.ensures at c.put.ensures) ∙ ap (put_at a.output.now a.at) (head_is (code a.kind) a.address _ c.to_be_bytes.ensures)) c.put_low.ensures
