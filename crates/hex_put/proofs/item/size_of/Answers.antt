-- `hex_put::item::size_of` meets its contract, by whether the item is touched.
-- Assumes nothing.
use mathlib.Core.Path.{◌∙◌, sym}
use Rattle.hex_put.proofs.Putting.{touched_size}
use native.Mathlib.Omega.{arith}
use Rattle.hex_put.proofs.item.size_of.Goals as goal

pub returns-then-is_touched : goal.returns-then-is_touched
returns-then-is_touched c = (sym (touched_size 0 0 c.args.places.now (sym c.is_touched.ensures ∙ c.if-is_touched.true)), omega arith)
