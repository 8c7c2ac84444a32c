-- `recipe_item::put::put_row` meets its contract: the pair of frames with the eight bytes behind the address.
-- Assumes nothing.
use mathlib.Core.Path.{◌∙◌}
use Prim.Native.Nat.{◌+◌}
use native.Mathlib.Omega.{arith}
use Rattle.base.proofs.Listed.{listed_part}
use Rattle.base.specs.Parts.{part}
use Rattle.recipe_item.proofs.Emitting.{row_patched}
use Rattle.recipe_item.proofs.put.put_row.Goals as goal

pub returns : goal.returns
returns c =
    let a = c.args in
    let whole = c.requires.0 in
    row_patched a.numbers.module.0 a.numbers.group.0 a.address.0 (part a.input.now (a.place + 4) 8) a.output.now _ _ a.at
    (c.eight.ensures ∙ listed_part a.input.now (a.place + 4) 8 (omega arith)) c.put_pair.ensures
