-- `recipe_item::put::put_block` meets its contract: the erase pair, and the writes behind it.
-- Assumes nothing.
use mathlib.Core.Path.{refl}
use Prim.Native.Nat.{◌+◌}
use native.Mathlib.Omega.{arith}
use Rattle.base.specs.Parts.{part}
use Rattle.recipe_item.proofs.Emitting.{block_patched}
use Rattle.recipe_item.proofs.put.put_block.Goals as goal

pub returns : goal.returns
returns c =
    let a = c.args in
    block_patched a.numbers.module.0 a.numbers.group.0 a.address.0 (part a.input.now (a.place + 4) 64) a.output.now
    c.put_pair.new.output
    c.put_writes.new.output a.at (a.at + 24) (omega arith) refl
    c.put_pair.ensures c.put_writes.ensures
