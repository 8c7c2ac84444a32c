-- `hex_put::put_recipe` meets its contract: Open, the blocks, the rows and Leave, one behind the other.
-- Assumes nothing.
use mathlib.Core.Path.{refl}
use mathlib.Core.List.{[], ◌∷◌}
use Rattle.hex_put.proofs.Whole.{blocks_put, rows_put, bytes_parts, blocks_many, rows_many, blocks_items, rows_items, first_room, second_room, fourth}
use native.Mathlib.Omega.{arith}
use Rattle.hex_put.proofs.put_recipe.Goals as goal

pub put_items-behind-requires : goal.put_items-behind-requires
put_items-behind-requires c =
    let a = c.args in
    let head = 0x01 ∷ a.numbers.module.0 ∷ a.numbers.group.0 ∷ [] in
    let room = rw (bytes_parts a.numbers.module.0 a.numbers.group.0 a.blocks.now a.rows.now) at c.requires.2 in (
      blocks_items a.blocks.now c.requires.0,
      omega arith,
      rw (blocks_many a.blocks.now c.requires.0)
          (first_room a.output.now head (blocks_put a.blocks.now) (rows_put a.rows.now) (0x0F ∷ []) room _ (rw c.byte_of.ensures at c.put.ensures) 3 refl),
    )

pub put_items-last-requires : goal.put_items-last-requires
put_items-last-requires c =
    let a = c.args in
    let head = 0x01 ∷ a.numbers.module.0 ∷ a.numbers.group.0 ∷ [] in
    let room = rw (bytes_parts a.numbers.module.0 a.numbers.group.0 a.blocks.now a.rows.now) at c.requires.2 in
    let b = rw (blocks_many a.blocks.now c.requires.0) at c.put_items-behind.ensures in (
      rows_items a.rows.now c.requires.1,
      omega arith,
      rw (rows_many a.rows.now c.requires.1)
          (second_room a.output.now head (blocks_put a.blocks.now) (rows_put a.rows.now) (0x0F ∷ []) room _ (rw c.byte_of.ensures at c.put.ensures) _ 3 refl b.1 _ b.0),
    )

pub returns : goal.returns
returns c =
    let a = c.args in
    let head = 0x01 ∷ a.numbers.module.0 ∷ a.numbers.group.0 ∷ [] in
    let room = rw (bytes_parts a.numbers.module.0 a.numbers.group.0 a.blocks.now a.rows.now) at c.requires.2 in
    let b = rw (blocks_many a.blocks.now c.requires.0) at c.put_items-behind.ensures in
    let r = rw (rows_many a.rows.now c.requires.1) at c.put_items-last.ensures in
    rw (bytes_parts a.numbers.module.0 a.numbers.group.0 a.blocks.now a.rows.now)
    (fourth a.output.now head (blocks_put a.blocks.now) (rows_put a.rows.now) (0x0F ∷ []) room _ (rw c.byte_of.ensures at c.put.ensures) _ 3 refl b.1 _ _ b.0 r.1 _ _ r.0
    (rw c.byte_of-2.ensures at c.put-2.ensures))
