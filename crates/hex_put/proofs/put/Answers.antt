-- `hex_put::put` meets its contract, by the table's length and by the room. The two parts of the table have all its items.
-- Assumes nothing.
use mathlib.Core.Path.{◌∙◌, ap, ap₂}
use lib.ListN.{length}
use Rattle.base.specs.Parts.{patch}
use Rattle.hex_put.specs.Internal.Table.{table_bytes, bytes_in}
use Rattle.hex_put.proofs.Whole.{bytes_size, no_room, is_put}
use native.Mathlib.Omega.{arith}
use Rattle.hex_put.proofs.put.Goals as goal

pub returns-then-output-size : goal.returns-then-output-size
returns-then-output-size c =
    let a = c.args in
    let s = c.split_at.ensures in
    let size = bytes_size a.numbers.module.0 a.numbers.group.0 c.split_at.result.0.now c.split_at.result.1.now s.front_len (omega arith) in
    let all = ap₂ (bytes_in a.numbers.module.0 a.numbers.group.0) s.front s.back in
    no_room (table_bytes a.numbers.module.0 a.numbers.group.0 a.table.now) (length a.table.now) a.output.now c.if-table-ne66560.false
    (omega (arith, c.if-output-size.true, size, ap length all, c.size_of_items.ensures.0, c.size_of_items-2.ensures.0))

pub put_recipe-requires : goal.put_recipe-requires
put_recipe-requires c =
    let a = c.args in
    let s = c.split_at.ensures in
    let size = bytes_size a.numbers.module.0 a.numbers.group.0 c.split_at.result.0.now c.split_at.result.1.now s.front_len (omega arith) in
    (s.front_len, omega arith, omega (arith, c.if-output-size.false, size, c.size_of_items.ensures.0, c.size_of_items-2.ensures.0))

pub returns : goal.returns
returns c =
    let a = c.args in
    let s = c.split_at.ensures in
    let size = bytes_size a.numbers.module.0 a.numbers.group.0 c.split_at.result.0.now c.split_at.result.1.now s.front_len (omega arith) in
    let all = ap₂ (bytes_in a.numbers.module.0 a.numbers.group.0) s.front s.back in
    is_put (table_bytes a.numbers.module.0 a.numbers.group.0 a.table.now) (length a.table.now) a.output.now c.if-table-ne66560.false _
    (omega (arith, size, ap length all, c.size_of_items.ensures.0, c.size_of_items-2.ensures.0))
    (omega (arith, c.if-output-size.false, size, ap length all, c.size_of_items.ensures.0, c.size_of_items-2.ensures.0)) _
    (c.put_recipe.ensures ∙ ap (patch a.output.now 0) all)
