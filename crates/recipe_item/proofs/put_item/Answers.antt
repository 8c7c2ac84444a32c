-- `recipe_item::put_item` meets its contract: the kind says what stands there, and the test whether its frames are put.
-- Assumes nothing.
use mathlib.Core.Path.{◌≡◌, sym, ◌∙◌}
use Prim.Native.Nat.{◌+◌}
use lib.ListN.{length}
use native.Mathlib.Omega.{arith}
use borrow.Author.Rules.{rules}
use Rattle.base.proofs.Patched.{put_fits}
use Rattle.recipe.specs.declared.Kind.TheVariants.{Open, Block, Row, Leave}
use Rattle.recipe.proofs.Naming.{named_as, none_named}
use Rattle.recipe_item.proofs.Fitting.{fitting, block_stays, block_done, row_stays, row_done, leave_stays, leave_done, nothing_there}
use Rattle.recipe_item.proofs.put_item.Goals as goal

pub put_block-requires : goal.put_block-requires
put_block-requires c =
    let a = c.args in
    let f = fitting _ (a.place + 68) (a.at + 216) (length a.input.now) (length a.output.now)
    c.whole_with_room.ensures c.if-whole_with_room.true in
    (f.0, f.1, c.address_of.ensures.1)

pub put_row-requires : goal.put_row-requires
put_row-requires c =
    let a = c.args in
    fitting _ (a.place + 12) (a.at + 24) (length a.input.now) (length a.output.now)
    c.whole_with_room-in-Some-Row.ensures c.if-whole_with_room-2.true

pub returns-then-whole_with_room : goal.returns-then-whole_with_room
returns-then-whole_with_room c =
    let a = c.args in
    block_done a.numbers.module.0 a.numbers.group.0 a.input.now a.place a.output.now a.at (sym c.byte_at.ensures ∙ named_as c.byte_at.result _ Block (sym c.of.ensures ∙ c.in-Some-Block.is) c.in-Some-Block.field-0-is) _
    c.whole_with_room.ensures
    _ c.address_of.result c.if-whole_with_room.true
    c.address_of.ensures.0 c.put_block.ensures

pub returns-else-whole_with_room : goal.returns-else-whole_with_room
returns-else-whole_with_room c =
    let a = c.args in
    block_stays a.numbers.module.0 a.numbers.group.0 a.input.now a.place a.output.now a.at (sym c.byte_at.ensures ∙ named_as c.byte_at.result _ Block (sym c.of.ensures ∙ c.in-Some-Block.is) c.in-Some-Block.field-0-is) _ c.whole_with_room.ensures
    c.if-whole_with_room.false

pub returns-then-whole_with_room-2 : goal.returns-then-whole_with_room-2
returns-then-whole_with_room-2 c =
    let a = c.args in
    row_done a.numbers.module.0 a.numbers.group.0 a.input.now a.place a.output.now a.at (sym c.byte_at.ensures ∙ named_as c.byte_at.result _ Row (sym c.of.ensures ∙ c.in-Some-Row.is) c.in-Some-Row.field-0-is) _
    c.whole_with_room-in-Some-Row.ensures
    _ c.address_of-then-whole_with_room-2.result c.if-whole_with_room-2.true
    c.address_of-then-whole_with_room-2.ensures.0 c.put_row.ensures

pub returns-else-whole_with_room-2 : goal.returns-else-whole_with_room-2
returns-else-whole_with_room-2 c =
    let a = c.args in
    row_stays a.numbers.module.0 a.numbers.group.0 a.input.now a.place a.output.now a.at (sym c.byte_at.ensures ∙ named_as c.byte_at.result _ Row (sym c.of.ensures ∙ c.in-Some-Row.is) c.in-Some-Row.field-0-is) _ c.whole_with_room-in-Some-Row.ensures
    c.if-whole_with_room-2.false

pub returns-then-whole_with_room-3 : goal.returns-then-whole_with_room-3
returns-then-whole_with_room-3 c =
    let a = c.args in
    let twelve : length c.leave_frame.result ≡ 12 = search rules in
    let room =
    (fitting _ (a.place + 1) (a.at + 12) (length a.input.now) (length a.output.now)
    c.whole_with_room-in-Some-Leave.ensures c.if-whole_with_room-3.true).1
    in
    leave_done a.numbers.module.0 a.numbers.group.0 a.input.now a.place a.output.now a.at (sym c.byte_at.ensures ∙ named_as c.byte_at.result _ Leave (sym c.of.ensures ∙ c.in-Some-Leave.is) c.in-Some-Leave.field-0-is) _
    c.whole_with_room-in-Some-Leave.ensures
    _ _ c.if-whole_with_room-3.true c.leave_frame.ensures
    (c.put.ensures ∙ put_fits a.output.now a.at c.leave_frame.result (omega (arith, room, twelve)))

pub returns-else-whole_with_room-3 : goal.returns-else-whole_with_room-3
returns-else-whole_with_room-3 c =
    let a = c.args in
    leave_stays a.numbers.module.0 a.numbers.group.0 a.input.now a.place a.output.now a.at (sym c.byte_at.ensures ∙ named_as c.byte_at.result _ Leave (sym c.of.ensures ∙ c.in-Some-Leave.is) c.in-Some-Leave.field-0-is) _ c.whole_with_room-in-Some-Leave.ensures
    c.if-whole_with_room-3.false

pub returns-in-Some-Open : goal.returns-in-Some-Open
returns-in-Some-Open c =
    let a = c.args in
    let opening = sym c.byte_at.ensures ∙ named_as c.byte_at.result _ Open (sym c.of.ensures ∙ c.in-Some-Open.is) c.in-Some-Open.field-0-is in
    nothing_there a.numbers.module.0 a.numbers.group.0 a.input.now a.place a.output.now a.at (λ e. omega (arith, opening))
    (λ e. omega (arith, opening)) (λ e. omega (arith, opening))

pub returns-in-None : goal.returns-in-None
returns-in-None c =
    let a = c.args in
    let none = none_named c.byte_at.result (sym c.of.ensures ∙ c.in-None.is) in
    nothing_there a.numbers.module.0 a.numbers.group.0 a.input.now a.place a.output.now a.at (λ e. none Block (c.byte_at.ensures ∙ e))
    (λ e. none Row (c.byte_at.ensures ∙ e)) (λ e. none Leave (c.byte_at.ensures ∙ e))
