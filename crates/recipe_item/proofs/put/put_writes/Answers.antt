-- `recipe_item::put::put_writes` meets its contract. The loop keeps that i rows are written.
-- Assumes nothing.
use mathlib.Core.Path.{◌∙◌}
use Prim.Native.Nat.{◌+◌, ◌*◌}
use native.Mathlib.Omega.{arith}
use Rattle.base.proofs.Listed.{listed_part}
use Rattle.recipe_item.proofs.Emitting.{writing_start, writing_next, writing_end}
use Rattle.recipe_item.proofs.put.put_writes.Goals as goal

pub loop-i-init : goal.loop-i-init
loop-i-init c =
    let a = c.args in
    writing_start a.input.now a.from a.output.now a.at a.numbers.module.0 a.numbers.group.0 a.address c.requires.0 c.requires.1

pub loop-i-preserved : goal.loop-i-preserved
loop-i-preserved c =
    let a = c.args in
    let l = c.loop-i in
    let whole = c.requires.0 in
    writing_next a.input.now a.from a.output.now a.at a.numbers.module.0 a.numbers.group.0 a.address c.requires.0 c.requires.1
    l.output c.put_pair.new.output _ l.i l.invariant (omega arith)
    (c.eight.ensures ∙ listed_part a.input.now (a.from + 8 * l.i) 8 (omega arith)) c.put_pair.ensures

pub returns : goal.returns
returns c =
    let a = c.args in
    writing_end a.input.now a.from a.output.now a.at a.numbers.module.0 a.numbers.group.0 a.address c.requires.0 c.requires.1
    c.loop-i.output c.loop-i.i c.loop-i.invariant (omega arith)
