-- `update_deliver::handing::hand_over` meets its contract. At each turn what was told, and then the delivery of the frames that are left,
-- is the whole delivery (proofs/Turns).
-- Assumes nothing.
use mathlib.Core.Path.{◌∙◌, subst, ap}
use Prim.Native.Nat.{◌+◌}
use native.Mathlib.Nat.{add-sub_cancel_left}
use native.Mathlib.Omega.{arith}
use borrow.Author.Rules.{rules}
use Rattle.node_rules.specs.declared.Node.{Node}
use Rattle.node_rules.specs.InNumbers.{answer_in_numbers}
use Rattle.update_rules.specs.Delivery.{told}
use Rattle.update_deliver.proofs.Turns.{Handing, node_told, handing_start, handing_next, handing_end}
use Rattle.update_deliver.proofs.handing.hand_over.Goals as goal

pub loop-i-init : goal.loop-i-init
loop-i-init c =
    let a = c.args in
    handing_start a.frames.now a.count a.flash.now a.eeprom.now a.answers.now a.node

pub loop-i-preserved : goal.loop-i-preserved
loop-i-preserved c =
    let a = c.args in
    let l = c.loop-i in
    let f = c.can_frame-answer in
    let t = c.telling in
    subst (λ (n : Node). Handing a.frames.now a.count a.flash.now a.eeprom.now a.answers.now a.node f.new.flash f.new.eeprom
    c.put.new.output n (l.i + 1)) (node_told f.result)
    (handing_next a.frames.now a.count a.flash.now a.eeprom.now a.answers.now a.node l.flash l.eeprom l.answers l.n l.i l.invariant
    (omega arith) (answer_in_numbers f.result) f.new.flash f.new.eeprom _ t.result (simp add-sub_cancel_left at f.ensures)
    (t.ensures ∙ ap told c.in_numbers-a.ensures) (search rules)
    c.put.ensures)

pub returns : goal.returns
returns c =
    let a = c.args in
    let l = c.loop-i in
    handing_end a.frames.now a.count a.flash.now a.eeprom.now a.answers.now a.node l.flash l.eeprom l.answers l.n l.i l.invariant
    (omega arith)
