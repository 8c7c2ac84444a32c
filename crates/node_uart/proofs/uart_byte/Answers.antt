-- `node_uart::uart_byte` meets its contract: each return is one law of Listening.antt, over the tidied record.
-- Assumes nothing.
use mathlib.Core.Path.{◌≡◌, ◌∙◌, sym}
use mathlib.Core.Logic.{◌⊎◌, inl, inr}
use Rattle.node_port.proofs.Hearing.{listening}
use Rattle.node_uart.proofs.Listening.{refused, skipped, held, bad, whole}
use Rattle.node_uart.proofs.uart_byte.Goals as goal
use Rattle.node_uart.proofs.uart_byte.Goals.{else-count-eq0-via-then-count-eq0+else-byte-ne170, else-count-eq0-via-else-count-eq0}

pub returns-in-Err : goal.returns-in-Err
returns-in-Err c =
    let a = c.args in
    rw c.refused.ensures
    (refused a.node c.tidy-n.result a.byte a.flash.now a.eeprom.now c.in-Err.refusal c.tidy-n.ensures
    (sym c.listens.ensures ∙ c.in-Err.is))

pub returns-then-byte-ne170 : goal.returns-then-byte-ne170
returns-then-byte-ne170 c =
    let a = c.args in
    let o = listening _ c.tidy-n.result c.in_default.field-0 (sym c.listens.ensures ∙ c.in_default.is) in
    rw c.refused-then-byte-ne170.ensures
    (skipped a.node c.tidy-n.result a.byte a.flash.now a.eeprom.now c.tidy-n.ensures o.0 o.1 o.2 c.if-count-eq0.true c.if-byte-ne170.true)

pub returns-then-count-lt14 : goal.returns-then-count-lt14
returns-then-count-lt14 c =
    let a = c.args in
    let n = c.tidy-n.result in
    let o = listening _ n c.in_default.field-0 (sym c.listens.ensures ∙ c.in_default.is) in
    let starts : (n.receiver.count ≡ 0 → ⊥) ⊎ (a.byte ≡ 0xAA) =
    elim c.else-count-eq0.branch [
      | else-count-eq0-via-then-count-eq0+else-byte-ne170 w ↦ inr w.if-byte-ne170.false
      | else-count-eq0-via-else-count-eq0 w ↦ inl w.if-count-eq0.false
    ] in
    rw c.refused-then-count-lt14.ensures
    (held a.node n a.byte a.flash.now a.eeprom.now c.tidy-n.ensures o.0 o.1 o.2 c.if-count-lt14.true starts)

pub returns-in-Ok : goal.returns-in-Ok
returns-in-Ok c =
    let a = c.args in
    let n = c.tidy-n.result in
    let o = listening _ n c.in_default.field-0 (sym c.listens.ensures ∙ c.in_default.is) in
    whole a.node n a.byte a.flash.now a.eeprom.now c.tidy-n.ensures o.0 o.1 o.2 c.if-count-lt14.false c.in-Ok.frame c.none_held-n.result _
    (sym c.judged.ensures ∙ c.in-Ok.is) c.none_held-n.ensures c.obeyed.ensures

pub returns-in-Err-judged : goal.returns-in-Err-judged
returns-in-Err-judged c =
    let a = c.args in
    let n = c.tidy-n.result in
    let o = listening _ n c.in_default.field-0 (sym c.listens.ensures ∙ c.in_default.is) in
    rw c.refused-in-Err-judged.ensures
    (bad a.node n a.byte a.flash.now a.eeprom.now c.tidy-n.ensures o.0 o.1 o.2 c.if-count-lt14.false c.in-Err-judged.kept
    (sym c.judged.ensures ∙ c.in-Err-judged.is))
