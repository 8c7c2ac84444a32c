-- `node_piece::uart_piece` meets its contract: each return is one law of Returning.antt, of the tidied record.
-- Assumes nothing.
use mathlib.Core.Path.{◌∙◌, refl, sym, ap}
use Rattle.memory_address.specs.Places.{full}
use Rattle.node_rules.specs.InNumbers.{refusal_number}
use Rattle.node_rules.specs.declared.Node.{Node}
use Rattle.node_rules.specs.Record.{tidied}
use Rattle.node_rules.specs.Uart.{via_uart}
use Rattle.node_port.specs.Internal.Port.{listens}
use Rattle.node_piece_rules.specs.Piece.{PieceAnswer, piece_after}
use Rattle.node_piece.specs.Internal.Answers.{silent_piece}
use Rattle.node_piece.proofs.Returning.{listens_tidied, gathered_tidied, frame_tidied, refused, waits, whole}
use Rattle.node_piece.proofs.uart_piece.Goals as goal

pub returns-in-Err : goal.returns-in-Err
returns-in-Err c =
    let a = c.args in
    let f = full a.flash.now a.eeprom.now in
    ap (λ (x : PieceAnswer). piece_after x a.flash.now a.eeprom.now) c.silent.ensures
    ∙ (refused a.node c.tidy.result a.piece.now a.flash.now a.eeprom.now c.tidy.ensures c.in-Err.refusal
    (ap (listens f) c.tidy.ensures ∙ listens_tidied f a.node ∙ sym c.listens.ensures ∙ c.in-Err.is))

pub returns-in-Ok : goal.returns-in-Ok
returns-in-Ok c =
    let a = c.args in
    let g = c.gather-g in
    let none = c.none_held-n in
    whole a.node (tidied a.node) a.piece.now a.flash.now a.eeprom.now refl c.in_default.field-0
    (listens_tidied (full a.flash.now a.eeprom.now) a.node ∙ sym c.listens.ensures ∙ c.in_default.is)
    g.result (g.ensures ∙ gathered_tidied a.node a.piece.now) c.in-Ok.frame none.result _ c.in-Ok.is none.ensures
    (c.obeyed.ensures ∙ ap via_uart (frame_tidied a.node none.result c.in-Ok.frame a.flash.now a.eeprom.now none.ensures))

pub returns-in-Err-outcome : goal.returns-in-Err-outcome
returns-in-Err-outcome c =
    let a = c.args in
    let g = c.gather-g in
    let kept = c.in-Err-outcome.kept in
    ap (λ (x : PieceAnswer). piece_after x a.flash.now a.eeprom.now)
    (c.silent-in-Err-outcome.ensures ∙ ap (silent_piece g.result.taken (refusal_number kept.refusal)) c.receives.ensures)
    ∙ (waits a.node (tidied a.node) a.piece.now a.flash.now a.eeprom.now refl c.in_default.field-0
    (listens_tidied (full a.flash.now a.eeprom.now) a.node ∙ sym c.listens.ensures ∙ c.in_default.is)
    g.result (g.ensures ∙ gathered_tidied a.node a.piece.now) kept c.in-Err-outcome.is)
