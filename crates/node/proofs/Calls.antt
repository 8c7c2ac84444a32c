-- What the contract of each call says, by the parts of a call (specs/Calls.antt): each is one equation with the rules' step. So calls one
-- after the other are the rules' run.
-- Assumes nothing.
use mathlib.Core.Path.{◌≡◌, ◌∙◌, refl, ap}
use mathlib.Core.Bool.{Bool}
use mathlib.Core.List.{List, ◌∷◌}
use Prim.Native.Nat.{ℕ}
use Rattle.node_rules.specs.declared.Pin.{Pin}
use Rattle.node_rules.specs.declared.Choices.{Choices}
use Rattle.node_rules.specs.declared.Node.{Node}
use Rattle.node_rules.specs.Numbered.{Answer, UartAnswer, Restarted}
use Rattle.node_rules.specs.Record.{plain, fresh_node}
use Rattle.node_rules.specs.Restart.{restart_step}
use Rattle.node_rules.specs.Step.{Step, after, can_step}
use Rattle.node_rules.specs.Uart.{UartStep, uart_after, uart_step}
use Rattle.node_rules.specs.Runs.{State, end_of, behind_frame, frames_in, behind_byte, bytes_in}
use Rattle.node_piece_rules.specs.Piece.{PieceAnswer, piece_after, piece_step}
use Rattle.node.specs.Calls.{Fresh, Restart, RestartWith, CanFrame, UartByte, UartPiece, call, CanFrames, UartBytes, none, more}

pub fresh_said : {six : List ℕ} {n : Node} → Fresh six n → n ≡ fresh_node six
fresh_said (call κs a r s p) = p

pub restart_said : {n : Node} {pin : Pin} {passed : Bool} {flash eeprom : List ℕ} {r : Restarted} → Restart n pin passed flash eeprom r
    → r ≡ restart_step n (plain pin) passed flash eeprom
restart_said (call κs a r s p) = p

pub restart_with_said : {n : Node} {choices : Choices} {passed : Bool} {flash eeprom : List ℕ} {r : Restarted}
    → RestartWith n choices passed flash eeprom r → r ≡ restart_step n choices passed flash eeprom
restart_with_said (call κs a r s p) = p

pub can_frame_said : {n : Node} {f flash eeprom flash' eeprom' : List ℕ} {r : Answer} → CanFrame n f flash eeprom r flash' eeprom'
    → after r flash' eeprom' ≡ can_step n f flash eeprom
can_frame_said (call κs a r s p) = p

pub uart_byte_said : {n : Node} {b : ℕ} {flash eeprom flash' eeprom' : List ℕ} {r : UartAnswer} → UartByte n b flash eeprom r flash' eeprom'
    → uart_after r flash' eeprom' ≡ uart_step n b flash eeprom
uart_byte_said (call κs a r s p) = p

pub uart_piece_said : {n : Node} {p flash eeprom flash' eeprom' : List ℕ} {r : PieceAnswer} → UartPiece n p flash eeprom r flash' eeprom'
    → piece_after r flash' eeprom' ≡ piece_step n p flash eeprom
uart_piece_said (call κs a r s p) = p

-- ---- runs

pub frames_said : {fs : List (List ℕ)} {s end : State} {steps : List Step} → CanFrames fs s steps end
    → (steps ≡ frames_in fs s) × (end ≡ end_of behind_frame s steps)
frames_said none = (refl, refl)
frames_said (more {flash' = flash'} {eeprom' = eeprom'} {r = r} {fs = fs} c rest) =
    let h = frames_said rest in (
      ap (λ (t : List Step). after r flash' eeprom' ∷ t) h.0 ∙ ap (λ (x : Step). x ∷ frames_in fs (behind_frame x)) (can_frame_said c),
      h.1,
    )

pub bytes_said : {bs : List ℕ} {s end : State} {steps : List UartStep} → UartBytes bs s steps end
    → (steps ≡ bytes_in bs s) × (end ≡ end_of behind_byte s steps)
bytes_said none = (refl, refl)
bytes_said (more {bs = bs} {flash' = flash'} {eeprom' = eeprom'} {r = r} c rest) =
    let h = bytes_said rest in (
      ap (λ (t : List UartStep). uart_after r flash' eeprom' ∷ t) h.0
          ∙ ap (λ (x : UartStep). x ∷ bytes_in bs (behind_byte x)) (uart_byte_said c),
      h.1,
    )
