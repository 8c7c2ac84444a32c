-- "They stay until the next restart, whatever is written meanwhile", over the calls' real contracts (Calls.antt): own numbers, fixed bytes
-- and choices are as they were after any frame, any byte and any piece, and after any run of them. Each contract is one equation with the
-- rules' step, so the law of the step (Staying, of node_rules) is a law of the call.
-- Assumes nothing.
use mathlib.Core.Path.{◌≡◌, ◌∙◌, refl, ap}
use mathlib.Core.Bool.{Bool}
use mathlib.Core.List.{List}
use Prim.Native.Nat.{ℕ}
use Rattle.node_rules.specs.declared.Choices.{Choices}
use Rattle.node_rules.specs.declared.Node.{Node}
use Rattle.node_rules.specs.Numbered.{Answer, UartAnswer, Restarted}
use Rattle.node_rules.specs.Step.{Step}
use Rattle.node_rules.specs.Uart.{UartStep}
use Rattle.node_rules.specs.Restart.{plate_read}
use Rattle.node_rules.proofs.Staying.{can_stays, uart_stays}
use Rattle.node.proofs.Calls.{can_frame_said, uart_byte_said}
use Rattle.node.specs.Calls.{RestartWith, CanFrame, UartByte, NoRestart, none, framed, heard, pieced}
use Rattle.node.proofs.Pieces.{uart_piece_stays}
use Rattle.node.proofs.Restarts.{restart_with_done}

-- a frame: the plate, with own numbers and fixed bytes, and the choices
pub can_frame_stays : {n : Node} {f flash eeprom flash' eeprom' : List ℕ} {r : Answer} → CanFrame n f flash eeprom r flash' eeprom'
    → (r.node.plate ≡ n.plate) × (r.node.choices ≡ n.choices)
can_frame_stays {n} {f} {flash} {eeprom} c =
    let same = can_stays n f flash eeprom in (
      ap (λ (x : Step). x.answer.node.plate) (can_frame_said c) ∙ same.0,
      ap (λ (x : Step). x.answer.node.choices) (can_frame_said c) ∙ same.1,
    )

-- a byte
pub uart_byte_stays : {n : Node} {b : ℕ} {flash eeprom flash' eeprom' : List ℕ} {r : UartAnswer}
    → UartByte n b flash eeprom r flash' eeprom' → (r.node.plate ≡ n.plate) × (r.node.choices ≡ n.choices)
uart_byte_stays {n} {b} {flash} {eeprom} c =
    let same = uart_stays n b flash eeprom in (
      ap (λ (x : UartStep). x.answer.node.plate) (uart_byte_said c) ∙ same.0,
      ap (λ (x : UartStep). x.answer.node.choices) (uart_byte_said c) ∙ same.1,
    )

pub no_restart_stays : {n n' : Node} {flash eeprom flash' eeprom' : List ℕ} → NoRestart n flash eeprom n' flash' eeprom'
    → (n'.plate ≡ n.plate) × (n'.choices ≡ n.choices)
no_restart_stays none = (refl, refl)
no_restart_stays (framed c rest) =
    let k = no_restart_stays rest in
    let one = can_frame_stays c in
    (k.0 ∙ one.0, k.1 ∙ one.1)
no_restart_stays (heard c rest) =
    let k = no_restart_stays rest in
    let one = uart_byte_stays c in
    (k.0 ∙ one.0, k.1 ∙ one.1)
no_restart_stays (pieced c rest) =
    let k = no_restart_stays rest in
    let one = uart_piece_stays c in
    (k.0 ∙ one.0, k.1 ∙ one.1)

-- a restart that gave 0, and then any frames, bytes and pieces: the own numbers are those that EEPROM held at the restart, the fixed bytes
-- those of before it, and the choices its own
pub from_restart : {n n' : Node} {choices : Choices} {passed : Bool} {flash eeprom flash' eeprom' : List ℕ} {r : Restarted}
    → RestartWith n choices passed flash eeprom r → r.number ≡ 0 → NoRestart r.node flash eeprom n' flash' eeprom'
    → (n'.plate ≡ plate_read n.plate eeprom) × (n'.choices ≡ choices)
from_restart c z run =
    let k = no_restart_stays run in
    let e = restart_with_done c z in
    (k.0 ∙ ap (λ (x : Restarted). x.node.plate) e, k.1 ∙ ap (λ (x : Restarted). x.node.choices) e)
