-- Demand two over the calls' real contracts (Calls.antt): what the rules say of a frame, a byte or a restart (crates/node_rules/proofs:
-- RequestTable, ProgrammingList, PairList, Restarting, Modes, Agreement) is what the call leaves, and all of it. Each contract is one
-- equation with the rules' step, so a law of the step is a law of the call.
-- Assumes nothing.
use mathlib.Core.Path.{◌≡◌, ◌∙◌, sym, ap}
use mathlib.Core.Bool.{Bool, true, false}
use mathlib.Core.List.{List, [], ◌∷◌, ◌++◌}
use Prim.Native.Nat.{ℕ, ◌%◌}
use lib.ListN.{length, get_or}
use Rattle.base.specs.Parts.{sum_of}
use Rattle.memory_address.specs.Ranges.{Exactly}
use Rattle.memory_start.specs.Plain.{Starts}
use Rattle.frame_rules.specs.Frame.{type_of}
use Rattle.frame_rules.specs.Wrapping.{wrapped_of, inner_of}
use Rattle.node_rules.specs.declared.Pin.{Pin}
use Rattle.node_rules.specs.declared.Pin.TheVariants.{CanAndUart}
use Rattle.node_rules.specs.declared.Mode.{Mode}
use Rattle.node_rules.specs.declared.Mode.TheVariants.{Normal}
use Rattle.node_rules.specs.declared.Choices.{Choices}
use Rattle.node_rules.specs.declared.Node.{Node}
use Rattle.node_rules.specs.Numbered.{Answer, UartAnswer, Restarted}
use Rattle.node_rules.specs.Record.{held_of, plain, tidied}
use Rattle.node_rules.specs.Requests.{is_programming}
use Rattle.node_rules.specs.Outcomes.{is_deaf}
use Rattle.node_rules.specs.Restart.{restart_step}
use Rattle.node_rules.specs.Step.{Step, after, can_step}
use Rattle.node_rules.specs.Uart.{UartStep, held_with, via_uart, uart_step}
use Rattle.node_rules.specs.Runs.{State, state, collected}
use Rattle.node_rules.proofs.Restarting.{marked_if, marked_only_if, started_exactly}
use Rattle.node_rules.proofs.Modes.{can_deaf, can_normal, can_programming, uart_deaf, uart_normal, uart_programming}
use Rattle.node_rules.proofs.Agreement.{agreement}
use Rattle.node.proofs.Calls.{restart_said, restart_with_said, can_frame_said, uart_byte_said, bytes_said}
use Rattle.node.proofs.Restarts.{done_lengths, restart_with_number, plain_restart_number}
use Rattle.node.specs.Calls.{Restart, RestartWith, CanFrame, UartByte, UartBytes}

-- ---- a CAN frame

module _ {n : Node} {f flash eeprom flash' eeprom' : List ℕ} {r : Answer} (c : CanFrame n f flash eeprom r flash' eeprom') where
  -- whatever is said of the frame, with x the whole step that it writes out, the call leaves
  pub can_frame_follows : (x : Step) → can_step n f flash eeprom ≡ x → (r ≡ x.answer) × (flash' ≡ x.flash) × (eeprom' ≡ x.eeprom)
  can_frame_follows x e =
      let q = can_frame_said c ∙ e in
      (ap (λ (y : Step). y.answer) q, ap (λ (y : Step). y.flash) q, ap (λ (y : Step). y.eeprom) q)

  -- error mode and waiting stay
  pub can_frame_deaf : is_deaf n.mode ≡ true → r.node ≡ tidied n
  can_frame_deaf d = ap (λ (y : Step). y.answer.node) (can_frame_said c) ∙ can_deaf n f flash eeprom d

  -- normal afterwards: normal before, with the same mark
  pub can_frame_normal : (b : Bool) → r.node.mode ≡ Normal b → n.mode ≡ Normal b
  can_frame_normal b e = can_normal n f flash eeprom b (sym (ap (λ (y : Step). y.answer.node.mode) (can_frame_said c)) ∙ e)

  -- programming afterwards and not before: 0x100
  pub can_frame_programming : is_programming n.mode ≡ false → is_programming r.node.mode ≡ true → type_of f ≡ 0x100
  can_frame_programming b e =
      can_programming n f flash eeprom b (sym (ap (λ (y : Step). is_programming y.answer.node.mode) (can_frame_said c)) ∙ e)

-- ---- a UART byte

module _ {n : Node} {b : ℕ} {flash eeprom flash' eeprom' : List ℕ} {r : UartAnswer} (c : UartByte n b flash eeprom r flash' eeprom') where
  pub uart_byte_follows : (x : UartStep) → uart_step n b flash eeprom ≡ x → (r ≡ x.answer) × (flash' ≡ x.flash) × (eeprom' ≡ x.eeprom)
  uart_byte_follows x e =
      let q = uart_byte_said c ∙ e in
      (ap (λ (y : UartStep). y.answer) q, ap (λ (y : UartStep). y.flash) q, ap (λ (y : UartStep). y.eeprom) q)

  pub uart_byte_deaf : is_deaf n.mode ≡ true → r.node ≡ tidied n
  uart_byte_deaf d = ap (λ (y : UartStep). y.answer.node) (uart_byte_said c) ∙ uart_deaf n b flash eeprom d

  pub uart_byte_normal : (m : Bool) → r.node.mode ≡ Normal m → n.mode ≡ Normal m
  uart_byte_normal m e = uart_normal n b flash eeprom m (sym (ap (λ (y : UartStep). y.answer.node.mode) (uart_byte_said c)) ∙ e)

  pub uart_byte_programming : is_programming n.mode ≡ false → is_programming r.node.mode ≡ true
      → type_of (inner_of (held_with (held_of (tidied n)) b)) ≡ 0x100
  uart_byte_programming p e =
      uart_programming n b flash eeprom p (sym (ap (λ (y : UartStep). is_programming y.answer.node.mode) (uart_byte_said c)) ∙ e)

-- ---- restart

-- what holds of a mode exactly if P does holds so of an equal one
exactly_said : {x y : Mode} {P : Type 0} → x ≡ y → Exactly (y ≡ Normal true) P → Exactly (x ≡ Normal true) P
exactly_said e h = (λ s. h.0 (sym e ∙ s), λ p. e ∙ h.1 p)

module _ {n : Node} {choices : Choices} {passed : Bool} {flash eeprom : List ℕ} {r : Restarted}
    (c : RestartWith n choices passed flash eeprom r) where
  pub restart_follows : (x : Restarted) → restart_step n choices passed flash eeprom ≡ x → r ≡ x
  restart_follows x e = restart_with_said c ∙ e

  mode_said : r.node.mode ≡ (restart_step n choices passed flash eeprom).node.mode
  mode_said = ap (λ (y : Restarted). y.node.mode) (restart_with_said c)

  -- firmware is marked started exactly when a restart reaches normal mode, the sums are equal and the three cells are 30 00 03
  pub restart_marks : length flash ≡ 65536 → length eeprom ≡ 1024 → (b : Bool) → r.node.mode ≡ Normal b → Starts flash → b ≡ true
  restart_marks fl el b e = marked_if n choices flash eeprom fl el passed b (sym mode_said ∙ e)

  pub restart_marks_only : length flash ≡ 65536 → length eeprom ≡ 1024 → r.node.mode ≡ Normal true → Starts flash
  restart_marks_only fl el e = marked_only_if n choices flash eeprom fl el passed (sym mode_said ∙ e)

  -- and with what it takes to reach normal mode, of every restart that gives 0
  pub restart_starts_exactly : r.number ≡ 0
      → Exactly (r.node.mode ≡ Normal true) ((passed ≡ true) × (get_or eeprom 0 0 ≡ 0xFF → ⊥) × Starts flash)
  restart_starts_exactly z =
      let full = done_lengths n choices passed flash eeprom r (restart_with_number c) z in
      exactly_said mode_said (started_exactly n choices flash eeprom full.0 full.1 passed)

-- a plain restart
module _ {n : Node} {pin : Pin} {passed : Bool} {flash eeprom : List ℕ} {r : Restarted} (c : Restart n pin passed flash eeprom r) where
  pub plain_restart_starts_exactly : r.number ≡ 0
      → Exactly (r.node.mode ≡ Normal true) ((passed ≡ true) × (get_or eeprom 0 0 ≡ 0xFF → ⊥) × Starts flash)
  plain_restart_starts_exactly z =
      let full = done_lengths n (plain pin) passed flash eeprom r (plain_restart_number c) z in
      exactly_said (ap (λ (y : Restarted). y.node.mode) (restart_said c))
      (started_exactly n (plain pin) flash eeprom full.0 full.1 passed)

-- ---- UART and CAN agree

-- the wrapped frame byte by byte: fourteen times 10 with no reply and memories untouched (collected-ten), and then what the same
-- frame's call on CAN leaves, the replies wrapped
pub ports_agree : {n : Node} {f flash eeprom flash' eeprom' : List ℕ} {r : Answer} {steps : List UartStep} {end : State}
    → CanFrame n f flash eeprom r flash' eeprom' → UartBytes (wrapped_of f) (state n flash eeprom) steps end
    → length flash ≡ 65536 → length eeprom ≡ 1024 → n.choices.pin ≡ CanAndUart → is_deaf n.mode ≡ false → held_of n ≡ [] → length f ≡ 12
    → steps ≡ collected (tidied n) [] (0xAA ∷ f ++ (sum_of f % 256 ∷ [])) flash eeprom ++ (via_uart (after r flash' eeprom') ∷ [])
ports_agree {n} {f} {flash} {eeprom} c bytes fl el pin hears empty l =
    (bytes_said bytes).0
    ∙ agreement n flash eeprom fl el pin hears empty f l
    ∙ ap (λ (x : Step). collected (tidied n) [] (0xAA ∷ f ++ (sum_of f % 256 ∷ [])) flash eeprom ++ (via_uart x ∷ [])) (sym
    (can_frame_said c))
