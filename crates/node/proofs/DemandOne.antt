-- Demand one over the calls' real contracts (Calls.antt), for any record, any bytes and lent memories of any length and content. Each
-- theorem is the law of crates/node_rules at what the contract's equation says.
-- Assumes nothing.
use mathlib.Core.Path.{◌≡◌, ◌∙◌, refl, sym, ap, subst}
use mathlib.Core.Bool.{Bool, true}
use mathlib.Core.List.{List}
use Prim.Native.Nat.{ℕ}
use lib.ListN.{length, get_or}
use Rattle.memory_address.specs.Places.{full}
use Rattle.memory_address.specs.Rule.{protected}
use Rattle.frame_rules.specs.Wrapping.{inner_of}
use Rattle.node_rules.specs.declared.Mode.TheVariants.{Normal}
use Rattle.node_rules.specs.declared.Choices.{Choices}
use Rattle.node_rules.specs.declared.Node.{Node}
use Rattle.node_rules.specs.Numbered.{Answer, UartAnswer, Restarted}
use Rattle.node_rules.specs.Record.{held_of, tidied}
use Rattle.node_rules.specs.Outcomes.{first_that, can_outcomes}
use Rattle.node_rules.specs.Step.{Step, after, silent_answer}
use Rattle.node_rules.specs.Uart.{UartStep, uart_after, held_with, uart_outcomes, silent_on_uart}
use Rattle.node_rules.specs.Others.{left_on_can, left_on_uart, ButBootfl, ForOthers, LeftByOthers, LeftByOthersOnUart}
use Rattle.node_rules.proofs.Numbers.{can_number, uart_number, can_refused, uart_refused}
use Rattle.node_rules.proofs.Spoiling.{can_protected, uart_protected, can_lengths, uart_lengths, can_normal_spares, uart_normal_spares}
use Rattle.node_rules.proofs.StaysTidy.{can_tidy, uart_tidy, restart_tidy, fresh_tidy}
use Rattle.node_rules.proofs.ForOthers.{can_others, uart_others}
use Rattle.node.proofs.Calls.{fresh_said, restart_with_said, can_frame_said, uart_byte_said}
use Rattle.node.proofs.Pieces.{uart_piece_protected, uart_piece_lengths}
use Rattle.node.specs.Calls.{Fresh, RestartWith, CanFrame, UartByte, OneCall, restarted, restarted_with, framed, heard, pieced}

-- ---- a call of can_frame: whatever its contract allows

module _ {n : Node} {f flash eeprom flash' eeprom' : List ℕ} {r : Answer} (c : CanFrame n f flash eeprom r flash' eeprom') where
  -- its number is that of the first outcome that holds
  pub can_frame_number : r.number ≡ first_that (can_outcomes (tidied n) (full flash eeprom) f)
  can_frame_number = ap (λ (x : Step). x.answer.number) (can_frame_said c) ∙ can_number n f flash eeprom

  -- a number but 0: no reply, the node of its entry, both memories as they were
  pub can_frame_refused : (r.number ≡ 0 → ⊥)
      → (r ≡ silent_answer r.number (left_on_can r.number (tidied n))) × (flash' ≡ flash) × (eeprom' ≡ eeprom)
  can_frame_refused h =
      let e = can_frame_number in
      let q = can_frame_said c ∙ can_refused n f flash eeprom (λ z. h (e ∙ z)) in (
        ap (λ (x : Step). x.answer) q ∙ ap (λ (k : ℕ). silent_answer k (left_on_can k (tidied n))) (sym e),
        ap (λ (x : Step). x.flash) q,
        ap (λ (x : Step). x.eeprom) q,
      )

  -- the protected cells of FLASH, and the lengths, whatever the number
  pub can_frame_protected : (i : ℕ) → protected i ≡ true → get_or flash' i 0 ≡ get_or flash i 0
  can_frame_protected i p = ap (λ (x : Step). get_or x.flash i 0) (can_frame_said c) ∙ can_protected n f flash eeprom i p

  pub can_frame_lengths : (length flash' ≡ length flash) × (length eeprom' ≡ length eeprom)
  can_frame_lengths =
      let l = can_lengths n f flash eeprom in
      (ap (λ (x : Step). length x.flash) (can_frame_said c) ∙ l.0, ap (λ (x : Step). length x.eeprom) (can_frame_said c) ∙ l.1)

  -- in normal mode FLASH stays, and EEPROM but for BOOTFL
  pub can_frame_normal_spares : (started : Bool) → n.mode ≡ Normal started → ButBootfl flash eeprom flash' eeprom'
  can_frame_normal_spares started m =
      subst (λ (x : Step). ButBootfl flash eeprom x.flash x.eeprom) (sym (can_frame_said c))
      (can_normal_spares n started f flash eeprom m)

  -- what it returns is tidy
  pub can_frame_is_tidy : tidied r.node ≡ r.node
  can_frame_is_tidy =
      subst (λ (x : Step). tidied x.answer.node ≡ x.answer.node) (sym (can_frame_said c)) (can_tidy n f flash eeprom)

  -- a frame in which neither (D2, D3) nor the frame's module and group are the own numbers
  pub can_frame_others : ForOthers n f → LeftByOthers (tidied n) f flash eeprom (after r flash' eeprom')
  can_frame_others o = subst (LeftByOthers (tidied n) f flash eeprom) (sym (can_frame_said c)) (can_others n f flash eeprom o)

-- ---- a call of uart_byte

module _ {n : Node} {b : ℕ} {flash eeprom flash' eeprom' : List ℕ} {r : UartAnswer} (c : UartByte n b flash eeprom r flash' eeprom') where
  pub uart_byte_number : r.number ≡ first_that (uart_outcomes (tidied n) (full flash eeprom) b)
  uart_byte_number = ap (λ (x : UartStep). x.answer.number) (uart_byte_said c) ∙ uart_number n b flash eeprom

  pub uart_byte_refused : (r.number ≡ 0 → ⊥)
      → (r ≡ silent_on_uart r.number (left_on_uart r.number (tidied n) b)) × (flash' ≡ flash) × (eeprom' ≡ eeprom)
  uart_byte_refused h =
      let e = uart_byte_number in
      let q = uart_byte_said c ∙ uart_refused n b flash eeprom (λ z. h (e ∙ z)) in (
        ap (λ (x : UartStep). x.answer) q ∙ ap (λ (k : ℕ). silent_on_uart k (left_on_uart k (tidied n) b)) (sym e),
        ap (λ (x : UartStep). x.flash) q,
        ap (λ (x : UartStep). x.eeprom) q,
      )

  pub uart_byte_protected : (i : ℕ) → protected i ≡ true → get_or flash' i 0 ≡ get_or flash i 0
  uart_byte_protected i p = ap (λ (x : UartStep). get_or x.flash i 0) (uart_byte_said c) ∙ uart_protected n b flash eeprom i p

  pub uart_byte_lengths : (length flash' ≡ length flash) × (length eeprom' ≡ length eeprom)
  uart_byte_lengths =
      let l = uart_lengths n b flash eeprom in (
        ap (λ (x : UartStep). length x.flash) (uart_byte_said c) ∙ l.0,
        ap (λ (x : UartStep). length x.eeprom) (uart_byte_said c)
            ∙ l.1,
      )

  pub uart_byte_normal_spares : (started : Bool) → n.mode ≡ Normal started → ButBootfl flash eeprom flash' eeprom'
  uart_byte_normal_spares started m =
      subst (λ (x : UartStep). ButBootfl flash eeprom x.flash x.eeprom) (sym (uart_byte_said c))
      (uart_normal_spares n started b flash eeprom m)

  pub uart_byte_is_tidy : tidied r.node ≡ r.node
  uart_byte_is_tidy =
      subst (λ (x : UartStep). tidied x.answer.node ≡ x.answer.node) (sym (uart_byte_said c)) (uart_tidy n b flash eeprom)

  -- of the frame that the byte completes, or would complete
  pub uart_byte_others : ForOthers n (inner_of (held_with (held_of (tidied n)) b))
      → LeftByOthersOnUart (tidied n) (inner_of (held_with (held_of (tidied n)) b)) flash eeprom (uart_after r flash' eeprom')
  uart_byte_others o =
      subst (LeftByOthersOnUart (tidied n) (inner_of (held_with (held_of (tidied n)) b)) flash eeprom) (sym (uart_byte_said c))
      (uart_others n b flash eeprom o)

-- ---- what the others return is tidy

pub fresh_is_tidy : {six : List ℕ} {n : Node} → Fresh six n → tidied n ≡ n
fresh_is_tidy {six} c = subst (λ (x : Node). tidied x ≡ x) (sym (fresh_said c)) (fresh_tidy six)

pub restart_with_is_tidy : {n : Node} {choices : Choices} {passed : Bool} {flash eeprom : List ℕ} {r : Restarted}
    → RestartWith n choices passed flash eeprom r → tidied r.node ≡ r.node
restart_with_is_tidy {n} {choices} {passed} {flash} {eeprom} c =
    subst (λ (x : Restarted). tidied x.node ≡ x.node) (sym (restart_with_said c)) (restart_tidy n choices passed flash eeprom)

-- ---- one call of any kind: the protected cells of FLASH, and the lengths

pub one_call_protected : {flash eeprom flash' eeprom' : List ℕ} → OneCall flash eeprom flash' eeprom' → (i : ℕ) → protected i ≡ true
    → get_or flash' i 0 ≡ get_or flash i 0
one_call_protected (restarted c) i p = refl
one_call_protected (restarted_with c) i p = refl
one_call_protected (framed c) i p = can_frame_protected c i p
one_call_protected (heard c) i p = uart_byte_protected c i p
one_call_protected (pieced c) i p = uart_piece_protected c i p

pub one_call_lengths : {flash eeprom flash' eeprom' : List ℕ} → OneCall flash eeprom flash' eeprom'
    → (length flash' ≡ length flash) × (length eeprom' ≡ length eeprom)
one_call_lengths (restarted c) = (refl, refl)
one_call_lengths (restarted_with c) = (refl, refl)
one_call_lengths (framed c) = can_frame_lengths c
one_call_lengths (heard c) = uart_byte_lengths c
one_call_lengths (pieced c) = uart_piece_lengths c
