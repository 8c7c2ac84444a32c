-- Each call answers the number of the first outcome that holds, and a number but 0 fixes the rest: no reply, the node of its entry, both
-- memories as they were. Both hold by the laws of the outcome table, since a call is what the table decides, done.
-- Assumes nothing.
use mathlib.Core.Path.{◌≡◌, ap}
use mathlib.Core.List.{List}
use Prim.Native.Nat.{ℕ}
use native.Mathlib.Omega.{arith}
use Rattle.memory_address.specs.Places.{full}
use Rattle.frame_rules.specs.Wrapping.{inner_of}
use Rattle.node_rules.specs.declared.Node.{Node}
use Rattle.node_rules.specs.Numbered.{Effect}
use Rattle.node_rules.specs.Record.{held_of, tidied}
use Rattle.node_rules.specs.Outcomes.{first_that, frame_outcomes, can_outcomes, asked_of, decided}
use Rattle.node_rules.specs.Step.{after, done, can_step, silent_answer}
use Rattle.node_rules.specs.Uart.{uart_after, held_with, uart_outcomes, held_done, uart_step, silent_on_uart}
use Rattle.node_rules.specs.Others.{left_on_can, left_on_uart}
use Rattle.node_rules.proofs.Deciding.{unless_number, unless_refused_lem, unless_by, among_cases, frame_among, asked_of_zero}

module _ (n : Node) (f flash eeprom : List ℕ) where
  -- the outcome table for this frame
  abbrev number_on_can : ℕ
  number_on_can = first_that (can_outcomes (tidied n) (full flash eeprom) f)

  pub can_number : (can_step n f flash eeprom).answer.number ≡ first_that (can_outcomes (tidied n) (full flash eeprom) f)
  unfolding can_step done decided
  can_number = unless_number (can_outcomes (tidied n) (full flash eeprom) f) (asked_of (tidied n) f) (asked_of_zero (tidied n) f)

  pub can_refused : (first_that (can_outcomes (tidied n) (full flash eeprom) f) ≡ 0 → ⊥)
      → can_step n f flash eeprom
      ≡ after (silent_answer number_on_can (left_on_can number_on_can (tidied n))) flash eeprom
  unfolding can_step done decided
  can_refused m =
      ap (λ (e : Effect). done e (tidied n) f flash eeprom)
      (unless_refused_lem (can_outcomes (tidied n) (full flash eeprom) f) (asked_of (tidied n) f) m)

  -- a frame never gives 10
  pub can_never_ten : (can_step n f flash eeprom).answer.number ≡ 10 → ⊥
  unfolding can_step done decided
  can_never_ten =
      let Q : ℕ → Type 0 = λ number. number ≡ 10 → ⊥ in
      unless_by (λ (e : Effect). Q e.number) (can_outcomes (tidied n) (full flash eeprom) f) (asked_of (tidied n) f) (
        λ _ e. let z : ◌≡◌ {A = ℕ} 1 10 = e in omega arith,
        λ _. (
          λ _ e. let z : ◌≡◌ {A = ℕ} 3 10 = e in omega arith,
          λ _. among_cases Q (frame_outcomes (tidied n) f) (asked_of (tidied n) f)
              (frame_among Q (tidied n) f (λ e. omega arith) (λ e. omega arith) (λ e. omega arith) (λ e. omega arith) (λ e. omega arith)
              (λ e. omega arith)) (asked_of_zero (tidied n) f) (λ e. omega arith),
        ),
      )

module _ (n : Node) (b : ℕ) (flash eeprom : List ℕ) where
  -- what is held with the byte, and the outcome table for it
  abbrev with_byte : List ℕ
  with_byte = held_with (held_of (tidied n)) b

  abbrev number_on_uart : ℕ
  number_on_uart = first_that (uart_outcomes (tidied n) (full flash eeprom) b)

  pub uart_number : (uart_step n b flash eeprom).answer.number ≡ first_that (uart_outcomes (tidied n) (full flash eeprom) b)
  unfolding uart_step done
  uart_number =
      unless_number (uart_outcomes (tidied n) (full flash eeprom) b) (asked_of (tidied n) (inner_of with_byte))
      (asked_of_zero (tidied n) (inner_of with_byte))

  pub uart_refused : (first_that (uart_outcomes (tidied n) (full flash eeprom) b) ≡ 0 → ⊥)
      → uart_step n b flash eeprom
      ≡ uart_after (silent_on_uart number_on_uart (left_on_uart number_on_uart (tidied n) b)) flash eeprom
  unfolding uart_step done
  uart_refused m =
      ap (λ (e : Effect). held_done e (tidied n) with_byte flash eeprom)
      (unless_refused_lem (uart_outcomes (tidied n) (full flash eeprom) b) (asked_of (tidied n) (inner_of with_byte)) m)
