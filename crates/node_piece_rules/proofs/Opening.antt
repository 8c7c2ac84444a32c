-- A piece is refused with 1, 2 or 3 just where each byte is, and with the same answer; else no byte of it is. By the three conditions in
-- front of the outcome table, in which the byte has no say.
-- Assumes nothing.
use mathlib.Core.Path.{◌≡◌, ◌∙◌, refl, sym, ap, subst}
use mathlib.Core.Bool.{Bool, true, false, not}
use mathlib.Core.List.{List, [], ◌∷◌}
use mathlib.Core.Logic.{◌⊎◌, ⊎_elim, inl, inr}
use Prim.Native.Nat.{ℕ}
use native.Mathlib.Omega.{arith}
use lib.ListN.{length}
use borrow.Author.Tests.{lt-ltb}
use Rattle.base.proofs.Choice.{by_cond, cond_true}
use Rattle.memory_address.specs.Places.{full}
use Rattle.frame_rules.specs.Wrapping.{inner_of, rightly_wrapped}
use Rattle.node_rules.specs.declared.Pin.TheVariants.{CanAndUart}
use Rattle.node_rules.specs.declared.Node.{Node}
use Rattle.node_rules.specs.Record.{held_of, tidied}
use Rattle.node_rules.specs.Outcomes.{Outcome, outcome, first_that, is_deaf, frame_outcomes}
use Rattle.node_rules.specs.Step.{done}
use Rattle.node_rules.specs.Uart.{UartStep, held_with, is_closed, incomplete, held_outcomes, uart_step, silent}
use Rattle.node_rules.specs.Others.{emptied}
use Rattle.node_rules.proofs.Deciding.{Among, frame_among}
use Rattle.node_rules.proofs.Numbers.{uart_number}
use Rattle.node_rules.proofs.Modes.{tidy_deaf}
use Rattle.node_rules.proofs.Ruling.{sizes_full}
use Rattle.node_rules.proofs.Tidying.{held_holdable, holdable_few, still_held}
use Rattle.node_piece_rules.specs.Piece.{takes_none, no_byte}

-- what holds of each number of a list, and of 0, holds of the first that is met
first_among : (Q : ℕ → Type 0) (os : List Outcome) → Among Q os → Q 0 → Q (first_that os)
first_among Q [] a z = z
first_among Q (o ∷ os) a z = by_cond Q o.when o.number (first_that os) (λ _. a.0) (λ _. first_among Q os a.1 z)

module _ (n : Node) (flash eeprom : List ℕ) where
  -- no byte is taken, whatever it is
  abbrev pub Refused : Type 0
  Refused = (takes_none (no_byte n flash eeprom).answer.number ≡ true) × ((b : ℕ) → uart_step n b flash eeprom ≡ no_byte n flash eeprom)

  -- an open, running node over full memories: none of 1, 2 and 3
  abbrev pub Opened : Type 0
  Opened = (full flash eeprom ≡ true) × (is_closed (tidied n).choices.pin ≡ false) × (is_deaf (tidied n).mode ≡ false)

  module _ (o : Opened) where
    -- what is left of the table
    abbrev rest : List ℕ → List Outcome
    rest ys = outcome 10 (incomplete ys) ∷ outcome 11 (not (rightly_wrapped ys)) ∷ frame_outcomes (tidied n) (inner_of ys)

    behind_three : (ys : List ℕ) → first_that (held_outcomes (tidied n) (full flash eeprom) ys) ≡ first_that (rest ys)
    behind_three ys = rw (o.0, o.1, o.2) refl

    -- without a byte it gives 10
    pub open_waits : no_byte n flash eeprom ≡ silent 10 (tidied n) flash eeprom
    open_waits =
        let xs = held_of (tidied n) in
        let l = holdable_few xs (held_holdable (tidied n).receiver) in
        ap (λ (k : ℕ). silent k (tidied n) flash eeprom)
        (behind_three xs ∙ cond_true (incomplete xs) 10 _ (lt-ltb (length xs) 15 (omega (arith, l))))

    -- and refuses no byte
    pub open_hears : (b : ℕ) → takes_none (uart_step n b flash eeprom).answer.number ≡ false
    open_hears b =
        let ys = held_with (held_of (tidied n)) b in
        let Q : ℕ → Type 0 = λ k. takes_none k ≡ false in
        subst Q (sym (uart_number n b flash eeprom ∙ behind_three ys))
        (first_among Q (rest ys) (refl, (refl, frame_among Q (tidied n) (inner_of ys) refl refl refl refl refl refl)) refl)

  -- one or the other
  pub refused_or_open : Refused ⊎ Opened
  unfolding uart_step done
  refused_or_open = go (full flash eeprom) refl (is_closed (tidied n).choices.pin) refl (is_deaf (tidied n).mode) refl
    where
      go : (x : Bool) → full flash eeprom ≡ x → (y : Bool) → is_closed (tidied n).choices.pin ≡ y → (z : Bool)
          → is_deaf (tidied n).mode ≡ z → Refused ⊎ Opened
      go false f y c z d = inl (rw f refl, λ b. rw f (ap (λ (x : Node). silent 1 x flash eeprom) (still_held n)))
      go true f true c z d = inl (rw (f, c) refl, λ b. rw (f, c) (ap (λ (x : Node). silent 2 x flash eeprom) (still_held n)))
      go true f false c true d =
          inl (rw (f, c, d) refl, λ b. rw (f, c, d) (ap (λ (x : Node). silent 3 x flash eeprom) (still_held n)))
      go true f false c false d = inr (f, c, d)

-- without a byte: 1, 2 or 3, or else 10
pub no_byte_number : (n : Node) (flash eeprom : List ℕ)
    → (takes_none (no_byte n flash eeprom).answer.number ≡ true) ⊎ ((no_byte n flash eeprom).answer.number ≡ 10)
no_byte_number n flash eeprom =
    ⊎_elim (λ r. inl r.0) (λ o. inr (ap (λ (x : UartStep). x.answer.number) (open_waits n flash eeprom o)))
    (refused_or_open n flash eeprom)

-- open in the paper's words: both lengths, pin and mode
pub opens : (n : Node) (flash eeprom : List ℕ) → length flash ≡ 65536 → length eeprom ≡ 1024 → n.choices.pin ≡ CanAndUart
    → is_deaf n.mode ≡ false → Opened n flash eeprom
unfolding tidied
opens n flash eeprom fl el pin hears = (sizes_full flash eeprom fl el, ap is_closed pin, tidy_deaf n.mode ∙ hears)

-- and it is open whatever is held
pub still_open : (n m : Node) (flash eeprom : List ℕ) → emptied (tidied m) ≡ emptied (tidied n) → Opened n flash eeprom
    → Opened m flash eeprom
still_open n m flash eeprom e o = (
  o.0,
  ap (λ (x : Node). is_closed x.choices.pin) e ∙ o.1,
  ap (λ (x : Node). is_deaf x.mode) e ∙ o.2,
)
