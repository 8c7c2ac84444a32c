-- A UART byte on the record's own fields: one byte more in the room behind those that are held is what the rule says is held with it, and
-- the fifteenth completes a frame. Each law is one return of `uart_byte`, over the tidied record.
-- Assumes nothing.
use mathlib.Core.Path.{◌≡◌, ◌∙◌, refl, sym, ap}
use mathlib.Core.Bool.{Bool, true, false, cond, false≢true}
use mathlib.Core.List.{List, [], ◌∷◌, ◌++◌}
use mathlib.Core.Logic.{◌⊎◌, ⊎_elim, inl, inr}
use Prim.Native.Nat.{ℕ, ◌+◌, ◌-◌, ◌≤◌, ◌<◌}
use native.Mathlib.Nat.{suc-ne-zero}
use native.Mathlib.Omega.{arith}
use lib.ListN.{length, set, replicate, length-append, length-replicate}
use lib.Seq.{set_at}
use borrow.Author.Tests.{ne_eqb, lt-ltb, le-ltb}
use Rattle.base.proofs.Choice.{cond_true, cond_false}
use Rattle.std.specs.Prelude.{Ok, Err}
use Rattle.memory_address.specs.Places.{full}
use Rattle.frame_rules.specs.Wrapping.{inner_of, rightly_wrapped}
use Rattle.node_rules.specs.declared.Pin.{Pin}
use Rattle.node_rules.specs.declared.Pin.TheVariants.{CanOnly, CanAndUart}
use Rattle.node_rules.specs.declared.Receiver.{Receiver}
use Rattle.node_rules.specs.declared.Node.{Node}
use Rattle.node_rules.specs.declared.Refusal.{Refusal}
use Rattle.node_rules.specs.declared.Refusal.TheVariants.{WrongLength, ClosedPort, TakesNoFrame}
use Rattle.node_rules.specs.InNumbers.{refusal_number}
use Rattle.node_rules.specs.Record.{padded, receiving, holding, held_of, tidied, Holdable}
use Rattle.node_rules.specs.Outcomes.{is_deaf}
use Rattle.node_rules.specs.Step.{done, can_step}
use Rattle.node_rules.specs.Uart.{UartStep, uart_after, held_with, incomplete, is_closed, held_after_bad, via_uart, uart_step, silent_on_uart, silent}
use Rattle.node_rules.proofs.Tidying.{held_holdable, holdable_few, room_behind, still_held, tidied_mode}
use Rattle.node_rules.proofs.Agreement.{with_byte_lem, byte_tidied}
use Rattle.node_record.proofs.Tidied.{with_receiver}
use Rattle.node_port.specs.Internal.Port.{listens, judged as judged_by}
use Rattle.node_port.proofs.Keeping.{held_behind}
use Rattle.node_port.proofs.Judging.{judged_right, judged_wrong}

pub open_pin : (p : Pin) → is_closed p ≡ false → p ≡ CanAndUart
open_pin CanOnly e = absurd (false≢true (sym e))
open_pin CanAndUart e = refl

-- ---- 1, 2 and 3

pub refused : (n t : Node) (b : ℕ) (flash eeprom : List ℕ) (refusal : Refusal) → t ≡ tidied n → listens (full flash eeprom) t ≡ Err refusal
    → uart_after (silent_on_uart (refusal_number refusal) t) flash eeprom ≡ uart_step n b flash eeprom
unfolding uart_step done
refused n t b flash eeprom refusal e l =
    go (full flash eeprom) refl (is_closed (tidied n).choices.pin) refl (is_deaf (tidied n).mode) refl
  where
    heard : listens (full flash eeprom) (tidied n) ≡ Err refusal
    heard = rw e at l

    here : (number : ℕ) → number ≡ refusal_number refusal → silent number (holding (tidied n) (held_of (tidied n))) flash eeprom ≡ uart_step n b flash eeprom
        → uart_after (silent_on_uart (refusal_number refusal) t) flash eeprom ≡ uart_step n b flash eeprom
    here number q h =
        ap (λ (x : Node). silent (refusal_number refusal) x flash eeprom) (e ∙ sym (still_held n))
        ∙ ap (λ (k : ℕ). silent k (holding (tidied n) (held_of (tidied n))) flash eeprom) (sym q) ∙ h

    go : (x : Bool) → full flash eeprom ≡ x → (y : Bool) → is_closed (tidied n).choices.pin ≡ y → (z : Bool) → is_deaf (tidied n).mode ≡ z
        → uart_after (silent_on_uart (refusal_number refusal) t) flash eeprom ≡ uart_step n b flash eeprom
    go false f y c z d = let q : Err WrongLength ≡ Err refusal = rw f at heard in here 1 (let r : WrongLength ≡ refusal = cc in ap refusal_number r) (rw f refl)
    go true f true c z d = let q : Err ClosedPort ≡ Err refusal = rw (f, c) at heard in here 2 (let r : ClosedPort ≡ refusal = cc in ap refusal_number r) (rw (f, c) refl)
    go true f false c true d = let q : Err TakesNoFrame ≡ Err refusal = rw (f, c, d) at heard in here 3 (let r : TakesNoFrame ≡ refusal = cc in ap refusal_number r) (rw (f, c, d) refl)
    go true f false c false d = let q : Ok tt ≡ Err refusal = rw (f, c, d) at heard in cc

-- ---- the room for held bytes has fifteen
pub room_of : (n t : Node) → t ≡ tidied n → length t.receiver.held ≡ 15
unfolding tidied
room_of n t e =
    let xs = held_of n in
    let few = holdable_few xs (held_holdable n.receiver) in
    ap (λ (x : Node). length x.receiver.held) e ∙ length-append xs (replicate (15 - length xs) 0)
    ∙ ap (λ (k : ℕ). length xs + k) (length-replicate {A = ℕ} (15 - length xs) 0) ∙ omega arith

-- ---- an open, running node

-- what the byte gives, where it makes ys held
abbrev judged : Node → List ℕ → List ℕ → List ℕ → UartStep
judged t ys flash eeprom =
    cond (incomplete ys) (silent 10 (holding t ys) flash eeprom)
    (cond (rightly_wrapped ys) (via_uart (can_step (holding t []) (inner_of ys) flash eeprom))
    (silent 11 (holding t (held_after_bad t.choices ys)) flash eeprom))

no_bytes : (xs : List ℕ) → length xs ≡ 0 → xs ≡ []
no_bytes [] e = refl
no_bytes (x ∷ xs) e = absurd (suc-ne-zero (length xs) e)

module _ (n t : Node) (b : ℕ) (flash eeprom : List ℕ) (e : t ≡ tidied n) (isFull : full flash eeprom ≡ true)
    (opened : is_closed t.choices.pin ≡ false) (hears : is_deaf t.mode ≡ false) where
  -- what is held
  abbrev xs : List ℕ
  xs = held_of n

  holds : Holdable xs
  holds = held_holdable n.receiver

  few : length xs ≤ 14
  few = holdable_few xs holds

  receives : t.receiver ≡ receiving xs
  unfolding tidied
  receives = ap (λ (x : Node). x.receiver) e

  counts : t.receiver.count ≡ length xs
  counts = ap (λ (r : Receiver). r.count) receives

  byte_judged : (ys : List ℕ) → held_with xs b ≡ ys → uart_step n b flash eeprom ≡ judged t ys flash eeprom
  unfolding tidied
  byte_judged ys h =
      byte_tidied n b flash eeprom
      ∙ with_byte_lem (tidied n) flash eeprom isFull (open_pin n.choices.pin (rw e at opened)) (rw e at hears)
      (tidied_mode n) xs b holds ys h
      ∙ ap (λ (x : Node). judged x ys flash eeprom) (sym e)

  -- 10: a byte that is skipped
  pub skipped : t.receiver.count ≡ 0 → (b ≡ 0xAA → ⊥) → uart_after (silent_on_uart 10 t) flash eeprom ≡ uart_step n b flash eeprom
  skipped z m =
      let none : xs ≡ [] = no_bytes xs (sym counts ∙ z) in
      ap (λ (r : Receiver). silent 10 (with_receiver t r) flash eeprom) (receives ∙ ap receiving none)
      ∙ sym (byte_judged [] (ap (λ (ys : List ℕ). held_with ys b) none ∙ rw (ne_eqb b 0xAA m) refl))

  -- 10: a byte that is held
  pub held : t.receiver.count < 14 → (t.receiver.count ≡ 0 → ⊥) ⊎ (b ≡ 0xAA)
      → uart_after
      (silent_on_uart 10 (with_receiver t (record { held = set t.receiver.held t.receiver.count b; count = t.receiver.count + 1 })))
      flash eeprom
      ≡ uart_step n b flash eeprom
  held l o =
      let ys = xs ++ (b ∷ []) in
      let k : length ys ≡ length xs + 1 = length-append xs (b ∷ []) in
      let j : length xs < 14 = rw counts at l in
      let more : incomplete ys ≡ true = lt-ltb (length ys) 15 (omega (arith, k)) in
      ap (λ (r : Receiver). silent 10 (with_receiver t (record {
        held = set r.held
            r.count b;
        count = r.count + 1;
      })) flash eeprom) receives
      ∙ ap (λ (h : List ℕ). silent 10 (with_receiver t (record { held = h; count = length xs + 1 })) flash eeprom) (room_behind xs b few)
      ∙ ap (λ (c : ℕ). silent 10 (with_receiver t (record { held = padded ys; count = c })) flash eeprom) (sym k)
      ∙ sym
      (byte_judged ys (held_behind xs b (⊎_elim (λ m. inl (λ z. m (counts ∙ z))) (λ a. inr a) o))
      ∙ cond_true (incomplete ys) (silent 10 (holding t ys) flash eeprom) _ more)

  -- ---- the fifteenth

  module _ (last : 14 ≤ t.receiver.count) where
    fourteen : length xs ≡ 14
    fourteen = let l : 14 ≤ length xs = rw counts at last in omega (arith, few)

    -- the fifteen bytes, and what they give
    whole_is : set t.receiver.held 14 b ≡ xs ++ (b ∷ [])
    whole_is =
        let k : 15 - length xs ≡ 1 = omega (arith, fourteen) in
        ap (λ (r : Receiver). set r.held 14 b) receives
        ∙ ap (λ (j : ℕ). set (xs ++ replicate j 0) 14 b) k
        ∙ set_at xs 0 [] b 14 fourteen

    whole_length : length (xs ++ (b ∷ [])) ≡ 15
    whole_length = length-append xs (b ∷ []) ∙ omega (arith, fourteen)

    whole_judged : uart_step n b flash eeprom
        ≡ cond (rightly_wrapped (set t.receiver.held 14 b))
        (via_uart (can_step (holding t []) (inner_of (set t.receiver.held 14 b)) flash eeprom))
        (silent 11 (holding t (held_after_bad t.choices (set t.receiver.held 14 b))) flash eeprom)
    whole_judged =
        let ys = xs ++ (b ∷ []) in
        byte_judged ys (held_behind xs b (inl (λ z. let w : ◌≡◌ {A = ℕ} 14 0 = sym fourteen ∙ z in omega arith)))
        ∙ cond_false (incomplete ys) (silent 10 (holding t ys) flash eeprom) _ (le-ltb (length ys) 15 (omega (arith, whole_length)))
        ∙ ap
        (λ (w : List ℕ). cond (rightly_wrapped w) (via_uart (can_step (holding t []) (inner_of w) flash eeprom)) (silent 11 (holding t
        (held_after_bad t.choices w)) flash eeprom))
        (sym whole_is)

    -- 11
    pub bad : (r : Receiver) → judged_by t.choices (set t.receiver.held 14 b) ≡ Err r
        → uart_after (silent_on_uart 11 (with_receiver t r)) flash eeprom ≡ uart_step n b flash eeprom
    bad r j =
        let w = judged_wrong t.choices (set t.receiver.held 14 b) r j in
        ap (λ (x : Receiver). silent 11 (with_receiver t x) flash eeprom) w.1
        ∙ sym (whole_judged ∙ cond_false (rightly_wrapped (set t.receiver.held 14 b)) _ _ w.0)

    -- a complete frame
    pub whole : (frame : List ℕ) (none : Receiver) (s : UartStep) → judged_by t.choices (set t.receiver.held 14 b) ≡ Ok frame → none ≡ receiving []
        → s ≡ via_uart (can_step (with_receiver t none) frame flash eeprom) → s ≡ uart_step n b flash eeprom
    whole frame none s j k e =
        let w = judged_right t.choices (set t.receiver.held 14 b) frame j in
        e
        ∙ ap (λ (x : Receiver). via_uart (can_step (with_receiver t x) frame flash eeprom)) k
        ∙ ap (λ (x : List ℕ). via_uart (can_step (holding t []) x flash eeprom)) w.1
        ∙ sym (whole_judged ∙ cond_true (rightly_wrapped (set t.receiver.held 14 b)) _ _ w.0)
