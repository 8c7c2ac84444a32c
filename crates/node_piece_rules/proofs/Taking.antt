-- The bytes that a piece takes, byte by byte: what is taken is what these bytes give, each before the last gives 10, and the last gives
-- what the piece answers. By recursion on the bytes; what a frame asks, and what 11 leaves, are not looked at.
-- Assumes nothing.
use mathlib.Core.Path.{◌≡◌, ◌∙◌, refl, sym, ap, subst}
use mathlib.Core.Bool.{Bool, true, false, cond}
use mathlib.Core.List.{List, [], ◌∷◌}
use mathlib.Core.Logic.{◌⊎◌, ⊎_elim}
use Prim.Native.Nat.{ℕ, zero, suc, ◌≤◌}
use native.Mathlib.Nat.{suc-ne-zero, suc_inj}
use native.Mathlib.Omega.{arith}
use lib.Dec.{eqb}
use lib.ListN.{length, get_or, take, replicate}
use borrow.Author.Tests.{eqb-true}
use Rattle.node_rules.specs.declared.Node.{Node}
use Rattle.node_rules.specs.Record.{tidied}
use Rattle.memory_address.specs.Places.{full}
use Rattle.node_rules.specs.Outcomes.{first_that}
use Rattle.node_rules.specs.Uart.{UartStep, uart_step, uart_outcomes, silent}
use Rattle.node_rules.specs.Runs.{State, state, end_of, behind_byte, bytes_in, AllTen}
use Rattle.node_rules.specs.Others.{left_on_uart, emptied}
use Rattle.node_rules.proofs.Numbers.{uart_number, uart_refused}
use Rattle.node_rules.proofs.StaysTidy.{uart_tidy}
use Rattle.node_piece_rules.specs.Piece.{taken_of, last_of}
use Rattle.node_piece_rules.proofs.Stopping.{by_taken}

-- ---- what is taken

-- a byte, and what stands behind it
abbrev at_once : State → ℕ → UartStep
at_once s b = uart_step s.node b s.flash s.eeprom

pub taken_bytes : (bs : List ℕ) (s : State) → bytes_in (take (length (taken_of (bytes_in bs s))) bs) s ≡ taken_of (bytes_in bs s)
taken_bytes [] s = refl
taken_bytes (b ∷ bs) s =
    let x = at_once s b in
    by_taken x (bytes_in bs (behind_byte x)) (λ (ts : List UartStep). bytes_in (take (length ts) (b ∷ bs)) s ≡ ts) (λ _. refl)
    (λ _. ap (λ (ts : List UartStep). x ∷ ts) (taken_bytes bs (behind_byte x))) (λ _. refl)

pub taken_few : (bs : List ℕ) (s : State) → length (taken_of (bytes_in bs s)) ≤ length bs
taken_few [] s = omega arith
taken_few (b ∷ bs) s =
    let x = at_once s b in
    let h = taken_few bs (behind_byte x) in
    by_taken x (bytes_in bs (behind_byte x)) (λ (ts : List UartStep). length ts ≤ suc (length bs)) (λ _. omega arith) (λ _. omega (arith, h))
    (λ _. omega arith)

-- ---- one byte that gives 10

-- no reply, both memories as they were, and of the record no more than what is held changes
ten_is : (m : Node) (b : ℕ) (flash eeprom : List ℕ) → eqb (uart_step m b flash eeprom).answer.number 10 ≡ true
    → uart_step m b flash eeprom ≡ silent 10 (left_on_uart 10 (tidied m) b) flash eeprom
ten_is m b flash eeprom t =
    let k : first_that (uart_outcomes (tidied m) (full flash eeprom) b) ≡ 10 =
    sym (uart_number m b flash eeprom) ∙ eqb-true (uart_step m b flash eeprom).answer.number 10 t in
    uart_refused m b flash eeprom (λ z. suc-ne-zero 9 (sym k ∙ z))
    ∙ ap (λ (number : ℕ). silent number (left_on_uart number (tidied m) b) flash eeprom) k

pub none_there : {A : Type 0} (xs : List A) → length xs ≡ 0 → xs ≡ []
none_there [] e = refl
none_there (x ∷ xs) e = absurd (suc-ne-zero (length xs) e)

-- ---- the last byte that is taken

module _ (flash eeprom : List ℕ) where
  -- what stands before the byte with j bytes in front of it
  abbrev before : List ℕ → State → ℕ → State
  before bs s j = end_of behind_byte s (bytes_in (take j bs) s)

  -- that byte's step is the last, the bytes in front of it gave 10, and of the record no more than what is held has changed
  abbrev LastIs : UartStep → List ℕ → Node → State → ℕ → Type 0
  LastIs s₀ bs m s j =
      (last_of s₀ (taken_of (bytes_in bs s)) ≡ uart_step (before bs s j).node (get_or bs j 0) flash eeprom)
      × (emptied (tidied (before bs s j).node) ≡ emptied (tidied m))
      × AllTen flash eeprom (bytes_in (take j bs) s)

  pub last_is : (bs : List ℕ) (m : Node) (s₀ : UartStep) (j : ℕ) → length (taken_of (bytes_in bs (state m flash eeprom))) ≡ suc j
      → LastIs s₀ bs m (state m flash eeprom) j
  last_is [] m s₀ j l = absurd (suc-ne-zero j (sym l))
  last_is (b ∷ bs) m s₀ zero l =
      let x = uart_step m b flash eeprom in
      by_taken x (bytes_in bs (behind_byte x))
      (λ (ts : List UartStep). length ts ≡ 1 → (last_of s₀ ts ≡ x) × (emptied (tidied m) ≡ emptied (tidied m)) × Unit {0})
      (λ _ k. absurd (suc-ne-zero 0 (sym k)))
      (λ _ k. (ap (last_of x) (none_there (taken_of (bytes_in bs (behind_byte x))) (suc_inj k)), refl, tt))
      (λ _ k. (refl, refl, tt))
      l
  last_is (b ∷ bs) m s₀ (suc j) l =
      let x = uart_step m b flash eeprom in
      let m' = left_on_uart 10 (tidied m) b in
      by_taken x (bytes_in bs (behind_byte x))
      (λ (ts : List UartStep). length ts ≡ suc (suc j)
      → (last_of s₀ ts ≡ uart_step (before bs (behind_byte x) j).node (get_or bs j 0) flash eeprom)
      × (emptied (tidied (before bs (behind_byte x) j).node) ≡ emptied (tidied m))
      × AllTen flash eeprom (x ∷ bytes_in (take j bs) (behind_byte x)))
      (λ _ k. absurd (suc-ne-zero (suc j) (sym k)))
      (λ t k.
      let e = ten_is m b flash eeprom t in
      let onward : State → Type 0 = λ z. length (taken_of (bytes_in bs z)) ≡ suc j → LastIs x bs m' z j in
      let h = subst onward (ap behind_byte (sym e)) (last_is bs m' x j) (suc_inj k) in
      let tidy : tidied m' ≡ m' =
      subst (λ (y : UartStep). tidied y.answer.node ≡ y.answer.node) e (uart_tidy m b flash eeprom) in (
        h.0,
        h.1 ∙ ap emptied tidy,
        subst (λ (y : UartStep). AllTen flash eeprom (y ∷ bytes_in (take j bs) (behind_byte x))) (sym e) (
          refl,
          refl,
          refl,
          refl,
          refl,
          h.2,
        ),
      ))
      (λ _ k. absurd (suc-ne-zero j (sym (suc_inj k))))
      l
