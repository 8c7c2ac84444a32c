-- Answers one and two for a piece, over the call's real contract (Calls.antt), for any record, any bytes and lent memories of any length
-- and content. Each theorem is the law of crates/node_piece_rules at what the contract's equation says.
-- Assumes nothing.
use mathlib.Core.Path.{◌≡◌, ◌∙◌, sym, ap, subst}
use mathlib.Core.Bool.{Bool, true, false}
use mathlib.Core.List.{List, [], ◌∷◌}
use mathlib.Core.Logic.{◌⊎◌}
use Prim.Native.Nat.{ℕ, suc, ◌≤◌}
use lib.ListN.{length, get_or, take, replicate}
use Rattle.memory_address.specs.Rule.{protected}
use Rattle.frame_rules.specs.Frame.{type_of}
use Rattle.node_rules.specs.declared.Pin.TheVariants.{CanAndUart}
use Rattle.node_rules.specs.declared.Mode.TheVariants.{Normal}
use Rattle.node_rules.specs.declared.Node.{Node}
use Rattle.node_rules.specs.Record.{tidied}
use Rattle.node_rules.specs.Requests.{is_programming}
use Rattle.node_rules.specs.Outcomes.{is_deaf}
use Rattle.node_rules.specs.Uart.{UartStep, uart_after, uart_step, silent_on_uart}
use Rattle.node_rules.specs.Runs.{state, bytes_in, AllTen}
use Rattle.node_rules.specs.Others.{ButBootfl, ForOthers, LeftByOthersOnUart}
use Rattle.node_piece_rules.specs.Piece.{PieceAnswer, PieceStep, takes_none, no_byte, piece_step, node_before, frame_at}
use Rattle.node_piece_rules.proofs.Opening.{no_byte_number, opens}
use Rattle.node_piece_rules.proofs.Answering.{piece_none, piece_some, piece_refused, open_takes_one, open_empty}
use Rattle.node_piece_rules.proofs.Spoiling.{piece_silent, piece_protected, piece_lengths, piece_tidy, piece_stays, piece_normal_spares, piece_deaf, piece_normal, piece_programming, piece_others}
use Rattle.node.proofs.Calls.{uart_piece_said}
use Rattle.node.specs.Calls.{UartPiece}

module _ {n : Node} {p flash eeprom flash' eeprom' : List ℕ} {r : PieceAnswer} (c : UartPiece n p flash eeprom r flash' eeprom') where
  last_said : uart_after r.answer flash' eeprom' ≡ (piece_step n p flash eeprom).last
  last_said = ap (λ (x : PieceStep). x.last) (uart_piece_said c)

  taken_said : r.taken ≡ (piece_step n p flash eeprom).taken
  taken_said = ap (λ (x : PieceStep). x.taken) (uart_piece_said c)

  -- ---- what the answer is

  -- no byte taken: 1, 2, 3 or 10 by the outcome table, with no reply, the record tidied and both memories as they were
  pub uart_piece_none : r.taken ≡ 0 → uart_after r.answer flash' eeprom' ≡ no_byte n flash eeprom
  uart_piece_none z = last_said ∙ piece_none n p flash eeprom (sym taken_said ∙ z)

  pub uart_piece_none_number : r.taken ≡ 0 → (takes_none r.answer.number ≡ true) ⊎ (r.answer.number ≡ 10)
  uart_piece_none_number z =
      subst (λ (x : UartStep). (takes_none x.answer.number ≡ true) ⊎ (x.answer.number ≡ 10)) (sym (uart_piece_none z))
      (no_byte_number n flash eeprom)

  -- a byte taken with j in front of it, and no more: those gave 10, and it gave the answer
  pub uart_piece_some : (j : ℕ) → r.taken ≡ suc j
      → (uart_after r.answer flash' eeprom' ≡ uart_step (node_before n p flash eeprom j) (get_or p j 0) flash eeprom)
      × AllTen flash eeprom (bytes_in (take j p) (state n flash eeprom))
  uart_piece_some j t =
      let h = piece_some n p flash eeprom j (sym taken_said ∙ t) in
      (last_said ∙ h.0, h.2)

  -- 1, 2 and 3 take no byte, and leave the record tidied and both memories
  pub uart_piece_takes_none : takes_none r.answer.number ≡ true
      → (r.taken ≡ 0) × (r.answer ≡ silent_on_uart r.answer.number (tidied n)) × (flash' ≡ flash) × (eeprom' ≡ eeprom)
  uart_piece_takes_none t =
      let z = (piece_refused n p flash eeprom (sym (ap (λ (x : UartStep). takes_none x.answer.number) last_said) ∙ t)).0 in
      let e = uart_piece_none (taken_said ∙ z) in
      let k = ap (λ (x : UartStep). x.answer.number) e in (
        taken_said ∙ z,
        ap (λ (x : UartStep). x.answer) e ∙ ap (λ (number : ℕ). silent_on_uart number (tidied n)) (sym k),
        ap (λ (x : UartStep). x.flash) e,
        ap (λ (x : UartStep). x.eeprom) e,
      )

  -- ---- what it can spoil

  -- a number but 0: no reply, both memories as they were
  pub uart_piece_refused : (r.answer.number ≡ 0 → ⊥)
      → (r.answer.count ≡ 0) × (r.answer.replies ≡ replicate 30 0) × (flash' ≡ flash) × (eeprom' ≡ eeprom)
  uart_piece_refused h =
      let q = piece_silent n p flash eeprom (λ z. h (ap (λ (x : UartStep). x.answer.number) last_said ∙ z)) in (
        ap (λ (x : UartStep). x.answer.count) last_said ∙ q.0,
        ap (λ (x : UartStep). x.answer.replies) last_said ∙ q.1,
        ap (λ (x : UartStep). x.flash) last_said ∙ q.2,
        ap (λ (x : UartStep). x.eeprom) last_said ∙ q.3,
      )

  -- the protected cells of FLASH, and the lengths, whatever the number
  pub uart_piece_protected : (i : ℕ) → protected i ≡ true → get_or flash' i 0 ≡ get_or flash i 0
  uart_piece_protected i k = ap (λ (x : UartStep). get_or x.flash i 0) last_said ∙ piece_protected n p flash eeprom i k

  pub uart_piece_lengths : (length flash' ≡ length flash) × (length eeprom' ≡ length eeprom)
  uart_piece_lengths =
      let l = piece_lengths n p flash eeprom in (
        ap (λ (x : UartStep). length x.flash) last_said ∙ l.0,
        ap (λ (x : UartStep). length x.eeprom) last_said ∙ l.1,
      )

  -- in normal mode FLASH stays, and EEPROM but for BOOTFL
  pub uart_piece_normal_spares : (started : Bool) → n.mode ≡ Normal started → ButBootfl flash eeprom flash' eeprom'
  uart_piece_normal_spares started m =
      subst (λ (x : UartStep). ButBootfl flash eeprom x.flash x.eeprom) (sym last_said)
      (piece_normal_spares n p flash eeprom started m)

  -- what it returns is tidy
  pub uart_piece_is_tidy : tidied r.answer.node ≡ r.answer.node
  uart_piece_is_tidy = subst (λ (x : UartStep). tidied x.answer.node ≡ x.answer.node) (sym last_said) (piece_tidy n p flash eeprom)

  -- own numbers, fixed bytes and choices stay
  pub uart_piece_stays : (r.answer.node.plate ≡ n.plate) × (r.answer.node.choices ≡ n.choices)
  uart_piece_stays =
      let same = piece_stays n p flash eeprom in (
        ap (λ (x : UartStep). x.answer.node.plate) last_said ∙ same.0,
        ap (λ (x : UartStep). x.answer.node.choices) last_said ∙ same.1,
      )

  -- the frame that the last byte completes, or would complete, is for others
  pub uart_piece_others : (j : ℕ) → r.taken ≡ suc j → ForOthers n (frame_at n p flash eeprom j)
      → LeftByOthersOnUart (tidied n) (frame_at n p flash eeprom j) flash eeprom (uart_after r.answer flash' eeprom')
  uart_piece_others j t o =
      subst (LeftByOthersOnUart (tidied n) (frame_at n p flash eeprom j) flash eeprom) (sym last_said)
      (piece_others n p flash eeprom j (sym taken_said ∙ t) o)

  -- ---- the modes

  pub uart_piece_deaf : is_deaf n.mode ≡ true → r.answer.node ≡ tidied n
  uart_piece_deaf d = ap (λ (x : UartStep). x.answer.node) last_said ∙ piece_deaf n p flash eeprom d

  pub uart_piece_normal : (m : Bool) → r.answer.node.mode ≡ Normal m → n.mode ≡ Normal m
  uart_piece_normal m e = piece_normal n p flash eeprom m (sym (ap (λ (x : UartStep). x.answer.node.mode) last_said) ∙ e)

  pub uart_piece_programming : (j : ℕ) → r.taken ≡ suc j → is_programming n.mode ≡ false → is_programming r.answer.node.mode ≡ true
      → type_of (frame_at n p flash eeprom j) ≡ 0x100
  uart_piece_programming j t b e =
      piece_programming n p flash eeprom j (sym taken_said ∙ t) b
      (sym (ap (λ (x : UartStep). is_programming x.answer.node.mode) last_said) ∙ e)

-- ---- an open, running node

module _ {n : Node} {flash eeprom flash' eeprom' : List ℕ} {r : PieceAnswer} (fl : length flash ≡ 65536) (el : length eeprom ≡ 1024)
    (pin : n.choices.pin ≡ CanAndUart) (hears : is_deaf n.mode ≡ false) where
  -- an empty piece gives 10
  pub empty_piece : UartPiece n [] flash eeprom r flash' eeprom'
      → (r ≡ record { taken = 0; answer = silent_on_uart 10 (tidied n) }) × (flash' ≡ flash) × (eeprom' ≡ eeprom)
  empty_piece c =
      let e = uart_piece_said c ∙ open_empty n flash eeprom (opens n flash eeprom fl el pin hears) in (
        ap (λ (x : PieceStep). record { taken = x.taken; answer = x.last.answer }) e,
        ap (λ (x : PieceStep). x.last.flash) e,
        ap (λ (x : PieceStep). x.last.eeprom) e,
      )

  -- any other takes a byte at least
  pub takes_a_byte : {b : ℕ} {bs : List ℕ} → UartPiece n (b ∷ bs) flash eeprom r flash' eeprom' → 1 ≤ r.taken
  takes_a_byte {b} {bs} c =
      subst (λ (k : ℕ). 1 ≤ k) (sym (ap (λ (x : PieceStep). x.taken) (uart_piece_said c)))
      (open_takes_one n b bs flash eeprom (opens n flash eeprom fl el pin hears))
