-- What a piece answers: with no byte taken the answer of `no_byte`, else that of its last byte, before which each gave 10. So what holds of
-- each byte holds of a piece; and a piece takes none of its bytes just where each of them would be refused with 1, 2 or 3.
-- Assumes nothing.
use mathlib.Core.Path.{◌≡◌, ◌∙◌, refl, sym, ap, subst}
use mathlib.Core.Bool.{true, false, false≢true}
use mathlib.Core.List.{List, [], ◌∷◌}
use mathlib.Core.Logic.{◌⊎◌, ⊎_elim, inl, inr}
use Prim.Native.Nat.{ℕ, zero, suc, ◌≤◌}
use native.Mathlib.Omega.{arith}
use lib.ListN.{length, get_or, take}
use Rattle.node_rules.specs.declared.Node.{Node}
use Rattle.node_rules.specs.Record.{tidied}
use Rattle.node_rules.specs.Uart.{UartStep, uart_step, silent}
use Rattle.node_rules.specs.Runs.{state, end_of, behind_byte, bytes_in, AllTen}
use Rattle.node_rules.specs.Others.{emptied}
use Rattle.node_rules.proofs.Agreement.{byte_tidied}
use Rattle.node_rules.proofs.Tidying.{tidy_twice}
use Rattle.node_piece_rules.specs.Piece.{PieceStep, takes_none, taken_of, no_byte, last_taken, piece_step, node_before}
use Rattle.node_piece_rules.proofs.Stopping.{stops_before, by_taken}
use Rattle.node_piece_rules.proofs.Opening.{Refused, Opened, refused_or_open, open_waits, open_hears, still_open}
use Rattle.node_piece_rules.proofs.Taking.{none_there, last_is, taken_few}

module _ (n : Node) (bs flash eeprom : List ℕ) where
  -- no byte taken
  pub piece_none : (piece_step n bs flash eeprom).taken ≡ 0 → (piece_step n bs flash eeprom).last ≡ no_byte n flash eeprom
  unfolding piece_step
  piece_none e =
      ap (λ (ts : List UartStep). (last_taken (no_byte n flash eeprom) ts).last) (none_there (taken_of (bytes_in bs (state n flash eeprom))) e)

  -- a byte taken, with j in front of it, and no more: it gives the answer, those in front give 10, and of the record no more than what is
  -- held has changed before it
  pub piece_some : (j : ℕ) → (piece_step n bs flash eeprom).taken ≡ suc j
      → ((piece_step n bs flash eeprom).last ≡ uart_step (node_before n bs flash eeprom j) (get_or bs j 0) flash eeprom)
      × (emptied (tidied (node_before n bs flash eeprom j)) ≡ emptied (tidied n))
      × AllTen flash eeprom (bytes_in (take j bs) (state n flash eeprom))
  unfolding piece_step
  piece_some j e = last_is flash eeprom bs n (no_byte n flash eeprom) j e

  pub piece_few : (piece_step n bs flash eeprom).taken ≤ length bs
  unfolding piece_step
  piece_few = taken_few bs (state n flash eeprom)

  -- what holds of `no_byte`, and of any byte to the tidied node with other bytes held, holds of a piece
  pub piece_by : (P : UartStep → Type 0) → P (no_byte n flash eeprom)
      → ((m : Node) (b : ℕ) → emptied m ≡ emptied (tidied n) → tidied m ≡ m → P (uart_step m b flash eeprom))
      → P (piece_step n bs flash eeprom).last
  piece_by P none some = go (piece_step n bs flash eeprom).taken refl
    where
      go : (k : ℕ) → (piece_step n bs flash eeprom).taken ≡ k → P (piece_step n bs flash eeprom).last
      go zero e = subst P (sym (piece_none e)) none
      go (suc j) e =
          let h = piece_some j e in
          let m = node_before n bs flash eeprom j in
          subst P (sym (h.0 ∙ byte_tidied m (get_or bs j 0) flash eeprom)) (some (tidied m) (get_or bs j 0) h.1 (tidy_twice m))

  -- where bytes are refused none is taken
  pub refused_takes_none : Refused n flash eeprom → piece_step n bs flash eeprom ≡ last_taken (no_byte n flash eeprom) []
  unfolding piece_step
  refused_takes_none r = go bs
    where
      go : (cs : List ℕ)
          → last_taken (no_byte n flash eeprom) (taken_of (bytes_in cs (state n flash eeprom))) ≡ last_taken (no_byte n flash eeprom) []
      go [] = refl
      go (c ∷ cs) =
          let x = uart_step n c flash eeprom in
          ap (last_taken (no_byte n flash eeprom))
          (stops_before x (bytes_in cs (behind_byte x)) (ap (λ (y : UartStep). takes_none y.answer.number) (r.1 c) ∙ r.0))

  -- an open, running node refuses no piece
  pub open_never_refuses : Opened n flash eeprom → takes_none (piece_step n bs flash eeprom).last.answer.number ≡ false
  open_never_refuses o =
      piece_by (λ (x : UartStep). takes_none x.answer.number ≡ false)
      (ap (λ (x : UartStep). takes_none x.answer.number) (open_waits n flash eeprom o))
      (λ m b e t. open_hears m flash eeprom (still_open n m flash eeprom (ap emptied t ∙ e) o) b)

  -- 1, 2 or 3: no byte is taken, and any byte would be refused with that
  pub piece_refused : takes_none (piece_step n bs flash eeprom).last.answer.number ≡ true
      → ((piece_step n bs flash eeprom).taken ≡ 0)
      × ((b : ℕ) → uart_step n b flash eeprom ≡ (piece_step n bs flash eeprom).last)
  piece_refused t =
      ⊎_elim
      (λ r.
      let e = refused_takes_none r in
      (ap (λ (p : PieceStep). p.taken) e, λ b. r.1 b ∙ sym (ap (λ (p : PieceStep). p.last) e)))
      (λ o. absurd (false≢true (sym (open_never_refuses o) ∙ t)))
      (refused_or_open n flash eeprom)

  -- another outcome: the node is open, and running
  pub piece_heard : takes_none (piece_step n bs flash eeprom).last.answer.number ≡ false → Opened n flash eeprom
  piece_heard f =
      ⊎_elim
      (λ r.
      absurd (false≢true (sym f ∙ ap (λ (p : PieceStep). takes_none p.last.answer.number) (refused_takes_none r) ∙ r.0)))
      (λ o. o)
      (refused_or_open n flash eeprom)

-- an open, running node takes a byte at least of a piece that has one
pub open_takes_one : (n : Node) (b : ℕ) (bs flash eeprom : List ℕ) → Opened n flash eeprom
    → 1 ≤ (piece_step n (b ∷ bs) flash eeprom).taken
unfolding piece_step
open_takes_one n b bs flash eeprom o =
    let x = uart_step n b flash eeprom in
    by_taken x (bytes_in bs (behind_byte x)) (λ (ts : List UartStep). 1 ≤ length ts)
    (λ e. absurd (false≢true (sym (open_hears n flash eeprom o b) ∙ e))) (λ _. omega arith) (λ _. omega arith)

-- no byte: 10 of an open, running node
pub open_empty : (n : Node) (flash eeprom : List ℕ) → Opened n flash eeprom
    → piece_step n [] flash eeprom ≡ last_taken (silent 10 (tidied n) flash eeprom) []
unfolding piece_step
open_empty n flash eeprom o = ap (λ (x : UartStep). last_taken x []) (open_waits n flash eeprom o)
