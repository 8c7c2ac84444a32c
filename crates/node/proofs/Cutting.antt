-- "However the bytes are cut, with leftovers handed in again, the outcomes other than 10, replies, memories and end node (tidied) are those
-- of byte by byte, before the first 1, 2 or 3", over the real contracts of both calls (Calls.antt): by induction over the run of pieces,
-- with the law of one piece more (`cut_more`, crates/node_piece_rules). What 11 leaves is not looked at.
-- Assumes nothing.
use mathlib.Core.Path.{◌≡◌, ◌∙◌, refl, sym, ap, subst}
use mathlib.Core.Bool.{true, false}
use mathlib.Core.List.{List, [], ◌∷◌}
use Prim.Native.Nat.{ℕ, ◌+◌, ◌≤◌}
use native.Mathlib.Omega.{arith}
use lib.ListN.{length, take, drop, length-take, length-drop}
use lib.Seq.{take-nil, drop-drop}
use Rattle.node_rules.specs.Numbered.{UartAnswer}
use Rattle.node_rules.specs.Record.{tidied}
use Rattle.node_rules.specs.Uart.{UartStep, uart_after, uart_step}
use Rattle.node_rules.specs.Runs.{State, state, end_of, behind_byte, bytes_in}
use Rattle.node_rules.proofs.Agreement.{byte_tidied}
use Rattle.node_piece_rules.specs.Piece.{PieceAnswer, PieceStep, takes_none, piece_step, but_tens, taken_in_all, lasts_of, NoneRefused, NoneEmpty}
use Rattle.node_piece_rules.proofs.Answering.{piece_refused, piece_few}
use Rattle.node_piece_rules.proofs.Cutting.{tidied_state, Cut, cut_more, piece_gets_on, EachHeard, heard_left, heard_piece}
use Rattle.node.proofs.Pieces.{uart_piece_is_tidy}
use Rattle.node.proofs.Calls.{uart_byte_said, uart_piece_said, bytes_said}
use Rattle.node.specs.Calls.{UartByte, UartBytes, UartPiece, UartPieces, none, more}

-- what is left is what wasn't taken
pub left_over : {ps : List (List ℕ)} {rs left : List ℕ} {s end : State} {pieces : List PieceStep} → UartPieces ps rs s pieces left end
    → left ≡ drop (taken_in_all pieces) rs
left_over none = refl
left_over (more {rs = rs} {r = r} {steps = steps} k c rest) = left_over rest ∙ drop-drop (taken_in_all steps) r.taken rs

pub cut : {ps : List (List ℕ)} {rs left : List ℕ} {s end : State} {pieces : List PieceStep} → UartPieces ps rs s pieces left end
    → NoneRefused pieces → Cut rs s pieces end
cut none h = (refl, refl)
cut (more {rs = rs} {flash = flash} {eeprom = eeprom} {n = n} {steps = steps} {end = end} k c rest) h =
    let e = uart_piece_said c in
    let there : State → ℕ → Type 0 = λ z t. Cut (drop t rs) z steps end in
    subst (λ (x : PieceStep). Cut rs (state n flash eeprom) (x ∷ steps) end) (sym e)
    (cut_more n k rs flash eeprom steps end (sym (ap (λ (x : PieceStep). takes_none x.last.answer.number) e) ∙ h.0)
    (subst (λ (x : PieceStep). there (behind_byte x.last) x.taken) e (cut rest h.1)))

module _ {ps : List (List ℕ)} {rs left : List ℕ} {s end end' : State} {pieces : List PieceStep} {steps : List UartStep}
    (run : UartPieces ps rs s pieces left end) (heard : NoneRefused pieces)
    (bytes : UartBytes (take (taken_in_all pieces) rs) s steps end') where
  same : tidied_state end ≡ tidied_state end'
  same =
      let b = bytes_said bytes in
      (cut run heard).1 ∙ sym (ap tidied_state (b.1 ∙ ap (end_of behind_byte s) b.0))

  -- THE THEOREM: pieces of which none is refused, and the bytes that they took one by one
  pub cutting : (but_tens (lasts_of pieces) ≡ but_tens steps) × (end.flash ≡ end'.flash) × (end.eeprom ≡ end'.eeprom)
      × (tidied end.node ≡ tidied end'.node) × (left ≡ drop (taken_in_all pieces) rs)
  cutting = (
    (cut run heard).0 ∙ sym (ap but_tens (bytes_said bytes).0),
    ap (λ (z : State). z.flash) same,
    ap (λ (z : State). z.eeprom) same,
    ap (λ (z : State). z.node) same,
    left_over run,
  )

  -- at a 1, 2 or 3 no byte is taken, so that what is left stays what wasn't taken; and byte by byte the next one, whatever it is, gets that
  -- answer
  pub cutting_refused : {p flash' eeprom' flash₁ eeprom₁ : List ℕ} {r : PieceAnswer} {b : ℕ} {a : UartAnswer}
      → UartPiece end.node p end.flash end.eeprom r flash' eeprom' → takes_none r.answer.number ≡ true
      → UartByte end'.node b end'.flash end'.eeprom a flash₁ eeprom₁
      → (r.taken ≡ 0) × (r.answer ≡ a) × (flash' ≡ flash₁) × (eeprom' ≡ eeprom₁)
  cutting_refused {p} {flash'} {eeprom'} {flash₁} {eeprom₁} {r} {b} {a} c t d =
      let e = uart_piece_said c in
      let next : State → UartStep = λ z. uart_step z.node b z.flash z.eeprom in
      let h = piece_refused end.node p end.flash end.eeprom
      (sym (ap (λ (x : PieceStep). takes_none x.last.answer.number) e) ∙ t) in
      let both : uart_after r.answer flash' eeprom' ≡ uart_after a flash₁ eeprom₁ =
      ap (λ (x : PieceStep). x.last) e ∙ sym (h.1 b) ∙ byte_tidied end.node b end.flash end.eeprom ∙ ap next same
      ∙ sym (byte_tidied end'.node b end'.flash end'.eeprom) ∙ sym (uart_byte_said d) in (
        ap (λ (x : PieceStep). x.taken) e ∙ h.0,
        ap (λ (x : UartStep). x.answer) both,
        ap (λ (x : UartStep). x.flash) both,
        ap (λ (x : UartStep). x.eeprom) both,
      )

-- each piece that has a byte takes one at least, unless it is refused: so there are no more such calls than bytes
pub pieces_end : {ps : List (List ℕ)} {rs left : List ℕ} {s end : State} {pieces : List PieceStep} → UartPieces ps rs s pieces left end
    → NoneRefused pieces → NoneEmpty ps → length pieces + length left ≤ length rs
pieces_end none h m = omega arith
pieces_end (more {rs = rs} {flash = flash} {eeprom = eeprom} {n = n} {r = r} k c rest) h m =
    let e = uart_piece_said c in
    let p = take k rs in
    let one = piece_gets_on n p flash eeprom m.0 (sym (ap (λ (x : PieceStep). takes_none x.last.answer.number) e) ∙ h.0) in
    let few = piece_few n p flash eeprom in
    let is : r.taken ≡ (piece_step n p flash eeprom).taken = ap (λ (x : PieceStep). x.taken) e in
    let ih = pieces_end rest h.1 m.1 in
    omega (arith, one, few, is, ih, length-drop r.taken rs, length-take k rs)

-- behind a call the record is tidy
pub stays_tidy : {ps : List (List ℕ)} {rs left : List ℕ} {s end : State} {pieces : List PieceStep} → UartPieces ps rs s pieces left end
    → tidied s.node ≡ s.node → tidied end.node ≡ end.node
stays_tidy none h = h
stays_tidy (more k c rest) h = stays_tidy rest (uart_piece_is_tidy c)

-- ---- bytes of which none would be refused

-- pieces that each have a byte: none is refused
pub heard_throughout : {ps : List (List ℕ)} {rs left : List ℕ} {s end : State} {pieces : List PieceStep}
    → UartPieces ps rs s pieces left end → NoneEmpty ps → EachHeard (bytes_in rs s) → NoneRefused pieces
heard_throughout none m h = tt
heard_throughout (more {rs = rs} {flash = flash} {eeprom = eeprom} {n = n} {r = r} k c rest) m h =
    let e = uart_piece_said c in (
      ap (λ (x : PieceStep). takes_none x.last.answer.number) e
          ∙ heard_piece n (take k rs) rs flash eeprom (λ z. m.0 (ap (take k) z ∙ take-nil k)) h,
      heard_throughout rest m.1
          (subst (λ (x : PieceStep). EachHeard (bytes_in (drop x.taken rs) (behind_byte x.last))) (sym e)
          (heard_left n k rs flash eeprom h)),
    )

-- and where bytes are left the next piece isn't refused, be it empty
pub heard_next : {ps : List (List ℕ)} {rs left : List ℕ} {s end : State} {pieces : List PieceStep} → UartPieces ps rs s pieces left end
    → EachHeard (bytes_in rs s) → (left ≡ [] → ⊥) → {p flash' eeprom' : List ℕ} {r : PieceAnswer}
    → UartPiece end.node p end.flash end.eeprom r flash' eeprom' → takes_none r.answer.number ≡ false
heard_next (none {rs = rs} {s = s}) h l {p} c =
    ap (λ (x : PieceStep). takes_none x.last.answer.number) (uart_piece_said c)
    ∙ heard_piece s.node p rs s.flash s.eeprom l h
heard_next (more {rs = rs} {flash = flash} {eeprom = eeprom} {n = n} k d rest) h l c =
    heard_next rest
    (subst (λ (x : PieceStep). EachHeard (bytes_in (drop x.taken rs) (behind_byte x.last))) (sym (uart_piece_said d))
    (heard_left n k rs flash eeprom h)) l c
