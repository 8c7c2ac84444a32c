-- Pieces one after the other, each handed any first part of the bytes that are left, against the same bytes one by one: the outcomes other
-- than 10 and what stands at the end are the same. A piece is the bytes that it takes: before its last each gives 10, and behind it stands
-- what stands behind those bytes, tidied, to which the next byte does what it does to the untidied. What a frame asks, and what 11 leaves,
-- are not looked at.
-- Assumes nothing.
use mathlib.Core.Path.{◌≡◌, ◌∙◌, refl, sym, ap, subst}
use mathlib.Core.Bool.{Bool, true, false, cond, false≢true}
use mathlib.Core.List.{List, [], ◌∷◌, ◌++◌}
use mathlib.Core.Logic.{⊎_elim}
use Prim.Native.Nat.{ℕ, ◌+◌, ◌≤◌}
use native.Mathlib.Omega.{arith}
use lib.Dec.{eqb}
use lib.ListN.{take, drop, length-take, take-append-drop}
use lib.Seq.{take-take, take-add}
use Rattle.node_rules.specs.declared.Node.{Node}
use Rattle.node_rules.specs.Record.{tidied}
use Rattle.node_rules.specs.Uart.{UartStep, uart_step, silent}
use Rattle.node_rules.specs.Runs.{State, state, end_of, behind_byte, bytes_in}
use Rattle.node_rules.proofs.Running.{steps_append, end_append}
use Rattle.node_rules.proofs.Agreement.{byte_tidied}
use Rattle.node_rules.proofs.Tidying.{tidy_twice}
use Rattle.node_rules.proofs.StaysTidy.{uart_tidy}
use Rattle.node_piece_rules.specs.Piece.{PieceStep, takes_none, taken_of, no_byte, last_of, piece_step, but_tens, taken_in_all, lasts_of}
use Rattle.node_piece_rules.proofs.Stopping.{by_taken}
use Rattle.node_piece_rules.proofs.Opening.{refused_or_open, open_waits}
use Rattle.node_piece_rules.proofs.Taking.{taken_bytes}
use Rattle.node_piece_rules.proofs.Answering.{piece_few, piece_by, open_never_refuses, piece_heard, open_takes_one}

-- ---- the outcomes other than 10

pub tens_append : (xs ys : List UartStep) → but_tens (xs ++ ys) ≡ but_tens xs ++ but_tens ys
tens_append [] ys = refl
tens_append (x ∷ xs) ys = go (eqb x.answer.number 10) (tens_append xs ys)
  where
    go : (b : Bool) → but_tens (xs ++ ys) ≡ but_tens xs ++ but_tens ys
        → cond b (but_tens (xs ++ ys)) (x ∷ but_tens (xs ++ ys)) ≡ cond b (but_tens xs) (x ∷ but_tens xs) ++ but_tens ys
    go true h = h
    go false h = ap (λ (zs : List UartStep). x ∷ zs) h

-- of what is taken only the last can be one of them
only_last : (s₀ : UartStep) (ss : List UartStep) → (taken_of ss ≡ [] → eqb s₀.answer.number 10 ≡ true)
    → but_tens (taken_of ss) ≡ but_tens (last_of s₀ (taken_of ss) ∷ [])
only_last s₀ [] q = rw (q refl) refl
only_last s₀ (s ∷ ss) q =
    by_taken s ss
    (λ (ts : List UartStep). (ts ≡ [] → eqb s₀.answer.number 10 ≡ true) → but_tens ts ≡ but_tens (last_of s₀ ts ∷ []))
    (λ _ k. rw (k refl) refl)
    (λ t k. rw t (only_last s ss (λ _. t)))
    (λ f k. rw f refl)
    q

-- ---- tidied or not, the bytes that come do the same

abbrev pub tidied_state : State → State
tidied_state s = state (tidied s.node) s.flash s.eeprom

pub from_tidied : (bs : List ℕ) (s : State) → bytes_in bs (tidied_state s) ≡ bytes_in bs s
from_tidied [] s = refl
from_tidied (b ∷ bs) s =
    ap (λ (x : UartStep). x ∷ bytes_in bs (behind_byte x)) (sym (byte_tidied s.node b s.flash s.eeprom))

end_tidied : (ss : List UartStep) (s : State) → tidied_state (end_of behind_byte (tidied_state s) ss) ≡ tidied_state (end_of behind_byte s ss)
end_tidied [] s = ap (λ (n : Node). state n s.flash s.eeprom) (tidy_twice s.node)
end_tidied (x ∷ ss) s = refl

-- ---- one piece

last_behind : (s₀ x : UartStep) (s : State) (ss : List UartStep) → end_of behind_byte s (x ∷ ss) ≡ behind_byte (last_of s₀ (x ∷ ss))
last_behind s₀ x s [] = refl
last_behind s₀ x s (y ∷ ss) = last_behind x y (behind_byte x) ss

module _ (n : Node) (p flash eeprom : List ℕ) where
  abbrev here : State
  here = state n flash eeprom

  -- the bytes that are taken
  abbrev bytes : List ℕ
  bytes = take (piece_step n p flash eeprom).taken p

  bytes_taken : bytes_in bytes here ≡ taken_of (bytes_in p here)
  unfolding piece_step
  bytes_taken = taken_bytes p here

  last_is_tidy : tidied (piece_step n p flash eeprom).last.answer.node ≡ (piece_step n p flash eeprom).last.answer.node
  last_is_tidy =
      piece_by n p flash eeprom (λ (x : UartStep). tidied x.answer.node ≡ x.answer.node) (tidy_twice n)
      (λ m b _ _. uart_tidy m b flash eeprom)

  -- behind a piece stands what stands behind those bytes, tidied
  behind_piece : behind_byte (piece_step n p flash eeprom).last ≡ tidied_state (end_of behind_byte here (bytes_in bytes here))
  unfolding piece_step
  behind_piece =
      go (taken_of (bytes_in p here)) refl ∙ ap (λ (ss : List UartStep). tidied_state (end_of behind_byte here ss)) (sym bytes_taken)
    where
      go : (ss : List UartStep) → taken_of (bytes_in p here) ≡ ss
          → behind_byte (last_of (no_byte n flash eeprom) (taken_of (bytes_in p here)))
          ≡ tidied_state (end_of behind_byte here (taken_of (bytes_in p here)))
      go [] e = rw e refl
      go (x ∷ ss) e =
          let y = last_of (no_byte n flash eeprom) (taken_of (bytes_in p here)) in
          ap (λ (m : Node). state m y.flash y.eeprom) (sym last_is_tidy)
          ∙ ap tidied_state
          (ap (λ (ts : List UartStep). behind_byte (last_of (no_byte n flash eeprom) ts)) e
          ∙ sym (last_behind (no_byte n flash eeprom) x here ss)
          ∙ ap (end_of behind_byte here) (sym e))

  -- and its outcome is those bytes' only one other than 10
  piece_tells : takes_none (piece_step n p flash eeprom).last.answer.number ≡ false
      → but_tens (bytes_in bytes here) ≡ but_tens ((piece_step n p flash eeprom).last ∷ [])
  unfolding piece_step
  piece_tells f =
      ap but_tens bytes_taken
      ∙ only_last (no_byte n flash eeprom) (bytes_in p here)
      (λ _. ap (λ (x : UartStep). eqb x.answer.number 10) (open_waits n flash eeprom (piece_heard n p flash eeprom f)))

-- ---- pieces

-- what is said of pieces that were handed parts of rs from s on, with `end` behind the last
abbrev pub Cut : List ℕ → State → List PieceStep → State → Type 0
Cut rs s ps end =
    (but_tens (lasts_of ps) ≡ but_tens (bytes_in (take (taken_in_all ps) rs) s))
    × (tidied_state end ≡ tidied_state (end_of behind_byte s (bytes_in (take (taken_in_all ps) rs) s)))

-- a piece takes none but the bytes that it is handed
takes_of : (n : Node) (k : ℕ) (rs flash eeprom : List ℕ)
    → take (piece_step n (take k rs) flash eeprom).taken (take k rs) ≡ take (piece_step n (take k rs) flash eeprom).taken rs
takes_of n k rs flash eeprom =
    let few = piece_few n (take k rs) flash eeprom in
    take-take (piece_step n (take k rs) flash eeprom).taken k rs (omega (arith, few, length-take k rs))

-- one piece more in front, handed the first k of rs
pub cut_more : (n : Node) (k : ℕ) (rs flash eeprom : List ℕ) (ps : List PieceStep) (end : State)
    → takes_none (piece_step n (take k rs) flash eeprom).last.answer.number ≡ false
    → Cut (drop (piece_step n (take k rs) flash eeprom).taken rs) (behind_byte (piece_step n (take k rs) flash eeprom).last) ps end
    → Cut rs (state n flash eeprom) (piece_step n (take k rs) flash eeprom ∷ ps) end
cut_more n k rs flash eeprom ps end f ih =
    let s = state n flash eeprom in
    let p = take k rs in
    let one = piece_step n p flash eeprom in
    let xs = take one.taken p in
    let ys = take (taken_in_all ps) (drop one.taken rs) in
    let e = end_of behind_byte s (bytes_in xs s) in
    let split : take (one.taken + taken_in_all ps) rs ≡ xs ++ ys =
    take-add one.taken (taken_in_all ps) rs ∙ ap (λ (zs : List ℕ). zs ++ ys) (sym (takes_of n k rs flash eeprom)) in
    let step : ℕ → State → UartStep = λ b t. uart_step t.node b t.flash t.eeprom in
    let there : behind_byte one.last ≡ tidied_state e = behind_piece n p flash eeprom in
    let later : bytes_in ys (behind_byte one.last) ≡ bytes_in ys e = ap (bytes_in ys) there ∙ from_tidied ys e in
    let all : bytes_in (take (one.taken + taken_in_all ps) rs) s ≡ bytes_in xs s ++ bytes_in ys e =
    ap (λ (zs : List ℕ). bytes_in zs s) split ∙ steps_append step behind_byte xs ys s in (
      tens_append (one.last ∷ []) (lasts_of ps)
          ∙ ap (λ (zs : List UartStep). but_tens (one.last ∷ []) ++ zs) (ih.0 ∙ ap but_tens later)
          ∙ ap (λ (zs : List UartStep). zs ++ but_tens (bytes_in ys e)) (sym (piece_tells n p flash eeprom f))
          ∙ sym (tens_append (bytes_in xs s) (bytes_in ys e)) ∙ sym (ap but_tens all),
      ih.1
          ∙ ap (λ (zs : List UartStep). tidied_state (end_of behind_byte (behind_byte one.last) zs)) later
          ∙ ap (λ (t : State). tidied_state (end_of behind_byte t (bytes_in ys e))) there
          ∙ end_tidied (bytes_in ys e) e
          ∙ ap tidied_state (sym (end_append step behind_byte (bytes_in xs s) (bytes_in ys e) s))
          ∙ sym (ap (λ (zs : List UartStep). tidied_state (end_of behind_byte s zs)) all),
    )

-- a piece with a byte in it that isn't refused takes one at least
pub piece_gets_on : (n : Node) (p flash eeprom : List ℕ) → (p ≡ [] → ⊥)
    → takes_none (piece_step n p flash eeprom).last.answer.number ≡ false → 1 ≤ (piece_step n p flash eeprom).taken
piece_gets_on n [] flash eeprom m f = absurd (m refl)
piece_gets_on n (b ∷ p) flash eeprom m f = open_takes_one n b p flash eeprom (piece_heard n (b ∷ p) flash eeprom f)

-- ---- bytes of which none would be refused

abbrev pub EachHeard : List UartStep → Type 0
EachHeard [] = Unit {0}
EachHeard (s ∷ ss) = (takes_none s.answer.number ≡ false) × EachHeard ss

heard_behind : (xs ys : List UartStep) → EachHeard (xs ++ ys) → EachHeard ys
heard_behind [] ys h = h
heard_behind (x ∷ xs) ys h = heard_behind xs ys h.1

-- what is left behind a piece would be heard too
pub heard_left : (n : Node) (k : ℕ) (rs flash eeprom : List ℕ) → EachHeard (bytes_in rs (state n flash eeprom))
    → EachHeard
    (bytes_in (drop (piece_step n (take k rs) flash eeprom).taken rs) (behind_byte (piece_step n (take k rs) flash eeprom).last))
heard_left n k rs flash eeprom h =
    let s = state n flash eeprom in
    let p = take k rs in
    let t = (piece_step n p flash eeprom).taken in
    let xs = take t p in
    let e = end_of behind_byte s (bytes_in xs s) in
    let step : ℕ → State → UartStep = λ b z. uart_step z.node b z.flash z.eeprom in
    let all : bytes_in rs s ≡ bytes_in xs s ++ bytes_in (drop t rs) e =
    ap (λ (zs : List ℕ). bytes_in zs s)
    (sym (take-append-drop t rs) ∙ ap (λ (zs : List ℕ). zs ++ drop t rs) (sym (takes_of n k rs flash eeprom)))
    ∙ steps_append step behind_byte xs (drop t rs) s in
    subst EachHeard (sym (ap (bytes_in (drop t rs)) (behind_piece n p flash eeprom) ∙ from_tidied (drop t rs) e))
    (heard_behind (bytes_in xs s) (bytes_in (drop t rs) e) (subst EachHeard all h))

-- where the next byte would be heard no piece is refused
pub heard_piece : (n : Node) (p rs flash eeprom : List ℕ) → (rs ≡ [] → ⊥) → EachHeard (bytes_in rs (state n flash eeprom))
    → takes_none (piece_step n p flash eeprom).last.answer.number ≡ false
heard_piece n p [] flash eeprom m h = absurd (m refl)
heard_piece n p (b ∷ rs) flash eeprom m h =
    ⊎_elim (λ r. absurd (false≢true (sym h.0 ∙ ap (λ (x : UartStep). takes_none x.answer.number) (r.1 b) ∙ r.0)))
    (λ o. open_never_refuses n p flash eeprom o) (refused_or_open n flash eeprom)
