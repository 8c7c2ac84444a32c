-- Demand 3 on UART with the bytes cut in any way, over the real contracts: calls of `uart_piece`, each handed the first so many bytes of
-- those that are left, over what calls of `translate` and of `wrap` wrote. Pieces leave what the same bytes leave one by one (`cut`), so
-- demand 3 of the wrapped frames applies; and as byte by byte gives only 10 and 0, no piece is refused while bytes are left.
-- Assumes nothing.
use mathlib.Core.Path.{◌≡◌, ◌∙◌, refl, sym, ap, subst}
use mathlib.Core.Bool.{Bool, true, false, cond}
use mathlib.Core.List.{List, [], ◌∷◌, ◌++◌, map, append-nil}
use mathlib.Core.Logic.{◌⊎◌, ⊎_elim, inl, inr}
use Prim.Native.Nat.{ℕ, zero, suc, ◌*◌, ◌≤◌}
use lib.Dec.{eqb}
use lib.ListN.{length, get_or, take, drop, replicate, take-append-drop}
use Rattle.base.proofs.Choice.{cond_false}
use Rattle.node_rules.specs.declared.Mode.TheVariants.{Waiting}
use Rattle.node_rules.specs.declared.Node.{Node}
use Rattle.node_rules.specs.Record.{tidied}
use Rattle.node_rules.specs.Uart.{UartStep}
use Rattle.node_rules.specs.Runs.{State, state, end_of, behind_byte, bytes_in}
use Rattle.node_rules.proofs.Tidying.{tidy_twice, mode_tidy}
use Rattle.node_piece_rules.specs.Piece.{PieceAnswer, PieceStep, takes_none, but_tens, taken_in_all, lasts_of, NoneRefused, NoneEmpty}
use Rattle.node_piece_rules.proofs.Cutting.{tidied_state, EachHeard}
use Rattle.node.specs.Calls.{UartPiece, UartPieces, none, more}
use Rattle.node.proofs.Cutting.{left_over, cut, stays_tidy, heard_throughout, heard_next}
use Rattle.node.proofs.Pieces.{uart_piece_is_tidy}
use Rattle.recipe.specs.Items.{Recipe, Legal, printed}
use Rattle.recipe.specs.Frames.{frames_of, joined, frame_count}
use Rattle.recipe.specs.Plain.{Memories}
use Rattle.recipe.specs.Translation.{Translated, Frames}
use Rattle.recipe.proofs.Framing.{frames_twelve}
use Rattle.update_rules.specs.Delivery.{Delivery}
use Rattle.update_rules.specs.Mirror.{answers_of}
use Rattle.update_rules.specs.Serial.{told_on_uart, told_all_on_uart, fed, wrapped_all, wrapped_told, incomplete_told, serially, OpenPort, AllDone}
use Rattle.update_rules.specs.Updated.{Ready, over, left_whole}
use Rattle.update_rules.proofs.Serially.{answers_zero, demand_three_serial}
use Rattle.update_deliver.specs.Taken.{first_frames}
use Rattle.update.specs.Calls.{Translate, Wraps}
use Rattle.update.specs.Whole.{ArrivedInPieces}
use Rattle.update.proofs.Calls.{translated_frames}
use Rattle.update.proofs.Translating.{translate_takes}
use Rattle.update.proofs.SerialCalls.{wraps_all}

-- ---- what is told of outcomes other than 10

abbrev told_but_tens : List (List ℕ) → List (List ℕ)
told_but_tens [] = []
told_but_tens (t ∷ ts) = cond (eqb (get_or t 0 0) 10) (told_but_tens ts) (t ∷ told_but_tens ts)

told_but_tens_lem : (ss : List UartStep) → told_all_on_uart (but_tens ss) ≡ told_but_tens (told_all_on_uart ss)
told_but_tens_lem [] = refl
told_but_tens_lem (s ∷ ss) = go (eqb s.answer.number 10) (told_but_tens_lem ss)
  where
    go : (b : Bool) → told_all_on_uart (but_tens ss) ≡ told_but_tens (told_all_on_uart ss)
        → told_all_on_uart (cond b (but_tens ss) (s ∷ but_tens ss))
        ≡ cond b (told_but_tens (told_all_on_uart ss)) (told_on_uart s.answer ∷ told_but_tens (told_all_on_uart ss))
    go true h = h
    go false h = ap (λ (ts : List (List ℕ)). told_on_uart s.answer ∷ ts) h

-- of frames that are done, each frame's last byte
serial_but_tens : (ts : List (List ℕ)) → AllDone ts → told_but_tens (serially ts) ≡ map wrapped_told ts
serial_but_tens [] h = refl
serial_but_tens (t ∷ ts) h =
    cond_false (eqb (get_or t 0 0) 10) (told_but_tens (serially ts)) (wrapped_told t ∷ told_but_tens (serially ts))
    (ap (λ (k : ℕ). eqb k 10) h.0)
    ∙ ap (λ (us : List (List ℕ)). wrapped_told t ∷ us) (serial_but_tens ts h.1)

-- and none of them is 1, 2 or 3
abbrev EachToldHeard : List (List ℕ) → Type 0
EachToldHeard [] = Unit {0}
EachToldHeard (t ∷ ts) = (takes_none (get_or t 0 0) ≡ false) × EachToldHeard ts

tens_heard : (k : ℕ) (ts : List (List ℕ)) → EachToldHeard ts → EachToldHeard (replicate k incomplete_told ++ ts)
tens_heard zero ts h = h
tens_heard (suc k) ts h = (refl, tens_heard k ts h)

serial_heard : (ts : List (List ℕ)) → AllDone ts → EachToldHeard (serially ts)
serial_heard [] h = tt
serial_heard (t ∷ ts) h =
    tens_heard 14 (wrapped_told t ∷ serially ts) (ap takes_none h.0, serial_heard ts h.1)

told_heard : (ss : List UartStep) → EachToldHeard (told_all_on_uart ss) → EachHeard ss
told_heard [] h = tt
told_heard (s ∷ ss) h = (h.0, told_heard ss h.1)

-- ---- what stands behind pieces that took all the bytes

all_taken : {ps : List (List ℕ)} {rs left : List ℕ} {s end : State} {pieces : List PieceStep} → UartPieces ps rs s pieces left end
    → left ≡ [] → take (taken_in_all pieces) rs ≡ rs
all_taken {rs = rs} {pieces = pieces} run l =
    sym (append-nil (take (taken_in_all pieces) rs))
    ∙ ap (λ (zs : List ℕ). take (taken_in_all pieces) rs ++ zs) (sym l ∙ left_over run)
    ∙ take-append-drop (taken_in_all pieces) rs

-- a tidy record, where there was a call
tidy_or_none : {ps : List (List ℕ)} {rs left : List ℕ} {s end : State} {pieces : List PieceStep} → UartPieces ps rs s pieces left end
    → (tidied end.node ≡ end.node) ⊎ ((end ≡ s) × (rs ≡ left))
tidy_or_none none = inr (refl, refl)
tidy_or_none (more k c rest) = inl (stays_tidy rest (uart_piece_is_tidy c))

whole_end : {ps : List (List ℕ)} {rs left : List ℕ} {s end : State} {pieces : List PieceStep} → UartPieces ps rs s pieces left end
    → NoneRefused pieces → left ≡ [] → (x : State) → end_of behind_byte s (bytes_in rs s) ≡ x → tidied x.node ≡ x.node → end ≡ x
whole_end {rs = rs} {s = s} {end = end} run h l x e t =
    ⊎_elim
    (λ y.
    ap (λ (m : Node). state m end.flash end.eeprom) (sym y)
    ∙ (cut run h).1
    ∙ ap (λ (zs : List ℕ). tidied_state (end_of behind_byte s (bytes_in zs s))) (all_taken run l)
    ∙ ap tidied_state e
    ∙ ap (λ (m : Node). state m x.flash x.eeprom) t)
    (λ y. y.0 ∙ sym (ap (λ (zs : List ℕ). end_of behind_byte s (bytes_in zs s)) (y.1 ∙ l)) ∙ e)
    (tidy_or_none run)

-- and what is told of their outcomes other than 10
whole_told : {ps : List (List ℕ)} {rs left : List ℕ} {s end : State} {pieces : List PieceStep} → UartPieces ps rs s pieces left end
    → NoneRefused pieces → left ≡ [] → but_tens (lasts_of pieces) ≡ but_tens (bytes_in rs s)
whole_told {s = s} run h l = (cut run h).0 ∙ ap (λ (zs : List ℕ). but_tens (bytes_in zs s)) (all_taken run l)

-- ---- the wrapped frames of a legal recipe

module _ (r : Recipe) (n : Node) (m : Memories) (legal : Legal r) (ready : Ready n r) (o : OpenPort n m.flash m.eeprom) where
  -- byte by byte (demand 3)
  abbrev steps : List UartStep
  steps = bytes_in (wrapped_all (frames_of r)) (over n m)

  told_bytes : told_all_on_uart steps ≡ serially (answers_of r)
  unfolding fed
  told_bytes = ap (λ (d : Delivery). d.answers) (demand_three_serial r n m legal ready o)

  end_bytes : end_of behind_byte (over n m) steps ≡ left_whole r n m
  unfolding fed
  end_bytes = ap (λ (d : Delivery). state d.node d.flash d.eeprom) (demand_three_serial r n m legal ready o)

  each_heard : EachHeard steps
  each_heard = told_heard steps (subst EachToldHeard (sym told_bytes) (serial_heard (answers_of r) (answers_zero r)))

  -- while bytes are left no piece is refused, be it empty
  pub delivery_is_heard : {ps : List (List ℕ)} {left p flash' eeprom' : List ℕ} {end : State} {pieces : List PieceStep} {a : PieceAnswer}
      → UartPieces ps (wrapped_all (frames_of r)) (over n m) pieces left end → (left ≡ [] → ⊥)
      → UartPiece end.node p end.flash end.eeprom a flash' eeprom' → takes_none a.answer.number ≡ false
  delivery_is_heard run l c = heard_next run each_heard l c

  -- pieces that took them all, and of which none was refused
  pub demand_three_pieces : {ps : List (List ℕ)} {left : List ℕ} {after : State} {pieces : List PieceStep}
      → UartPieces ps (wrapped_all (frames_of r)) (over n m) pieces left after → NoneRefused pieces → left ≡ []
      → ArrivedInPieces r n m (told_all_on_uart (but_tens (lasts_of pieces))) after
  demand_three_pieces {pieces = pieces} run h l =
      record {
        each_frame = ap told_all_on_uart (whole_told run h l) ∙ told_but_tens_lem steps ∙ ap told_but_tens told_bytes
            ∙ serial_but_tens (answers_of r) (answers_zero r);
        whole = record {
          answered = refl;
          stands = whole_end run h l (left_whole r n m) end_bytes (mode_tidy (tidied n) (tidy_twice n) Waiting refl);
        };
      }

  -- pieces that each have a byte, and took them all: none was refused
  pub demand_three_no_empty : {ps : List (List ℕ)} {left : List ℕ} {after : State} {pieces : List PieceStep}
      → UartPieces ps (wrapped_all (frames_of r)) (over n m) pieces left after → NoneEmpty ps → left ≡ []
      → ArrivedInPieces r n m (told_all_on_uart (but_tens (lasts_of pieces))) after
  demand_three_no_empty run e l = demand_three_pieces run (heard_throughout run e each_heard) l

-- from end to end: a call of the translator on a legal recipe's bytes, with room, calls of `wrap` over the frames in its output, and calls
-- of `uart_piece` over what those left
pub demand_three_piece_calls : {input output output' : List ℕ} {t : Translated} → Translate input output t output'
    → (q : Recipe) → Legal q → input ≡ printed q → 12 * frame_count q ≤ length output
    → (ws : List (List ℕ)) → Wraps (first_frames (frame_count q) output') ws
    → (n : Node) (m : Memories) → Ready n q → OpenPort n m.flash m.eeprom
    → {ps : List (List ℕ)} {left : List ℕ} {after : State} {pieces : List PieceStep}
    → UartPieces ps (joined ws) (over n m) pieces left after → NoneRefused pieces → left ≡ []
    → (t ≡ Frames (frame_count q)) × ArrivedInPieces q n m (told_all_on_uart (but_tens (lasts_of pieces))) after
demand_three_piece_calls translates q legal e room ws wraps n m ready o {ps} {left} {after} {pieces} run h l =
    let same = translated_frames translates q legal e room in
    let wrapped = wraps_all (subst (λ (fs : List (List ℕ)). Wraps fs ws) same wraps) (frames_twelve q legal) in (
      (translate_takes translates q legal e room).0,
      demand_three_pieces q n m legal ready o
          (subst (λ (bs : List ℕ). UartPieces ps bs (over n m) pieces left after) (ap joined wrapped) run) h l,
    )
