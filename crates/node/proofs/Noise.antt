-- 11 in each way, and noise before a frame, over the calls' real contracts (Calls.antt). Each theorem is the law of crates/node_rules at what
-- the contract's equation says; in pieces by the one argument of cutting.
-- Assumes nothing.
use mathlib.Core.Path.{◌≡◌, ◌∙◌, sym, ap, subst}
use mathlib.Core.Bool.{Bool, false}
use mathlib.Core.List.{List, [], ◌∷◌, ◌++◌, append-nil}
use mathlib.Core.Logic.{◌⊎◌, inl, inr}
use Prim.Native.Nat.{ℕ, suc}
use native.Mathlib.Omega.{arith}
use lib.Dec.{eqb}
use lib.ListN.{length, get_or, take, take-append-drop}
use borrow.Author.Tests.{eq-eqb, ne_eqb}
use Rattle.base.proofs.Choice.{cond_false}
use Rattle.frame_rules.specs.Wrapping.{wrapped_of}
use Rattle.node_rules.specs.declared.Pin.{Pin}
use Rattle.node_rules.specs.declared.Pin.TheVariants.{CanAndUart}
use Rattle.node_rules.specs.declared.Noise.{Noise}
use Rattle.node_rules.specs.declared.Noise.TheVariants.{KeepFromNext}
use Rattle.node_rules.specs.declared.Choices.{Choices}
use Rattle.node_rules.specs.declared.Node.{Node}
use Rattle.node_rules.specs.Numbered.{Answer, UartAnswer, Restarted}
use Rattle.node_rules.specs.Record.{holding, held_of, tidied, fresh_node}
use Rattle.node_rules.specs.Outcomes.{is_deaf}
use Rattle.node_rules.specs.Step.{Step, after, can_step}
use Rattle.node_rules.specs.Uart.{UartStep, uart_after, held_after_bad, via_uart, uart_step, silent}
use Rattle.node_rules.specs.Runs.{State, state, bytes_in, AllEleven, TensAndElevens, NoFrameIn}
use Rattle.node_rules.specs.Reading.{StaysOf}
use Rattle.node_rules.proofs.Numbers.{can_never_ten}
use Rattle.node_rules.proofs.Eleven.{eleven_leaves, eleven_stays}
use Rattle.node_rules.proofs.Stray.{nothing_lost}
use Rattle.node_piece_rules.specs.Piece.{PieceAnswer, PieceStep, node_before, but_tens, taken_in_all, lasts_of, NoneRefused}
use Rattle.node_piece_rules.proofs.Cutting.{tens_append}
use Rattle.node_piece_rules.proofs.Answering.{piece_some}
use Rattle.node.proofs.Calls.{fresh_said, can_frame_said, uart_byte_said, uart_piece_said, bytes_said}
use Rattle.node.proofs.Cutting.{left_over, cut}
use Rattle.node.proofs.Restarts.{restart_with_done, plain_restart_done}
use Rattle.node.specs.Calls.{Fresh, Restart, RestartWith, CanFrame, UartByte, UartBytes, UartPiece, UartPieces}

-- ---- 11, in each way

-- what a byte that gives 11 leaves: no reply, both memories as they were, and of the fifteen bytes what the way says stays held
abbrev ElevenLeaves : Node → ℕ → List ℕ → List ℕ → UartStep → Type 0
ElevenLeaves n b flash eeprom x = (held : List ℕ) × (x ≡ silent 11 (holding (tidied n) held) flash eeprom)
    × StaysOf n.choices.noise (held_of n ++ (b ∷ [])) held

eleven : (n : Node) (b : ℕ) (flash eeprom : List ℕ) (x : UartStep) → x ≡ uart_step n b flash eeprom → x.answer.number ≡ 11
    → ElevenLeaves n b flash eeprom x
eleven n b flash eeprom x e h =
    let k = sym (ap (λ (y : UartStep). y.answer.number) e) ∙ h in
    (held_after_bad n.choices (held_of n ++ (b ∷ [])), e ∙ eleven_leaves n b flash eeprom k, eleven_stays n b flash eeprom k)

-- a byte
pub uart_byte_eleven : {n : Node} {b : ℕ} {flash eeprom flash' eeprom' : List ℕ} {r : UartAnswer}
    → UartByte n b flash eeprom r flash' eeprom' → r.number ≡ 11
    → (held : List ℕ) × (uart_after r flash' eeprom' ≡ silent 11 (holding (tidied n) held) flash eeprom)
    × StaysOf n.choices.noise (held_of n ++ (b ∷ [])) held
uart_byte_eleven {n} {b} {flash} {eeprom} {flash'} {eeprom'} {r} c = eleven n b flash eeprom (uart_after r flash' eeprom') (uart_byte_said c)

-- a piece, where the byte with j bytes in front of it gave 11: those were held behind what was held, or skipped
pub uart_piece_eleven : {n : Node} {p flash eeprom flash' eeprom' : List ℕ} {r : PieceAnswer} → UartPiece n p flash eeprom r flash' eeprom'
    → r.answer.number ≡ 11 → (j : ℕ) → r.taken ≡ suc j
    → (held : List ℕ) × (uart_after r.answer flash' eeprom' ≡ silent 11 (holding (tidied n) held) flash eeprom)
    × StaysOf n.choices.noise (held_of (node_before n p flash eeprom j) ++ (get_or p j 0 ∷ [])) held
unfolding tidied
uart_piece_eleven {n} {p} {flash} {eeprom} {flash'} {eeprom'} {r} c e j t =
    let said = uart_piece_said c in
    let h = piece_some n p flash eeprom j (sym (ap (λ (x : PieceStep). x.taken) said) ∙ t) in
    let m = node_before n p flash eeprom j in
    let g = eleven m (get_or p j 0) flash eeprom (uart_after r.answer flash' eeprom') (ap (λ (x : PieceStep). x.last) said ∙ h.0) e in (
      g.0,
      g.1 ∙ ap (λ (x : Node). silent 11 (holding x g.0) flash eeprom) h.1,
      subst (λ (way : Noise). StaysOf way (held_of m ++ (get_or p j 0 ∷ [])) g.0) (ap (λ (x : Node). x.choices.noise) h.1) g.2,
    )

-- ---- noise, and then a frame

-- to an open, running node with nothing held, in the new way: unless fifteen bytes that start at an 0xAA of the noise are a right frame, the
-- answers are 10s and 11s, and then, at the frame's last byte, what the same frame's call on CAN leaves, the replies wrapped
pub no_frame_lost : {n : Node} {f flash eeprom flash' eeprom' : List ℕ} {r : Answer} {steps : List UartStep} {end : State}
    (noise : List ℕ) → CanFrame n f flash eeprom r flash' eeprom' → UartBytes (noise ++ wrapped_of f) (state n flash eeprom) steps end
    → length flash ≡ 65536 → length eeprom ≡ 1024 → n.choices.pin ≡ CanAndUart → is_deaf n.mode ≡ false
    → n.choices.noise ≡ KeepFromNext → held_of n ≡ [] → length f ≡ 12 → NoFrameIn noise (wrapped_of f)
    → (before : List UartStep) × (steps ≡ before ++ (via_uart (after r flash' eeprom') ∷ [])) × TensAndElevens flash eeprom before
no_frame_lost {n} {f} {flash} {eeprom} noise c bytes fl el pin hears new none l h =
    let a = nothing_lost n flash eeprom fl el pin hears new none noise f l h in (
      a.0,
      (bytes_said bytes).0 ∙ a.1 ∙ ap (λ (x : Step). a.0 ++ (via_uart x ∷ [])) (sym (can_frame_said c)),
      a.2,
    )

-- ---- in pieces, cut in any way

-- of tens and elevens the outcomes other than 10 are the elevens
but_tens_eleven : (flash eeprom : List ℕ) (ss : List UartStep) → TensAndElevens flash eeprom ss → AllEleven flash eeprom (but_tens ss)
but_tens_eleven flash eeprom [] h = tt
but_tens_eleven flash eeprom (s ∷ ss) h = go h.0 (but_tens_eleven flash eeprom ss h.5)
  where
    go : (s.answer.number ≡ 10) ⊎ (s.answer.number ≡ 11) → AllEleven flash eeprom (but_tens ss) → AllEleven flash eeprom (but_tens (s ∷ ss))
    go (inl e) r = rw (eq-eqb s.answer.number 10 e) r
    go (inr e) r =
        rw (ne_eqb s.answer.number 10 (λ z. let w : ◌≡◌ {A = ℕ} 11 10 = sym e ∙ z in omega arith))
        (e, h.1, h.2, h.3, h.4, r)

-- all bytes taken are all that came
all_taken : {ps : List (List ℕ)} {rs : List ℕ} {s end : State} {pieces : List PieceStep} → UartPieces ps rs s pieces [] end
    → take (taken_in_all pieces) rs ≡ rs
all_taken {rs = rs} {pieces = pieces} run =
    sym (append-nil (take (taken_in_all pieces) rs))
    ∙ ap (λ (t : List ℕ). take (taken_in_all pieces) rs ++ t) (left_over run)
    ∙ take-append-drop (taken_in_all pieces) rs

pub no_frame_lost_in_pieces : {n : Node} {f flash eeprom flash' eeprom' : List ℕ} {r : Answer} {ps : List (List ℕ)} {pieces : List PieceStep}
    {end : State} (noise : List ℕ) → CanFrame n f flash eeprom r flash' eeprom'
    → UartPieces ps (noise ++ wrapped_of f) (state n flash eeprom) pieces [] end → NoneRefused pieces
    → length flash ≡ 65536 → length eeprom ≡ 1024 → n.choices.pin ≡ CanAndUart → is_deaf n.mode ≡ false
    → n.choices.noise ≡ KeepFromNext → held_of n ≡ [] → length f ≡ 12 → NoFrameIn noise (wrapped_of f)
    → (elevens : List UartStep) × (but_tens (lasts_of pieces) ≡ elevens ++ (via_uart (after r flash' eeprom') ∷ []))
    × AllEleven flash eeprom elevens
no_frame_lost_in_pieces {n} {f} {flash} {eeprom} {pieces = pieces} noise c run heard fl el pin hears new none l h =
    let a = nothing_lost n flash eeprom fl el pin hears new none noise f l h in
    let s = state n flash eeprom in
    let own = via_uart (can_step n f flash eeprom) in
    let last : but_tens (own ∷ []) ≡ own ∷ [] =
    cond_false (eqb own.answer.number 10) [] (own ∷ []) (ne_eqb own.answer.number 10 (can_never_ten n f flash eeprom)) in (
      but_tens a.0,
      (cut run heard).0
          ∙ ap (λ (bs : List ℕ). but_tens (bytes_in bs s)) (all_taken run)
          ∙ ap but_tens a.1
          ∙ tens_append a.0 (own ∷ [])
          ∙ ap (λ (t : List UartStep). but_tens a.0 ++ t) last
          ∙ ap (λ (x : Step). but_tens a.0 ++ (via_uart x ∷ [])) (sym (can_frame_said c)),
      but_tens_eleven flash eeprom a.0 a.2,
    )

-- ---- the choice

-- every restart that gives 0 sets it anew, whatever the self-test's verdict
pub restart_sets_way : {n : Node} {choices : Choices} {passed : Bool} {flash eeprom : List ℕ} {r : Restarted}
    → RestartWith n choices passed flash eeprom r → r.number ≡ 0 → r.node.choices.noise ≡ choices.noise
restart_sets_way c z = ap (λ (x : Restarted). x.node.choices.noise) (restart_with_done c z)

-- a plain restart the new way; and a fresh node has it
pub plain_restart_way : {n : Node} {pin : Pin} {passed : Bool} {flash eeprom : List ℕ} {r : Restarted}
    → Restart n pin passed flash eeprom r → r.number ≡ 0 → r.node.choices.noise ≡ KeepFromNext
plain_restart_way c z = ap (λ (x : Restarted). x.node.choices.noise) (plain_restart_done c z)

pub fresh_way : {six : List ℕ} {n : Node} → Fresh six n → n.choices.noise ≡ KeepFromNext
unfolding fresh_node
fresh_way c = ap (λ (x : Node). x.choices.noise) (fresh_said c)
