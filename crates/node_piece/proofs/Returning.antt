-- A piece on the tidied record: each law is one return of `uart_piece`. 1, 2 and 3 take no byte; else the bytes are gathered, and what is then
-- held is judged. Tidying makes no difference to 1, 2 and 3, to what is gathered, and to a frame where nothing is held.
-- Assumes nothing.
use mathlib.Core.Path.{◌≡◌, ◌∙◌, refl, sym, ap}
use mathlib.Core.Bool.{Bool, true, false, not, cond}
use mathlib.Core.List.{List, []}
use mathlib.Core.Logic.{◌⊎◌, ⊎_elim, inl, inr}
use Prim.Native.Nat.{ℕ}
use Rattle.std.specs.Prelude.{Result, Ok, Err}
use Rattle.base.proofs.Choice.{cond_true, cond_false}
use Rattle.memory_address.specs.Places.{full}
use Rattle.frame_rules.specs.Wrapping.{inner_of, rightly_wrapped}
use Rattle.node_rules.specs.declared.Choices.{Choices}
use Rattle.node_rules.specs.declared.Receiver.{Receiver}
use Rattle.node_rules.specs.declared.Node.{Node}
use Rattle.node_rules.specs.declared.Refusal.{Refusal}
use Rattle.node_rules.specs.declared.Refusal.TheVariants.{WrongLength, ClosedPort, TakesNoFrame, Incomplete, BadFrame}
use Rattle.node_rules.specs.declared.Staged.TheVariants.{Nothing}
use Rattle.node_rules.specs.declared.Mode.TheVariants.{Programming}
use Rattle.node_rules.specs.InNumbers.{refusal_number}
use Rattle.node_rules.specs.Record.{receiving, holding, held_of, with_mode, tidied}
use Rattle.node_rules.specs.Outcomes.{decided}
use Rattle.node_rules.specs.Step.{done, can_step}
use Rattle.node_rules.specs.Uart.{UartStep, is_closed, incomplete, held_after_bad, via_uart, silent}
use Rattle.node_rules.proofs.Tidying.{tidy_held, held_held, holding_tidy, tidied_mode}
use Rattle.node_rules.proofs.Modes.{tidy_deaf}
use Rattle.node_record.specs.Internal.Tidy.{is_tidy}
use Rattle.node_record.proofs.Tidied.{with_receiver, kept_tidied, lost_tidied}
use Rattle.node_port.specs.Internal.Port.{listens}
use Rattle.node_port.proofs.Hearing.{listening}
use Rattle.node_uart.proofs.Listening.{refused as byte_refused}
use Rattle.node_piece_rules.specs.Piece.{PieceStep, last_taken, piece_step}
use Rattle.node_piece_rules.proofs.Opening.{Opened, refused_or_open}
use Rattle.node_piece_rules.proofs.Answering.{refused_takes_none}
use Rattle.node_gather.specs.declared.Kept.{Kept}
use Rattle.node_gather.specs.declared.Gathering.{Gathering}
use Rattle.node_gather.specs.Internal.Gathered.{gathered, came_to, gathering_of, gathered_by}
use Rattle.node_piece.specs.Internal.Answers.{receives}
use Rattle.node_piece.proofs.Judging.{piece_gathered}

-- ---- tidying makes no difference

pub listens_tidied : (isFull : Bool) (n : Node) → listens isFull (tidied n) ≡ listens isFull n
unfolding tidied
listens_tidied isFull n =
    ap (λ (d : Bool).
    cond (not isFull) (Err WrongLength) (cond (is_closed n.choices.pin) (Err ClosedPort) (cond d (Err TakesNoFrame) (Ok tt))))
    (tidy_deaf n.mode)

pub gathered_tidied : (n : Node) (bs : List ℕ)
    → gathered_by n.choices n.receiver bs ≡ gathered_by (tidied n).choices (tidied n).receiver bs
unfolding tidied
gathered_tidied n bs = ap (λ (xs : List ℕ). gathering_of n.choices (gathered xs bs)) (sym (tidy_held n))

emptied_tidy : (n : Node) → tidied (holding n []) ≡ holding (tidied n) []
unfolding tidied
emptied_tidy n = ap (holding (tidied n)) (held_held [] tt)

frame_when_empty : (n : Node) (f flash eeprom : List ℕ)
    → can_step (holding n []) f flash eeprom ≡ can_step (holding (tidied n) []) f flash eeprom
unfolding can_step
frame_when_empty n f flash eeprom =
    ap (λ (x : Node). done (decided x (full flash eeprom) f) x f flash eeprom)
    (emptied_tidy n ∙ sym (holding_tidy (tidied n) [] tt (tidied_mode n)))

pub frame_tidied : (n : Node) (none : Receiver) (f flash eeprom : List ℕ) → none ≡ receiving []
    → can_step (with_receiver n none) f flash eeprom ≡ can_step (with_receiver (tidied n) none) f flash eeprom
frame_tidied n none f flash eeprom m =
    ap (λ (r : Receiver). can_step (with_receiver n r) f flash eeprom) m ∙ frame_when_empty n f flash eeprom
    ∙ ap (λ (r : Receiver). can_step (with_receiver (tidied n) r) f flash eeprom) (sym m)

-- a record whose mode is kept where it is tidy, and which holds something else, is the tidied record that holds that
module _ (n : Node) (r : Receiver) where
  pub kept_as_tidied : is_tidy n.mode ≡ true → with_receiver n r ≡ receives n r
  kept_as_tidied t = ap (λ (x : Node). with_receiver x r) (kept_tidied n (receiving (held_of n)) refl t)

  pub lost_as_tidied : is_tidy n.mode ≡ false → with_mode (with_receiver n r) (Programming Nothing) ≡ receives n r
  lost_as_tidied t = ap (λ (x : Node). with_receiver x r) (lost_tidied n (receiving (held_of n)) refl t)

-- ---- the returns

-- with so many bytes taken
abbrev taking : ℕ → UartStep → PieceStep
taking taken last = record { taken = taken; last = last }

-- constructors told apart, and what they carry
not_err : (f : List ℕ) (k : Kept) → ◌≡◌ {A = Result (List ℕ) Kept} (Ok f) (Err k) → ⊥
not_err f k e = cc

same_err : (k l : Kept) → ◌≡◌ {A = Result (List ℕ) Kept} (Err k) (Err l) → k ≡ l
same_err k l e = cc

same_ok : (f g : List ℕ) → ◌≡◌ {A = Result (List ℕ) Kept} (Ok f) (Ok g) → f ≡ g
same_ok f g e = cc

-- what held bytes come to says what they are
module _ (c : Choices) (ys : List ℕ) where
  abbrev unfinished : Kept
  unfinished = record { refusal = Incomplete; receiver = receiving ys }

  abbrev spoilt : Kept
  spoilt = record { refusal = BadFrame; receiver = receiving (held_after_bad c ys) }

  none_came : (k : Kept) → came_to c ys ≡ Err k
      → ((incomplete ys ≡ true) × (unfinished ≡ k)) ⊎ ((incomplete ys ≡ false) × (rightly_wrapped ys ≡ false) × (spoilt ≡ k))
  none_came k e = go (incomplete ys) refl (rightly_wrapped ys) refl
    where
      go : (x : Bool) → incomplete ys ≡ x → (y : Bool) → rightly_wrapped ys ≡ y
          → ((incomplete ys ≡ true) × (unfinished ≡ k)) ⊎ ((incomplete ys ≡ false) × (rightly_wrapped ys ≡ false) × (spoilt ≡ k))
      go true i y w = let q : ◌≡◌ {A = Result (List ℕ) Kept} (Err unfinished) (Err k) = rw i at e in inl (i, same_err unfinished k q)
      go false i true w = let q : ◌≡◌ {A = Result (List ℕ) Kept} (Ok (inner_of ys)) (Err k) = rw (i, w) at e in absurd (not_err (inner_of ys) k q)
      go false i false w = let q : ◌≡◌ {A = Result (List ℕ) Kept} (Err spoilt) (Err k) = rw (i, w) at e in inr (i, w, same_err spoilt k q)

  frame_came : (frame : List ℕ) → came_to c ys ≡ Ok frame
      → (incomplete ys ≡ false) × (rightly_wrapped ys ≡ true) × (inner_of ys ≡ frame)
  frame_came frame e = go (incomplete ys) refl (rightly_wrapped ys) refl
    where
      go : (x : Bool) → incomplete ys ≡ x → (y : Bool) → rightly_wrapped ys ≡ y
          → (incomplete ys ≡ false) × (rightly_wrapped ys ≡ true) × (inner_of ys ≡ frame)
      go true i y w = let q : ◌≡◌ {A = Result (List ℕ) Kept} (Err unfinished) (Ok frame) = rw i at e in absurd (not_err frame unfinished (sym q))
      go false i true w = let q : ◌≡◌ {A = Result (List ℕ) Kept} (Ok (inner_of ys)) (Ok frame) = rw (i, w) at e in (i, w, same_ok (inner_of ys) frame q)
      go false i false w = let q : ◌≡◌ {A = Result (List ℕ) Kept} (Err spoilt) (Ok frame) = rw (i, w) at e in absurd (not_err frame spoilt (sym q))

module _ (n t : Node) (bs flash eeprom : List ℕ) (e : t ≡ tidied n) where
  -- 1, 2 and 3: as each byte is refused
  pub refused : (refusal : Refusal) → listens (full flash eeprom) t ≡ Err refusal
      → taking 0 (silent (refusal_number refusal) t flash eeprom) ≡ piece_step n bs flash eeprom
  refused refusal l =
      ⊎_elim
      (λ r.
      ap (λ (x : UartStep). last_taken x []) (byte_refused n t 0 flash eeprom refusal e l ∙ r.1 0)
      ∙ sym (refused_takes_none n bs flash eeprom r))
      (λ o.
      let h : listens (full flash eeprom) (tidied n) ≡ Err refusal = rw e at l in
      let q : Ok tt ≡ Err refusal = rw (o.0, o.1, o.2) at h in
      cc)
      (refused_or_open n flash eeprom)

  module _ (u : Unit {0}) (l : listens (full flash eeprom) t ≡ Ok u) (g : Gathering) (h : g ≡ gathered_by t.choices t.receiver bs) where
    isOpen : Opened n flash eeprom
    isOpen = let o = listening (full flash eeprom) t u l in (o.0, rw e at o.1, rw e at o.2)

    -- what is held with the bytes that are taken
    abbrev ys : List ℕ
    ys = (gathered (held_of n) bs).held

    told : g ≡ gathering_of t.choices (gathered (held_of n) bs)
    told =
        h
        ∙ ap (λ (x : Node). gathering_of t.choices (gathered (held_of x) bs)) e
        ∙ ap (λ (xs : List ℕ). gathering_of t.choices (gathered xs bs)) (tidy_held n)

    gives : g.outcome ≡ came_to t.choices ys
    gives = ap (λ (x : Gathering). x.outcome) told

    -- what is judged is the answer
    abbrev judged : Node → UartStep
    judged m =
        cond (incomplete ys) (silent 10 (holding m ys) flash eeprom)
        (cond (rightly_wrapped ys) (via_uart (can_step (holding m []) (inner_of ys) flash eeprom))
        (silent 11 (holding m (held_after_bad m.choices ys)) flash eeprom))

    answers : (x : UartStep) → judged t ≡ x → taking g.taken x ≡ piece_step n bs flash eeprom
    answers x j =
        sym
        (piece_gathered n flash eeprom isOpen bs
        ∙ ap (taking (gathered (held_of n) bs).taken) (ap judged (sym e) ∙ j)
        ∙ ap (λ (k : ℕ). taking k x) (sym (ap (λ (x : Gathering). x.taken) told)))

    abbrev left : Kept → UartStep
    left x = silent (refusal_number x.refusal) (with_receiver t x.receiver) flash eeprom

    -- 10 and 11
    pub waits : (k : Kept) → g.outcome ≡ Err k
        → taking g.taken (left k) ≡ piece_step n bs flash eeprom
    waits k q =
        answers (left k)
        (⊎_elim
        (λ x. cond_true (incomplete ys) _ _ x.0 ∙ ap left x.1)
        (λ x. cond_false (incomplete ys) _ _ x.0 ∙ cond_false (rightly_wrapped ys) _ _ x.1 ∙ ap left x.2)
        (none_came t.choices ys k (sym gives ∙ q)))

    -- a complete frame
    pub whole : (frame : List ℕ) (none : Receiver) (x : UartStep) → g.outcome ≡ Ok frame → none ≡ receiving []
        → x ≡ via_uart (can_step (with_receiver t none) frame flash eeprom) → taking g.taken x ≡ piece_step n bs flash eeprom
    whole frame none x q m s =
        let f = frame_came t.choices ys frame (sym gives ∙ q) in
        answers x
        (cond_false (incomplete ys) _ _ f.0 ∙ cond_true (rightly_wrapped ys) _ _ f.1
        ∙ ap (λ (w : List ℕ). via_uart (can_step (holding t []) w flash eeprom)) f.2
        ∙ ap (λ (r : Receiver). via_uart (can_step (with_receiver t r) frame flash eeprom)) (sym m)
        ∙ sym s)
