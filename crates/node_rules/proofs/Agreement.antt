-- UART and CAN agree: a wrapped frame, byte by byte, gives 10 with no reply and memories untouched until its last byte, and then what the
-- frame gives on CAN, the replies wrapped. A byte is held behind those that are held, and the fifteenth is judged. What stays held after
-- a wrong sum or stop is not looked into.
-- Assumes nothing.
use Rattle.std.specs.Prelude.{Option, Some, None}
use mathlib.Core.Path.{◌≡◌, ◌∙◌, refl, sym, ap}
use mathlib.Core.Bool.{Bool, true, false, not, cond}
use mathlib.Core.List.{List, [], ◌∷◌, ◌++◌, append_assoc, append-nil}
use mathlib.Core.Logic.{◌⊎◌, ⊎_elim}
use Prim.Native.Nat.{ℕ, suc, ◌+◌, ◌%◌, ◌≤◌}
use native.Mathlib.Omega.{arith}
use lib.Dec.{eqb}
use lib.ListN.{length, get_or, take, replicate, length-append}
use borrow.Author.Tests.{eq-eqb, ne_eqb, lt-ltb, le-ltb}
use Rattle.base.specs.Parts.{sum_of}
use Rattle.base.proofs.Choice.{cond_true, cond_false, cond_same}
use Rattle.memory_address.specs.Places.{full}
use Rattle.frame_rules.specs.Frame.{type_of}
use Rattle.frame_rules.specs.Wrapping.{wrapped_of, inner_of, rightly_wrapped}
use Rattle.frame_rules.proofs.Wrapped.{wrapped_length, wrapped_inner, wrapped_right, right_says}
use Rattle.node_rules.specs.declared.Pin.TheVariants.{CanAndUart}
use Rattle.node_rules.specs.declared.Node.{Node}
use Rattle.node_rules.specs.Numbered.{Effect}
use Rattle.node_rules.specs.Record.{holding, may_hold, held_in, held_of, tidy_mode, tidied, Holdable}
use Rattle.node_rules.specs.Outcomes.{Outcome, outcome, is_deaf, misshapen, is_response, refused, unless, type_outcomes, frame_outcomes, asked_of, decided}
use Rattle.node_rules.specs.Requests.{found}
use Rattle.node_rules.specs.Step.{Step, done, can_step}
use Rattle.node_rules.specs.Uart.{UartStep, held_with, incomplete, is_closed, held_after_bad, held_after, held_decided, held_done, received, via_uart, uart_step, silent}
use Rattle.node_rules.specs.Runs.{State, state, end_of, behind_frame, behind_byte, bytes_in, collected, AllTen, NoStart}
use Rattle.node_rules.proofs.Tidying.{held_holdable, held_held, mode_twice, holding_tidy, tidy_twice}
use Rattle.node_rules.proofs.Deciding.{among_cases, unless_by, frame_among, asked_of_zero}
use Rattle.node_rules.proofs.Ruling.{sizes_full}
use Rattle.node_rules.proofs.Modes.{tidy_deaf}
use Rattle.node_rules.proofs.Running.{steps_append, end_append}
use Rattle.node_rules.specs.declared.Kind.{Kind}

pub collected_ten : (n : Node) (xs bs flash eeprom : List ℕ)
    → (length (collected n xs bs flash eeprom) ≡ length bs) × AllTen flash eeprom (collected n xs bs flash eeprom)
collected_ten n xs [] flash eeprom = (refl, tt)
collected_ten n xs (b ∷ bs) flash eeprom =
    let r = collected_ten n (xs ++ (b ∷ [])) bs flash eeprom in
    (ap suc r.0, (refl, refl, refl, refl, refl, r.1))

-- what is held has no say in outcomes 4 to 9
type_held : (k : Option Kind) (n : Node) (xs f : List ℕ) → type_outcomes k (holding n xs) f ≡ type_outcomes k n f
type_held None n xs f = refl
type_held (Some k) n xs f = refl

frame_held : (n : Node) (xs f : List ℕ) → unless (frame_outcomes (holding n xs) f) (asked_of n f) ≡ unless (frame_outcomes n f) (asked_of n f)
frame_held n xs f =
    ap (λ (os : List Outcome). unless (outcome 4 (misshapen f) ∷ outcome 5 (is_response f) ∷ os) (asked_of n f)) (type_held (found
    (type_of f)) n xs f)

-- ---- an open, running node: pin CAN and UART, a mode that is neither error nor waiting, and tidy; full memories

module _ (m : Node) (flash eeprom : List ℕ) (isFull : full flash eeprom ≡ true) (pin : m.choices.pin ≡ CanAndUart)
    (hears : is_deaf m.mode ≡ false) (tidy : tidy_mode m.mode ≡ m.mode) where
  -- what the fifteenth byte gives
  abbrev fifteenth : List ℕ → UartStep
  fifteenth w =
      cond (rightly_wrapped w) (via_uart (can_step (holding m []) (inner_of w) flash eeprom))
      (silent 11 (holding m (held_after_bad m.choices w)) flash eeprom)

  -- a complete frame empties the held bytes, and is what it is on CAN
  complete_frame : (xs w : List ℕ)
      → held_done (unless (frame_outcomes m (inner_of w)) (asked_of m (inner_of w))) (holding m xs) w flash eeprom
      ≡ via_uart (can_step (holding m []) (inner_of w) flash eeprom)
  unfolding can_step decided
  complete_frame xs w =
      let f = inner_of w in
      let e = unless (frame_outcomes m f) (asked_of m f) in
      let Q : ℕ → Type 0 = λ k. held_after k (holding m xs) w ≡ [] in
      let none : held_after e.number (holding m xs) w ≡ [] =
      unless_by (λ (x : Effect). Q x.number) (frame_outcomes m f) (asked_of m f)
      (among_cases Q (frame_outcomes m f) (asked_of m f) (frame_among Q m f refl refl refl refl refl refl) (asked_of_zero m f) refl) in
      ap (λ (ys : List ℕ). via_uart (done e (holding m ys) f flash eeprom)) none
      ∙ ap (λ (n : Node). via_uart (done e n f flash eeprom)) (sym (holding_tidy m [] tt tidy))
      ∙ ap (λ (x : Effect). via_uart (done x (tidied (holding m [])) f flash eeprom))
      (sym (ap (λ (n : Node). decided n (full flash eeprom) f) (holding_tidy m [] tt tidy) ∙ rw (isFull, hears) (frame_held m [] f)))

  -- 10, 11 or a complete frame
  judged : (xs ys : List ℕ) (i r : Bool)
      → held_done
      (cond i (refused 10)
      (cond (not r) (refused 11) (unless (frame_outcomes (holding m xs) (inner_of ys)) (asked_of (holding m xs) (inner_of ys)))))
      (holding m xs) ys flash eeprom
      ≡ cond i (silent 10 (holding m ys) flash eeprom)
      (cond r (via_uart (can_step (holding m []) (inner_of ys) flash eeprom)) (silent 11 (holding m (held_after_bad
      m.choices ys)) flash eeprom))
  unfolding done
  judged xs ys true r = refl
  judged xs ys false false = refl
  judged xs ys false true =
      ap (λ (x : Effect). held_done x (holding m xs) ys flash eeprom) (frame_held m xs (inner_of ys)) ∙ complete_frame xs ys

  -- a byte with which ys are held
  pub with_byte_lem : (xs : List ℕ) (b : ℕ) → Holdable xs → (ys : List ℕ) → held_with xs b ≡ ys
      → uart_step (holding m xs) b flash eeprom
      ≡ cond (incomplete ys) (silent 10 (holding m ys) flash eeprom) (fifteenth ys)
  unfolding uart_step
  with_byte_lem xs b h ys e =
      ap (λ (n : Node). received n b flash eeprom) (holding_tidy m xs h tidy)
      ∙ ap (λ (zs : List ℕ). held_done (held_decided (holding m xs) (full flash eeprom) (held_with zs b)) (holding m xs)
      (held_with zs b) flash eeprom) (held_held xs h)
      ∙ ap (λ (zs : List ℕ). held_done (held_decided (holding m xs) (full flash eeprom) zs) (holding m xs) zs flash eeprom) e
      ∙ ap (λ (x : Effect). held_done x (holding m xs) ys flash eeprom) (rw (isFull, ap is_closed pin, hears) refl)
      ∙ judged xs ys (incomplete ys) (rightly_wrapped ys)

  pub held_more : (x : ℕ) (h : List ℕ) (b : ℕ) → x ≡ 0xAA → length (x ∷ h) ≤ 13
      → uart_step (holding m (x ∷ h)) b flash eeprom ≡ silent 10 (holding m (x ∷ h ++ (b ∷ []))) flash eeprom
  held_more x h b e l =
      with_byte_lem (x ∷ h) b (e, omega arith) (x ∷ h ++ (b ∷ [])) refl
      ∙ cond_true (incomplete (x ∷ h ++ (b ∷ []))) (silent 10 (holding m (x ∷ h ++ (b ∷ []))) flash eeprom) (fifteenth (x ∷ h ++ (b ∷ [])))
      (lt-ltb (length (x ∷ h ++ (b ∷ []))) 15 (omega (arith, length-append (x ∷ h) (b ∷ []))))

  pub held_last : (x : ℕ) (h : List ℕ) (b : ℕ) → x ≡ 0xAA → length (x ∷ h) ≡ 14
      → uart_step (holding m (x ∷ h)) b flash eeprom ≡ fifteenth (x ∷ h ++ (b ∷ []))
  held_last x h b e l =
      with_byte_lem (x ∷ h) b (e, omega arith) (x ∷ h ++ (b ∷ [])) refl
      ∙ cond_false (incomplete (x ∷ h ++ (b ∷ []))) (silent 10 (holding m (x ∷ h ++ (b ∷ []))) flash eeprom) (fifteenth (x ∷ h ++ (b ∷ [])))
      (le-ltb (length (x ∷ h ++ (b ∷ []))) 15 (omega (arith, length-append (x ∷ h) (b ∷ []))))

  collects : (bs h : List ℕ) (x b : ℕ) → x ≡ 0xAA → length (x ∷ h) + length bs ≡ 14
      → bytes_in (bs ++ (b ∷ [])) (state (holding m (x ∷ h)) flash eeprom)
      ≡ collected m (x ∷ h) bs flash eeprom ++ (fifteenth (x ∷ h ++ (bs ++ (b ∷ []))) ∷ [])
  collects [] h x b e l = ap (λ (s : UartStep). s ∷ []) (held_last x h b e (omega arith))
  collects (c ∷ bs) h x b e l =
      let k : length (x ∷ h ++ (c ∷ [])) + length bs ≡ 14 = omega (arith, length-append (x ∷ h) (c ∷ [])) in
      ap (λ (s : UartStep). s ∷ bytes_in (bs ++ (b ∷ [])) (behind_byte s)) (held_more x h c e (omega arith))
      ∙ ap (λ (t : List UartStep). silent 10 (holding m (x ∷ h ++ (c ∷ []))) flash eeprom ∷ t)
      (collects bs (h ++ (c ∷ [])) x b e k
      ∙ ap (λ (t : List ℕ). collected m (x ∷ h ++ (c ∷ [])) bs flash eeprom ++ (fifteenth (x ∷ t) ∷ []))
      (append_assoc h (c ∷ []) (bs ++ (b ∷ []))))

  -- a byte where nothing is held
  pub first_byte : (b : ℕ) (t : Bool) → eqb b 0xAA ≡ t
      → uart_step (holding m []) b flash eeprom ≡ silent 10 (holding m (cond t (b ∷ []) [])) flash eeprom
  first_byte b t e = with_byte_lem [] b tt (cond t (b ∷ []) []) (ap (λ (s : Bool). cond s (b ∷ []) []) e) ∙ go t
    where
      go : (t : Bool)
          → cond (incomplete (cond t (b ∷ []) [])) (silent 10 (holding m (cond t (b ∷ []) [])) flash eeprom) (fifteenth (cond t
          (b ∷ []) []))
          ≡ silent 10 (holding m (cond t (b ∷ []) [])) flash eeprom
      go true = refl
      go false = refl

  -- what is held followed by what comes, fifteen bytes that start with 0xAA
  judged_together : (xs bs : List ℕ) (b : ℕ) → Holdable xs → length (xs ++ (bs ++ (b ∷ []))) ≡ 15
      → get_or (xs ++ (bs ++ (b ∷ []))) 0 0 ≡ 0xAA
      → bytes_in (bs ++ (b ∷ [])) (state (holding m xs) flash eeprom)
      ≡ collected m xs bs flash eeprom ++ (fifteenth (xs ++ (bs ++ (b ∷ []))) ∷ [])
  judged_together (x ∷ h) bs b k l e =
      collects bs h x b e (omega (arith, length-append (x ∷ h) (bs ++ (b ∷ [])), length-append bs (b ∷ [])))
  judged_together [] [] b k l e = let z : ⊥ = omega arith in absurd z
  judged_together [] (c ∷ bs) b k l e =
      ap (λ (s : UartStep). s ∷ bytes_in (bs ++ (b ∷ [])) (behind_byte s)) (first_byte c true (eq-eqb c 0xAA e))
      ∙ ap (λ (t : List UartStep). silent 10 (holding m (c ∷ [])) flash eeprom ∷ t)
      (collects bs [] c b e (omega (arith, length-append bs (b ∷ []))))

-- ---- the theorems, of any record

-- a wrapped frame is its first fourteen bytes and the stop
whole_frame : (f : List ℕ) → (0xAA ∷ f ++ (sum_of f % 256 ∷ [])) ++ (0xA5 ∷ []) ≡ wrapped_of f
unfolding wrapped_of
whole_frame f = ap (λ (t : List ℕ). 0xAA ∷ t) (append_assoc f (sum_of f % 256 ∷ []) (0xA5 ∷ []))

-- a record that says it holds no byte holds none
pub nothing_held : (n : Node) → n.receiver.count ≡ 0 → held_of n ≡ []
unfolding held_in
nothing_held n e =
    ap (λ (k : ℕ). cond (may_hold n.receiver) (take k n.receiver.held) []) e ∙ cond_same (may_hold n.receiver) []

-- a byte to a record is a byte to the tidied record, and so a frame
pub byte_tidied : (n : Node) (b : ℕ) (flash eeprom : List ℕ) → uart_step n b flash eeprom ≡ uart_step (tidied n) b flash eeprom
unfolding uart_step
byte_tidied n b flash eeprom = ap (λ (x : Node). received x b flash eeprom) (sym (tidy_twice n))

pub frame_tidied : (n : Node) (f flash eeprom : List ℕ) → can_step (tidied n) f flash eeprom ≡ can_step n f flash eeprom
unfolding can_step
frame_tidied n f flash eeprom = ap (λ (x : Node). done (decided x (full flash eeprom) f) x f flash eeprom) (tidy_twice n)

module _ (n : Node) (flash eeprom : List ℕ) (fl : length flash ≡ 65536) (el : length eeprom ≡ 1024)
    (pin : n.choices.pin ≡ CanAndUart) (hears : is_deaf n.mode ≡ false) where
  pub still_hears : is_deaf (tidied n).mode ≡ false
  unfolding tidied
  still_hears = tidy_deaf n.mode ∙ hears

  pub still_open : (tidied n).choices.pin ≡ CanAndUart
  unfolding tidied
  still_open = pin

  pub still_tidy : tidy_mode (tidied n).mode ≡ (tidied n).mode
  unfolding tidied
  still_tidy = mode_twice n.mode

  pub bytes_tidied : (b : ℕ) (bs : List ℕ) → bytes_in (b ∷ bs) (state n flash eeprom) ≡ bytes_in (b ∷ bs) (state (tidied n) flash eeprom)
  bytes_tidied b bs = ap (λ (s : UartStep). s ∷ bytes_in bs (behind_byte s)) (byte_tidied n b flash eeprom)

  together : (bs : List ℕ) (b : ℕ) → length (held_of n ++ (bs ++ (b ∷ []))) ≡ 15 → get_or (held_of n ++ (bs ++ (b ∷ []))) 0 0 ≡ 0xAA
      → bytes_in (bs ++ (b ∷ [])) (state n flash eeprom)
      ≡ collected (tidied n) (held_of n) bs flash eeprom
      ++ (fifteenth (tidied n) flash eeprom (sizes_full flash eeprom fl el) still_open still_hears still_tidy (held_of n ++ (bs ++
      (b ∷ []))) ∷ [])
  unfolding tidied
  together bs b l e =
      first bs
      ∙ judged_together (tidied n) flash eeprom (sizes_full flash eeprom fl el) still_open still_hears still_tidy (held_of n) bs b
      (held_holdable n.receiver) l e
    where
      first : (cs : List ℕ) → bytes_in (cs ++ (b ∷ [])) (state n flash eeprom) ≡ bytes_in (cs ++ (b ∷ [])) (state (tidied n) flash eeprom)
      first [] = bytes_tidied b []
      first (c ∷ cs) = bytes_tidied c (cs ++ (b ∷ []))

  -- THE LAW, in general: what is held followed by what comes is a wrapped frame
  pub agreement_held : (bs : List ℕ) (b : ℕ) (f : List ℕ) → length f ≡ 12 → held_of n ++ (bs ++ (b ∷ [])) ≡ wrapped_of f
      → bytes_in (bs ++ (b ∷ [])) (state n flash eeprom)
      ≡ collected (tidied n) (held_of n) bs flash eeprom ++ (via_uart (can_step (holding (tidied n) []) f flash eeprom) ∷ [])
  agreement_held bs b f l e =
      let w : List ℕ = held_of n ++ (bs ++ (b ∷ [])) in
      let k : length w ≡ 15 = ap length e ∙ wrapped_length f l in
      let r : rightly_wrapped w ≡ true = ap rightly_wrapped e ∙ wrapped_right f l in
      let i : inner_of w ≡ f = ap inner_of e ∙ wrapped_inner f l in
      together bs b k (right_says w r).1
      ∙ ap (λ (s : UartStep). collected (tidied n) (held_of n) bs flash eeprom ++ (s ∷ []))
      (cond_true (rightly_wrapped w) (via_uart (can_step (holding (tidied n) []) (inner_of w) flash eeprom))
      (silent 11 (holding (tidied n) (held_after_bad (tidied n).choices w)) flash eeprom) r
      ∙ ap (λ (x : List ℕ). via_uart (can_step (holding (tidied n) []) x flash eeprom)) i)

  -- fifteen bytes that start with 0xAA and have a wrong sum or stop: 11, and what then stays held
  pub wrong_sum_or_stop : (bs : List ℕ) (b : ℕ) (w : List ℕ) → held_of n ++ (bs ++ (b ∷ [])) ≡ w → length w ≡ 15 → get_or w 0 0 ≡ 0xAA
      → (get_or w 13 0 ≡ sum_of (inner_of w) % 256 → ⊥) ⊎ (get_or w 14 0 ≡ 0xA5 → ⊥)
      → bytes_in (bs ++ (b ∷ [])) (state n flash eeprom)
      ≡ collected (tidied n) (held_of n) bs flash eeprom ++ (silent 11 (holding (tidied n) (held_after_bad n.choices w)) flash eeprom ∷ [])
  unfolding tidied
  wrong_sum_or_stop bs b w e l a d =
      together bs b (ap length e ∙ l) (ap (λ (x : List ℕ). get_or x 0 0) e ∙ a)
      ∙ ap (λ (s : UartStep). collected (tidied n) (held_of n) bs flash eeprom ++ (s ∷ []))
      (ap (fifteenth (tidied n) flash eeprom (sizes_full flash eeprom fl el) still_open still_hears still_tidy) e
      ∙ cond_false (rightly_wrapped w) (via_uart (can_step (holding (tidied n) []) (inner_of w) flash eeprom))
      (silent 11 (holding (tidied n) (held_after_bad n.choices w)) flash eeprom) (go (rightly_wrapped w) refl))
    where
      go : (t : Bool) → rightly_wrapped w ≡ t → t ≡ false
      go true r = let h = right_says w r in absurd (⊎_elim (λ x. x h.2) (λ x. x h.3) d)
      go false r = refl

  module _ (none : held_of n ≡ []) where
    pub nothing : holding (tidied n) [] ≡ tidied n
    unfolding tidied
    nothing = ap (λ (t : List ℕ). holding (tidied n) t) (sym none)

    -- THE LAW: a wrapped frame where nothing is held, and then what comes behind it
    pub wrapped_frame : (f zs : List ℕ) → length f ≡ 12
        → bytes_in (wrapped_of f ++ zs) (state n flash eeprom)
        ≡ collected (tidied n) [] (0xAA ∷ f ++ (sum_of f % 256 ∷ [])) flash eeprom
        ++ (via_uart (can_step n f flash eeprom) ∷ bytes_in zs (behind_frame (can_step n f flash eeprom)))
    wrapped_frame f zs l =
        let x = sum_of f % 256 in
        let front = 0xAA ∷ f ++ (x ∷ []) in
        let s = state n flash eeprom in
        let last = via_uart (can_step (holding (tidied n) []) f flash eeprom) in
        let whole : front ++ (0xA5 ∷ []) ≡ wrapped_of f = whole_frame f in
        let run : bytes_in (front ++ (0xA5 ∷ [])) s ≡ collected (tidied n) (held_of n) front flash eeprom ++ (last ∷ []) =
        agreement_held front 0xA5 f l (ap (λ (t : List ℕ). t ++ (front ++ (0xA5 ∷ []))) none ∙ whole) in
        let step : ℕ → State → UartStep = λ b t. uart_step t.node b t.flash t.eeprom in
        ap (λ (w : List ℕ). bytes_in (w ++ zs) s) (sym whole)
        ∙ steps_append step behind_byte (front ++ (0xA5 ∷ [])) zs s
        ∙ ap (λ (ts : List UartStep). ts ++ bytes_in zs (end_of behind_byte s ts)) run
        ∙ ap (λ (t : State). (collected (tidied n) (held_of n) front flash eeprom ++ (last ∷ [])) ++ bytes_in zs t)
        (end_append step behind_byte (collected (tidied n) (held_of n) front flash eeprom) (last ∷ []) s)
        ∙ append_assoc (collected (tidied n) (held_of n) front flash eeprom) (last ∷ []) (bytes_in zs (behind_byte last))
        ∙ ap (λ (xs : List ℕ). collected (tidied n) xs front flash eeprom ++ (last ∷ bytes_in zs (behind_byte last))) none
        ∙ ap (λ (t : Step). collected (tidied n) [] front flash eeprom ++ (via_uart t ∷ bytes_in zs (behind_frame t)))
        (ap (λ (t : Node). can_step t f flash eeprom) nothing ∙ frame_tidied n f flash eeprom)

    -- bytes that aren't 0xAA are skipped
    skips : (c : ℕ) → (c ≡ 0xAA → ⊥) → uart_step (tidied n) c flash eeprom ≡ silent 10 (tidied n) flash eeprom
    skips c d =
        rw nothing at
        (first_byte (tidied n) flash eeprom (sizes_full flash eeprom fl el) still_open still_hears still_tidy c false (ne_eqb c 0xAA d))

    skips_all : (cs rest : List ℕ) → NoStart cs
        → bytes_in (cs ++ rest) (state (tidied n) flash eeprom)
        ≡ replicate (length cs) (silent 10 (tidied n) flash eeprom) ++ bytes_in rest (state (tidied n) flash eeprom)
    skips_all [] rest k = refl
    skips_all (c ∷ cs) rest k =
        ap (λ (s : UartStep). s ∷ bytes_in (cs ++ rest) (behind_byte s)) (skips c k.0)
        ∙ ap (λ (t : List UartStep). silent 10 (tidied n) flash eeprom ∷ t) (skips_all cs rest k.1)

    -- and what follows them goes on as if they had not come
    pub skipped : (b : ℕ) (bs rest : List ℕ) → NoStart (b ∷ bs)
        → bytes_in ((b ∷ bs) ++ rest) (state n flash eeprom)
        ≡ replicate (length (b ∷ bs)) (silent 10 (tidied n) flash eeprom) ++ bytes_in rest (state (tidied n) flash eeprom)
    skipped b bs rest h = bytes_tidied b (bs ++ rest) ∙ skips_all (b ∷ bs) rest h

    -- THE LAW, of the frame alone
    pub agreement : (f : List ℕ) → length f ≡ 12
        → bytes_in (wrapped_of f) (state n flash eeprom)
        ≡ collected (tidied n) [] (0xAA ∷ f ++ (sum_of f % 256 ∷ [])) flash eeprom ++ (via_uart (can_step n f flash eeprom) ∷ [])
    agreement f l = ap (λ (w : List ℕ). bytes_in w (state n flash eeprom)) (sym (append-nil (wrapped_of f))) ∙ wrapped_frame f [] l
