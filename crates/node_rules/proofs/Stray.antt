-- Nothing good is lost behind a stray 0xAA: in the new way noise before a right frame costs no frame. What is held, followed by what is
-- still to come, is always some of the noise followed by the frame: a byte that is skipped, or dropped after 11, is one of the noise, since
-- no byte is dropped from an 0xAA on before fifteen bytes from there are judged, and the frame begins with an 0xAA.
-- Assumes nothing.
use mathlib.Core.Path.{◌≡◌, ◌∙◌, refl, sym, ap, subst}
use mathlib.Core.Bool.{Bool, true, false, cond}
use mathlib.Core.List.{List, [], ◌∷◌, ◌++◌, append_assoc, append-nil}
use mathlib.Core.Logic.{◌⊎◌, inl, inr}
use Prim.Native.Nat.{ℕ, suc, ◌+◌, ◌≤◌}
use native.Mathlib.Omega.{arith}
use lib.Dec.{eqb, leb}
use lib.ListN.{length, get_or, take, drop, length-append}
use lib.Seq.{take_at, drop_at, take_all, take-append-le}
use borrow.Author.Tests.{eqb-true, eqb-false, leb-true, leb-false}
use Rattle.base.proofs.Choice.{cond_true, cond_false, by_cond}
use Rattle.memory_address.specs.Places.{full}
use Rattle.frame_rules.specs.Wrapping.{wrapped_of, inner_of, rightly_wrapped}
use Rattle.frame_rules.proofs.Wrapped.{wrapped_length, wrapped_inner, wrapped_right}
use Rattle.node_rules.specs.declared.Pin.TheVariants.{CanAndUart}
use Rattle.node_rules.specs.declared.Noise.{Noise}
use Rattle.node_rules.specs.declared.Noise.TheVariants.{KeepFromNext}
use Rattle.node_rules.specs.declared.Node.{Node}
use Rattle.node_rules.specs.Record.{holding, held_of, tidy_mode, tidied, Holdable}
use Rattle.node_rules.specs.Outcomes.{is_deaf}
use Rattle.node_rules.specs.Step.{Step, can_step}
use Rattle.node_rules.specs.Uart.{UartStep, from_start, kept_by, held_after_bad, via_uart, uart_step, silent}
use Rattle.node_rules.specs.Runs.{state, behind_frame, behind_byte, bytes_in, TensAndElevens, NoFrameIn}
use Rattle.node_rules.proofs.Tidying.{held_holdable, holdable_few}
use Rattle.node_rules.proofs.StaysTidy.{bad_holdable}
use Rattle.node_rules.proofs.Ruling.{sizes_full}
use Rattle.node_rules.proofs.Agreement.{held_more, held_last, first_byte, still_hears, still_open, still_tidy, bytes_tidied, frame_tidied, nothing}

-- ---- lists

first_of : (x y : ℕ) (xs ys : List ℕ) → x ∷ xs ≡ y ∷ ys → x ≡ y
first_of x y xs ys e = ap (λ (l : List ℕ). get_or l 0 0) e

rest_of : (x y : ℕ) (xs ys : List ℕ) → x ∷ xs ≡ y ∷ ys → xs ≡ ys
rest_of x y xs ys e = ap (λ (l : List ℕ). drop 1 l) e

-- fifteen bytes that start in the noise end before the frame does: what comes behind it has no say
few_behind : (noise w zs : List ℕ) → length w ≡ 15 → NoFrameIn noise w → NoFrameIn noise (w ++ zs)
few_behind [] w zs l h = tt
few_behind (b ∷ noise) w zs l h = (
  λ a. ap rightly_wrapped
      (ap (take 15) (sym (append_assoc (b ∷ noise) w zs))
      ∙ take-append-le 15 (b ∷ noise ++ w) zs (omega (arith, length-append (b ∷ noise) w)))
      ∙ h.0 a,
  few_behind noise w zs l h.1,
)

-- ---- an open, running node in the new way, over full memories; a frame, and what comes behind it

module _ (m : Node) (flash eeprom : List ℕ) (isFull : full flash eeprom ≡ true) (pin : m.choices.pin ≡ CanAndUart)
    (hears : is_deaf m.mode ≡ false) (tidy : tidy_mode m.mode ≡ m.mode) (new : m.choices.noise ≡ KeepFromNext)
    (f zs : List ℕ) (l : length f ≡ 12) where
  -- the frame as it comes, and what stands behind it
  abbrev coming : List ℕ
  coming = wrapped_of f ++ zs

  -- what the frame gives
  abbrev own : UartStep
  own = via_uart (can_step (holding m []) f flash eeprom)

  -- the theorem, where xs are held and bs are still to come
  abbrev Arrives : List ℕ → List ℕ → Type 0
  Arrives xs bs = (before : List UartStep)
      × (bytes_in bs (state (holding m xs) flash eeprom) ≡ before ++ (own ∷ bytes_in zs (behind_byte own)))
      × TensAndElevens flash eeprom before

  -- some of the noise, and then the frame
  abbrev Ahead : List ℕ → List ℕ → Type 0
  Ahead xs bs = (noise : List ℕ) × (xs ++ bs ≡ noise ++ coming) × NoFrameIn noise coming

  coming_long : length coming ≡ 15 + length zs
  coming_long = length-append (wrapped_of f) zs ∙ ap (λ (k : ℕ). k + length zs) (wrapped_length f l)

  coming_starts : (x : ℕ) (xs : List ℕ) → x ∷ xs ≡ coming → x ≡ 0xAA
  unfolding wrapped_of
  coming_starts x xs e = first_of x 0xAA xs _ e

  -- a byte that is 10 or 11
  later : (xs ys bs : List ℕ) (b number : ℕ) → (number ≡ 10) ⊎ (number ≡ 11)
      → uart_step (holding m xs) b flash eeprom ≡ silent number (holding m ys) flash eeprom → Arrives ys bs → Arrives xs (b ∷ bs)
  later xs ys bs b number h e a = (
    silent number (holding m ys) flash eeprom ∷ a.0,
    ap (λ (s : UartStep). s ∷ bytes_in bs (behind_byte s)) e
        ∙ ap (λ (t : List UartStep). silent number (holding m ys) flash eeprom ∷ t) a.1,
    (h, refl, refl, refl, refl, a.2),
  )

  -- bytes dropped before the first 0xAA are of the noise, since the frame begins with one
  dropped : (ts bs noise : List ℕ) → ts ++ bs ≡ noise ++ coming → NoFrameIn noise coming → Ahead (from_start ts) bs
  dropped [] bs noise e h = (noise, e, h)
  dropped (t ∷ ts) bs [] e h =
      by_cond (λ (xs : List ℕ). Ahead xs bs) (eqb t 0xAA) (t ∷ ts) (from_start ts) (λ _. ([], e, h))
      (λ n. absurd (eqb-false t 0xAA n (coming_starts t (ts ++ bs) e)))
  dropped (t ∷ ts) bs (u ∷ us) e h =
      by_cond (λ (xs : List ℕ). Ahead xs bs) (eqb t 0xAA) (t ∷ ts) (from_start ts) (λ _. (u ∷ us, e, h))
      (λ _. dropped ts bs us (rest_of t u (ts ++ bs) (us ++ coming) e) h.1)

  -- what is known of the bytes behind b, for whatever is held
  abbrev Known : List ℕ → Type 0
  Known bs = (xs : List ℕ) → Holdable xs → Ahead xs bs → Arrives xs bs

  -- where nothing is held: a byte of the noise is skipped, and an 0xAA is held, be it the frame's
  from_nothing : (b : ℕ) (bs : List ℕ) → Known bs → Ahead [] (b ∷ bs) → Arrives [] (b ∷ bs)
  from_nothing b bs known a = go (eqb b 0xAA) refl a.0 a.1 a.2
    where
      byte : (t : Bool) → eqb b 0xAA ≡ t
          → uart_step (holding m []) b flash eeprom ≡ silent 10 (holding m (cond t (b ∷ []) [])) flash eeprom
      byte = first_byte m flash eeprom isFull pin hears tidy b

      go : (t : Bool) → eqb b 0xAA ≡ t → (noise : List ℕ) → b ∷ bs ≡ noise ++ coming → NoFrameIn noise coming → Arrives [] (b ∷ bs)
      go true q noise e h =
          later [] (b ∷ []) bs b 10 (inl refl) (byte true q) (known (b ∷ []) (eqb-true b 0xAA q, omega arith) (noise, e, h))
      go false q [] e h = absurd (eqb-false b 0xAA q (coming_starts b bs e))
      go false q (u ∷ us) e h =
          later [] [] bs b 10 (inl refl) (byte false q) (known [] tt (us, rest_of b u bs (us ++ coming) e, h.1))

  -- where fewer than fourteen are held: one more
  holds_more : (x : ℕ) (h : List ℕ) (b : ℕ) (bs : List ℕ) → x ≡ 0xAA → length (x ∷ h) ≤ 13 → Known bs → Ahead (x ∷ h) (b ∷ bs)
      → Arrives (x ∷ h) (b ∷ bs)
  holds_more x h b bs e k known a =
      later (x ∷ h) (x ∷ h ++ (b ∷ [])) bs b 10 (inl refl) (held_more m flash eeprom isFull pin hears tidy x h b e k)
      (known (x ∷ h ++ (b ∷ [])) (e, omega (arith, length-append h (b ∷ [])))
      (a.0, append_assoc (x ∷ h) (b ∷ []) bs ∙ a.1, a.2))

  -- where fourteen are held: the frame itself, or fifteen bytes that start in the noise, of which the first is dropped
  module _ (x : ℕ) (h : List ℕ) (b : ℕ) (bs : List ℕ) (start : x ≡ 0xAA) (k : length (x ∷ h) ≡ 14) (known : Known bs) where
    abbrev ys : List ℕ
    ys = x ∷ h ++ (b ∷ [])

    long : length ys ≡ 15
    long = omega (arith, length-append h (b ∷ []))

    byte : uart_step (holding m (x ∷ h)) b flash eeprom
        ≡ cond (rightly_wrapped ys) (via_uart (can_step (holding m []) (inner_of ys) flash eeprom))
        (silent 11 (holding m (held_after_bad m.choices ys)) flash eeprom)
    byte = held_last m flash eeprom isFull pin hears tidy x h b start k

    kept : held_after_bad m.choices ys ≡ from_start (h ++ (b ∷ []))
    unfolding held_after_bad
    kept = ap (λ (way : Noise). kept_by way ys) new ∙ ap from_start (take_all 14 (h ++ (b ∷ [])) (omega (arith, long)))

    judged_whole : (noise : List ℕ) → ys ++ bs ≡ noise ++ coming → NoFrameIn noise coming → Arrives (x ∷ h) (b ∷ bs)
    judged_whole [] e n =
        let w = wrapped_of f in
        let same : ys ≡ w = sym (take_at ys bs 15 long) ∙ ap (take 15) e ∙ take_at w zs 15 (wrapped_length f l) in
        let behind : bs ≡ zs = sym (drop_at ys bs 15 long) ∙ ap (drop 15) e ∙ drop_at w zs 15 (wrapped_length f l) in
        let gives : uart_step (holding m (x ∷ h)) b flash eeprom ≡ own =
        byte
        ∙ cond_true (rightly_wrapped ys) _ _ (ap rightly_wrapped same ∙ wrapped_right f l)
        ∙ ap (λ (g : List ℕ). via_uart (can_step (holding m []) g flash eeprom)) (ap inner_of same ∙ wrapped_inner f l) in (
          [],
          ap (λ (s : UartStep). s ∷ bytes_in bs (behind_byte s)) gives ∙ ap (λ (t : List ℕ). own ∷ bytes_in t (behind_byte own)) behind,
          tt,
        )
    judged_whole (u ∷ us) e n =
        let bad : rightly_wrapped ys ≡ false =
        ap rightly_wrapped (sym (take_at ys bs 15 long) ∙ ap (take 15) e)
        ∙ n.0 (sym (first_of x u ((h ++ (b ∷ [])) ++ bs) (us ++ coming) e) ∙ start) in
        later (x ∷ h) (held_after_bad m.choices ys) bs b 11 (inr refl) (byte ∙ cond_false (rightly_wrapped ys) _ _ bad)
        (known (held_after_bad m.choices ys) (bad_holdable m.choices ys)
        (subst (λ (xs : List ℕ). Ahead xs bs) (sym kept)
        (dropped (h ++ (b ∷ [])) bs us (rest_of x u ((h ++ (b ∷ [])) ++ bs) (us ++ coming) e) n.1)))

  -- one byte, whatever is held
  with_byte_more : (b : ℕ) (bs : List ℕ) → Known bs → Known (b ∷ bs)
  with_byte_more b bs known [] h a = from_nothing b bs known a
  with_byte_more b bs known (x ∷ xs) h a = go (leb (suc (length xs)) 13) refl
    where
      go : (t : Bool) → leb (suc (length xs)) 13 ≡ t → Arrives (x ∷ xs) (b ∷ bs)
      go true q = holds_more x xs b bs h.0 (leb-true (suc (length xs)) 13 q) known a
      go false q =
          judged_whole x xs b bs h.0 (omega (arith, leb-false (suc (length xs)) 13 q, h.1)) known a.0
          (append_assoc (x ∷ xs) (b ∷ []) bs ∙ a.1) a.2

  arrives : (bs : List ℕ) → Known bs
  arrives [] xs h a =
      let z : ⊥ =
      omega (arith, holdable_few xs h, coming_long, length-append a.0 coming, ap length (sym (append-nil xs) ∙ a.1)) in absurd z
  arrives (b ∷ bs) xs h a = with_byte_more b bs (arrives bs) xs h a

-- ---- the theorems, of any record

module _ (n : Node) (flash eeprom : List ℕ) (fl : length flash ≡ 65536) (el : length eeprom ≡ 1024)
    (pin : n.choices.pin ≡ CanAndUart) (hears : is_deaf n.mode ≡ false) (new : n.choices.noise ≡ KeepFromNext) where
  -- what comes to the tidied record
  to_tidied : (cs noise f zs : List ℕ) → length f ≡ 12 → held_of n ++ cs ≡ noise ++ (wrapped_of f ++ zs)
      → bytes_in cs (state n flash eeprom) ≡ bytes_in cs (state (tidied n) flash eeprom)
  to_tidied (b ∷ bs) noise f zs l e = bytes_tidied n flash eeprom fl el pin hears b bs
  to_tidied [] noise f zs l e =
      let z : ⊥ =
      omega (
        arith,
        holdable_few (held_of n) (held_holdable n.receiver),
        wrapped_length f l,
        length-append (wrapped_of f) zs,
        length-append noise (wrapped_of f ++ zs),
        ap length (sym (append-nil (held_of n)) ∙ e),
      ) in absurd z

  -- THE LAW, in general: what is held followed by what comes is noise, a wrapped frame, and whatever stands behind that
  pub nothing_lost_held : (cs noise f zs : List ℕ) → length f ≡ 12 → NoFrameIn noise (wrapped_of f)
      → held_of n ++ cs ≡ noise ++ (wrapped_of f ++ zs)
      → (before : List UartStep)
      × (bytes_in cs (state n flash eeprom)
      ≡ before ++ (via_uart (can_step (holding (tidied n) []) f flash eeprom)
      ∷ bytes_in zs (behind_frame (can_step (holding (tidied n) []) f flash eeprom))))
      × TensAndElevens flash eeprom before
  unfolding tidied
  nothing_lost_held cs noise f zs l h e =
      let a = arrives (tidied n) flash eeprom (sizes_full flash eeprom fl el) (still_open n flash eeprom fl el pin hears)
      (still_hears n flash eeprom fl el pin hears) (still_tidy n flash eeprom fl el pin hears) new f zs l cs (held_of n)
      (held_holdable n.receiver) (noise, e, few_behind noise (wrapped_of f) zs (wrapped_length f l) h) in
      (a.0, to_tidied cs noise f zs l e ∙ a.1, a.2)

  -- THE LAW: noise, and then a wrapped frame, where nothing is held
  pub nothing_lost : held_of n ≡ [] → (noise f : List ℕ) → length f ≡ 12 → NoFrameIn noise (wrapped_of f)
      → (before : List UartStep)
      × (bytes_in (noise ++ wrapped_of f) (state n flash eeprom) ≡ before ++ (via_uart (can_step n f flash eeprom) ∷ []))
      × TensAndElevens flash eeprom before
  nothing_lost none noise f l h =
      let cs = noise ++ wrapped_of f in
      let a = nothing_lost_held cs noise f [] l h
      (ap (λ (xs : List ℕ). xs ++ cs) none ∙ ap (λ (xs : List ℕ). noise ++ xs) (sym (append-nil (wrapped_of f)))) in (
        a.0,
        a.1 ∙ ap (λ (s : Step). a.0 ++ (via_uart s ∷ []))
            (ap (λ (x : Node). can_step x f flash eeprom) (nothing n flash eeprom fl el pin hears none) ∙ frame_tidied n f flash eeprom),
        a.2,
      )
