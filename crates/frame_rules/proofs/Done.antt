-- Number 0 of each conversion: it comes exactly where every check is passed.
-- Assumes nothing.
use mathlib.Core.Path.{◌≡◌, refl}
use mathlib.Core.Bool.{Bool, true, false, cond, not}
use mathlib.Core.List.{List}
use Prim.Native.Nat.{ℕ, ◌<◌}
use native.Mathlib.Omega.{arith}
use lib.Dec.{eqb, lit<}
use lib.ListN.{length}
use borrow.Author.Tests.{eq-eqb, eqb-true, not-false}
use Rattle.frame_rules.specs.Frame.{legal_identifier, upper_flags}
use Rattle.frame_rules.specs.Wrapping.{rightly_wrapped}
use Rattle.frame_rules.specs.Numbers.{to_hapcan_number, to_can_number, wrap_number, unwrap_number}

-- a check that gives k, which is not 0, was passed where 0 came out
passed : (b : Bool) (k n : ℕ) → 0 < k → cond b k n ≡ 0 → (b ≡ false) × (n ≡ 0)
passed true k n h e = let z : ⊥ = omega arith in absurd z
passed false k n h e = (refl, e)

module _ (a b k n : ℕ) (h : 0 < k) (e : cond (not (eqb a b)) k n ≡ 0) where
  same : a ≡ b
  same = eqb-true a b (not-false _ (passed (not (eqb a b)) k n h e).0)

  next : n ≡ 0
  next = (passed (not (eqb a b)) k n h e).1

module _ (i : ℕ) (d : List ℕ) (room : ℕ) where
  pub to_hapcan_done : to_hapcan_number i d room ≡ 0 → (room ≡ 12) × (legal_identifier i ≡ true) × (length d ≡ 8)
  unfolding to_hapcan_number
  to_hapcan_done e =
      let p = passed _ 4 _ (lit< tt) (next room 12 4 _ (lit< tt) e) in
      (same room 12 4 _ (lit< tt) e, not-false _ p.0, same (length d) 8 4 _ (lit< tt) p.1)

  pub done_to_hapcan : room ≡ 12 → legal_identifier i ≡ true → length d ≡ 8 → to_hapcan_number i d room ≡ 0
  unfolding to_hapcan_number
  done_to_hapcan r h l = simp (eq-eqb _ _ r, h, eq-eqb _ _ l)

module _ (f : List ℕ) (room : ℕ) where
  pub to_can_done : to_can_number f room ≡ 0 → (room ≡ 8) × (length f ≡ 12) × (upper_flags f ≡ false)
  unfolding to_can_number
  to_can_done e =
      let p = next room 8 4 _ (lit< tt) e in
      (same room 8 4 _ (lit< tt) e, same (length f) 12 4 _ (lit< tt) p, (passed _ 4 0 (lit< tt) (next (length f) 12 4 _ (lit< tt) p)).0)

  pub done_to_can : room ≡ 8 → length f ≡ 12 → upper_flags f ≡ false → to_can_number f room ≡ 0
  unfolding to_can_number
  done_to_can r l u = simp (eq-eqb _ _ r, eq-eqb _ _ l, u)

  pub wrap_done : wrap_number f room ≡ 0 → (room ≡ 15) × (length f ≡ 12)
  unfolding wrap_number
  wrap_done e = (same room 15 4 _ (lit< tt) e, same (length f) 12 4 0 (lit< tt) (next room 15 4 _ (lit< tt) e))

  pub done_wrap : room ≡ 15 → length f ≡ 12 → wrap_number f room ≡ 0
  unfolding wrap_number
  done_wrap r l = simp (eq-eqb _ _ r, eq-eqb _ _ l)

module _ (w : List ℕ) (room : ℕ) where
  pub unwrap_done : unwrap_number w room ≡ 0 → (room ≡ 12) × (length w ≡ 15) × (rightly_wrapped w ≡ true)
  unfolding unwrap_number
  unwrap_done e =
      let p = next room 12 4 _ (lit< tt) e in (
        same room 12 4 _ (lit< tt) e,
        same (length w) 15 4 _ (lit< tt) p,
        not-false _ (passed _ 11 0 (lit< tt) (next (length w) 15 4 _ (lit< tt) p)).0,
      )

  pub done_unwrap : room ≡ 12 → length w ≡ 15 → rightly_wrapped w ≡ true → unwrap_number w room ≡ 0
  unfolding unwrap_number
  done_unwrap r l t = simp (eq-eqb _ _ r, eq-eqb _ _ l, t)
