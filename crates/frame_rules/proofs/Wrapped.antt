-- A frame and its wrapping: what a wrapping holds, and that bytes with the right start, sum and stop are the wrapping of what they hold.
-- Assumes nothing.
use mathlib.Core.Path.{◌≡◌, ◌∙◌, refl, sym, ap}
use mathlib.Core.Bool.{Bool, true, ◌&&◌}
use mathlib.Core.List.{List, [], ◌∷◌, ◌++◌}
use Prim.Native.Nat.{ℕ, ◌%◌}
use native.Mathlib.Omega.{arith}
use lib.Dec.{eqb}
use lib.ListN.{length, get_or, take, drop, length-append, length-take, length-drop, take-append-drop, drop_of_length-le}
use lib.Seq.{drop-cons, get_or-append-add, take_at}
use borrow.Author.Tests.{eq-eqb, eqb-true}
use Rattle.base.proofs.Choice.{both_true}
use Rattle.base.specs.Parts.{sum_of}
use Rattle.frame_rules.specs.Wrapping.{wrapped_of, inner_of, rightly_wrapped}

module _ (f : List ℕ) (l : length f ≡ 12) where
  -- the wrapping of a frame is fifteen bytes with a right start, sum and stop
  pub wrapped_length : length (wrapped_of f) ≡ 15
  unfolding wrapped_of
  wrapped_length = omega (arith, length-append f (sum_of f % 256 ∷ 0xA5 ∷ []))

  -- unwrapping the wrapping gives the frame back
  pub wrapped_inner : inner_of (wrapped_of f) ≡ f
  unfolding wrapped_of
  wrapped_inner = take_at f (sum_of f % 256 ∷ 0xA5 ∷ []) 12 l

  pub wrapped_right : rightly_wrapped (wrapped_of f) ≡ true
  unfolding wrapped_of rightly_wrapped
  wrapped_right =
      let sum : get_or (wrapped_of f) 13 0 ≡ sum_of f % 256 = rw l at (get_or-append-add f (sum_of f % 256 ∷ 0xA5 ∷ []) 0 0) in
      let stop : get_or (wrapped_of f) 14 0 ≡ 0xA5 = rw l at (get_or-append-add f (sum_of f % 256 ∷ 0xA5 ∷ []) 1 0) in
      let inside = sum ∙ ap (λ (x : List ℕ). sum_of x % 256) (sym wrapped_inner) in
      simp (eq-eqb _ _ wrapped_length, eq-eqb _ _ inside, eq-eqb _ _ stop)

-- the last two of fourteen
two : (w : List ℕ) → length w ≡ 14 → drop 12 w ≡ get_or w 12 0 ∷ get_or w 13 0 ∷ []
two w l =
    drop-cons w 12 0 (omega arith)
    ∙ ap (λ (t : List ℕ). get_or w 12 0 ∷ t)
    (drop-cons w 13 0 (omega arith) ∙ ap (λ (t : List ℕ). get_or w 13 0 ∷ t) (drop_of_length-le w {i = 14} (omega arith)))

-- fifteen bytes are their start, the twelve, and the last two
fifteen : (w : List ℕ) → length w ≡ 15 → w ≡ get_or w 0 0 ∷ inner_of w ++ (get_or w 13 0 ∷ get_or w 14 0 ∷ [])
fifteen [] l = let z : ⊥ = omega arith in absurd z
fifteen (x ∷ w) l =
    ap (λ (t : List ℕ). x ∷ t) (sym (take-append-drop 12 w) ∙ ap (λ (t : List ℕ). take 12 w ++ t) (two w (omega arith)))

all_four : (x y z t : Bool) → (x && (y && (z && t))) ≡ true → (x ≡ true) × (y ≡ true) × (z ≡ true) × (t ≡ true)
all_four x y z t e =
    let p = both_true x (y && (z && t)) e in
    let q = both_true y (z && t) p.1 in
    let r = both_true z t q.1 in
    (p.0, q.0, r.0, r.1)

module _ (w : List ℕ) (right : rightly_wrapped w ≡ true) where
  pub right_says : (length w ≡ 15) × (get_or w 0 0 ≡ 0xAA) × (get_or w 13 0 ≡ sum_of (inner_of w) % 256) × (get_or w 14 0 ≡ 0xA5)
  unfolding rightly_wrapped
  right_says =
      let t =
      all_four (eqb (length w) 15) (eqb (get_or w 0 0) 0xAA) (eqb (get_or w 13 0) (sum_of (inner_of w) % 256)) (eqb (get_or w 14 0) 0xA5) right in
      (eqb-true _ _ t.0, eqb-true _ _ t.1, eqb-true _ _ t.2, eqb-true _ _ t.3)

  pub right_inner_length : length (inner_of w) ≡ 12
  right_inner_length = let l = right_says.0 in simp (length-take, length-drop) (omega arith)

  -- wrapping what they hold gives the fifteen bytes back
  pub right_wrapped : wrapped_of (inner_of w) ≡ w
  unfolding wrapped_of
  right_wrapped = let h = right_says in sym (fifteen w h.0 ∙ rw (h.1, h.2, h.3))

-- two frames that share a wrapping are one
pub wrapped_injective : (f g : List ℕ) → wrapped_of f ≡ wrapped_of g → f ≡ g
unfolding wrapped_of
wrapped_injective f g e =
    let l = ap length e in
    let m : length g ≡ length f = omega (arith, length-append f (sum_of f % 256 ∷ 0xA5 ∷ []), length-append g (sum_of g % 256 ∷ 0xA5 ∷ [])) in
    sym (take_at f (sum_of f % 256 ∷ 0xA5 ∷ []) (length f) refl)
    ∙ ap (λ (w : List ℕ). take (length f) (drop 1 w)) e
    ∙ take_at g (sum_of g % 256 ∷ 0xA5 ∷ []) (length f) m

-- two rightly wrapped frames that hold the same bytes are one
pub inner_injective : (v w : List ℕ) → rightly_wrapped v ≡ true → rightly_wrapped w ≡ true → inner_of v ≡ inner_of w → v ≡ w
inner_injective v w h k e = sym (right_wrapped v h) ∙ ap wrapped_of e ∙ right_wrapped w k
