-- `frame_wrap::wrap` meets its contract: the output is start, bytes, sum and stop, each stored at its place.
-- Assumes nothing.
use Rattle.std.proofs.Common.{◌≡◌, ℕ, ◌%◌, List, [], ◌∷◌, ◌++◌, ◌∙◌, length, drop, refl, ap, arith, length-drop}
use Rattle.base.specs.Parts.{sum_of}
use Rattle.std.proofs.Math.ListN.{set}
use Rattle.std.proofs.lemmas.Grind.{common_steps}
use Rattle.std.proofs.lemmas.List.{set-append_right}
use borrow.Rule.Slice.PartMut.{put_mid}
use Rattle.frame_rules.specs.Numbers.{wrap_number}
use Rattle.frame_rules.specs.Wrapping.{wrapped_of}
use Rattle.frame_wrap.proofs.wrap.Goals as goal

two-set : (l : List ℕ) (s t : ℕ) → length l ≡ 2 → set (set l 0 s) 1 t ≡ s ∷ t ∷ []
two-set [] s t e = let z : ⊥ = omega arith in absurd z
two-set (a ∷ []) s t e = let z : ⊥ = omega arith in absurd z
two-set (a ∷ b ∷ []) s t e = refl
two-set (a ∷ b ∷ c ∷ l) s t e = let z : ⊥ = omega arith in absurd z

-- the two behind the twelve, both stored
ends : (f l : List ℕ) (s t : ℕ) → length f ≡ 12 → length l ≡ 2 → set (set (f ++ l) 12 s) 13 t ≡ f ++ s ∷ t ∷ []
ends f l s t k e =
    rw (set-append_right f l 12 12 s k (omega arith), set-append_right f (set l 0 s) 12 13 t k (omega arith))
    (ap (λ (x : List ℕ). f ++ x) (two-set l s t e))

-- start, bytes, sum and stop, in this order
laid : (w f : List ℕ) (a s t : ℕ) → length w ≡ 15 → length f ≡ 12
    → set (set (put_mid 1 12 (set w 0 a) f) 13 s) 14 t ≡ a ∷ f ++ s ∷ t ∷ []
laid [] f a s t l k = let z : ⊥ = omega arith in absurd z
laid (y ∷ w) f a s t l k = ap (λ (x : List ℕ). a ∷ x) (ends f (drop 12 w) s t k (simp length-drop (omega arith)))

pub returns : goal.returns
unfolding wrap_number wrapped_of
returns c =
    let w = c.if-wrapped-ne15.false in
    let t : (c.in_ok-inner.inner ≡ c.args.frame.now) × (length c.args.frame.now ≡ 12) = grind (arith, common_steps) in
    let f : c.copy_from_slice.new.self ≡ c.args.frame.now = grind (arith, common_steps) in
    let e = laid c.args.wrapped.now c.args.frame.now 0xAA c.sum_of.result 0xA5 w t.1 in
    let s : c.sum_of.result ≡ sum_of c.args.frame.now % 256 = rw t.0 at c.sum_of.ensures in
    (rw (w, t.1), rw f (e ∙ ap (λ (x : ℕ). 0xAA ∷ (c.args.frame.now ++ x ∷ 0xA5 ∷ [])) s))
