-- Given cells, one place after the other: a part of places is touched if its first place is given or the rest of it is touched, and a part
-- of no places never is. By numbers a cell lies in a part exactly if it has its first place or lies in the rest, and so for all cells.
-- Assumes nothing.
use mathlib.Core.Path.{◌≡◌, ◌∙◌, refl, sym, ap, ap₂}
use mathlib.Core.Bool.{Bool, true, false, ◌&&◌, ◌||◌, or-true}
use mathlib.Core.List.{List, [], ◌∷◌}
use mathlib.Core.Logic.{⊎_elim}
use Prim.Native.Nat.{ℕ, suc, ◌+◌}
use native.Mathlib.Omega.{arith}
use lib.Dec.{eqb, leb, ltb}
use borrow.Author.Tests.{eqb-true, eqb-false, leb-true, leb-false, le-leb, lt-leb, lt-ltb, le-ltb}
use Rattle.base.proofs.Choice.{cond_false, true_or_false, neither}
use Rattle.hex_rules.specs.Cells.{Cell, given_at, byte_at, touched}

-- a place that is not a lies from a on if it lies behind a
not_first : (p a : ℕ) → (p ≡ a → ⊥) → leb a p ≡ leb (suc a) p
not_first p a n =
    ⊎_elim (λ t. t ∙ sym (le-leb (suc a) p (omega (arith, leb-true a p t, n))))
    (λ f. f ∙ sym (lt-leb (suc a) p (omega (arith, leb-false a p f))))
    (true_or_false (leb a p))

-- a place is one of the suc n from a on if it is a, or one of the n behind a
first_or_behind : (p a n : ℕ) → (leb a p && ltb p (a + suc n)) ≡ (eqb p a || (leb (suc a) p && ltb p (suc a + n)))
first_or_behind p a n =
    let end : suc a + n ≡ a + suc n = omega arith in
    ⊎_elim (λ t. let e = eqb-true p a t in rw (t, le-leb a p (omega arith), lt-ltb p (a + suc n) (omega arith)))
    (λ (f : eqb p a ≡ false). rw (f, end) (ap (λ (b : Bool). b && ltb p (a + suc n)) (not_first p a (eqb-false p a f))))
    (true_or_false (eqb p a))

-- no place is one of none
none_of_none : (p a : ℕ) → (leb a p && ltb p (a + 0)) ≡ false
none_of_none p a =
    ⊎_elim (λ t. rw (t, le-ltb p (a + 0) (omega (arith, leb-true a p t)))) (λ (f : leb a p ≡ false). rw f) (true_or_false (leb a p))

-- of four tests the two in the middle change places
middle : (x y g t : Bool) → ((x || y) || (g || t)) ≡ ((x || g) || (y || t))
middle true y g t = refl
middle false true g t = sym (or-true g)
middle false false g t = refl

-- a part is touched if its first place is given, or the rest of it is touched
pub touched_next : (cells : List Cell) (a n : ℕ) → touched cells a (suc n) ≡ (given_at cells a || touched cells (suc a) n)
touched_next [] a n = refl
touched_next (c ∷ cs) a n =
    ap₂ ◌||◌ (first_or_behind c.place a n) (touched_next cs a n)
    ∙ middle (eqb c.place a) (leb (suc a) c.place && ltb c.place (suc a + n)) (given_at cs a) (touched cs (suc a) n)

-- a part of no places is not touched
pub touched_none : (cells : List Cell) (a : ℕ) → touched cells a 0 ≡ false
touched_none [] a = refl
touched_none (c ∷ cs) a = ap₂ ◌||◌ (none_of_none c.place a) (touched_none cs a)

-- the byte of a place that is not given is 0xFF
pub byte_not_given : (cells : List Cell) (a : ℕ) → given_at cells a ≡ false → byte_at cells a ≡ 0xFF
byte_not_given [] a e = refl
byte_not_given (c ∷ cs) a e =
    let p = neither (eqb c.place a) (given_at cs a) e in
    cond_false (eqb c.place a) c.byte (byte_at cs a) p.0 ∙ byte_not_given cs a p.1
