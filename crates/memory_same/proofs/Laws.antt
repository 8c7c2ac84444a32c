-- `same` is equality of lists: both ways.
-- Assumes nothing.
use mathlib.Core.Path.{◌≡◌, refl, ap, ap₂, subst}
use mathlib.Core.Bool.{Bool, true, false, false≢true}
use mathlib.Core.List.{List, [], ◌∷◌}
use Prim.Native.Nat.{ℕ}
use lib.Dec.{eqb}
use lib.ListN.{length}
use borrow.Author.Tests.{eqb-true, eq-eqb}
use Rattle.base.proofs.Choice.{both_true, true_both}
use Rattle.memory_same.specs.Same.{same}

pub same_equal : (xs ys : List ℕ) → same xs ys ≡ true → xs ≡ ys
same_equal [] [] e = refl
same_equal [] (y ∷ ys) e = absurd (false≢true e)
same_equal (x ∷ xs) [] e = absurd (false≢true e)
same_equal (x ∷ xs) (y ∷ ys) e =
    let b = both_true (eqb x y) (same xs ys) e in
    ap₂ (λ (z : ℕ) (zs : List ℕ). z ∷ zs) (eqb-true x y b.0) (same_equal xs ys b.1)

same_self : (xs : List ℕ) → same xs xs ≡ true
same_self [] = refl
same_self (x ∷ xs) = true_both (eqb x x) (same xs xs) (eq-eqb x x refl) (same_self xs)

pub equal_same : (xs ys : List ℕ) → xs ≡ ys → same xs ys ≡ true
equal_same xs ys e = subst (λ (zs : List ℕ). same xs zs ≡ true) e (same_self xs)

pub unequal_same : (xs ys : List ℕ) → (xs ≡ ys → ⊥) → same xs ys ≡ false
unequal_same xs ys n = go (same xs ys) refl
  where
    go : (b : Bool) → same xs ys ≡ b → same xs ys ≡ false
    go false e = e
    go true e = absurd (n (same_equal xs ys e))

-- lists of other lengths are not the same
pub other_length_lem : (xs ys : List ℕ) → (length xs ≡ length ys → ⊥) → same xs ys ≡ false
other_length_lem xs ys n = unequal_same xs ys (λ (e : xs ≡ ys). n (ap length e))
