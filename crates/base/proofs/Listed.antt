-- The elements of a part written out one by one are the part. An array literal is known by this.
-- Assumes nothing.
use mathlib.Core.Path.{◌≡◌, ◌∙◌, refl, sym, ap, ap₂}
use mathlib.Core.List.{List, ◌∷◌}
use Prim.Native.Nat.{ℕ, zero, suc, ◌+◌, ◌≤◌}
use native.Mathlib.Omega.{arith}
use lib.ListN.{length, get_or, take, drop, replicate, length-drop, get_or-eq_default}
use lib.Seq.{drop-cons, take_all}
use Rattle.base.specs.Parts.{part, listed}

pub listed_part : (m : List ℕ) (i k : ℕ) → i + k ≤ length m → listed m i k ≡ part m i k
listed_part m i zero h = refl
listed_part m i (suc k) h =
    ap (λ (t : List ℕ). get_or m i 0 ∷ t) (listed_part m (suc i) k (omega arith))
    ∙ ap (λ (t : List ℕ). take (suc k) t) (sym (drop-cons m i 0 (omega arith)))

-- all from i on
pub listed_rest : (m : List ℕ) (i k : ℕ) → length m ≡ i + k → listed m i k ≡ drop i m
listed_rest m i k e = listed_part m i k (omega arith) ∙ take_all k (drop i m) (simp length-drop (omega arith))

-- the whole of a list
pub listed_all : (m : List ℕ) (k : ℕ) → length m ≡ k → listed m 0 k ≡ m
listed_all m k e = listed_rest m 0 k (omega arith)

pub length_listed : (m : List ℕ) (i k : ℕ) → length (listed m i k) ≡ k
length_listed m i zero = refl
length_listed m i (suc k) = ap suc (length_listed m (suc i) k)

-- behind the end all are 0
pub listed_past : (m : List ℕ) (i k : ℕ) → length m ≤ i → listed m i k ≡ replicate k 0
listed_past m i zero h = refl
listed_past m i (suc k) h = ap₂ ◌∷◌ (get_or-eq_default m 0 h) (listed_past m (suc i) k (omega arith))
