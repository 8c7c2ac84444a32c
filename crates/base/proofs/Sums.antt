-- The laws of a sum: one element more, and the most that n bytes come to.
-- Assumes nothing.
use mathlib.Core.Path.{◌≡◌, refl}
use mathlib.Core.List.{List, [], ◌∷◌}
use Prim.Native.Nat.{ℕ, zero, suc, ◌+◌, ◌*◌, ◌≤◌, ◌<◌}
use native.Mathlib.Nat.{le_of_suc-le-suc, not-suc-le-zero}
use native.Mathlib.Numerals.{add-one}
use native.Mathlib.Omega.{arith}
use lib.ListN.{length, get_or, take}
use Rattle.base.specs.Parts.{sum_of, Bytes}

-- one element more
pub sum_next : (m : List ℕ) (i : ℕ) → i < length m → sum_of (take (suc i) m) ≡ sum_of (take i m) + get_or m i 0
sum_next [] i h = absurd (not-suc-le-zero h)
sum_next (x ∷ m) zero h = omega arith
sum_next (x ∷ m) (suc i) h = omega (arith, sum_next m i (le_of_suc-le-suc h))

-- the same of numbers that are known to be so
pub sum_more : (m : List ℕ) (i s v : ℕ) → i < length m → s ≡ sum_of (take i m) → v ≡ get_or m i 0 → s + v ≡ sum_of (take (i + 1) m)
sum_more m i s v h e q = rw (add-one, sum_next m i h, e, q) refl

-- n bytes come to at most 255 n
pub sum_most : (m : List ℕ) → Bytes m → sum_of m ≤ 255 * length m
sum_most [] h = omega arith
sum_most (x ∷ m) h = omega (arith, sum_most m h.1, h.0)
