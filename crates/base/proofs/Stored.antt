-- A loop that stores the elements of one list over those of another, from the front: after i turns the first i are new and the
-- rest old. Every leaf's loop cites these.
-- Assumes nothing.
use mathlib.Core.Path.{◌≡◌, refl, ap}
use mathlib.Core.List.{List, [], ◌∷◌, ◌++◌, append-nil}
use Prim.Native.Nat.{ℕ, zero, suc, ◌+◌, ◌<◌}
use native.Mathlib.Nat.{le_of_suc-le-suc, not-suc-le-zero}
use native.Mathlib.Numerals.{add-one}
use native.Mathlib.Omega.{arith}
use lib.ListN.{length, get_or, set, take, drop, length-append, length-take, length-drop, drop_of_length-le}
use lib.Seq.{take_all}

-- the first i of the new list, and then the old one's
abbrev pub mix : List ℕ → List ℕ → ℕ → List ℕ
mix new old i = take i new ++ drop i old

set_suc : (new old : List ℕ) (i : ℕ) → i < length new → i < length old → set (mix new old i) i (get_or new i 0) ≡ mix new old (suc i)
set_suc [] old i h k = absurd (not-suc-le-zero h)
set_suc (n ∷ new) [] i h k = absurd (not-suc-le-zero k)
set_suc (n ∷ new) (o ∷ old) zero h k = refl
set_suc (n ∷ new) (o ∷ old) (suc i) h k =
    ap (λ (t : List ℕ). n ∷ t) (set_suc new old i (le_of_suc-le-suc h) (le_of_suc-le-suc k))

-- the element that the next turn replaces is still the old one
pub mix_next : (new old : List ℕ) (i : ℕ) → i < length new → i < length old → get_or (mix new old i) i 0 ≡ get_or old i 0
mix_next [] old i h k = absurd (not-suc-le-zero h)
mix_next (n ∷ new) [] i h k = absurd (not-suc-le-zero k)
mix_next (n ∷ new) (o ∷ old) zero h k = refl
mix_next (n ∷ new) (o ∷ old) (suc i) h k = mix_next new old i (le_of_suc-le-suc h) (le_of_suc-le-suc k)

pub mix_length : (new old : List ℕ) (i : ℕ) → length new ≡ length old → length (mix new old i) ≡ length old
mix_length new old i e = simp (length-append, length-take, length-drop) (omega arith)

-- after the last turn all are new
pub mix_all : (new old : List ℕ) (n : ℕ) → length new ≡ n → length old ≡ n → mix new old n ≡ new
mix_all new old n h k = simp (take_all n new (omega arith), drop_of_length-le old {i = n} (omega arith), append-nil)

-- a turn: the new list's element is stored at its place
pub stored : (new old cells : List ℕ) (i v : ℕ) → cells ≡ mix new old i → v ≡ get_or new i 0 → i < length new → i < length old
    → set cells i v ≡ mix new old (i + 1)
stored new old cells i v e q h k = rw (e, q, add-one) (set_suc new old i h k)
