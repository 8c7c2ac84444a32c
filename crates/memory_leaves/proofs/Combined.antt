-- The laws of `combined`, what a FLASH write leaves: as long as the cells were, and at each place the two bytes by "and".
-- Assumes nothing.
use mathlib.Core.Path.{◌≡◌, refl, ap, ap₂, sym, ◌∙◌}
use mathlib.Core.List.{List, [], ◌∷◌}
use Prim.Native.Nat.{ℕ, zero, suc, suc-le-suc, ◌<◌, ◌≤◌, ◌/◌, ◌%◌, ◌^◌}
use native.Mathlib.Nat.{le_of_suc-le-suc, not-suc-le-zero, le_trans, mod-eq_of_lt, suc-ne-zero, suc_inj}
use lib.Bits.{bit_and, and_le_l, and_shr, and_mod, and_comm, and_mask}
use lib.ListN.{length, get_or, replicate}
use Rattle.base.specs.Parts.{Bytes}
use Rattle.memory_leaves.specs.Leaves.{combined}

pub length_combined : (xs ys : List ℕ) → length (combined xs ys) ≡ length xs
length_combined [] ys = refl
length_combined (x ∷ xs) [] = refl
length_combined (x ∷ xs) (y ∷ ys) = ap suc (length_combined xs ys)

pub get_d_combined : (xs ys : List ℕ) (i : ℕ) → i < length xs → i < length ys
    → get_or (combined xs ys) i 0 ≡ bit_and (get_or xs i 0) (get_or ys i 0)
get_d_combined [] ys i h k = absurd (not-suc-le-zero h)
get_d_combined (x ∷ xs) [] i h k = absurd (not-suc-le-zero k)
get_d_combined (x ∷ xs) (y ∷ ys) zero h k = refl
get_d_combined (x ∷ xs) (y ∷ ys) (suc i) h k = get_d_combined xs ys i (le_of_suc-le-suc h) (le_of_suc-le-suc k)

pub bytes_combined : (xs ys : List ℕ) → Bytes xs → Bytes (combined xs ys)
bytes_combined [] ys h = tt
bytes_combined (x ∷ xs) [] h = h
bytes_combined (x ∷ xs) (y ∷ ys) h = (le_trans (suc-le-suc (and_le_l x y)) h.0, bytes_combined xs ys h.1)

-- bit k of a byte, 0 or 1
abbrev pub bit : ℕ → ℕ → ℕ
bit x k = x / 2 ^ k % 2 ^ 1

-- bit by bit: bit k of what a write leaves is bit k of both combined, so a write never sets one
pub bit_and_lem : (x y k : ℕ) → bit (bit_and x y) k ≡ bit_and (bit x k) (bit y k)
bit_and_lem x y k = ap (λ (n : ℕ). n % 2 ^ 1) (and_shr x y k) ∙ and_mod (x / 2 ^ k) (y / 2 ^ k) 1

pub never_sets : (x y k : ℕ) → bit (bit_and x y) k ≤ bit x k
never_sets x y k = rw (bit_and_lem x y k) (and_le_l (bit x k) (bit y k))

-- over blank cells a write leaves the new bytes
pub over_blank : (n : ℕ) (ys : List ℕ) → length ys ≡ n → Bytes ys → combined (replicate n 0xFF) ys ≡ ys
over_blank zero [] e h = refl
over_blank zero (y ∷ ys) e h = absurd (suc-ne-zero (length ys) e)
over_blank (suc n) [] e h = absurd (suc-ne-zero n (sym e))
over_blank (suc n) (y ∷ ys) e h =
    ap₂ ◌∷◌ (and_comm 255 y ∙ and_mask y 8 ∙ mod-eq_of_lt h.0) (over_blank n ys (suc_inj e) h.1)
