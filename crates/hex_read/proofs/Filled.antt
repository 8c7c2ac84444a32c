-- A record's bytes filled up with 0 say what the record says: what stands behind a list counts as 0, too.
-- Assumes nothing.
use mathlib.Core.Path.{◌≡◌, ◌∙◌, refl, ap, ap₂}
use mathlib.Core.Bool.{not, ◌||◌}
use mathlib.Core.List.{List, [], ◌∷◌, ◌++◌}
use Prim.Native.Nat.{ℕ, zero, suc, ◌+◌, ◌*◌}
use native.Mathlib.Omega.{arith}
use lib.Dec.{eqb}
use lib.ListN.{length, get_or, take, drop, replicate, length-drop}
use lib.Seq.{take_at, take-append-le, drop-append-le}
use Rattle.hex_rules.specs.Record.{count_of, address_of, type_of, data_of, upper_of, other_type}

zeros : (z i : ℕ) → ◌≡◌ {A = ℕ} (get_or (replicate z 0) i 0) 0
zeros zero i = refl
zeros (suc z) zero = refl
zeros (suc z) (suc i) = zeros z i

filled_at : (r : List ℕ) (z i : ℕ) → get_or (r ++ replicate z 0) i 0 ≡ get_or r i 0
filled_at [] z i = zeros z i
filled_at (x ∷ r) z zero = refl
filled_at (x ∷ r) z (suc i) = filled_at r z i

module _ (r : List ℕ) (z : ℕ) where
  pub filled_count : count_of (r ++ replicate z 0) ≡ count_of r
  filled_count = filled_at r z 0

  pub filled_type : type_of (r ++ replicate z 0) ≡ type_of r
  filled_type = filled_at r z 3

  pub filled_address : address_of (r ++ replicate z 0) ≡ address_of r
  filled_address = ap₂ (λ (x y : ℕ). 256 * x + y) (filled_at r z 1) (filled_at r z 2)

  pub filled_upper : upper_of (r ++ replicate z 0) ≡ upper_of r
  filled_upper = ap₂ (λ (x y : ℕ). 256 * x + y) (filled_at r z 4) (filled_at r z 5)

  pub filled_other : other_type (r ++ replicate z 0) ≡ other_type r
  filled_other = ap (λ (t : ℕ). not (eqb t 0x00 || eqb t 0x01 || eqb t 0x04)) filled_type

  module _ (size : length r ≡ 5 + count_of r) where
    pub filled_data : data_of (r ++ replicate z 0) ≡ data_of r
    filled_data =
        ap₂ (λ (n : ℕ) (l : List ℕ). take n l) filled_count (drop-append-le 4 r (replicate z 0) (omega arith))
        ∙ take-append-le (count_of r) (drop 4 r) (replicate z 0) (simp length-drop (omega arith))

    pub filled_whole : take (5 + count_of (r ++ replicate z 0)) (r ++ replicate z 0) ≡ r
    filled_whole = take_at r (replicate z 0) (5 + count_of (r ++ replicate z 0)) (omega (arith, filled_count))
