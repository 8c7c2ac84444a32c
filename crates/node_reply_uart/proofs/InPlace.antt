-- A reply wrapped into its place. Two rooms of 15 cells lie one behind the other, first zeros. The first reply comes into the first room,
-- the second into the second, which leaves the first as it was.
-- Assumes nothing.
use mathlib.Core.Path.{◌≡◌, ◌∙◌, refl, ap}
use mathlib.Core.List.{List, ◌++◌, append-nil}
use Prim.Native.Nat.{ℕ}
use native.Mathlib.Omega.{arith}
use lib.ListN.{length, replicate, drop_of_length-le}
use lib.Seq.{take_at, drop_at}
use borrow.Rule.Slice.PartMut.{put_mid}
use Rattle.std.specs.Prelude.{Result, Ok}
use Rattle.std.specs.Result.{IsOk, is_ok}
use Rattle.base.specs.Parts.{part, listed}
use Rattle.base.proofs.Listed.{listed_part}
use Rattle.frame_rules.specs.Wrapping.{wrapped_of}
use Rattle.frame_rules.specs.declared.Refusal.{Refusal}
use Rattle.frame_rules.specs.Numbers.{number_of, wrap_number, output_after}
use Rattle.frame_rules.proofs.Done.{done_wrap}
use Rattle.frame_rules.proofs.Numbered.{number_injective}

-- what `wrap` answers of 12 bytes in a room of 15, and leaves there
module _ (f held left : List ℕ) (r : Result Unit Refusal) (room : length held ≡ 15) (l : length f ≡ 12)
    (e : number_of r ≡ wrap_number f (length held)) where
  none : number_of r ≡ 0
  none = e ∙ done_wrap f (length held) room l

  pub is_done : IsOk r
  is_done = ap is_ok (number_injective r (Ok tt) none)

  pub filled : left ≡ output_after (number_of r) (wrapped_of f) held → left ≡ wrapped_of f
  filled q = rw none at q

-- the second room's cells replaced
put_second : (w v rest : List ℕ) → length w ≡ 15 → length rest ≡ 15 → put_mid 15 15 (w ++ rest) v ≡ w ++ v
put_second w v rest l k =
    simp (take_at w rest 15 l, drop_at w rest 15 l, drop_of_length-le rest {i = 15} (omega arith), append-nil)

module _ (replies : List ℕ) (full : length replies ≡ 24) where
  -- the two replies as parts
  first : listed replies 0 12 ≡ part replies 0 12
  first = listed_part replies 0 12 (omega arith)

  second : listed replies 12 12 ≡ part replies 12 12
  second = listed_part replies 12 12 (omega arith)

  -- the first room filled
  pub first_in_place : (w : List ℕ) → w ≡ wrapped_of (part replies 0 12)
      → w ++ replicate 15 0 ≡ wrapped_of (listed replies 0 12) ++ replicate 15 0
  first_in_place w p = rw (p, first)

  -- then the second
  pub both_in_place : (w v : List ℕ) → length w ≡ 15 → w ≡ wrapped_of (part replies 0 12) → v ≡ wrapped_of (part replies 12 12)
      → put_mid 15 15 (w ++ replicate 15 0) v ≡ wrapped_of (listed replies 0 12) ++ wrapped_of (listed replies 12 12)
  both_in_place w v l p q = put_second w v (replicate 15 0) l refl ∙ rw (p, q, first, second)
