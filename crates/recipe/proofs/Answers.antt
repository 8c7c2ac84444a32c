-- The answer by what the reading found: a refusal of the recipe stands whatever the output, and the output's length is looked at last.
-- Assumes nothing.
use mathlib.Core.Path.{◌≡◌}
use mathlib.Core.List.{List}
use Prim.Native.Nat.{ℕ, ◌*◌, ◌≤◌, ◌<◌}
use native.Mathlib.Omega.{arith}
use lib.ListN.{length}
use borrow.Author.Tests.{lt-ltb, le-ltb}
use Rattle.recipe.specs.declared.Fault.{Fault}
use Rattle.recipe.specs.declared.Fault.TheVariants.{NoLeave, UnknownKind, CutShort, OutOfPlace, IllegalAddress, TooManyItems, ShortOutput}
use Rattle.recipe.specs.Translation.{Frames, Refused, fault_number, checked, translated, output_by}

-- no fault has the number 0
pub numbered : (f : Fault) → fault_number f ≡ 0 → ⊥
numbered NoLeave e = absurd (omega arith)
numbered UnknownKind e = absurd (omega arith)
numbered CutShort e = absurd (omega arith)
numbered OutOfPlace e = absurd (omega arith)
numbered IllegalAddress e = absurd (omega arith)
numbered TooManyItems e = absurd (omega arith)
numbered ShortOutput e = absurd (omega arith)

-- 26 comes last: any other refusal stands whatever the output
pub refusal_first : (input : List ℕ) (number place : ℕ) → checked input ≡ Refused number place → (room : ℕ)
    → translated input room ≡ Refused number place
unfolding translated
refusal_first input number place e room = rw e

-- a refusal leaves the output as it was
pub refusal_untouched : (input output : List ℕ) (number place : ℕ) → translated input (length output) ≡ Refused number place
    → output_by (translated input (length output)) input output ≡ output
refusal_untouched input output number place e = rw e

module _ (input : List ℕ) (count : ℕ) (e : checked input ≡ Frames count) (room : ℕ) where
  pub with_room : 12 * count ≤ room → translated input room ≡ Frames count
  unfolding translated
  with_room h = rw (e, le-ltb room (12 * count) h)

  -- "Last: 26 output shorter than needed, place 0"
  pub too_short : room < 12 * count → translated input room ≡ Refused 26 0
  unfolding translated
  too_short h = rw (e, lt-ltb room (12 * count) h)
