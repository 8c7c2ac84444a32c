-- The table of digits is right: one test that is computed over its 256 characters, one after the other, and what it says of each.
-- Assumes nothing.
use mathlib.Core.Path.{◌≡◌, ◌∙◌, refl, sym, ap}
use mathlib.Core.Bool.{Bool, true, ◌&&◌}
use mathlib.Core.List.{List, [], ◌∷◌, ◌++◌}
use Prim.Native.Nat.{ℕ, zero, suc, ◌+◌, ◌≤◌, ◌<◌}
use native.Mathlib.Nat.{add-zero, zero-add, add-suc, suc-add, le_of_suc-le-suc, not-suc-le-zero}
use native.Mathlib.Omega.{arith}
use borrow.Author.Tests.{eqb-true, lt-ltb, le-ltb}
use lib.Dec.{eqb}
use lib.ListN.{length, get_or, replicate}
use Rattle.std.specs.Prelude.{Some, None}
use Rattle.base.proofs.Choice.{both_true, cond_true, cond_false}
use Rattle.hex_rules.specs.Record.{digit_of, is_digit}
use Rattle.hex_line.specs.Internal.Reading.{digit}

-- what each of the 256 characters stands for: 0 to 9 from 0x30 on, A to F from 0x41 on and a to f from 0x61 on, and 16 for those between
unfoldable pub digit_table : List ℕ
digit_table =
    replicate 48 16
    ++ ((0 ∷ 1 ∷ 2 ∷ 3 ∷ 4 ∷ 5 ∷ 6 ∷ 7 ∷ 8 ∷ 9 ∷ [])
    ++ (replicate 7 16
    ++ ((10 ∷ 11 ∷ 12 ∷ 13 ∷ 14 ∷ 15 ∷ [])
    ++ (replicate 26 16
    ++ ((10 ∷ 11 ∷ 12 ∷ 13 ∷ 14 ∷ 15 ∷ [])
    ++ replicate 153 16)))))

-- each element is what its place, counted from c, stands for
abbrev right : ℕ → List ℕ → Bool
right c [] = true
right c (x ∷ xs) = eqb x (digit_of c) && right (suc c) xs

from : (xs : List ℕ) (c k : ℕ) → right c xs ≡ true → k < length xs → get_or xs k 0 ≡ digit_of (c + k)
from [] c k t h = absurd (not-suc-le-zero h)
from (x ∷ xs) c zero t h = rw (add-zero c) (eqb-true x (digit_of c) (both_true (eqb x (digit_of c)) (right (suc c) xs) t).0)
from (x ∷ xs) c (suc k) t h =
    let e = from xs (suc c) k (both_true (eqb x (digit_of c)) (right (suc c) xs) t).1 (le_of_suc-le-suc h) in
    rw (add-suc c k) (rw (suc-add c k) at e)

all_right_lem : right 0 digit_table ≡ true
unfolding digit_of digit_table
all_right_lem = refl

in_table : (c : ℕ) → c < 256 → get_or digit_table c 0 ≡ digit_of c
unfolding digit_table
in_table c h = rw (zero-add c) at (from digit_table 0 c all_right_lem h)

-- the digit that the table has, or none
module _ (c value : ℕ) (h : c < 256) (e : value ≡ get_or digit_table c 0) where
  stands : value ≡ digit_of c
  stands = e ∙ in_table c h

  pub some_digit : value < 16 → Some value ≡ digit c
  unfolding digit
  some_digit l = ap Some stands ∙ sym (cond_true (is_digit c) _ _ (lt-ltb (digit_of c) 16 (omega (arith, stands))))

  pub no_digit : 16 ≤ value → None ≡ digit c
  unfolding digit
  no_digit l = sym (cond_false (is_digit c) _ _ (le-ltb (digit_of c) 16 (omega (arith, stands))))
