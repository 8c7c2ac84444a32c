-- What stays held of bytes is what stands from the first 0xAA on, as the place of the first tells; and what is held with one byte more.
-- Assumes nothing.
use mathlib.Core.Path.{◌≡◌, ◌∙◌, refl, sym, ap}
use mathlib.Core.Bool.{Bool, true, false, cond}
use mathlib.Core.List.{List, [], ◌∷◌, ◌++◌}
use mathlib.Core.Logic.{◌⊎◌, inl, inr}
use Prim.Native.Nat.{ℕ, suc, ◌+◌, ◌-◌}
use native.Mathlib.Omega.{arith}
use lib.Dec.{eqb, ltb}
use lib.ListN.{length, take, drop, length-drop, drop_of_length-le}
use lib.Seq.{take_all}
use borrow.Author.Tests.{ltb-false, eq-eqb}
use Rattle.std.specs.Prelude.{Option, Some, None, position, ◌==◌}
use Rattle.std.specs.List.{position_or_len}
use Rattle.node_rules.specs.Uart.{from_start, held_with}

abbrev start : ℕ → Bool
start b = b == 0xAA

from_first : (bs : List ℕ) → from_start bs ≡ drop (position_or_len start bs) bs
from_first [] = refl
from_first (b ∷ bs) = go (eqb b 0xAA) refl (from_first bs)
  where
    go : (t : Bool) → eqb b 0xAA ≡ t → from_start bs ≡ drop (position_or_len start bs) bs
        → cond t (b ∷ bs) (from_start bs) ≡ drop (position_or_len start (b ∷ bs)) (b ∷ bs)
    go true e h = rw e refl
    go false e h =
        let next : 1 + position_or_len start bs ≡ suc (position_or_len start bs) = omega arith in
        rw e (h ∙ sym (ap (λ (k : ℕ). drop k (b ∷ bs)) next))

module _ (bs : List ℕ) where
  pub from_some : (i : ℕ) → position start bs ≡ Some i → take (length bs - i) (drop i bs) ≡ from_start bs
  from_some i e = go (ltb (position_or_len start bs) (length bs)) refl e
    where
      go : (t : Bool) → ltb (position_or_len start bs) (length bs) ≡ t → cond t (Some (position_or_len start bs)) None ≡ Some i
          → take (length bs - i) (drop i bs) ≡ from_start bs
      go true l h =
          let at : position_or_len start bs ≡ i = cc in
          take_all (length bs - i) (drop i bs) (omega (arith, length-drop i bs))
          ∙ sym (from_first bs ∙ ap (λ (k : ℕ). drop k bs) at)
      go false l h = cc

  pub from_none : position start bs ≡ None → [] ≡ from_start bs
  from_none e = go (ltb (position_or_len start bs) (length bs)) refl e
    where
      go : (t : Bool) → ltb (position_or_len start bs) (length bs) ≡ t → ◌≡◌ {A = Option ℕ} (cond t (Some (position_or_len start bs)) None) None
          → [] ≡ from_start bs
      go true l h = cc
      go false l h =
          sym (from_first bs ∙ drop_of_length-le bs {i = position_or_len start bs} (ltb-false (position_or_len start bs) (length bs) l))

-- a byte behind bytes that are held, or an 0xAA, is held with them
pub held_behind : (xs : List ℕ) (b : ℕ) → (length xs ≡ 0 → ⊥) ⊎ (b ≡ 0xAA) → held_with xs b ≡ xs ++ (b ∷ [])
held_behind [] b (inl m) = absurd (m refl)
held_behind [] b (inr e) = rw (eq-eqb b 0xAA e) refl
held_behind (x ∷ xs) b o = refl
