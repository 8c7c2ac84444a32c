-- What ends a line, by the characters there.
-- Assumes nothing.
use mathlib.Core.Path.{◌≡◌, refl}
use mathlib.Core.Bool.{Bool, true, false, ◌&&◌, cond}
use mathlib.Core.List.{List, [], ◌∷◌}
use Prim.Native.Nat.{ℕ, zero, suc, ◌≤◌, ◌<◌}
use native.Mathlib.Omega.{arith}
use borrow.Author.Tests.{eq-eqb, ne_eqb, eqb-true}
use lib.Dec.{eqb}
use lib.ListN.{length, get_or}
use Rattle.std.specs.Prelude.{Option, Some, None}
use Rattle.hex_rules.specs.Text.{lf, cr}
use Rattle.hex_line.specs.Internal.Reading.{ending_at}

pub ends_text : (behind : List ℕ) → length behind < 1 → Some 0 ≡ ending_at behind
unfolding ending_at
ends_text [] h = refl
ends_text (x ∷ xs) h = absurd (omega arith)

pub ends_lf : (behind : List ℕ) → 1 ≤ length behind → get_or behind 0 0 ≡ lf → Some 1 ≡ ending_at behind
unfolding ending_at
ends_lf [] h e = absurd (omega arith)
ends_lf (x ∷ xs) h e = simp (ne_eqb (suc (length xs)) 0 (λ z. omega arith), eq-eqb x lf e)

pub ends_cr_lf : (behind : List ℕ) → 2 ≤ length behind → get_or behind 0 0 ≡ cr → get_or behind 1 0 ≡ lf → Some 2 ≡ ending_at behind
unfolding ending_at
ends_cr_lf [] h e f = absurd (omega arith)
ends_cr_lf (x ∷ []) h e f = absurd (omega arith)
ends_cr_lf (x ∷ (y ∷ xs)) h e f =
    simp (ne_eqb (suc (suc (length xs))) 0 (λ z. omega arith), ne_eqb x lf (λ z. omega arith), eq-eqb x cr e, eq-eqb y lf f)

-- neither of them
not_both : (x y : Bool) → (x ≡ true → y ≡ true → ⊥) → ◌≡◌ {A = Option ℕ} None (cond (x && y) (Some 2) None)
not_both true true k = absurd (k refl refl)
not_both true false k = refl
not_both false y k = refl

pub ends_not : (behind : List ℕ) → 1 ≤ length behind → (get_or behind 0 0 ≡ lf → ⊥)
    → (2 ≤ length behind → get_or behind 0 0 ≡ cr → get_or behind 1 0 ≡ lf → ⊥) → None ≡ ending_at behind
unfolding ending_at
ends_not [] h n k = absurd (omega arith)
ends_not (x ∷ []) h n k =
    simp (ne_eqb (suc zero) 0 (λ z. omega arith), ne_eqb x lf n)
    (not_both (eqb x cr) false (λ _ e. absurd (let z : ◌≡◌ {A = ℕ} 0 1 = cc in omega arith)))
ends_not (x ∷ (y ∷ xs)) h n k =
    simp (ne_eqb (suc (suc (length xs))) 0 (λ z. omega arith), ne_eqb x lf n)
    (not_both (eqb x cr) (eqb y lf) (λ e f. k (omega arith) (eqb-true x cr e) (eqb-true y lf f)))
