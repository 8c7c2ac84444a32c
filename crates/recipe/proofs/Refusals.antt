-- Where a refusal points: the first item at fault decides, and its starting byte is named; at the end 20 names the length.
-- Assumes nothing.
use mathlib.Core.Path.{◌≡◌, refl, sym, ap, ◌∙◌}
use mathlib.Core.Bool.{true, false, true≢false}
use mathlib.Core.List.{List, [], ◌++◌, append-nil}
use Prim.Native.Nat.{ℕ, suc, ◌+◌, ◌-◌, ◌≤◌, ◌<◌}
use native.Mathlib.Omega.{arith}
use lib.ListN.{length}
use Rattle.recipe.specs.Items.{Item, Recipe, Legal, LegalItems, printed, opened}
use Rattle.recipe.specs.Frames.{frame_count}
use Rattle.recipe.specs.Faults.{fault_at}
use Rattle.recipe.specs.Reading.{Reading, Stop, at_end, read_from, reading, recipe_of}
use Rattle.recipe.specs.Translation.{Refused, answer_at, checked}
use Rattle.recipe.proofs.Order.{faultless}
use Rattle.recipe.proofs.Steps.{read_end, read_fault}
use Rattle.recipe.proofs.Printing.{read_opened, read_printed}

-- the answer follows from how the reading stopped
stopped : (input : List ℕ) (r : Reading) (s : Stop) → reading input ≡ r → r.stop ≡ s
    → checked input ≡ answer_at s (length input) (frame_count (recipe_of input))
unfolding checked
stopped input r s e q = ap (λ (x : Stop). answer_at x (length input) (frame_count (recipe_of input))) (ap (λ (x : Reading). x.stop) e ∙ q)

module _ (m g : ℕ) (is : List Item) (legal : LegalItems is) (few : length is ≤ 2047) where
  -- an item at fault behind Open and legal items
  pub fault_inside : (rest : List ℕ) → 0 < length rest → (fault_at rest (2 + length is) false ≡ 0 → ⊥)
      → checked (opened m g is ++ rest) ≡ Refused (fault_at rest (2 + length is) false) (length (opened m g is))
  fault_inside rest some f =
      let looks : 2048 - length is ≡ suc (2047 - length is) = omega arith in
      stopped (opened m g is ++ rest) _ _ (read_opened m g is rest legal few)
      (ap (λ (n : ℕ). (read_from n rest (length (opened m g is)) (2 + length is) false).stop) looks
      ∙ ap (λ (r : Reading). r.stop) (read_fault (2047 - length is) rest (length (opened m g is)) (2 + length is) false some f))

  -- "At the end: 20 no Leave yet, place the length"
  pub no_leave : checked (opened m g is) ≡ Refused 20 (length (opened m g is))
  no_leave =
      let looks : 2048 - length is ≡ suc (2047 - length is) = omega arith in
      stopped (opened m g is) _ (at_end false)
      (ap reading (sym (append-nil (opened m g is))) ∙ read_opened m g is [] legal few)
      (ap (λ (n : ℕ). (read_from n [] (length (opened m g is)) (2 + length is) false).stop) looks
      ∙ ap (λ (r : Reading). r.stop) (read_end (2047 - length is) [] (length (opened m g is)) (2 + length is) false refl))

-- "(empty input too)"
pub empty_refused : checked [] ≡ Refused 20 0
unfolding reading
empty_refused = stopped [] _ (at_end false) refl (ap (λ (r : Reading). r.stop) (read_end 2048 [] 0 1 false refl))

-- the first item at fault
pub fault_first : (input : List ℕ) → 0 < length input → (fault_at input 1 false ≡ 0 → ⊥) → checked input ≡ Refused (fault_at input 1 false) 0
unfolding reading
fault_first input some f = stopped input _ _ refl (ap (λ (r : Reading). r.stop) (read_fault 2048 input 0 1 false some f))

-- anything after Leave is at fault
pub fault_behind : (r : Recipe) → Legal r → (rest : List ℕ) → 0 < length rest
    → checked (printed r ++ rest) ≡ Refused (fault_at rest (3 + length r.items) true) (length (printed r))
fault_behind r legal rest some =
    let looks : 2047 - length r.items ≡ suc (2046 - length r.items) = omega (arith, legal.few) in
    stopped (printed r ++ rest) _ _ (read_printed r rest legal)
    (ap (λ (n : ℕ). (read_from n rest (length (printed r)) (3 + length r.items) true).stop) looks
    ∙ ap (λ (x : Reading). x.stop)
    (read_fault (2046 - length r.items) rest (length (printed r)) (3 + length r.items) true some
    (λ e. true≢false (faultless rest (3 + length r.items) true e).in_place)))
