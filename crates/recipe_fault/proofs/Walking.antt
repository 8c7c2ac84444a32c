-- One step of a walk over a recipe: what is read from a place on is nothing at the end, a fault, or what stands there and then what is read
-- behind it. Each is the crate recipe's step of a reading, at that place.
-- Assumes nothing.
use mathlib.Core.Path.{◌≡◌, refl, sym, ap, ap₂, ◌∙◌}
use mathlib.Core.Bool.{Bool, false}
use mathlib.Core.List.{List, []}
use mathlib.Core.Logic.{⊎_elim}
use Prim.Native.Nat.{ℕ, suc, ◌+◌, ◌-◌, ◌≤◌, ◌<◌}
use native.Mathlib.Omega.{arith}
use native.Mathlib.Nat.{eq-or-lt_of_le}
use lib.Dec.{eqb}
use lib.ListN.{length, drop, length-drop}
use lib.Seq.{drop-drop}
use Rattle.base.proofs.Choice.{neither}
use Rattle.recipe.specs.Faults.{kind_of, fault_at}
use Rattle.recipe.specs.Reading.{Reading, at_end, fault, size_of, items_at, with_items, read_from, reading}
use Rattle.recipe.proofs.Order.{Faultless, faultless}
use Rattle.recipe.proofs.Steps.{read_end, read_fault, read_on as read_item}
use Rattle.recipe_fault.specs.Internal.Steps.{read_on, AtItem}

-- a recipe is read from its first byte on, item 1 there and no Leave before it
pub read_start : (s : List ℕ) → reading s ≡ read_on s 0 1 false
unfolding reading
read_start s = refl

module _ (s : List ℕ) (place number : ℕ) (ended : Bool) where
  from : ℕ → Reading
  from n = read_from n (drop place s) place number ended

  looks : number ≤ 2049 → 2050 - number ≡ suc (2049 - number)
  looks few = omega arith

  -- at the end
  pub on_end : number ≤ 2049 → length s ≤ place → read_on s place number ended ≡ record { items = []; stop = at_end ended }
  unfolding from
  on_end few h = ap from (looks few) ∙ read_end (2049 - number) (drop place s) place number ended (simp length-drop (omega arith))

  -- at an item at fault
  pub on_fault : number ≤ 2049 → place < length s → (n : ℕ) → n ≡ fault_at (drop place s) number ended → (n ≡ 0 → ⊥)
      → read_on s place number ended ≡ record { items = []; stop = fault n place }
  unfolding from
  on_fault few h n e z =
      ap from (looks few)
      ∙ read_fault (2049 - number) (drop place s) place number ended (simp length-drop (omega arith)) (λ q. z (e ∙ q))
      ∙ ap (λ (k : ℕ). record { items = []; stop = fault k place }) (sym e)

  -- an item of which no fault was found
  pub at_item : (n : ℕ) → place < length s → number ≤ 2049 → n ≡ fault_at (drop place s) number ended → n ≡ 0
      → AtItem s place number ended
  at_item n h few e z = record { inside = h; faultless = sym e ∙ z; few = few }

  module _ (at : AtItem s place number ended) where
    none : Faultless (drop place s) number ended
    none = faultless (drop place s) number ended at.faultless

    -- an item without fault is not item 2,049
    pub fewer : number ≤ 2048
    fewer = ⊎_elim (λ e. absurd (none.few e)) (λ l. omega arith) (eq-or-lt_of_le at.few)

    -- nor behind Leave
    pub not_ended : ended ≡ false
    not_ended = (neither ended _ none.in_place).0

    -- and lies within the input
    pub item_inside : place + size_of (drop place s) ≤ length s
    item_inside = omega (arith, none.whole, length-drop place s, at.inside)

    -- it is read, and then what is behind it
    pub on_next : read_on s place number ended
        ≡ with_items (items_at (drop place s))
        (read_on s (place + size_of (drop place s)) (number + 1) (eqb (kind_of (drop place s)) 0x0F))
    unfolding from
    on_next =
        let t = drop place s in
        let there : 2049 - number ≡ 2050 - (number + 1) = omega arith in
        ap from (looks at.few)
        ∙ read_item (2049 - number) t place number ended (simp length-drop (omega (arith, at.inside))) at.faultless
        ∙ ap₂ (λ (n : ℕ) (l : List ℕ).
        with_items (items_at t) (read_from n l (place + size_of t) (number + 1) (eqb (kind_of t) 0x0F)))
        there (drop-drop (size_of t) place s)
