-- The laws of calls one after the other, whatever the call: one list behind another, and what stands behind both. By recursion on the
-- first list.
-- Assumes nothing.
use mathlib.Core.Path.{◌≡◌, refl, ap}
use mathlib.Core.List.{List, [], ◌∷◌, ◌++◌}
use Rattle.node_rules.specs.Runs.{State, steps_of, end_of}

module _ {X S : Type 0} (step : X → State → S) (left : S → State) where
  pub steps_append : (xs ys : List X) (s : State)
      → steps_of step left (xs ++ ys) s ≡ steps_of step left xs s ++ steps_of step left ys (end_of left s (steps_of step left xs s))
  steps_append [] ys s = refl
  steps_append (x ∷ xs) ys s = ap (λ (ts : List S). step x s ∷ ts) (steps_append xs ys (left (step x s)))

  pub end_append : (ts us : List S) (s : State) → end_of left s (ts ++ us) ≡ end_of left (end_of left s ts) us
  end_append [] us s = refl
  end_append (t ∷ ts) us s = end_append ts us (left t)
