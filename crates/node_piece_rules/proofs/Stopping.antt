-- Where a piece stops, as the request says it: 1, 2 and 3 take no byte, 10 goes on, and any other outcome is the last. By the definition.
-- Assumes nothing.
use mathlib.Core.Path.{◌≡◌, refl, subst, sym}
use mathlib.Core.Bool.{Bool, true, false}
use mathlib.Core.List.{List, [], ◌∷◌}
use mathlib.Core.Logic.{⊎_elim}
use Prim.Native.Nat.{ℕ}
use lib.Dec.{eqb}
use Rattle.base.proofs.Choice.{true_or_false}
use Rattle.node_rules.specs.Uart.{UartStep}
use Rattle.node_piece_rules.specs.Piece.{takes_none, taken_of}

-- the three numbers, and the others of document 01's list
pub three_take_none : (takes_none 1 ≡ true) × (takes_none 2 ≡ true) × (takes_none 3 ≡ true)
three_take_none = (refl, refl, refl)

pub others_take : (takes_none 0 ≡ false) × (takes_none 4 ≡ false) × (takes_none 5 ≡ false) × (takes_none 6 ≡ false) × (takes_none 7 ≡ false)
    × (takes_none 8 ≡ false) × (takes_none 9 ≡ false) × (takes_none 10 ≡ false) × (takes_none 11 ≡ false)
others_take = (refl, refl, refl, refl, refl, refl, refl, refl, refl)

module _ (s : UartStep) (ss : List UartStep) where
  -- 1, 2 and 3
  pub stops_before : takes_none s.answer.number ≡ true → taken_of (s ∷ ss) ≡ []
  stops_before e = rw e refl

  -- an outcome other than 10
  pub stops_behind : takes_none s.answer.number ≡ false → eqb s.answer.number 10 ≡ false → taken_of (s ∷ ss) ≡ s ∷ []
  stops_behind e f = rw (e, f) refl

  -- 10
  pub goes_on_lem : takes_none s.answer.number ≡ false → eqb s.answer.number 10 ≡ true → taken_of (s ∷ ss) ≡ s ∷ taken_of ss
  goes_on_lem e f = rw (e, f) refl

  -- what holds in each of the three cases holds of what is taken
  pub by_taken : (P : List UartStep → Type 0) → (takes_none s.answer.number ≡ true → P [])
      → (eqb s.answer.number 10 ≡ true → P (s ∷ taken_of ss)) → (eqb s.answer.number 10 ≡ false → P (s ∷ [])) → P (taken_of (s ∷ ss))
  by_taken P none more last =
      ⊎_elim
      (λ e. subst P (sym (stops_before e)) (none e))
      (λ e.
      ⊎_elim (λ f. subst P (sym (goes_on_lem e f)) (more f)) (λ f. subst P (sym (stops_behind e f)) (last f))
      (true_or_false (eqb s.answer.number 10)))
      (true_or_false (takes_none s.answer.number))
