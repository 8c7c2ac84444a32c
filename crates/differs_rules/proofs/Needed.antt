-- No Block is kept for nothing. What is dropped changes no cell, so the kept items, looked at once more, are all kept; if one of them stood
-- there already, that second look would drop it and keep too few.
-- Assumes nothing.
use mathlib.Core.Path.{◌≡◌, ◌∙◌, refl, sym, ap, ap₂}
use mathlib.Core.Bool.{true, false, cond}
use mathlib.Core.List.{List, [], ◌∷◌, ◌++◌}
use Prim.Native.Nat.{ℕ}
use native.Mathlib.Omega.{arith}
use lib.ListN.{length, length-append}
use Rattle.base.specs.Parts.{part}
use Rattle.base.proofs.Choice.{by_cond, cond_true, cond_false}
use Rattle.memory_address.specs.Places.{flash_cells}
use Rattle.recipe.specs.Items.{Item, block, LegalItems}
use Rattle.differs_rules.specs.Keeping.{left_by, left_by_all, stands, kept_items}
use Rattle.differs_rules.proofs.Keeping.{stands_dropped}
use Rattle.differs_rules.proofs.Turning.{by_turn}
use Rattle.differs_rules.proofs.KeptLegal.{kept_few}
use Rattle.differs_rules.proofs.KeptPlain.{standing_leaves, left_sized}

-- what is kept over an image is all kept when it is looked at once more
pub kept_again : (is : List Item) (image : List ℕ) → LegalItems is → length image ≡ flash_cells
    → kept_items (kept_items is image) image ≡ kept_items is image
unfolding kept_items
kept_again [] image h l = refl
kept_again (i ∷ is) image h l =
    let rest : List Item = kept_items is (left_by i image) in
    let ih : kept_items rest (left_by i image) ≡ rest = kept_again is (left_by i image) h.1 (left_sized i image l) in
    by_cond (λ (x : List Item). kept_items (x ++ rest) image ≡ x ++ rest) (stands i image) [] (i ∷ [])
    (λ (s : stands i image ≡ true). ap (λ (f : List ℕ). kept_items rest f) (sym (standing_leaves i image h.0 l s)) ∙ ih)
    (λ (s : stands i image ≡ false). ap₂ (λ (x y : List Item). x ++ y) (cond_false (stands i image) [] (i ∷ []) s) ih)

-- each Block that is kept differs from what the kept items before it leave in its place
pub kept_differs : (is before behind : List Item) (a : ℕ) (d image : List ℕ) → LegalItems is → length image ≡ flash_cells
    → kept_items is image ≡ before ++ (block a d ∷ behind) → part (left_by_all before image) a 64 ≡ d → ⊥
kept_differs is before behind a d image h l e s =
    let flash : List ℕ = left_by_all before image in
    let next : List ℕ = left_by_all (before ++ (block a d ∷ [])) image in
    let again : kept_items (before ++ (block a d ∷ behind)) image ≡ before ++ (block a d ∷ behind)
    = ap (λ (x : List Item). kept_items x image) (sym e) ∙ kept_again is image h l ∙ e in
    let gone : cond (stands (block a d) flash) [] (block a d ∷ []) ≡ []
    = cond_true (stands (block a d) flash) [] (block a d ∷ []) (stands_dropped a d flash s) in
    let fewer : before ++ (block a d ∷ behind) ≡ kept_items before image ++ kept_items behind next
    = sym again ∙ by_turn before (block a d) behind image
    ∙ ap (λ (x : List Item). kept_items before image ++ (x ++ kept_items behind next)) gone in
    omega (
      arith,
      ap length fewer,
      length-append before (block a d ∷ behind),
      length-append (kept_items before image) (kept_items behind next),
      kept_few before image,
      kept_few behind next,
    )
