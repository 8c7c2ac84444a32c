-- Each item is looked at in its turn, over what those before it leave, and the Rows come out as they went in: items behind others are
-- looked at over what those leave (Keeping.antt), and only a Block can be dropped.
-- Assumes nothing.
use mathlib.Core.Path.{◌≡◌, ◌∙◌, refl, sym, ap}
use mathlib.Core.Bool.{cond}
use mathlib.Core.List.{List, [], ◌∷◌, ◌++◌}
use Prim.Native.Nat.{ℕ}
use Rattle.base.proofs.Choice.{by_cond}
use Rattle.recipe.specs.Items.{Item, block, row}
use Rattle.differs_rules.specs.Keeping.{left_by, left_by_all, stands, kept_items}
use Rattle.differs_rules.specs.Turns.{rows_of}
use Rattle.differs_rules.proofs.Keeping.{left_append, left_one, kept_append}

-- an item with others before and behind it: whether it is kept is asked of FLASH as all before it, kept or not, leave the image, and what
-- is behind it is looked at over what it leaves, whether it is kept or not
pub by_turn : (before : List Item) (i : Item) (behind : List Item) (image : List ℕ)
    → kept_items (before ++ (i ∷ behind)) image
    ≡ kept_items before image
    ++ (cond (stands i (left_by_all before image)) [] (i ∷ []) ++ kept_items behind (left_by_all (before ++ (i ∷ [])) image))
unfolding kept_items
by_turn before i behind image =
    let here : List Item = cond (stands i (left_by_all before image)) [] (i ∷ []) in
    let left : left_by_all (before ++ (i ∷ [])) image ≡ left_by i (left_by_all before image) = left_append before (i ∷ []) image
    ∙ left_one i (left_by_all before image) in
    kept_append before (i ∷ behind) image
    ∙ ap (λ (f : List ℕ). kept_items before image ++ (here ++ kept_items behind f)) (sym left)

-- the Rows all stay, in their order
pub rows_stay : (is : List Item) (image : List ℕ) → rows_of (kept_items is image) ≡ rows_of is
unfolding kept_items rows_of
rows_stay [] image = refl
rows_stay (block a d ∷ is) image =
    let rest : List Item = kept_items is (left_by (block a d) image) in
    by_cond (λ (x : List Item). rows_of (x ++ rest) ≡ rows_of is) (stands (block a d) image) [] (block a d ∷ [])
    (λ _. rows_stay is (left_by (block a d) image)) (λ _. rows_stay is (left_by (block a d) image))
rows_stay (row a d ∷ is) image = ap (λ (x : List Item). row a d ∷ x) (rows_stay is image)
