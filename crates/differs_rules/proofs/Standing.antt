-- Items whose cells all stand in the image cost no erase, and only those; a Block that comes back after another is kept; and over a FLASH
-- that is not the image's, a dropped Block leaves the cells as they are. By what an item that stands leaves: FLASH as it was.
-- Assumes nothing.
use mathlib.Core.Path.{◌≡◌, ◌∙◌, refl, sym, ap, ap₂}
use mathlib.Core.Bool.{true, false}
use mathlib.Core.List.{List, [], ◌∷◌, ◌++◌}
use mathlib.Core.Logic.{⊎_elim}
use Prim.Native.Nat.{ℕ, ◌+◌, ◌≤◌}
use native.Mathlib.Omega.{arith}
use lib.ListN.{length}
use Rattle.base.specs.Parts.{part, patch}
use Rattle.base.proofs.Choice.{cond_true, cond_false, true_or_false}
use Rattle.base.proofs.Patched.{part_patch}
use Rattle.memory_same.proofs.Laws.{unequal_same}
use Rattle.memory_address.specs.Places.{flash_cells}
use Rattle.recipe.specs.Items.{Item, block, row, LegalItem, LegalItems}
use Rattle.recipe.specs.Plain.{Memories, plain_items, plainly, Each}
use Rattle.recipe.proofs.Inside.{block_inside}
use Rattle.recipe.proofs.Plainly.{sets_patch}
use Rattle.differs_rules.specs.Keeping.{left_by, stands, kept_items, kept_recipe, block_count}
use Rattle.differs_rules.specs.Turns.{StandsIn, rows_of}
use Rattle.differs_rules.proofs.Keeping.{dropped_stands, stands_dropped}
use Rattle.differs_rules.proofs.KeptPlain.{dropped_nothing}

-- ---- one Block before others

-- one that stands is gone, and the others are looked at over what was there
kept_standing : (a : ℕ) (d : List ℕ) (is : List Item) (image : List ℕ) → LegalItem (block a d) → length image ≡ flash_cells
    → part image a 64 ≡ d → kept_items (block a d ∷ is) image ≡ kept_items is image
unfolding kept_items
kept_standing a d is image h l e =
    ap₂ (λ (x : List Item) (f : List ℕ). x ++ kept_items is f)
    (cond_true (stands (block a d) image) [] (block a d ∷ []) (stands_dropped a d image e)) (dropped_nothing a d image h l e)

-- one that differs stays
kept_differing : (a : ℕ) (d : List ℕ) (is : List Item) (image : List ℕ) → stands (block a d) image ≡ false
    → kept_items (block a d ∷ is) image ≡ block a d ∷ kept_items is (left_by (block a d) image)
unfolding kept_items
kept_differing a d is image s =
    ap (λ (x : List Item). x ++ kept_items is (left_by (block a d) image)) (cond_false (stands (block a d) image) [] (block a d ∷ []) s)

-- ---- items that all stand

-- where each Block stands in the image already, the Rows alone are kept
pub all_stand : (is : List Item) (image : List ℕ) → LegalItems is → length image ≡ flash_cells → Each (StandsIn image) is
    → kept_items is image ≡ rows_of is
unfolding kept_items rows_of
all_stand [] image h l e = refl
all_stand (block a d ∷ is) image h l e = kept_standing a d is image h.0 l e.0 ∙ all_stand is image h.1 l e.1
all_stand (row a d ∷ is) image h l e = ap (λ (x : List Item). row a d ∷ x) (all_stand is image h.1 l e.1)

rows_no_block : (is : List Item) → block_count (rows_of is) ≡ 0
unfolding block_count rows_of
rows_no_block [] = refl
rows_no_block (block a d ∷ is) = rows_no_block is
rows_no_block (row a d ∷ is) = omega (arith, rows_no_block is)

-- and nothing is erased
pub none_erased : (is : List Item) (image : List ℕ) → LegalItems is → length image ≡ flash_cells → Each (StandsIn image) is
    → block_count (kept_items is image) ≡ 0
none_erased is image h l e = ap block_count (all_stand is image h l e) ∙ rows_no_block is

-- the other way: where nothing is erased, each Block stands in the image
pub only_standing : (is : List Item) (image : List ℕ) → LegalItems is → length image ≡ flash_cells → block_count (kept_items is image) ≡ 0
    → Each (StandsIn image) is
unfolding kept_items block_count
only_standing [] image h l z = tt
only_standing (block a d ∷ is) image h l z =
    ⊎_elim
    (λ (s : stands (block a d) image ≡ true).
    let e : part image a 64 ≡ d = dropped_stands a d image s in
    (e, only_standing is image h.1 l (sym (ap block_count (kept_standing a d is image h.0 l e)) ∙ z)))
    (λ (s : stands (block a d) image ≡ false). absurd (omega (arith, sym (ap block_count (kept_differing a d is image s)) ∙ z)))
    (true_or_false (stands (block a d) image))
only_standing (row a d ∷ is) image h l z = (tt, only_standing is image h.1 l (omega (arith, z)))

-- ---- one Block's cells there and back

-- the cells that a Block has set are its own
left_cells : (a : ℕ) (d flash : List ℕ) → LegalItem (block a d) → length flash ≡ flash_cells → part (left_by (block a d) flash) a 64 ≡ d
left_cells a d flash h l =
    let w = block_inside a d h in
    let fits : a + length d ≤ length flash = omega (arith, w.1, l) in
    ap (λ (f : List ℕ). part f a 64) (sets_patch flash a d fits)
    ∙ ap (λ (n : ℕ). part (patch flash a d) a n) (sym h.1)
    ∙ part_patch flash a d fits

module _ (a : ℕ) (x y image : List ℕ) (hx : LegalItem (block a x)) (hy : LegalItem (block a y)) (l : length image ≡ flash_cells)
    (here : part image a 64 ≡ x) (differ : x ≡ y → ⊥) where
  -- over an image that has x, the Blocks y and then x are both kept: what stands there is asked in each one's turn
  pub there : kept_items (block a y ∷ block a x ∷ []) image ≡ block a y ∷ block a x ∷ []
  unfolding kept_items
  there =
      let behind : List ℕ = left_by (block a y) image in
      kept_differing a y (block a x ∷ []) image (unequal_same (part image a 64) y (λ e. differ (sym here ∙ e)))
      ∙ ap (λ (is : List Item). block a y ∷ is)
      (kept_differing a x [] behind (unequal_same (part behind a 64) x (λ e. differ (sym e ∙ left_cells a y image hy l))))

  -- and of x, y and then x the first alone is dropped
  pub there_and_back : kept_items (block a x ∷ block a y ∷ block a x ∷ []) image ≡ block a y ∷ block a x ∷ []
  there_and_back = kept_standing a x (block a y ∷ block a x ∷ []) image hx l here ∙ there

-- ---- an image that is not the node's FLASH

-- a Block that stands in the image leaves the node's own cells as they were, whatever they are
pub stays_as_it_was : (a : ℕ) (d image : List ℕ) (m : Memories) (mo g : ℕ) → part image a 64 ≡ d
    → (plainly (kept_recipe (record { module_number = mo; group_number = g; items = block a d ∷ [] }) image) m).flash ≡ m.flash
unfolding plainly plain_items kept_recipe kept_items
stays_as_it_was a d image m mo g e =
    ap (λ (x : List Item). (plain_items (x ++ []) m).flash)
    (cond_true (stands (block a d) image) [] (block a d ∷ []) (stands_dropped a d image e))
