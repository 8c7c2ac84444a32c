-- The erases among a recipe's frames are as many as it has Blocks: a Block's first two frames are one, and a write, its data, a Row's
-- frames and Leave's are none, by their first two bytes and their tenth.
-- Assumes nothing.
use mathlib.Core.Path.{◌≡◌, ◌∙◌, refl, ap}
use mathlib.Core.List.{List, [], ◌∷◌, ◌++◌}
use Prim.Native.Nat.{ℕ, zero, suc, ◌+◌}
use native.Mathlib.Omega.{arith}
use lib.ListN.{drop}
use Rattle.recipe.specs.Items.{Item, block, row, Recipe}
use Rattle.recipe.specs.Frames.{writes, item_frames, frames_of}
use Rattle.recipe.proofs.Framing.{frames_first, frames_last}
use Rattle.differs_rules.specs.Keeping.{block_count, erases_of}
use Rattle.differs_rules.specs.Pairs.{erase_pairs}

module _ (m g : ℕ) (rest : List (List ℕ)) where
  writes_none : (n a : ℕ) (cells : List ℕ) → erase_pairs (writes m g n a cells ++ rest) ≡ erase_pairs rest
  unfolding writes erase_pairs
  writes_none zero a cells = refl
  writes_none (suc n) a cells = omega (arith, writes_none n (a + 8) (drop 8 cells))

  item_pairs : (i : Item) → erase_pairs (item_frames m g i ++ rest) ≡ erases_of i + erase_pairs rest
  unfolding item_frames erase_pairs
  item_pairs (block a d) = omega (arith, writes_none 8 a d)
  item_pairs (row a d) = omega arith

items_pairs : (m g : ℕ) (is : List Item)
    → erase_pairs (frames_of (record { module_number = m; group_number = g; items = is })) ≡ block_count is
unfolding block_count erase_pairs
items_pairs m g [] = ap erase_pairs (frames_last m g)
items_pairs m g (i ∷ is) =
    let rest : List (List ℕ) = frames_of (record { module_number = m; group_number = g; items = is }) in
    ap erase_pairs (frames_first m g i is) ∙ item_pairs m g rest i ∙ ap (λ (n : ℕ). erases_of i + n) (items_pairs m g is)

-- among a recipe's frames are as many erase pairs as it has Blocks
pub erase_pairs_lem : (r : Recipe) → erase_pairs (frames_of r) ≡ block_count r.items
erase_pairs_lem r = items_pairs r.module_number r.group_number r.items
