-- What is kept of a legal recipe is a legal recipe, with no more items, no more erases and no more bytes: item by item, a kept one is one
-- of the recipe's own, and a dropped one is a Block, which is one erase and 68 bytes.
-- Assumes nothing.
use mathlib.Core.Path.{◌≡◌, refl}
use mathlib.Core.Bool.{Bool, true, false, cond}
use mathlib.Core.List.{List, [], ◌∷◌, ◌++◌}
use Prim.Native.Nat.{ℕ, ◌+◌, ◌*◌, ◌≤◌}
use native.Mathlib.Omega.{arith}
use lib.ListN.{length, length-append}
use Rattle.base.proofs.Choice.{by_cond}
use Rattle.recipe.specs.Items.{Item, block, row, Recipe, Legal, LegalItems, printed_item, printed_items, printed}
use Rattle.differs_rules.specs.Keeping.{left_by, stands, kept_items, kept_recipe, block_count}

-- each item that is kept is legal where the recipe's items are
pub kept_each : (is : List Item) (flash : List ℕ) → LegalItems is → LegalItems (kept_items is flash)
unfolding kept_items
kept_each [] flash h = tt
kept_each (i ∷ is) flash h =
    let rest : List Item = kept_items is (left_by i flash) in
    by_cond (λ (x : List Item). LegalItems (x ++ rest)) (stands i flash) [] (i ∷ [])
    (λ _. kept_each is (left_by i flash) h.1) (λ _. (h.0, kept_each is (left_by i flash) h.1))

-- no more items are kept than there are
pub kept_few : (is : List Item) (flash : List ℕ) → length (kept_items is flash) ≤ length is
unfolding kept_items
kept_few [] flash = omega arith
kept_few (i ∷ is) flash =
    let rest : List Item = kept_items is (left_by i flash) in
    let few : length rest ≤ length is = kept_few is (left_by i flash) in
    by_cond (λ (x : List Item). length (x ++ rest) ≤ length (i ∷ is)) (stands i flash) [] (i ∷ [])
    (λ _. omega (arith, few)) (λ _. omega (arith, few))

-- the shorter recipe is legal where the recipe is
pub kept_legal : (r : Recipe) (image : List ℕ) → Legal r → Legal (kept_recipe r image)
unfolding kept_recipe
kept_legal r image h =
    record {
      module_byte = h.module_byte;
      group_byte = h.group_byte;
      few = omega (arith, kept_few r.items image, h.few);
      each = kept_each r.items image h.each;
    }

-- the bytes of a recipe are four and those of its items
pub printed_length : (r : Recipe) → length (printed r) ≡ 4 + length (printed_items r.items)
unfolding printed
printed_length r = omega (arith, length-append (printed_items r.items) (0x0F ∷ []))

-- item by item: a Block that is dropped is one erase and 68 bytes less
items_sizes : (is : List Item) (flash : List ℕ) → LegalItems is
    → length (printed_items is) + 68 * block_count (kept_items is flash)
    ≡ length (printed_items (kept_items is flash)) + 68 * block_count is
unfolding kept_items block_count printed_items
items_sizes [] flash h = refl
items_sizes (block a d ∷ is) flash h =
    let rest : List Item = kept_items is (left_by (block a d) flash) in
    let ih : length (printed_items is) + 68 * block_count rest ≡ length (printed_items rest) + 68 * block_count is
    = items_sizes is (left_by (block a d) flash) h.1 in
    let long : length (printed_item (block a d) ++ printed_items is) ≡ 68 + length (printed_items is)
    = omega (arith, length-append d (printed_items is), h.0.1) in
    let kept : length (printed_item (block a d) ++ printed_items rest) ≡ 68 + length (printed_items rest)
    = omega (arith, length-append d (printed_items rest), h.0.1) in
    by_cond
    (λ (x : List Item).
    length (printed_item (block a d) ++ printed_items is) + 68 * block_count (x ++ rest)
    ≡ length (printed_items (x ++ rest)) + 68 * (1 + block_count is))
    (stands (block a d) flash) [] (block a d ∷ [])
    (λ _. omega (arith, ih, long)) (λ _. omega (arith, ih, long, kept))
items_sizes (row a d ∷ is) flash h =
    let rest : List Item = kept_items is flash in
    omega
    (arith, items_sizes is flash h.1, length-append d (printed_items is), length-append d (printed_items rest))

-- how many bytes the shorter recipe has: 68 less for each erase less
pub kept_sizes : (r : Recipe) (image : List ℕ) → Legal r
    → length (printed r) + 68 * block_count (kept_recipe r image).items
    ≡ length (printed (kept_recipe r image)) + 68 * block_count r.items
unfolding kept_recipe
kept_sizes r image h =
    omega
    (arith, items_sizes r.items image h.each, printed_length r, printed_length (kept_recipe r image))

-- ---- bytes, of any recipe

-- an item that is kept or not takes no more bytes than the item
one_within : (b : Bool) (i : Item) (is js : List Item) → length (printed_items js) ≤ length (printed_items is)
    → length (printed_items (cond b [] (i ∷ []) ++ js)) ≤ length (printed_items (i ∷ is))
unfolding printed_items
one_within true i is js h = omega (arith, h, length-append (printed_item i) (printed_items is))
one_within false i is js h =
    omega (arith, h, length-append (printed_item i) (printed_items is), length-append (printed_item i) (printed_items js))

kept_items_within : (is : List Item) (flash : List ℕ) → length (printed_items (kept_items is flash)) ≤ length (printed_items is)
unfolding kept_items
kept_items_within [] flash = omega arith
kept_items_within (i ∷ is) flash =
    one_within (stands i flash) i is (kept_items is (left_by i flash)) (kept_items_within is (left_by i flash))

-- what is kept of a recipe takes no more bytes than the recipe
pub kept_shorter : (r : Recipe) (image : List ℕ) → length (printed (kept_recipe r image)) ≤ length (printed r)
unfolding kept_recipe
kept_shorter r image =
    omega (arith, printed_length r, printed_length (kept_recipe r image), kept_items_within r.items image)
