-- What is kept, item by item: items behind others are looked at over what those leave, and a Block is dropped exactly if its cells stand.
-- Assumes nothing.
use mathlib.Core.Path.{◌≡◌, ◌∙◌, refl, sym, ap}
use mathlib.Core.Bool.{true, cond}
use mathlib.Core.List.{List, [], ◌∷◌, ◌++◌, append_assoc, append-nil}
use Prim.Native.Nat.{ℕ, ◌+◌}
use native.Mathlib.Nat.{zero-add, add_assoc}
use Rattle.base.specs.Parts.{part}
use Rattle.memory_same.proofs.Laws.{same_equal, equal_same}
use Rattle.recipe.specs.Items.{Item, block, row}
use Rattle.recipe.specs.Plain.{Memories, plain_item, plain_items}
use Rattle.differs_rules.specs.Keeping.{left_by, left_by_all, stands, kept_items, erases_of, block_count}

-- FLASH behind items that stand behind others
pub left_append : (is js : List Item) (flash : List ℕ) → left_by_all (is ++ js) flash ≡ left_by_all js (left_by_all is flash)
unfolding left_by_all
left_append [] js flash = refl
left_append (i ∷ is) js flash = left_append is js (left_by i flash)

-- it is what the plain reading leaves, whatever the EEPROM
pub left_plain : (is : List Item) (m : Memories) → left_by_all is m.flash ≡ (plain_items is m).flash
unfolding left_by_all plain_items
left_plain [] m = refl
left_plain (block a d ∷ is) m = left_plain is (plain_item (block a d) m)
left_plain (row a d ∷ is) m = left_plain is (plain_item (row a d) m)

-- items behind others
pub kept_append : (is js : List Item) (flash : List ℕ)
    → kept_items (is ++ js) flash ≡ kept_items is flash ++ kept_items js (left_by_all is flash)
unfolding kept_items left_by_all
kept_append [] js flash = refl
kept_append (i ∷ is) js flash =
    let here : List Item = cond (stands i flash) [] (i ∷ []) in
    ap (λ (x : List Item). here ++ x) (kept_append is js (left_by i flash))
    ∙ sym (append_assoc here (kept_items is (left_by i flash)) (kept_items js (left_by_all is (left_by i flash))))

-- one item alone
pub kept_one : (i : Item) (flash : List ℕ) → kept_items (i ∷ []) flash ≡ cond (stands i flash) [] (i ∷ [])
unfolding kept_items
kept_one i flash = append-nil (cond (stands i flash) [] (i ∷ []))

pub left_one : (i : Item) (flash : List ℕ) → left_by_all (i ∷ []) flash ≡ left_by i flash
unfolding left_by_all
left_one i flash = refl

-- the erases of items behind others
pub blocks_append : (is js : List Item) → block_count (is ++ js) ≡ block_count is + block_count js
unfolding block_count
blocks_append [] js = sym (zero-add (block_count js))
blocks_append (i ∷ is) js =
    ap (λ (n : ℕ). erases_of i + n) (blocks_append is js) ∙ sym (add_assoc (erases_of i) (block_count is) (block_count js))

-- a Block is dropped exactly if its 64 bytes stand there
pub dropped_stands : (a : ℕ) (d flash : List ℕ) → stands (block a d) flash ≡ true → part flash a 64 ≡ d
dropped_stands a d flash e = same_equal (part flash a 64) d e

pub stands_dropped : (a : ℕ) (d flash : List ℕ) → part flash a 64 ≡ d → stands (block a d) flash ≡ true
stands_dropped a d flash e = equal_same (part flash a 64) d e
