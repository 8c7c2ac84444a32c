-- The plain reading of the items of one size: a cell lies in one part alone. The items before and behind that part leave it as it is, and
-- the part's own, where it is touched, sets it. One law for both memories, over a memory's first place and its items' size.
-- Assumes nothing.
use mathlib.Core.Path.{◌≡◌, refl, ap, ◌∙◌}
use mathlib.Core.Bool.{Bool, true, false, cond}
use mathlib.Core.List.{List, [], ◌∷◌, ◌++◌}
use mathlib.Core.Logic.{◌⊎◌, inl, inr, ⊎_elim}
use Prim.Native.Nat.{ℕ, zero, suc, ◌+◌, ◌-◌, ◌*◌, ◌≤◌, ◌<◌}
use native.Mathlib.Omega.{arith}
use lib.ListN.{length, get_or}
use lib.Seq.{sets, length-sets}
use Rattle.base.specs.Parts.{patch}
use Rattle.base.proofs.Choice.{by_cond}
use Rattle.base.proofs.Patched.{inside_patch, elsewhere_patch}
use Rattle.recipe.specs.Items.{Item}
use Rattle.recipe.specs.Plain.{Memories, plain_item, plain_items}
use Rattle.recipe.proofs.Plainly.{sets_patch}
use Rattle.hex_rules.specs.Cells.{Cell, byte_at, touched}
use Rattle.hex_rules.specs.Recipe.{contents, item_at, upward}
use Rattle.hex_rules.proofs.EachItem.{contents_length, contents_at}

-- items in two lists are set one list after the other
pub plain_append : (is js : List Item) (m : Memories) → plain_items (is ++ js) m ≡ plain_items js (plain_items is m)
unfolding plain_items
plain_append [] js m = refl
plain_append (i ∷ is) js m = plain_append is js (plain_item i m)

-- the items of one size: the first part's, and then the others'
first_part : (item : ℕ → List ℕ → Item) (size : ℕ) (cells : List Cell) (n a : ℕ) (m : Memories)
    → plain_items (upward item size cells (suc n) a) m
    ≡ plain_items (upward item size cells n (a + size)) (plain_items (item_at item size cells a) m)
unfolding upward
first_part item size cells n a m = plain_append (item_at item size cells a) (upward item size cells n (a + size)) m

-- items that leave a memory alone, one by one
pub untouched : (mem : Memories → List ℕ) (item : ℕ → List ℕ → Item) (size : ℕ) (cells : List Cell)
    → ((a : ℕ) (d : List ℕ) (m : Memories) → mem (plain_item (item a d) m) ≡ mem m)
    → (n a : ℕ) (m : Memories) → mem (plain_items (upward item size cells n a) m) ≡ mem m
unfolding plain_items upward
untouched mem item size cells law zero a m = refl
untouched mem item size cells law (suc n) a m =
    ap mem (first_part item size cells n a m)
    ∙ untouched mem item size cells law n (a + size) (plain_items (item_at item size cells a) m)
    ∙ by_cond (λ (is : List Item). mem (plain_items is m) ≡ mem m) (touched cells a size) (item a (contents cells a size) ∷ []) []
    (λ _. law a (contents cells a size) m) (λ _. refl)

-- the items that set a memory, whose cell p has the place first + p
module _ (mem : Memories → List ℕ) (first : ℕ) (item : ℕ → List ℕ → Item) (size : ℕ) (cells : List Cell)
    (law : (a p : ℕ) (d : List ℕ) (m : Memories) → a ≡ first + p → mem (plain_item (item a d) m) ≡ sets (mem m) p d) where
  -- one part: its cells are set if it is touched, and no other cell is
  module _ (a p : ℕ) (at : a ≡ first + p) (m : Memories) where
    abbrev made : Item
    made = item a (contents cells a size)

    abbrev behind : Bool → List ℕ
    behind b = mem (plain_items (cond b (made ∷ []) []) m)

    part_size : (b : Bool) → length (behind b) ≡ length (mem m)
    unfolding plain_items
    part_size true = ap length (law a p (contents cells a size) m at) ∙ length-sets (mem m) p (contents cells a size)
    part_size false = refl

    module _ (k : ℕ) (fits : p + size ≤ length (mem m)) where
      -- the cells as they are set
      patched : get_or (behind true) k 0 ≡ get_or (patch (mem m) p (contents cells a size)) k 0
      unfolding plain_items
      patched =
          ap (λ (l : List ℕ). get_or l k 0)
          (law a p (contents cells a size) m at
          ∙ sets_patch (mem m) p (contents cells a size) (omega (arith, contents_length cells a size)))

      part_inside : (b : Bool) → p ≤ k → k < p + size → get_or (behind b) k 0 ≡ cond b (byte_at cells (first + k)) (get_or (mem m) k 0)
      unfolding plain_items
      part_inside true l h =
          let n = contents_length cells a size in
          let here : p + (k - p) ≡ k = omega arith in
          let there : a + (k - p) ≡ first + k = omega arith in
          patched
          ∙ rw here at (inside_patch (mem m) p (contents cells a size) (omega arith) (k - p) (omega arith))
          ∙ rw there at (contents_at cells a size (k - p) (omega arith))
      part_inside false l h = refl

      part_outside : (b : Bool) → (k < p) ⊎ (p + size ≤ k) → get_or (behind b) k 0 ≡ get_or (mem m) k 0
      unfolding plain_items
      part_outside true o =
          let n = contents_length cells a size in
          patched ∙ elsewhere_patch (mem m) p (contents cells a size) (omega arith) k (rw n o)
      part_outside false o = refl

  -- all parts: a cell of none of them is as it was
  pub upward_outside : (n a p : ℕ) → a ≡ first + p → (m : Memories) (k : ℕ) → p + size * n ≤ length (mem m)
      → (k < p) ⊎ (p + size * n ≤ k)
      → get_or (mem (plain_items (upward item size cells n a) m)) k 0 ≡ get_or (mem m) k 0
  unfolding plain_items upward
  upward_outside zero a p at m k fits o = refl
  upward_outside (suc n) a p at m k fits o =
      let t = touched cells a size in
      let m' = plain_items (item_at item size cells a) m in
      let same = part_size a p at m t in
      ap (λ (x : Memories). get_or (mem x) k 0) (first_part item size cells n a m)
      ∙ upward_outside n (a + size) (p + size) (omega arith) m' k (omega arith)
      (⊎_elim (λ l. inl (omega arith)) (λ l. inr (omega arith)) o)
      ∙ part_outside a p at m k (omega arith) t (⊎_elim (λ l. inl l) (λ l. inr (omega arith)) o)

  -- and a cell of one of them is set if that is touched
  pub upward_inside : (n a p : ℕ) → a ≡ first + p → (m : Memories) (k q i : ℕ) → p + size * n ≤ length (mem m)
      → q ≡ p + size * i → i < n → q ≤ k → k < q + size
      → get_or (mem (plain_items (upward item size cells n a) m)) k 0
      ≡ cond (touched cells (first + q) size) (byte_at cells (first + k)) (get_or (mem m) k 0)
  unfolding plain_items upward
  upward_inside zero a p at m k q i fits e h l r = absurd (omega arith)
  upward_inside (suc n) a p at m k q zero fits e h l r =
      let t = touched cells a size in
      let m' = plain_items (item_at item size cells a) m in
      let same = part_size a p at m t in
      let here : first + q ≡ a = omega arith in
      ap (λ (x : Memories). get_or (mem x) k 0) (first_part item size cells n a m)
      ∙ upward_outside n (a + size) (p + size) (omega arith) m' k (omega arith) (inl (omega arith))
      ∙ rw here (part_inside a p at m k (omega arith) t (omega arith) (omega arith))
  upward_inside (suc n) a p at m k q (suc i) fits e h l r =
      let t = touched cells a size in
      let m' = plain_items (item_at item size cells a) m in
      let same = part_size a p at m t in
      ap (λ (x : Memories). get_or (mem x) k 0) (first_part item size cells n a m)
      ∙ upward_inside n (a + size) (p + size) (omega arith) m' k q i (omega arith) (omega arith) (omega arith) l r
      ∙ ap (λ (v : ℕ). cond (touched cells (first + q) size) (byte_at cells (first + k)) v)
      (part_outside a p at m k (omega arith) t (inr (omega arith)))
