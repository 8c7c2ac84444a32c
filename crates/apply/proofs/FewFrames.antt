-- A recipe of at most 4,096 bytes has at most 1,083 frames. A Block is 68 bytes and 18 frames, a Row 12 bytes and 2, so that 34 times the
-- frames read is at most 9 times the bytes; the frames of Blocks and Rows are an even number, Open takes three bytes more, and Leave gives
-- one frame. Open, 60 Blocks, a Row and Leave reach it.
-- Assumes nothing.
use mathlib.Core.Path.{◌≡◌, refl, sym, subst, ◌∙◌}
use mathlib.Core.Bool.{Bool, true, false, true≢false}
use mathlib.Core.List.{List, [], ◌∷◌}
use mathlib.Core.Logic.{⊎_elim}
use Prim.Native.Nat.{ℕ, zero, suc, ◌+◌, ◌*◌, ◌%◌, ◌≤◌}
use native.Mathlib.Omega.{arith}
use lib.Dec.{eqb}
use lib.ListN.{length, drop, length-drop}
use Rattle.recipe.specs.Items.{Item}
use Rattle.recipe.specs.Frames.{items_count, frame_count}
use Rattle.recipe.specs.Faults.{out_of_place, fault_at}
use Rattle.recipe.specs.Reading.{Reading, size_of, items_at, with_items, read_from, reading, recipe_of}
use Rattle.recipe.proofs.Order.{Faultless, faultless}
use Rattle.recipe.proofs.OnlyLegal.{kinds}
use Rattle.recipe.proofs.Steps.{read_end, read_fault, read_on}

-- the frames of items that were read from so many bytes
abbrev Within : ℕ → List Item → Type 0
Within bytes is = (34 * items_count is ≤ 9 * bytes) × (items_count is % 2 ≡ 0)

-- one item, by its kind, where the claim holds of every shorter reading
module _ (looks : ℕ)
    (ih : (input : List ℕ) (place number : ℕ) (left : Bool) → Within (length input) (read_from looks input place number left).items)
    (xs : List ℕ) (place number : ℕ) (left : Bool) where
  abbrev Claim : ℕ → Type 0
  Claim k =
      Faultless (k ∷ xs) number left
      → Within (length (k ∷ xs))
      (with_items (items_at (k ∷ xs))
      (read_from looks (drop (size_of (k ∷ xs)) (k ∷ xs)) (place + size_of (k ∷ xs)) (number + 1) (eqb k 0x0F))).items

  on_open : Claim 0x01
  on_open f =
      let i = ih (drop 3 (0x01 ∷ xs)) (place + 3) (number + 1) false in
      (omega (arith, i.0, f.whole, length-drop 3 (0x01 ∷ xs)), i.1)

  on_block : Claim 0x02
  unfolding items_count
  on_block f =
      let i = ih (drop 68 (0x02 ∷ xs)) (place + 68) (number + 1) false in
      let l = length-drop 68 (0x02 ∷ xs) in
      (omega (arith, i.0, f.whole, l), omega (arith, i.1))

  on_row : Claim 0x03
  unfolding items_count
  on_row f =
      let i = ih (drop 12 (0x03 ∷ xs)) (place + 12) (number + 1) false in
      let l = length-drop 12 (0x03 ∷ xs) in
      (omega (arith, i.0, f.whole, l), omega (arith, i.1))

  on_leave : Claim 0x0F
  on_leave f =
      let i = ih xs (place + 1) (number + 1) true in
      (omega (arith, i.0), i.1)

  on_kind : (k : ℕ) → Claim k
  on_kind k f =
      ⊎_elim
      (λ x.
      ⊎_elim
      (λ y. ⊎_elim (λ e. subst Claim (sym e) on_open f) (λ e. subst Claim (sym e) on_block f) y)
      (λ e. subst Claim (sym e) on_row f)
      x)
      (λ e. subst Claim (sym e) on_leave f)
      (kinds k f.kind)

items_within : (looks : ℕ) (input : List ℕ) (place number : ℕ) (left : Bool)
    → Within (length input) (read_from looks input place number left).items
unfolding read_from items_count
items_within zero input place number left = (omega arith, refl)
items_within (suc looks) [] place number left = (omega arith, refl)
items_within (suc looks) (k ∷ xs) place number left = go (items_within looks) (fault_at (k ∷ xs) number left) refl
  where
    go : ((input : List ℕ) (place number : ℕ) (left : Bool) → Within (length input) (read_from looks input place number left).items)
        → (n : ℕ) → fault_at (k ∷ xs) number left ≡ n
        → Within (length (k ∷ xs)) (read_from (suc looks) (k ∷ xs) place number left).items
    go ih zero e =
        subst (λ (r : Reading). Within (length (k ∷ xs)) r.items) (sym (read_on looks (k ∷ xs) place number left (omega arith) e))
        (on_kind looks ih xs place number left k (faultless (k ∷ xs) number left e))
    go ih (suc n) e =
        subst (λ (r : Reading). Within (length (k ∷ xs)) r.items)
        (sym (read_fault looks (k ∷ xs) place number left (omega arith) (λ z. omega arith))) (omega arith, refl)

-- an item other than Open is no first item
pub misplaced : {P : Type 0} (k : ℕ) (xs : List ℕ) → Faultless (k ∷ xs) 1 false → out_of_place k 1 false ≡ true → P
misplaced k xs f o = absurd (true≢false (sym o ∙ f.in_place))

-- the first item is Open, and the rest is three bytes shorter
module _ (xs : List ℕ) (few : suc (length xs) ≤ 4096) where
  abbrev First : ℕ → Type 0
  First k =
      Faultless (k ∷ xs) 1 false
      → items_count
      (with_items (items_at (k ∷ xs)) (read_from 2048 (drop (size_of (k ∷ xs)) (k ∷ xs)) (0 + size_of (k ∷ xs)) 2 (eqb k 0x0F))).items
      ≤ 1082

  first_open : First 0x01
  first_open f =
      let i = items_within 2048 (drop 3 (0x01 ∷ xs)) 3 2 false in
      omega (arith, i.0, i.1, f.whole, length-drop 3 (0x01 ∷ xs))

  first_kind : (k : ℕ) → First k
  first_kind k f =
      ⊎_elim
      (λ x.
      ⊎_elim
      (λ y. ⊎_elim (λ e. subst First (sym e) first_open f) (λ e. misplaced k xs f (rw e)) y)
      (λ e. misplaced k xs f (rw e))
      x)
      (λ e. misplaced k xs f (rw e))
      (kinds k f.kind)

-- so at most 1,082 frames are read of at most 4,096 bytes
items_few : (input : List ℕ) → length input ≤ 4096 → items_count (read_from 2049 input 0 1 false).items ≤ 1082
unfolding items_count
items_few [] few =
    subst (λ (r : Reading). items_count r.items ≤ 1082) (sym (read_end 2048 [] 0 1 false refl)) (omega arith)
items_few (k ∷ xs) few = go (fault_at (k ∷ xs) 1 false) refl
  where
    go : (n : ℕ) → fault_at (k ∷ xs) 1 false ≡ n → items_count (read_from 2049 (k ∷ xs) 0 1 false).items ≤ 1082
    go zero e =
        subst (λ (r : Reading). items_count r.items ≤ 1082) (sym (read_on 2048 (k ∷ xs) 0 1 false (omega arith) e))
        (first_kind xs few k (faultless (k ∷ xs) 1 false e))
    go (suc n) e =
        subst (λ (r : Reading). items_count r.items ≤ 1082)
        (sym (read_fault 2048 (k ∷ xs) 0 1 false (omega arith) (λ z. omega arith))) (omega arith)

-- and with Leave's 1,083
pub frames_few : (input : List ℕ) → length input ≤ 4096 → frame_count (recipe_of input) ≤ 1083
unfolding frame_count recipe_of reading
frames_few input few = omega (arith, items_few input few)
