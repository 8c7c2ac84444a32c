-- What is read of a recipe's bytes is printed in no more of them, and has no more Blocks than bytes; and which faults a reading stops at.
-- Of any numbers, bytes or not: of a refusal the call doesn't say that its recipe holds bytes.
-- Assumes nothing.
use mathlib.Core.Path.{◌≡◌, refl, sym, ap, subst, ◌∙◌}
use mathlib.Core.Bool.{Bool, true, false, cond, not, true≢false}
use mathlib.Core.List.{List, [], ◌∷◌}
use mathlib.Core.Logic.{⊎_elim}
use Prim.Native.Nat.{ℕ, zero, suc, ◌+◌, ◌≤◌}
use native.Mathlib.Omega.{arith}
use lib.Dec.{ltb, eqb}
use lib.ListN.{length, drop, length-append, length-drop}
use Rattle.base.proofs.Patched.{part_length}
use Rattle.base.specs.Parts.{part}
use Rattle.recipe.specs.Items.{Item, block, row, Recipe, printed_item, printed_items, printed}
use Rattle.recipe.specs.Faults.{kind_of, known, address_of, out_of_place, address_illegal, rules_at, fault_at}
use Rattle.recipe.specs.Reading.{Reading, at_end, fault, size_of, items_at, with_items, read_from, reading, recipe_of}
use Rattle.recipe.proofs.Order.{Faultless, faultless}
use Rattle.recipe.proofs.OnlyLegal.{kinds}
use Rattle.recipe.proofs.Steps.{read_end, read_fault, read_on}
use Rattle.differs_rules.specs.Keeping.{block_count}
use Rattle.differs_rules.proofs.KeptLegal.{printed_length}

-- ---- how many bytes are printed

-- a Block takes a byte at least
blocks_items : (is : List Item) → block_count is ≤ length (printed_items is)
unfolding block_count printed_items
blocks_items [] = omega arith
blocks_items (block a d ∷ is) =
    omega (arith, blocks_items is, length-append (printed_item (block a d)) (printed_items is))
blocks_items (row a d ∷ is) = omega (arith, blocks_items is, length-append (printed_item (row a d)) (printed_items is))

pub blocks_within : (r : Recipe) → block_count r.items ≤ length (printed r)
blocks_within r = omega (arith, blocks_items r.items, printed_length r)

-- ---- what is read is printed in no more bytes

-- the bytes that Leave still takes
abbrev to_leave : Bool → ℕ
to_leave true = 0
to_leave false = 1

one_byte : (left : Bool) → to_leave left ≤ 1
one_byte true = omega arith
one_byte false = omega arith

-- what is claimed of a reading of so many bytes, if it came to its end behind Leave
abbrev Within : ℕ → Bool → Reading → Type 0
Within bytes left r = r.stop ≡ at_end true → to_leave left + length (printed_items r.items) ≤ bytes

-- ends and faults
no_end : {n p : ℕ} {b : Bool} → fault n p ≡ at_end b → ⊥
no_end e = cc

not_left : {P : Type 0} → at_end false ≡ at_end true → P
not_left e = absurd cc

-- one item, by its kind, where the claim holds of every shorter reading
module _ (looks : ℕ)
    (ih : (input : List ℕ) (place number : ℕ) (left : Bool) → Within (length input) left (read_from looks input place number left))
    (xs : List ℕ) (place number : ℕ) (left : Bool) where
  abbrev Claim : ℕ → Type 0
  Claim k =
      Faultless (k ∷ xs) number left
      → Within (length (k ∷ xs)) left
      (with_items (items_at (k ∷ xs))
      (read_from looks (drop (size_of (k ∷ xs)) (k ∷ xs)) (place + size_of (k ∷ xs)) (number + 1) (eqb k 0x0F)))

  on_open : Claim 0x01
  on_open f s =
      omega (
        arith,
        ih (drop 3 (0x01 ∷ xs)) (place + 3) (number + 1) false s,
        f.whole,
        length-drop 3 (0x01 ∷ xs),
        one_byte left,
      )

  on_block : Claim 0x02
  unfolding printed_items
  on_block f s =
      let rest = (read_from looks (drop 68 (0x02 ∷ xs)) (place + 68) (number + 1) false).items in
      omega (
        arith,
        ih (drop 68 (0x02 ∷ xs)) (place + 68) (number + 1) false s,
        f.whole,
        length-drop 68 (0x02 ∷ xs),
        length-append (part (0x02 ∷ xs) 4 64) (printed_items rest),
        part_length (0x02 ∷ xs) 4 64 f.whole,
        one_byte left,
      )

  on_row : Claim 0x03
  unfolding printed_items
  on_row f s =
      let rest = (read_from looks (drop 12 (0x03 ∷ xs)) (place + 12) (number + 1) false).items in
      omega (
        arith,
        ih (drop 12 (0x03 ∷ xs)) (place + 12) (number + 1) false s,
        f.whole,
        length-drop 12 (0x03 ∷ xs),
        length-append (part (0x03 ∷ xs) 4 8) (printed_items rest),
        part_length (0x03 ∷ xs) 4 8 f.whole,
        one_byte left,
      )

  on_leave : Claim 0x0F
  on_leave f s = omega (arith, ih xs (place + 1) (number + 1) true s, one_byte left)

  on_kind : (k : ℕ) → Claim k
  on_kind k f =
      ⊎_elim
      (λ x.
      ⊎_elim
      (λ y. ⊎_elim (λ e. subst Claim (sym e) on_open f) (λ e. subst Claim (sym e) on_block f) y)
      (λ e. subst Claim (sym e) on_row f)
      x)
      (λ e. subst Claim (sym e) on_leave f)
      (kinds k f.kind)

read_within : (looks : ℕ) (input : List ℕ) (place number : ℕ) (left : Bool)
    → Within (length input) left (read_from looks input place number left)
unfolding read_from printed_items
read_within zero input place number left s = absurd (no_end s)
read_within (suc looks) [] place number true s = omega arith
read_within (suc looks) [] place number false s = not_left s
read_within (suc looks) (k ∷ xs) place number left s = go (read_within looks) (fault_at (k ∷ xs) number left) refl s
  where
    go : ((input : List ℕ) (place number : ℕ) (left : Bool) → Within (length input) left (read_from looks input place number left))
        → (n : ℕ) → fault_at (k ∷ xs) number left ≡ n
        → Within (length (k ∷ xs)) left (read_from (suc looks) (k ∷ xs) place number left)
    go ih zero e =
        subst (Within (length (k ∷ xs)) left) (sym (read_on looks (k ∷ xs) place number left (omega arith) e))
        (on_kind looks ih xs place number left k (faultless (k ∷ xs) number left e))
    go ih (suc n) e = λ s.
        absurd (no_end (sym (ap (λ (r : Reading). r.stop)
        (read_fault looks (k ∷ xs) place number left (omega arith) (λ z. omega arith))) ∙ s))

-- the first item is Open, and the rest is three bytes shorter
module _ (xs : List ℕ) where
  misplaced : {P : Type 0} (k : ℕ) → Faultless (k ∷ xs) 1 false → out_of_place k 1 false ≡ true → P
  misplaced k f o = absurd (true≢false (sym o ∙ f.in_place))

  abbrev First : ℕ → Type 0
  First k =
      Faultless (k ∷ xs) 1 false
      → (read_from 2048 (drop (size_of (k ∷ xs)) (k ∷ xs)) (0 + size_of (k ∷ xs)) 2 (eqb k 0x0F)).stop ≡ at_end true
      → 4
      + length
      (printed_items
      (with_items (items_at (k ∷ xs)) (read_from 2048 (drop (size_of (k ∷ xs)) (k ∷ xs)) (0 + size_of (k ∷ xs)) 2 (eqb k 0x0F))).items)
      ≤ length (k ∷ xs)

  first_open : First 0x01
  first_open f s =
      omega (arith, read_within 2048 (drop 3 (0x01 ∷ xs)) 3 2 false s, f.whole, length-drop 3 (0x01 ∷ xs))

  first_kind : (k : ℕ) → First k
  first_kind k f =
      ⊎_elim
      (λ x.
      ⊎_elim
      (λ y. ⊎_elim (λ e. subst First (sym e) first_open f) (λ e. misplaced k f (rw e)) y)
      (λ e. misplaced k f (rw e))
      x)
      (λ e. misplaced k f (rw e))
      (kinds k f.kind)

-- bytes that are read to their end, Leave having come, are no fewer than those of the recipe read
pub recipe_within : (input : List ℕ) → (reading input).stop ≡ at_end true → length (printed (recipe_of input)) ≤ length input
unfolding reading recipe_of
recipe_within [] s = not_left (sym (ap (λ (r : Reading). r.stop) (read_end 2048 [] 0 1 false refl)) ∙ s)
recipe_within (k ∷ xs) s = go (fault_at (k ∷ xs) 1 false) refl
  where
    go : (n : ℕ) → fault_at (k ∷ xs) 1 false ≡ n → length (printed (recipe_of (k ∷ xs))) ≤ length (k ∷ xs)
    go zero e =
        let on = read_on 2048 (k ∷ xs) 0 1 false (omega arith) e in
        let size : 4 + length (printed_items (read_from 2049 (k ∷ xs) 0 1 false).items) ≤ length (k ∷ xs) =
        subst (λ (r : Reading). 4 + length (printed_items r.items) ≤ length (k ∷ xs)) (sym on)
        (first_kind xs k (faultless (k ∷ xs) 1 false e) (sym (ap (λ (r : Reading). r.stop) on) ∙ s)) in
        omega (arith, printed_length (recipe_of (k ∷ xs)), size)
    go (suc n) e =
        absurd (no_end (sym (ap (λ (r : Reading). r.stop) (read_fault 2048 (k ∷ xs) 0 1 false (omega arith) (λ z. omega arith))) ∙ s))

-- ---- the faults

-- the numbers of an item's faults
abbrev Numbered : ℕ → Type 0
Numbered n = (21 ≤ n) × (n ≤ 25)

-- the number by the five conditions
abbrev from_five : Bool → Bool → Bool → Bool → Bool → ℕ
from_five a b c d f = cond a 25 (cond b 21 (cond c 23 (cond d 22 (cond f 24 0))))

five_numbered : (a b c d f : Bool) → (from_five a b c d f ≡ 0 → ⊥) → Numbered (from_five a b c d f)
five_numbered true b c d f h = (omega arith, omega arith)
five_numbered false true c d f h = (omega arith, omega arith)
five_numbered false false true d f h = (omega arith, omega arith)
five_numbered false false false true f h = (omega arith, omega arith)
five_numbered false false false false true h = (omega arith, omega arith)
five_numbered false false false false false h = absurd (h refl)

fault_numbered : (input : List ℕ) (number : ℕ) (left : Bool) → (fault_at input number left ≡ 0 → ⊥) → Numbered (fault_at input number left)
unfolding fault_at rules_at
fault_numbered input number left =
    five_numbered (eqb number 2049) (not (known (kind_of input))) (out_of_place (kind_of input) number left)
    (ltb (length input) (size_of input)) (address_illegal (kind_of input) (address_of input))

same_fault : {m p m' p' : ℕ} → fault m p ≡ fault m' p' → m ≡ m'
same_fault e = cc

-- a fault at which a reading stops
pub stops_numbered : (looks : ℕ) (input : List ℕ) (place number : ℕ) (left : Bool) (m p : ℕ)
    → (read_from looks input place number left).stop ≡ fault m p → Numbered m
unfolding read_from
stops_numbered zero input place number left m p s = let i = same_fault s in (omega (arith, i), omega (arith, i))
stops_numbered (suc looks) [] place number left m p s = absurd (no_end (sym s))
stops_numbered (suc looks) (k ∷ xs) place number left m p s = go (stops_numbered looks) (fault_at (k ∷ xs) number left) refl
  where
    go : ((input : List ℕ) (place number : ℕ) (left : Bool) (m p : ℕ)
        → (read_from looks input place number left).stop ≡ fault m p → Numbered m)
        → (n : ℕ) → fault_at (k ∷ xs) number left ≡ n → Numbered m
    go ih zero e =
        ih (drop (size_of (k ∷ xs)) (k ∷ xs)) (place + size_of (k ∷ xs)) (number + 1) (eqb k 0x0F) m p
        (sym (ap (λ (r : Reading). r.stop) (read_on looks (k ∷ xs) place number left (omega arith) e)) ∙ s)
    go ih (suc n) e =
        let some : fault_at (k ∷ xs) number left ≡ 0 → ⊥ = λ z. omega arith in
        let i = same_fault (sym (ap (λ (r : Reading). r.stop) (read_fault looks (k ∷ xs) place number left (omega arith) some)) ∙ s) in
        let w = fault_numbered (k ∷ xs) number left some in
        (omega (arith, w.0, i), omega (arith, w.1, i))
