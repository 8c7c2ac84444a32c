-- Only legal recipes are accepted: whatever bytes are read to their end, Leave having come, are those of a legal recipe. By induction
-- over the reading: an item without fault is printed as the bytes it was read from.
-- Assumes nothing.
use mathlib.Core.Path.{◌≡◌, refl, sym, ap, subst, ◌∙◌}
use mathlib.Core.Bool.{Bool, true, false, not, ◌||◌, cond, true≢false}
use mathlib.Core.List.{List, [], ◌∷◌, ◌++◌, append_assoc}
use mathlib.Core.Logic.{◌⊎◌, ⊎_elim, inl, inr}
use Prim.Native.Nat.{ℕ, zero, suc, ◌+◌, ◌*◌, ◌/◌, ◌%◌, ◌≤◌, ◌<◌}
use native.Mathlib.Omega.{arith}
use native.Mathlib.Nat.{eq-or-lt_of_le}
use lib.Dec.{ltb, eqb}
use lib.ListN.{length, take, drop, take-append-drop}
use lib.Seq.{drop-drop}
use borrow.Author.Tests.{ltb-false, eqb-true, ne_eqb, not-false}
use Rattle.base.proofs.Bytes.{bytes_take, bytes_drop}
use Rattle.base.proofs.Choice.{either_true}
use Rattle.base.proofs.Patched.{part_length}
use Rattle.base.specs.Parts.{part, Bytes}
use Rattle.recipe.specs.Items.{Item, block, row, Legal, LegalItem, LegalItems, address_bytes, printed_item, printed_items, printed}
use Rattle.recipe.specs.Faults.{kind_of, known, address_of, out_of_place, fault_at}
use Rattle.recipe.specs.Reading.{Reading, Stop, at_end, fault, size_of, items_at, with_items, read_from, reading, recipe_of}
use Rattle.recipe.specs.Frames.{frame_count}
use Rattle.recipe.specs.Translation.{Frames, Refused, answer_at, unless_short, checked, translated}
use Rattle.recipe.proofs.Order.{Faultless, faultless}
use Rattle.recipe.proofs.Steps.{read_end, read_fault, read_on}

-- a known kind is one of the four
pub kinds : (k : ℕ) → known k ≡ true → (((k ≡ 0x01) ⊎ (k ≡ 0x02)) ⊎ (k ≡ 0x03)) ⊎ (k ≡ 0x0F)
kinds k h =
    ⊎_elim
    (λ a.
    inl (⊎_elim
    (λ b. inl (⊎_elim (λ e. inl (eqb-true k 1 e)) (λ e. inr (eqb-true k 2 e)) (either_true (eqb k 1) (eqb k 2) b)))
    (λ e. inr (eqb-true k 3 e))
    (either_true (eqb k 1 || eqb k 2) (eqb k 3) a)))
    (λ e. inr (eqb-true k 15 e))
    (either_true (eqb k 1 || eqb k 2 || eqb k 3) (eqb k 15) h)

-- three bytes are those of the address they give
three_bytes : (x y z : ℕ) → x < 256 → y < 256 → z < 256 → address_bytes (x * 65536 + y * 256 + z) ≡ x ∷ y ∷ z ∷ []
three_bytes x y z hx hy hz =
    let a : (x * 65536 + y * 256 + z) / 65536 % 256 ≡ x = omega arith in
    let b : (x * 65536 + y * 256 + z) / 256 % 256 ≡ y = omega arith in
    let c : (x * 65536 + y * 256 + z) % 256 ≡ z = omega arith in
    rw (a, b, c)

-- an input of four bytes and n more starts with its kind, its address and n cells
pub item_bytes_lem : (n : ℕ) (input : List ℕ) → Bytes input → 4 + n ≤ length input
    → input ≡ (kind_of input ∷ (address_bytes (address_of input) ++ part input 4 n)) ++ drop (4 + n) input
item_bytes_lem n [] b h = absurd (omega arith)
item_bytes_lem n (k ∷ []) b h = absurd (omega arith)
item_bytes_lem n (k ∷ x ∷ []) b h = absurd (omega arith)
item_bytes_lem n (k ∷ x ∷ y ∷ []) b h = absurd (omega arith)
item_bytes_lem n (k ∷ x ∷ y ∷ z ∷ rest) b h =
    let cells : take n rest ++ drop (4 + n) (k ∷ x ∷ y ∷ z ∷ rest) ≡ rest =
    ap (λ (l : List ℕ). take n rest ++ l) (sym (drop-drop n 4 (k ∷ x ∷ y ∷ z ∷ rest))) ∙ take-append-drop n rest in
    sym (ap (λ (l : List ℕ). (k ∷ (l ++ take n rest)) ++ drop (4 + n) (k ∷ x ∷ y ∷ z ∷ rest))
    (three_bytes x y z b.1.0 b.1.1.0 b.1.1.1.0)
    ∙ ap (λ (l : List ℕ). k ∷ x ∷ y ∷ z ∷ l) cells)

-- what is claimed of a reading: if it came to its end behind Leave, `input` is printed from what was read
abbrev Printed : List ℕ → ℕ → Reading → Type 0
Printed input number r =
    r.stop ≡ at_end true
    → (input ≡ printed_items r.items ++ (0x0F ∷ [])) × LegalItems r.items × (number + length r.items ≤ 2048)

-- an item printed in front of what is printed
in_front : (i : Item) (input rest : List ℕ) (number : ℕ) (r : Reading) → input ≡ printed_item i ++ rest → LegalItem i
    → Printed rest (number + 1) r → Printed input number (with_items (i ∷ []) r)
unfolding printed_items
in_front i input rest number r e l p s =
    let q = p s in (
      e ∙ ap (λ (x : List ℕ). printed_item i ++ x) q.0 ∙ sym (append_assoc (printed_item i) (printed_items r.items) (0x0F ∷ [])),
      (l, q.1),
      omega arith,
    )

-- a fault is no end
no_end : {n p : ℕ} {b : Bool} → fault n p ≡ at_end b → ⊥
no_end e = let z : ◌≡◌ {A = ℕ} 0 1 = cc in omega arith

-- after Leave only the end is read
last : (looks : ℕ) (input : List ℕ) (place number : ℕ) → (read_from looks input place number true).stop ≡ at_end true
    → (input ≡ []) × ((read_from looks input place number true).items ≡ [])
unfolding read_from
last zero input place number h = absurd (no_end h)
last (suc looks) [] place number h = (refl, refl)
last (suc looks) (x ∷ xs) place number h =
    absurd (no_end
    (sym (ap (λ (r : Reading). r.stop)
    (read_fault looks (x ∷ xs) place number true (omega arith) (λ e. true≢false (faultless (x ∷ xs) number true e).in_place))) ∙ h))

-- one item, by its kind, where the claim holds of every shorter reading
module _ (looks : ℕ)
    (ih : (input : List ℕ) (place number : ℕ) → Bytes input → 2 ≤ number → number ≤ 2049
    → Printed input number (read_from looks input place number false))
    (xs : List ℕ) (place number : ℕ) (bytes : Bytes xs) (more : 2 ≤ number) (few : number ≤ 2049) where
  -- an item without fault is not item 2,049
  fewer : {k : ℕ} → Faultless (k ∷ xs) number false → number ≤ 2048
  fewer f = ⊎_elim (λ e. absurd (f.few e)) (λ l. omega arith) (eq-or-lt_of_le few)

  -- what is claimed behind the item of kind k
  abbrev Claim : ℕ → Type 0
  Claim k =
      k < 256
      → Faultless (k ∷ xs) number false
      → Printed (k ∷ xs) number
      (with_items (items_at (k ∷ xs))
      (read_from looks (drop (size_of (k ∷ xs)) (k ∷ xs)) (place + size_of (k ∷ xs)) (number + 1) (eqb k 0x0F)))

  on_open : Claim 0x01
  on_open b f s = absurd (true≢false (sym (ap not (ne_eqb number 1 (λ e. omega arith))) ∙ f.in_place))

  on_block : Claim 0x02
  on_block b f =
      in_front (block (address_of (0x02 ∷ xs)) (part (0x02 ∷ xs) 4 64)) (0x02 ∷ xs) (drop 68 (0x02 ∷ xs)) number _
      (item_bytes_lem 64 (0x02 ∷ xs) (b, bytes) f.whole) (
        not-false _ f.address,
        part_length (0x02 ∷ xs) 4 64 f.whole,
        bytes_take 64 (drop 4 (0x02 ∷ xs)) (bytes_drop 4 (0x02 ∷ xs)
            (b, bytes)),
      )
      (ih (drop 68 (0x02 ∷ xs)) (place + 68) (number + 1) (bytes_drop 68 (0x02 ∷ xs) (b, bytes)) (omega arith) (omega (arith, fewer f)))

  on_row : Claim 0x03
  on_row b f =
      in_front (row (address_of (0x03 ∷ xs)) (part (0x03 ∷ xs) 4 8)) (0x03 ∷ xs) (drop 12 (0x03 ∷ xs)) number _
      (item_bytes_lem 8 (0x03 ∷ xs) (b, bytes) f.whole) (
        not-false _ f.address,
        part_length (0x03 ∷ xs) 4 8 f.whole,
        bytes_take 8 (drop 4 (0x03 ∷ xs)) (bytes_drop 4 (0x03 ∷ xs) (
          b,
          bytes,
        )),
      )
      (ih (drop 12 (0x03 ∷ xs)) (place + 12) (number + 1) (bytes_drop 12 (0x03 ∷ xs) (b, bytes)) (omega arith) (omega (arith, fewer f)))

  on_leave : Claim 0x0F
  unfolding printed_items
  on_leave b f s =
      let l = last looks xs (place + 1) (number + 1) s in
      rw (l.1, l.0) (refl, tt, omega (arith, fewer f))

  on_kind : (k : ℕ) → Claim k
  on_kind k b f =
      ⊎_elim
      (λ x.
      ⊎_elim
      (λ y. ⊎_elim (λ e. subst Claim (sym e) on_open b f) (λ e. subst Claim (sym e) on_block b f) y)
      (λ e. subst Claim (sym e) on_row b f)
      x)
      (λ e. subst Claim (sym e) on_leave b f)
      (kinds k f.kind)

pub only : (looks : ℕ) (input : List ℕ) (place number : ℕ) → Bytes input → 2 ≤ number → number ≤ 2049
    → Printed input number (read_from looks input place number false)
unfolding read_from
only zero input place number bytes more few = λ s. absurd (no_end s)
only (suc looks) [] place number bytes more few = λ s. absurd (let z : ◌≡◌ {A = ℕ} 0 1 = cc in omega arith)
only (suc looks) (k ∷ xs) place number bytes more few = go (only looks) (fault_at (k ∷ xs) number false) refl
  where
    go : ((input : List ℕ) (place number : ℕ) → Bytes input → 2 ≤ number → number ≤ 2049
        → Printed input number (read_from looks input place number false))
        → (n : ℕ) → fault_at (k ∷ xs) number false ≡ n → Printed (k ∷ xs) number (read_from (suc looks) (k ∷ xs) place number false)
    go ih zero e =
        subst (Printed (k ∷ xs) number) (sym (read_on looks (k ∷ xs) place number false (omega arith) e))
        (on_kind looks ih xs place number bytes.1 more few k bytes.0 (faultless (k ∷ xs) number false e))
    go ih (suc n) e = λ s.
        absurd (no_end (sym (ap (λ (r : Reading). r.stop) (read_fault looks (k ∷ xs) place number false (omega arith)
        (λ z. omega arith))) ∙ s))

-- ---- the whole

-- Open, which nothing but the first item may be, and what is read behind it
opens : (xs : List ℕ) → Bytes xs → Faultless (0x01 ∷ xs) 1 false
    → reading (0x01 ∷ xs) ≡ read_from 2048 (drop 2 xs) 3 2 false
    → (reading (0x01 ∷ xs)).stop ≡ at_end true → ((0x01 ∷ xs) ≡ printed (recipe_of (0x01 ∷ xs))) × Legal (recipe_of (0x01 ∷ xs))
unfolding printed recipe_of
opens [] b f e s = absurd (omega (arith, f.whole))
opens (m ∷ []) b f e s = absurd (omega (arith, f.whole))
opens (m ∷ g ∷ rest) b f e s =
    let p = only 2048 rest 3 2 b.1.1 (omega arith) (omega arith) (ap (λ (r : Reading). r.stop) (sym e) ∙ s) in
    rw e (
      ap (λ (l : List ℕ). 0x01 ∷ m ∷ g ∷ l) p.0,
      record { module_byte = b.0; group_byte = b.1.0; few = omega (arith, p.2); each = p.1 },
    )

-- what is claimed of an input that starts with k
abbrev Whole : List ℕ → ℕ → Type 0
Whole xs k =
    fault_at (k ∷ xs) 1 false ≡ 0
    → (reading (k ∷ xs)).stop ≡ at_end true
    → ((k ∷ xs) ≡ printed (recipe_of (k ∷ xs))) × Legal (recipe_of (k ∷ xs))

first_kind : (k : ℕ) (xs : List ℕ) → Bytes xs → Whole xs k
unfolding reading
first_kind k xs b e s =
    let f = faultless (k ∷ xs) 1 false e in
    ⊎_elim
    (λ x.
    ⊎_elim
    (λ y.
    ⊎_elim
    (λ q.
    subst (Whole xs) (sym q)
    (λ e. opens xs b (faultless (0x01 ∷ xs) 1 false e) (read_on 2048 (0x01 ∷ xs) 0 1 false (omega arith) e))
    e
    s)
    (λ q. misplaced f (rw q))
    y)
    (λ q. misplaced f (rw q))
    x)
    (λ q. misplaced f (rw q))
    (kinds k f.kind)
  where
    misplaced : {P : Type 0} → Faultless (k ∷ xs) 1 false → out_of_place k 1 false ≡ true → P
    misplaced f o = absurd (true≢false (sym o ∙ f.in_place))

-- bytes that are read to their end, Leave having come, are those of a legal recipe
pub only_printed : (input : List ℕ) → Bytes input → (reading input).stop ≡ at_end true
    → (input ≡ printed (recipe_of input)) × Legal (recipe_of input)
unfolding reading
only_printed [] b s =
    absurd (let e = sym (ap (λ (r : Reading). r.stop) (read_end 2048 [] 0 1 false refl)) ∙ s in
    let z : ◌≡◌ {A = ℕ} 0 1 = cc in
    omega arith)
only_printed (k ∷ xs) b s = go (fault_at (k ∷ xs) 1 false) refl
  where
    go : (n : ℕ) → fault_at (k ∷ xs) 1 false ≡ n → ((k ∷ xs) ≡ printed (recipe_of (k ∷ xs))) × Legal (recipe_of (k ∷ xs))
    go zero e = first_kind k xs b.1 e s
    go (suc n) e =
        absurd (no_end (sym (ap (λ (r : Reading). r.stop) (read_fault 2048 (k ∷ xs) 0 1 false (omega arith) (λ z. omega arith))) ∙ s))

-- whatever is accepted is a legal recipe, with its frame count, and had room
pub accepts_only : (input : List ℕ) (room count : ℕ) → Bytes input → translated input room ≡ Frames count
    → Legal (recipe_of input) × (input ≡ printed (recipe_of input)) × (count ≡ frame_count (recipe_of input)) × (12 * count ≤ room)
unfolding translated checked
accepts_only input room count b e = go (reading input).stop refl e
  where
    go : (s : Stop) → (reading input).stop ≡ s → unless_short (answer_at s (length input) (frame_count (recipe_of input))) room ≡ Frames count
        → Legal (recipe_of input) × (input ≡ printed (recipe_of input)) × (count ≡ frame_count (recipe_of input)) × (12 * count ≤ room)
    go (fault n p) q e = absurd (let z : ◌≡◌ {A = ℕ} 0 1 = cc in omega arith)
    go (at_end false) q e = absurd (let z : ◌≡◌ {A = ℕ} 0 1 = cc in omega arith)
    go (at_end true) q e =
        let p = only_printed input b q in
        let f = fits (ltb room (12 * frame_count (recipe_of input))) refl e in
        (p.1, p.0, f.0, f.1)
      where
        fits : (t : Bool) → ltb room (12 * frame_count (recipe_of input)) ≡ t
            → cond t (Refused 26 0) (Frames (frame_count (recipe_of input))) ≡ Frames count
            → (count ≡ frame_count (recipe_of input)) × (12 * count ≤ room)
        fits true l e = absurd (let z : ◌≡◌ {A = ℕ} 0 1 = cc in omega arith)
        fits false l e =
            let same : count ≡ frame_count (recipe_of input) = cc in
            (same, omega (arith, ltb-false room (12 * frame_count (recipe_of input)) l))
