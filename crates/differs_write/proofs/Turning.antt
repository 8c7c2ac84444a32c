-- One item of the walk, by its kind: whether it is kept, what that adds to what is kept so far, and that the table tells FLASH behind it.
-- Open, Rows and Leave are kept; of a Block the table says whether its cells stand.
-- Assumes nothing.
use mathlib.Core.Path.{◌≡◌, ◌∙◌, refl, sym, ap, ap₂, subst}
use mathlib.Core.Bool.{Bool, true, false, not, cond, true≢false}
use mathlib.Core.List.{List, [], ◌∷◌, ◌++◌, append-nil}
use mathlib.Core.Logic.{⊎_elim}
use Prim.Native.Nat.{ℕ, ◌+◌, ◌/◌, ◌%◌, ◌≤◌, ◌<◌}
use native.Mathlib.Omega.{arith}
use lib.Dec.{eqb}
use lib.ListN.{length, get_or, take, drop}
use lib.Seq.{drop-drop, take_at}
use borrow.Author.Tests.{eqb-true, eq-eqb, ne_eqb, not-false}
use Rattle.base.specs.Parts.{Bytes, part}
use Rattle.base.proofs.Bytes.{bytes_drop}
use Rattle.base.proofs.Choice.{neither, cond_true, cond_false}
use Rattle.base.proofs.Patched.{part_length}
use Rattle.memory_address.specs.Places.{flash_cells}
use Rattle.memory_address.specs.Rule.{legal_flash}
use Rattle.memory_address.proofs.Laws.{flash_within, flash_ruled}
use Rattle.memory_address.proofs.BothSides.{erase_legal}
use Rattle.memory_same.specs.Same.{same}
use Rattle.recipe.specs.Items.{Item, block, row, address_bytes, printed_item, printed_items, opened}
use Rattle.recipe.specs.Faults.{kind_of, body_length, address_of}
use Rattle.recipe.specs.Reading.{size_of, items_at}
use Rattle.recipe.proofs.Order.{Faultless, faultless}
use Rattle.recipe.proofs.OnlyLegal.{kinds, item_bytes_lem}
use Rattle.recipe.proofs.Printing.{printed_both}
use Rattle.recipe_fault.specs.Internal.Steps.{AtItem}
use Rattle.recipe_fault.proofs.Faulting.{kind_at}
use Rattle.recipe_fault.proofs.Walking.{item_inside}
use Rattle.differs_rules.specs.Keeping.{left_by, left_by_all, stands, kept_items, block_count}
use Rattle.differs_rules.proofs.Keeping.{kept_one, left_one}
use Rattle.differs_write.specs.Internal.Standing.{standing, AtBlock}
use Rattle.differs_write.specs.Internal.Steps.{differs_at, remembered_at, keeps_at, last_after, erases_of_kind}
use Rattle.differs_write.proofs.Showing.{Shows, shows_stands, shows_block}

-- the bytes of what is kept so far, where item `number` comes next: none before Open
abbrev pub written : List ℕ → ℕ → Bool → List Item → List ℕ
written s number ended kept =
    cond (eqb number 1) [] (opened (get_or s 1 0) (get_or s 2 0) kept ++ cond ended (0x0F ∷ []) [])

-- what is known of an item at a place, over the FLASH f that the items before it leave
pub record Turned (s image last f : List ℕ) (place number : ℕ) : Type 0 where
  pub keeps : Bool
  pub said : keeps_at s place image last ≡ keeps
  pub size : keeps ≡ false → size_of (drop place s) ≡ 68
  pub erases : cond keeps (erases_of_kind (get_or s place 0)) 0 ≡ block_count (kept_items (items_at (drop place s)) f)
  pub shows : Shows s image (last_after s place last) (left_by_all (items_at (drop place s)) f)
  pub bytes : (kept : List Item) → (number ≡ 1 → (kept ≡ []) × (place ≡ 0))
      → written s number false kept ++ cond keeps (part s place (size_of (drop place s))) []
      ≡ written s (number + 1) (eqb (kind_of (drop place s)) 0x0F) (kept ++ kept_items (items_at (drop place s)) f)

-- the first three bytes of what starts with Open
open_bytes : (s : List ℕ) → 3 ≤ length s → get_or s 0 0 ≡ 0x01 → part s 0 3 ≡ 0x01 ∷ get_or s 1 0 ∷ get_or s 2 0 ∷ []
open_bytes [] h e = absurd (omega arith)
open_bytes (x ∷ []) h e = absurd (omega arith)
open_bytes (x ∷ y ∷ []) h e = absurd (omega arith)
open_bytes (x ∷ y ∷ z ∷ rest) h e = ap (λ (k : ℕ). k ∷ y ∷ z ∷ []) e

-- one byte
one_byte : (t : List ℕ) → 1 ≤ length t → take 1 t ≡ kind_of t ∷ []
one_byte [] h = absurd (omega arith)
one_byte (x ∷ xs) h = refl

-- a legal Block's address
multiple : (a : ℕ) → legal_flash a 0x03 ≡ true → a % 64 ≡ 0
multiple a h = ((erase_legal a).0.0 (flash_ruled a 0x03 h)).2

-- an item with an address and n cells, where it is whole
item_printed : (n : ℕ) (t : List ℕ) → Bytes t → 4 + n ≤ length t → take (4 + n) t ≡ kind_of t ∷ (address_bytes (address_of t) ++ part t 4 n)
item_printed n t bytes whole =
    ap (take (4 + n)) (item_bytes_lem n t bytes whole)
    ∙ take_at (kind_of t ∷ (address_bytes (address_of t) ++ part t 4 n)) (drop (4 + n) t) (4 + n)
    (omega (arith, part_length t 4 n whole))

module _ (s image last f : List ℕ) (place number : ℕ) (ended : Bool) (at : AtItem s place number ended) (some : 1 ≤ number) where
  abbrev t : List ℕ
  t = drop place s

  none : Faultless t number ended
  none = faultless t number ended at.faultless

  there : kind_of t ≡ get_or s place 0
  there = kind_at s place

  -- ---- where the item stands among the others

  in_order : cond (eqb (kind_of t) 0x01) (not (eqb number 1)) (eqb number 1) ≡ false
  in_order = (neither ended (cond (eqb (kind_of t) 0x01) (not (eqb number 1)) (eqb number 1)) none.in_place).1

  is_first : kind_of t ≡ 0x01 → number ≡ 1
  is_first k =
      eqb-true number 1
      (not-false (eqb number 1)
      (sym (cond_true (eqb (kind_of t) 0x01) (not (eqb number 1)) (eqb number 1) (eq-eqb (kind_of t) 0x01 k)) ∙ in_order))

  not_first : (kind_of t ≡ 0x01 → ⊥) → eqb number 1 ≡ false
  not_first k = sym (cond_false (eqb (kind_of t) 0x01) (not (eqb number 1)) (eqb number 1) (ne_eqb (kind_of t) 0x01 k)) ∙ in_order

  other_first : {n : ℕ} → kind_of t ≡ n → (n ≡ 0x01 → ⊥) → eqb number 1 ≡ false
  other_first k n = not_first (λ (e : kind_of t ≡ 0x01). n (sym k ∙ e))

  -- ---- what is written so far

  abbrev head : List Item → List ℕ
  head kept = opened (get_or s 1 0) (get_or s 2 0) kept

  -- behind an item
  behind : (leave : Bool) (kept : List Item) → written s (number + 1) leave kept ≡ head kept ++ cond leave (0x0F ∷ []) []
  behind leave kept = cond_false (eqb (number + 1) 1) [] (head kept ++ cond leave (0x0F ∷ []) []) (ne_eqb (number + 1) 1 (λ e. omega (arith, e, some)))

  -- before an item that is not the first
  before : eqb number 1 ≡ false → (kept : List Item) → written s number false kept ≡ head kept
  before n kept = cond_false (eqb number 1) [] (head kept ++ []) n ∙ append-nil (head kept)

  -- items more
  head_more : (kept is : List Item) → head (kept ++ is) ≡ head kept ++ printed_items is
  head_more kept is = ap (λ (l : List ℕ). 0x01 ∷ get_or s 1 0 ∷ get_or s 2 0 ∷ l) (printed_both kept is)

  -- ---- what is no Block is kept, and leaves the table

  module _ (other : eqb (kind_of t) 0x02 ≡ false) (shows : Shows s image last f) (is : List Item) (items : items_at t ≡ is)
      (kept-all : kept_items is f ≡ is) (left : left_by_all is f ≡ f) (no_blocks : block_count is ≡ 0) where
    else_here : eqb (get_or s place 0) 0x02 ≡ false
    else_here = ap (λ (k : ℕ). eqb k 0x02) (sym there) ∙ other

    else_kept : ((kept : List Item) → (number ≡ 1 → (kept ≡ []) × (place ≡ 0))
        → written s number false kept ++ part s place (size_of t) ≡ written s (number + 1) (eqb (kind_of t) 0x0F) (kept ++ is))
        → Turned s image last f place number
    else_kept bytes = record {
      keeps = true;
      said = cond_false (eqb (get_or s place 0) 0x02) (differs_at s place image last) true else_here;
      size = λ e. absurd (true≢false e);
      erases =
          cond_false (eqb (get_or s place 0) 0x02) 1 0 else_here
          ∙ sym (ap (λ (js : List Item). block_count (kept_items js f)) items ∙ ap block_count kept-all ∙ no_blocks);
      shows =
          subst (λ (l : List ℕ). Shows s image l (left_by_all (items_at t) f))
          (sym (cond_false (eqb (get_or s place 0) 0x02) (remembered_at s place last) last else_here))
          (subst (Shows s image last) (sym (ap (λ (js : List Item). left_by_all js f) items ∙ left)) shows);
      bytes = λ kept h.
          bytes kept h
          ∙ ap (λ (js : List Item). written s (number + 1) (eqb (kind_of t) 0x0F) (kept ++ js))
          (sym (ap (λ (js : List Item). kept_items js f) items ∙ kept-all));
    }

  module _ (shows : Shows s image last f) (all-bytes : Bytes s) where
    t_bytes : Bytes t
    t_bytes = bytes_drop place s all-bytes

    size_by : (k : ℕ) → kind_of t ≡ k → size_of t ≡ 1 + body_length k
    size_by k e = ap (λ (x : ℕ). 1 + body_length x) e

    -- Open
    on_open : kind_of t ≡ 0x01 → Turned s image last f place number
    unfolding kept_items block_count left_by_all printed_items
    on_open k = else_kept (rw k) shows [] (rw k) refl refl refl (λ kept h.
        let first = is_first k in
        let p : place ≡ 0 = (h first).1 in
        let starts : get_or s 0 0 ≡ 0x01 = ap (λ (n : ℕ). get_or s n 0) (sym p) ∙ sym there ∙ k in
        let whole : 3 ≤ length s = omega (arith, item_inside s place number ended at, size_by 0x01 k, p) in
        ap (λ (n : ℕ). cond (eqb n 1) [] (head kept ++ []) ++ part s place (size_of t)) first
        ∙ ap₂ (λ (x y : ℕ). part s x y) p (size_by 0x01 k)
        ∙ open_bytes s whole starts
        ∙ sym (ap (λ (x : ℕ). written s (number + 1) (eqb x 0x0F) (kept ++ [])) k
        ∙ behind false (kept ++ [])
        ∙ ap (λ (js : List Item). head (js ++ []) ++ []) (h first).0))

    -- Row
    on_row : kind_of t ≡ 0x03 → Turned s image last f place number
    unfolding kept_items block_count left_by_all printed_items
    on_row k =
        let i = row (address_of t) (part t 4 8) in
        else_kept (rw k) shows (i ∷ []) (rw k) refl refl refl (λ kept h.
        let later = other_first k (λ e. omega (arith, e)) in
        ap₂ (λ (x y : List ℕ). x ++ y) (before later kept)
        (ap (part s place) (size_by 0x03 k) ∙ item_printed 8 t t_bytes (rw (size_by 0x03 k) at none.whole) ∙ ap (λ (x : ℕ). x ∷ (address_bytes (address_of t) ++ part t 4 8)) k)
        ∙ sym (ap (λ (x : ℕ). written s (number + 1) (eqb x 0x0F) (kept ++ (i ∷ []))) k
        ∙ behind false (kept ++ (i ∷ []))
        ∙ append-nil (head (kept ++ (i ∷ [])))
        ∙ head_more kept (i ∷ [])
        ∙ ap (λ (l : List ℕ). head kept ++ l) (append-nil (printed_item i))))

    -- Leave
    on_leave : kind_of t ≡ 0x0F → Turned s image last f place number
    unfolding kept_items block_count left_by_all
    on_leave k = else_kept (rw k) shows [] (rw k) refl refl refl (λ kept h.
        let later = other_first k (λ e. omega (arith, e)) in
        ap₂ (λ (x y : List ℕ). x ++ y) (before later kept)
        (ap (part s place) (size_by 0x0F k) ∙ one_byte t (rw (size_by 0x0F k) at none.whole) ∙ ap (λ (x : ℕ). x ∷ []) k)
        ∙ sym (ap (λ (x : ℕ). written s (number + 1) (eqb x 0x0F) (kept ++ [])) k
        ∙ behind true (kept ++ [])
        ∙ ap (λ (js : List Item). head js ++ (0x0F ∷ [])) (append-nil kept)))

    -- Block
    module _ (k : kind_of t ≡ 0x02) (blocks : length last ≡ 1024) where
      abbrev a : ℕ
      a = address_of t

      abbrev d : List ℕ
      d = part t 4 64

      abbrev i : Item
      i = block a d

      legal : legal_flash a 0x03 ≡ true
      legal = not-false (legal_flash a 0x03) (rw k at none.address)

      within : a + 64 ≤ flash_cells
      within = (flash_within a 0x03 legal).1

      whole : 68 ≤ length t
      whole = rw (size_by 0x02 k) at none.whole

      inside : place + 68 ≤ length s
      inside = omega (arith, item_inside s place number ended at, size_by 0x02 k)

      cells : part s (place + 4) 64 ≡ d
      cells = ap (take 64) (sym (drop-drop 4 place s))

      here : eqb (get_or s place 0) 0x02 ≡ true
      here = eq-eqb (get_or s place 0) 0x02 (sym there ∙ k)

      kept_said : keeps_at s place image last ≡ not (stands i f)
      kept_said =
          cond_true (eqb (get_or s place 0) 0x02) (differs_at s place image last) true here
          ∙ ap not
          (ap (same (standing s image a (get_or last (a / 64) 0))) cells ∙ shows_stands s image last f shows a (multiple a legal) within d)

      one_kept : kept_items (items_at t) f ≡ cond (stands i f) [] (i ∷ [])
      one_kept = ap (λ (js : List Item). kept_items js f) (rw k) ∙ kept_one i f

      counted : (b : Bool) → cond (not b) 1 0 ≡ block_count (cond b [] (i ∷ []))
      unfolding block_count
      counted true = refl
      counted false = refl

      added : (b : Bool) (kept : List Item) → head kept ++ cond (not b) (part s place 68) [] ≡ head (kept ++ cond b [] (i ∷ []))
      unfolding printed_items
      added true kept = append-nil (head kept) ∙ ap head (sym (append-nil kept))
      added false kept =
          ap (λ (l : List ℕ). head kept ++ l)
          (item_printed 64 t t_bytes whole ∙ ap (λ (x : ℕ). x ∷ (address_bytes a ++ d)) k ∙ sym (append-nil (printed_item i)))
          ∙ sym (head_more kept (i ∷ []))

      on_block : Turned s image last f place number
      on_block = record {
        keeps = not (stands i f);
        said = kept_said;
        size = λ _. size_by 0x02 k;
        erases =
            ap (λ (n : ℕ). cond (not (stands i f)) n 0) (cond_true (eqb (get_or s place 0) 0x02) 1 0 here)
            ∙ counted (stands i f)
            ∙ ap block_count (sym one_kept);
        shows =
            subst (λ (l : List ℕ). Shows s image l (left_by_all (items_at t) f))
            (sym (cond_true (eqb (get_or s place 0) 0x02) (remembered_at s place last) last here))
            (subst (Shows s image (remembered_at s place last))
            (ap (λ (x : List ℕ). left_by (block a x) f) cells
            ∙ sym (left_one i f)
            ∙ ap (λ (js : List Item). left_by_all js f) (sym (let e : items_at t ≡ i ∷ [] = rw k in e)))
            (shows_block s image last f shows a (multiple a legal) within (place + 4) (λ e. omega (arith, e)) (omega (arith, inside)) blocks));
        bytes = λ kept h.
            let later = other_first k (λ e. omega (arith, e)) in
            ap₂ (λ (x : List ℕ) (n : ℕ). x ++ cond (not (stands i f)) (part s place n) []) (before later kept) (size_by 0x02 k)
            ∙ added (stands i f) kept
            ∙ sym (ap₂ (λ (x : ℕ) (js : List Item). written s (number + 1) (eqb x 0x0F) (kept ++ js)) k one_kept
            ∙ behind false (kept ++ cond (stands i f) [] (i ∷ []))
            ∙ append-nil (head (kept ++ cond (stands i f) [] (i ∷ []))));
      }

      -- and what the code asks of it
      pub at_block : length image ≡ flash_cells → place + 4 < 4294967296 → ((b : ℕ) → get_or last b 0 ≤ place) → AtBlock s place image last
      at_block l small h = record {
        inside = inside;
        small = small;
        cells = l;
        blocks = blocks;
        address = within;
        before = h (a / 64);
      }

    -- any item
    pub turned : length last ≡ 1024 → Turned s image last f place number
    turned blocks =
        ⊎_elim
        (λ x. ⊎_elim (λ y. ⊎_elim (λ (e : kind_of t ≡ 0x01). on_open e) (λ (e : kind_of t ≡ 0x02). on_block e blocks) y) (λ (e : kind_of t ≡ 0x03). on_row e) x)
        (λ (e : kind_of t ≡ 0x0F). on_leave e)
        (kinds (kind_of t) none.kind)
