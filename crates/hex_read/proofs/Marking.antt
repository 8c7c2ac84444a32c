-- A table and the cells that it marks, before and behind a record. Different indices stand for different places, so that a record's
-- entries mark its own places and no others: an entry of the part that they replace is the record's byte, and every other entry is of a
-- place that the record doesn't give. A place is given twice exactly where an entry of that part is above 255.
-- Assumes nothing.
use mathlib.Core.Path.{◌≡◌, refl, sym, ap, ap₂, ◌∙◌}
use mathlib.Core.Bool.{Bool, true, false, ◌||◌, cond}
use mathlib.Core.List.{List, [], ◌∷◌, ◌++◌}
use mathlib.Core.Logic.{◌⊎◌, inl, inr, ⊎_elim}
use Prim.Native.Nat.{ℕ, zero, suc, ◌+◌, ◌-◌, ◌≤◌, ◌<◌}
use native.Mathlib.Omega.{arith}
use lib.Dec.{ltb, lit<}
use lib.ListN.{length, get_or, take, replicate, length-replicate, get_or-replicate}
use lib.Seq.{drop-cons}
use borrow.Author.Tests.{ltb-true, ltb-false, lt-ltb}
use Rattle.base.specs.Parts.{Bytes, part, patch}
use Rattle.base.proofs.Choice.{by_cond, true_or_false}
use Rattle.base.proofs.Patched.{length_patch, inside_patch, elsewhere_patch}
use Rattle.hex_put.specs.Internal.Table.{some_marked}
use Rattle.hex_rules.specs.Cells.{Cell, cells_from, given_at, some_twice, byte_at}
use Rattle.hex_read.specs.Internal.Marks.{place_of, Marks}
use Rattle.hex_read.specs.Internal.Giving.{entries}
use Rattle.hex_read.proofs.CellsFrom.{from_entry, from_other, from_small, from_new, byte_append, entry_second, entry_first}

-- ---- indices and places

-- two indices of one place are one
one_index : (i k : ℕ) → place_of i ≡ place_of k → i ≡ k
one_index i k =
    by_cond (λ (p : ℕ). p ≡ place_of k → i ≡ k) (ltb i 65536) _ _
    (λ t. let l = ltb-true i 65536 t in
    by_cond (λ (q : ℕ). i ≡ q → i ≡ k) (ltb k 65536) _ _ (λ _ e. e) (λ _ e. absurd (omega arith)))
    (λ f. let l = ltb-false i 65536 f in
    by_cond (λ (q : ℕ). 0xF00000 + (i - 65536) ≡ q → i ≡ k) (ltb k 65536) _ _
    (λ t e. let m = ltb-true k 65536 t in absurd (omega arith))
    (λ g e. let m = ltb-false k 65536 g in omega arith))

-- an index lies outside a part of a table, or is the j-th of the part
outside_or_in : (k n i : ℕ) → ((i < k) ⊎ (k + n ≤ i)) ⊎ ((j : ℕ) × (j < n) × (i ≡ k + j))
outside_or_in k n i =
    ⊎_elim (λ t. inl (inl (ltb-true i k t)))
    (λ f. let l = ltb-false i k f in
    ⊎_elim (λ t. let m = ltb-true i (k + n) t in inr (i - k, omega arith, omega arith)) (λ g. inl (inr (ltb-false i (k + n) g)))
    (true_or_false (ltb i (k + n))))
    (true_or_false (ltb i k))

-- ---- entries

-- there is one for each byte
entries_length : (bs : List ℕ) → length (entries bs) ≡ length bs
entries_length [] = refl
entries_length (b ∷ bs) = ap suc (entries_length bs)

-- 256 more than it
entries_at : (bs : List ℕ) (j : ℕ) → j < length bs → get_or (entries bs) j 0 ≡ 256 + get_or bs j 0
entries_at [] j h = absurd (omega arith)
entries_at (b ∷ bs) zero h = refl
entries_at (b ∷ bs) (suc j) h = entries_at bs j (omega arith)

-- an entry is above 255 exactly where the place is given
above : (b : Bool) (v : ℕ) → ltb 255 (cond b (256 + v) 255) ≡ b
above true v = lt-ltb 255 (256 + v) (omega arith)
above false v = refl

-- ---- tables

-- where no cell is given, every entry is 255
pub marks_none : Marks [] (replicate 66560 255)
marks_none =
    record {
      size = length-replicate {A = ℕ} 66560 255;
      each = λ k h. get_or-replicate {A = ℕ} 66560 k 255 0 h;
      bytes = λ a. lit< tt;
    }

module _ (cells : List Cell) (table : List ℕ) (marks : Marks cells table) where
  -- an entry says whether its place is given
  marked_one : (k : ℕ) → k < 66560 → ltb 255 (get_or table k 0) ≡ given_at cells (place_of k)
  marked_one k h = rw (marks.each k h) (above (given_at cells (place_of k)) (byte_at cells (place_of k)))

  -- a record's places are marked exactly where one of its cells is given twice
  pub marked_twice : (k start : ℕ) (bs : List ℕ) → k + length bs ≤ 66560
      → ((j : ℕ) → j < length bs → place_of (k + j) ≡ start + j)
      → some_marked (part table k (length bs)) ≡ some_twice cells (cells_from start bs)
  marked_twice k start [] fits places = refl
  marked_twice k start (b ∷ bs) fits places =
      let here : k ≡ k + 0 = omega arith in
      let first : place_of k ≡ start = omega (arith, ap place_of here, places 0 (omega arith)) in
      ap (λ (l : List ℕ). some_marked (take (suc (length bs)) l)) (drop-cons table k 0 (omega arith))
      ∙ ap₂ ◌||◌ (marked_one k (omega arith) ∙ ap (given_at cells) first)
      (marked_twice (suc k) (suc start) bs (omega arith)
      (λ j h.
      let next : suc k + j ≡ k + suc j = omega arith in
      omega (arith, ap place_of next, places (suc j) (omega arith))))

  module _ (k start : ℕ) (bs : List ℕ) (fits : k + length bs ≤ 66560)
      (places : (j : ℕ) → j < length bs → place_of (k + j) ≡ start + j) where
    -- the entries fit in
    room : k + length (entries bs) ≤ length table
    room = omega (arith, entries_length bs, marks.size)

    -- an index outside the part is of a place that the record doesn't give
    not_named : (i : ℕ) → (i < k) ⊎ (k + length bs ≤ i) → given_at (cells_from start bs) (place_of i) ≡ false
    not_named i o =
        from_other start bs (place_of i)
        (λ j l e.
        let same = one_index i (k + j) (e ∙ sym (places j l)) in
        ⊎_elim (λ b. omega arith) (λ b. omega arith) o)

    -- behind a record none of whose cells is given twice, the table with its entries marks its cells too
    pub marks_more : Bytes bs → some_twice cells (cells_from start bs) ≡ false
        → Marks (cells ++ cells_from start bs) (patch table k (entries bs))
    marks_more small once =
        let new = cells_from start bs in
        record {
          size = length_patch table k (entries bs) room ∙ marks.size;
          each =
              λ i h.
              ⊎_elim
              (λ o.
              elsewhere_patch table k (entries bs) room i (rw (entries_length bs) o)
              ∙ marks.each i h
              ∙ sym (entry_first cells new (place_of i) (not_named i o)))
              (λ p.
              let j = p.0 in
              let at = p.2 in
              let place : place_of i ≡ start + j = ap place_of at ∙ places j p.1 in
              ap (λ (n : ℕ). get_or (patch table k (entries bs)) n 0) at
              ∙ inside_patch table k (entries bs) room j (rw (entries_length bs) p.1)
              ∙ entries_at bs j p.1
              ∙ sym (
              entry_second cells new (place_of i) (from_new cells start bs once j (place_of i) place p.1)
              ∙ from_entry start bs j (place_of i) place p.1
              ))
              (outside_or_in k (length bs) i);
          bytes =
              λ a.
              rw (byte_append cells new a)
              (by_cond (λ (v : ℕ). v < 256) (given_at cells a) _ _ (λ _. marks.bytes a) (λ _. from_small start bs small a));
        }
