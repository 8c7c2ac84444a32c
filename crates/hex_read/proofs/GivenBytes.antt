-- What a record's bytes meet when they are given to a table that marks the cells before: the number says which of the two refusals holds,
-- 33 before 34, and with 0 neither holds and the table behind marks the record's cells too. No byte is no cell. Else the index says
-- whether a cell is outside, and the part of the table from it on whether one is given twice.
-- Assumes nothing.
use mathlib.Core.Path.{◌≡◌, refl, sym, ap, subst, ◌∙◌}
use mathlib.Core.Bool.{Bool, true, false, cond}
use mathlib.Core.List.{List, [], ◌∷◌, ◌++◌, append-nil}
use mathlib.Core.Logic.{◌⊎◌, inl, inr}
use Prim.Native.Nat.{ℕ, ◌≤◌}
use native.Mathlib.Omega.{arith}
use lib.Dec.{eqb, eqb-suc-zero}
use lib.ListN.{length}
use Rattle.std.specs.Prelude.{Option, Some, None}
use Rattle.base.specs.Parts.{Bytes, part, patch}
use Rattle.base.proofs.Choice.{by_cond, cond_false}
use Rattle.hex_put.specs.Internal.Table.{some_marked}
use Rattle.hex_rules.specs.Cells.{Cell, cells_from, some_outside, some_twice}
use Rattle.hex_read.specs.Internal.Marks.{Marks}
use Rattle.hex_read.specs.Internal.Giving.{index_of, entries, index_fault, giving_fault, from_index, with_cells}
use Rattle.hex_read.proofs.Area.{Within, outside, inside}
use Rattle.hex_read.proofs.Marking.{marked_twice, marks_more}

-- a part is marked, or not
part_0 : (b : Bool) → ◌≡◌ {A = ℕ} (cond b 34 0) 0 → b ≡ false
part_0 true e = absurd (omega arith)
part_0 false e = refl

part_34 : (b : Bool) → ◌≡◌ {A = ℕ} (cond b 34 0) 34 → b ≡ true
part_34 true e = refl
part_34 false e = absurd (omega arith)

-- what the number says of the index, and of the part from it on
fault_33 : (o : Option ℕ) (bytes table : List ℕ) → index_fault o bytes table ≡ 33 → o ≡ None
fault_33 None bytes table e = refl
fault_33 (Some k) bytes table e =
    absurd (by_cond (λ (v : ℕ). v ≡ 33 → ⊥) (some_marked (part table k (length bytes))) 34 0 (λ _ z. omega arith) (λ _ z. omega arith) e)

fault_34 : (o : Option ℕ) (bytes table : List ℕ) → index_fault o bytes table ≡ 34
    → (k : ℕ) × (o ≡ Some k) × (some_marked (part table k (length bytes)) ≡ true)
fault_34 None bytes table e = absurd (omega arith)
fault_34 (Some k) bytes table e = (k, refl, part_34 (some_marked (part table k (length bytes))) e)

fault_0 : (o : Option ℕ) (bytes table : List ℕ) → index_fault o bytes table ≡ 0
    → (k : ℕ) × (o ≡ Some k) × (some_marked (part table k (length bytes)) ≡ false)
fault_0 None bytes table e = absurd (omega arith)
fault_0 (Some k) bytes table e = (k, refl, part_0 (some_marked (part table k (length bytes))) e)

-- there is no other number
fault_one : (o : Option ℕ) (bytes table : List ℕ)
    → (index_fault o bytes table ≡ 0) ⊎ ((index_fault o bytes table ≡ 33) ⊎ (index_fault o bytes table ≡ 34))
fault_one None bytes table = inr (inl refl)
fault_one (Some k) bytes table =
    by_cond (λ (v : ℕ). (v ≡ 0) ⊎ ((v ≡ 33) ⊎ (v ≡ 34))) (some_marked (part table k (length bytes))) 34 0 (λ _. inr (inr refl)) (λ _. inl refl)

-- ---- a record

pub fault_numbers : (bytes : List ℕ) (start : ℕ) (table : List ℕ)
    → (giving_fault bytes start table ≡ 0) ⊎ ((giving_fault bytes start table ≡ 33) ⊎ (giving_fault bytes start table ≡ 34))
fault_numbers bytes start table =
    by_cond (λ (v : ℕ). (v ≡ 0) ⊎ ((v ≡ 33) ⊎ (v ≡ 34))) (eqb (length bytes) 0) 0 _ (λ _. inl refl)
    (λ _. fault_one (index_of start (length bytes)) bytes table)

-- the number of a record that has a byte
some_byte : (b : ℕ) (bs : List ℕ) (start : ℕ) (table : List ℕ)
    → giving_fault (b ∷ bs) start table ≡ index_fault (index_of start (length (b ∷ bs))) (b ∷ bs) table
some_byte b bs start table = cond_false (eqb (length (b ∷ bs)) 0) _ _ (eqb-suc-zero (length bs))

-- 33: a cell is outside
pub given_33 : (table bytes : List ℕ) (start : ℕ) → length bytes ≤ 255 → giving_fault bytes start table ≡ 33
    → some_outside (cells_from start bytes) ≡ true
given_33 table [] start few e = absurd (omega arith)
given_33 table (b ∷ bs) start few e =
    outside start (b ∷ bs) (omega arith) few
    (fault_33 (index_of start (length (b ∷ bs))) (b ∷ bs) table (sym (some_byte b bs start table) ∙ e))

module _ (cells : List Cell) (table : List ℕ) (marks : Marks cells table) where
  -- where it lies in one of the areas, one of its places is marked exactly if one of its cells is given twice
  twice : (bs : List ℕ) (start k : ℕ) → Within start bs k → some_twice cells (cells_from start bs) ≡ some_marked (part table k (length bs))
  twice bs start k w = sym (marked_twice cells table marks k start bs w.fits w.places)

  -- 34: none is outside, and one is given twice
  pub given_34 : (bytes : List ℕ) (start : ℕ) → giving_fault bytes start table ≡ 34
      → (some_outside (cells_from start bytes) ≡ false) × (some_twice cells (cells_from start bytes) ≡ true)
  given_34 [] start e = absurd (omega arith)
  given_34 (b ∷ bs) start e =
      let n = fault_34 (index_of start (length (b ∷ bs))) (b ∷ bs) table (sym (some_byte b bs start table) ∙ e) in
      let w = inside start (b ∷ bs) n.0 n.1 in
      (w.legal, twice (b ∷ bs) start n.0 w ∙ n.2)

  -- 0: none is outside, none is given twice, and the table behind marks them too
  pub marks_given : (bytes : List ℕ) (start : ℕ) → Bytes bytes → giving_fault bytes start table ≡ 0
      → (some_outside (cells_from start bytes) ≡ false) × (some_twice cells (cells_from start bytes) ≡ false)
      × Marks (cells ++ cells_from start bytes) (with_cells bytes start table)
  marks_given [] start small e = (refl, refl, rw append-nil marks)
  marks_given (b ∷ bs) start small e =
      let n = fault_0 (index_of start (length (b ∷ bs))) (b ∷ bs) table (sym (some_byte b bs start table) ∙ e) in
      let w = inside start (b ∷ bs) n.0 n.1 in
      let once = twice (b ∷ bs) start n.0 w ∙ n.2 in
      let there : patch table n.0 (entries (b ∷ bs)) ≡ with_cells (b ∷ bs) start table =
      ap (λ (o : Option ℕ). from_index o (b ∷ bs) table) (sym n.1)
      ∙ sym (cond_false (eqb (length (b ∷ bs)) 0) table _ (eqb-suc-zero (length bs))) in (
        w.legal,
        once,
        subst (Marks (cells ++ cells_from start (b ∷ bs))) there (marks_more cells table marks n.0 start (b ∷ bs) w.fits w.places small once),
      )
