-- Where a record's cells stand in the table. The index is tried in FLASH and then in EEPROM, by the first cell and the last. Both areas
-- are without gaps, so the cells between are legal too; and 255 cells can't reach from one area to the other, so that cells of which the
-- first and the last are legal all lie in one.
-- Assumes nothing.
use mathlib.Core.Path.{◌≡◌, refl, sym, subst, ◌∙◌}
use mathlib.Core.Bool.{true, false, not, ◌&&◌, true≢false}
use mathlib.Core.List.{List, [], ◌∷◌}
use mathlib.Core.Logic.{◌⊎◌, inl, inr, ⊎_elim}
use Prim.Native.Nat.{ℕ, zero, suc, ◌+◌, ◌-◌, ◌≤◌, ◌<◌}
use native.Mathlib.Omega.{arith}
use lib.Dec.{leb, ltb}
use lib.ListN.{length}
use borrow.Author.Tests.{leb-true, le-leb, lt-ltb, le-ltb, not-false}
use Rattle.std.specs.Prelude.{Option, Some, None}
use Rattle.base.proofs.Choice.{by_cond, cond_true, cond_false, both_true, true_both, true_or_false, neither}
use Rattle.memory_address.specs.Rule.{rim, last_block, first_eeprom_row, last_eeprom_row}
use Rattle.hex_rules.specs.Cells.{legal_cell, cells_from, some_outside}
use Rattle.hex_rules.proofs.LegalCells.{legal_cell_numbers, numbers_legal_cell}
use Rattle.hex_read.specs.Internal.Marks.{place_of}
use Rattle.hex_read.specs.Internal.Giving.{index_of}

-- ---- the cells' own side

-- of cells none of which is outside, each is legal
each_legal : (a : ℕ) (bs : List ℕ) → some_outside (cells_from a bs) ≡ false → (j : ℕ) → j < length bs → legal_cell (a + j) ≡ true
each_legal a [] o j h = absurd (omega arith)
each_legal a (b ∷ bs) o zero h =
    let e : a + 0 ≡ a = omega arith in
    rw e (not-false (legal_cell a) (neither (not (legal_cell a)) (some_outside (cells_from (suc a) bs)) o).0)
each_legal a (b ∷ bs) o (suc j) h =
    let e : a + suc j ≡ suc a + j = omega arith in
    rw e (each_legal (suc a) bs (neither (not (legal_cell a)) (some_outside (cells_from (suc a) bs)) o).1 j (omega arith))

-- and where each is legal, none is outside
legal_each : (a : ℕ) (bs : List ℕ) → ((j : ℕ) → j < length bs → legal_cell (a + j) ≡ true) → some_outside (cells_from a bs) ≡ false
legal_each a [] h = refl
legal_each a (b ∷ bs) h =
    let z : a + 0 ≡ a = omega arith in
    let here : legal_cell a ≡ true = rw z at (h 0 (omega arith)) in
    rw here (legal_each (suc a) bs (λ j l. let e : suc a + j ≡ a + suc j = omega arith in rw e (h (suc j) (omega arith))))

-- ---- the index

-- where n cells from a place on stand, with their index: all in FLASH, all in EEPROM, or in neither
data Stands (start n : ℕ) : Option ℕ → Type 0 where
  flash : 0x001000 ≤ start → start + n ≤ 0x010000 → Stands start n (Some start)
  eeprom : 0xF00000 ≤ start → start + n ≤ 0xF00400 → Stands start n (Some (65536 + (start - 0xF00000)))
  elsewhere : (0x001000 ≤ start → start + n ≤ 0x010000 → ⊥) → (0xF00000 ≤ start → start + n ≤ 0xF00400 → ⊥) → Stands start n None

-- where a range's test fails, its bounds don't both hold
bounds : (a b c d : ℕ) → (leb a b && leb c d) ≡ false → a ≤ b → c ≤ d → ⊥
bounds a b c d f l m = true≢false (sym (true_both (leb a b) (leb c d) (le-leb a b l) (le-leb c d m)) ∙ f)

-- the index says which
stands : (start n : ℕ) → Stands start n (index_of start n)
stands start n =
    by_cond (Stands start n) (leb rim start && leb (start + n) (last_block + 64)) _ _
    (λ t.
    let p = both_true (leb rim start) (leb (start + n) (last_block + 64)) t in
    flash (leb-true rim start p.0) (leb-true (start + n) (last_block + 64) p.1))
    (λ f. by_cond (Stands start n) (leb first_eeprom_row start && leb (start + n) (last_eeprom_row + 8)) _ _
    (λ t.
    let p = both_true (leb first_eeprom_row start) (leb (start + n) (last_eeprom_row + 8)) t in
    eeprom (leb-true first_eeprom_row start p.0) (leb-true (start + n) (last_eeprom_row + 8) p.1))
    (λ g. elsewhere (bounds rim start (start + n) (last_block + 64) f) (bounds first_eeprom_row start (start + n) (last_eeprom_row + 8) g)))

-- the numbers of the legal areas
abbrev Legal : ℕ → Type 0
Legal a = ((0x001000 ≤ a) × (a < 0x010000)) ⊎ ((0xF00000 ≤ a) × (a < 0xF00400))

-- where the first cell and the last are legal, the cells stand in one of the areas
ends_legal : (start n : ℕ) → 1 ≤ n → n ≤ 255 → Legal start → Legal (start + (n - 1)) → Stands start n None → ⊥
ends_legal start n some few (inl f) (inl e) (elsewhere no₁ no₂) = no₁ f.0 (omega arith)
ends_legal start n some few (inl f) (inr e) (elsewhere no₁ no₂) = omega arith
ends_legal start n some few (inr f) (inl e) (elsewhere no₁ no₂) = omega arith
ends_legal start n some few (inr f) (inr e) (elsewhere no₁ no₂) = no₂ f.0 (omega arith)

-- cells that stand in one of the areas: each is legal, they end within the table, and their indices are those of their places
record Lies (start n i : ℕ) : Type 0 where
  legal : (j : ℕ) → j < n → Legal (start + j)
  fits : i + n ≤ 66560
  places : (j : ℕ) → j < n → place_of (i + j) ≡ start + j

lies : (start n : ℕ) (o : Option ℕ) → Stands start n o → (i : ℕ) → o ≡ Some i → Lies start n i
lies start n _ (flash l h) i e =
    let q : start ≡ i = cc in
    record {
      legal = λ j k. inl (omega arith);
      fits = omega arith;
      places = λ j k. cond_true (ltb (i + j) 65536) _ _ (lt-ltb (i + j) 65536 (omega arith)) ∙ omega arith;
    }
lies start n _ (eeprom l h) i e =
    let q : 65536 + (start - 0xF00000) ≡ i = cc in
    record {
      legal = λ j k. inr (omega arith);
      fits = omega arith;
      places = λ j k. cond_false (ltb (i + j) 65536) _ _ (le-ltb (i + j) 65536 (omega arith)) ∙ omega arith;
    }
lies start n _ (elsewhere no₁ no₂) i e = absurd (let z : ◌≡◌ {A = ℕ} 0 1 = cc in omega arith)

-- ---- both together

-- cells that lie in one of the areas: none is outside, and they stand in the table from the index on
pub record Within (start : ℕ) (bs : List ℕ) (index : ℕ) : Type 0 where
  pub legal : some_outside (cells_from start bs) ≡ false
  pub fits : index + length bs ≤ 66560
  pub places : (j : ℕ) → j < length bs → place_of (index + j) ≡ start + j

module _ (start : ℕ) (bs : List ℕ) where
  -- where there is no index, a cell is outside
  pub outside : 1 ≤ length bs → length bs ≤ 255 → index_of start (length bs) ≡ None → some_outside (cells_from start bs) ≡ true
  outside some few z =
      ⊎_elim (λ t. t)
      (λ f.
      let at : start + 0 ≡ start = omega arith in
      let first : legal_cell start ≡ true = rw at at (each_legal start bs f 0 some) in
      let last = each_legal start bs f (length bs - 1) (omega arith) in
      absurd (
      ends_legal start (length bs) some few (legal_cell_numbers start first)
      (legal_cell_numbers (start + (length bs - 1)) last) (subst (Stands start (length bs)) z (stands start (length bs)))
      ))
      (true_or_false (some_outside (cells_from start bs)))

  -- where there is one, none is, and it's the index of the first
  pub inside : (index : ℕ) → index_of start (length bs) ≡ Some index → Within start bs index
  inside index e =
      let n = length bs in
      let k = lies start n (index_of start n) (stands start n) index e in
      record {
        legal = legal_each start bs (λ j h. numbers_legal_cell (start + j) (k.legal j h));
        fits = k.fits;
        places = k.places;
      }
