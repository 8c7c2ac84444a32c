-- Entries stored over places one by one, and what the code's tests say of the faults of giving.
-- Assumes nothing.
use mathlib.Core.Path.{◌≡◌, ◌∙◌, refl, sym, ap}
use mathlib.Core.Bool.{cond}
use mathlib.Core.List.{List, [], ◌∷◌, ◌++◌}
use Prim.Native.Nat.{ℕ, zero, suc, ◌+◌, ◌-◌, ◌<◌}
use native.Mathlib.Nat.{le_of_suc-le-suc, not-suc-le-zero}
use lib.Dec.{eqb}
use lib.ListN.{length, get_or, take, drop}
use borrow.Author.Tests.{eq-eqb, ne_eqb}
use Rattle.std.specs.Prelude.{Option, Some, None}
use Rattle.base.specs.Parts.{part}
use Rattle.base.proofs.Choice.{cond_true, cond_false}
use Rattle.base.proofs.Patched.{put_back}
use Rattle.hex_put.specs.Internal.Table.{some_marked}
use Rattle.hex_read.specs.Internal.Giving.{index_of, entries, index_fault, giving_fault, from_index, with_cells}

pub entries_length : (bs : List ℕ) → length (entries bs) ≡ length bs
entries_length [] = refl
entries_length (b ∷ bs) = ap suc (entries_length bs)

pub entry_at : (bs : List ℕ) (i : ℕ) → i < length bs → get_or (entries bs) i 0 ≡ 256 + get_or bs i 0
entry_at [] i h = absurd (not-suc-le-zero h)
entry_at (b ∷ bs) zero h = refl
entry_at (b ∷ bs) (suc i) h = entry_at bs i (le_of_suc-le-suc h)

-- ---- what the tests of `give` say

module _ (bytes : List ℕ) (start : ℕ) (table : List ℕ) where
  pub give_none : length bytes ≡ 0 → (0 ≡ giving_fault bytes start table) × (table ≡ with_cells bytes start table)
  give_none e = let z = eq-eqb (length bytes) 0 e in (sym (cond_true (eqb (length bytes) 0) _ _ z), sym (cond_true (eqb (length bytes) 0) _ _ z))

  module _ (some : length bytes ≡ 0 → ⊥) where
    given : giving_fault bytes start table ≡ index_fault (index_of start (length bytes)) bytes table
    given = cond_false (eqb (length bytes) 0) _ _ (ne_eqb (length bytes) 0 some)

    pub give_outside : None ≡ index_of start (length bytes) → 33 ≡ giving_fault bytes start table
    give_outside e = sym (given ∙ ap (λ (o : Option ℕ). index_fault o bytes table) (sym e))

    module _ (index : ℕ) (at : Some index ≡ index_of start (length bytes)) where
      pub give_by : giving_fault bytes start table ≡ cond (some_marked (part table index (length bytes))) 34 0
      give_by = given ∙ ap (λ (o : Option ℕ). index_fault o bytes table) (sym at)

      -- the table, where the part was lent and is marked
      pub table_given : (ys : List ℕ) → ys ≡ entries bytes
          → take index table ++ (ys ++ drop ((index + length bytes) - index) (drop index table)) ≡ with_cells bytes start table
      table_given ys e =
          put_back table index (length bytes) ys (entries bytes) e (entries_length bytes)
          ∙ ap (λ (o : Option ℕ). from_index o bytes table) at
          ∙ sym (cond_false (eqb (length bytes) 0) _ _ (ne_eqb (length bytes) 0 some))
