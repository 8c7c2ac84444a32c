-- What the tests of `fault_of` say, each with those before it: which number is given, and the table behind.
-- Assumes nothing.
use mathlib.Core.Path.{◌≡◌, ◌∙◌, sym, ap}
use mathlib.Core.Bool.{Bool, true, false, not}
use mathlib.Core.List.{List}
use Prim.Native.Nat.{ℕ, ◌+◌, ◌%◌}
use lib.Dec.{eqb}
use lib.ListN.{take}
use borrow.Author.Tests.{eq-eqb, ne_eqb}
use Rattle.base.specs.Parts.{sum_of}
use Rattle.base.proofs.Choice.{cond_true, cond_false}
use Rattle.hex_rules.specs.Record.{count_of, type_of, data_of, bad_sum, other_type}
use Rattle.hex_read.specs.Internal.Giving.{giving_fault, with_cells}
use Rattle.hex_read.specs.Internal.Judging.{start_of, end_fault, or_else, record_fault, record_table}

-- a sum that is a multiple of 256, or is not
bad_sum_lem : (r : List ℕ) (s : ℕ) → s ≡ sum_of r % 256 → (s ≡ 0 → ⊥) → bad_sum r ≡ true
unfolding bad_sum
bad_sum_lem r s e n = ap not (ne_eqb (sum_of r % 256) 0 (λ z. n (e ∙ z)))

good_sum : (r : List ℕ) (s : ℕ) → s ≡ sum_of r % 256 → s ≡ 0 → bad_sum r ≡ false
unfolding bad_sum
good_sum r s e z = ap not (eq-eqb (sum_of r % 256) 0 (sym e ∙ z))

module _ (r : List ℕ) (upper : ℕ) (ended : Bool) (table : List ℕ) (s : ℕ) (e : s ≡ sum_of (take (5 + count_of r) r) % 256) where
  pub wrong_sum : (s ≡ 0 → ⊥) → 31 ≡ record_fault r upper ended table
  unfolding record_fault
  wrong_sum n = sym (cond_true (bad_sum (take (5 + count_of r) r)) _ _ (bad_sum_lem (take (5 + count_of r) r) s e n))

  module _ (z : s ≡ 0) where
    summed : bad_sum (take (5 + count_of r) r) ≡ false
    summed = good_sum (take (5 + count_of r) r) s e z

    pub wrong_type : other_type r ≡ true → 32 ≡ record_fault r upper ended table
    unfolding record_fault
    wrong_type t = sym (cond_false (bad_sum (take (5 + count_of r) r)) _ _ summed ∙ cond_true (other_type r) _ _ t)

    module _ (t : other_type r ≡ false) where
      pub no_cells : (type_of r ≡ 0x00 → ⊥) → (end_fault ended ≡ record_fault r upper ended table) × (table ≡ record_table r upper table)
      unfolding record_fault record_table
      no_cells n = (
        sym (cond_false (bad_sum (take (5 + count_of r) r)) _ _ summed
            ∙ cond_false (other_type r) _ _ t
            ∙ cond_false (eqb (type_of r) 0x00) _ _ (ne_eqb (type_of r) 0x00 n)),
        sym (cond_false (eqb (type_of r) 0x00) _ _ (ne_eqb (type_of r) 0x00 n)),
      )

      module _ (d : type_of r ≡ 0x00) where
        pub cells_fault : record_fault r upper ended table ≡ or_else (giving_fault (data_of r) (start_of upper r) table) (end_fault ended)
        unfolding record_fault
        cells_fault =
            cond_false (bad_sum (take (5 + count_of r) r)) _ _ summed
            ∙ cond_false (other_type r) _ _ t
            ∙ cond_true (eqb (type_of r) 0x00) _ _ (eq-eqb (type_of r) 0x00 d)

        pub cells_refused : (fault : ℕ) → fault ≡ giving_fault (data_of r) (start_of upper r) table → (fault ≡ 0 → ⊥)
            → fault ≡ record_fault r upper ended table
        cells_refused fault q n =
            let given = giving_fault (data_of r) (start_of upper r) table in
            q ∙ sym (cells_fault ∙ cond_false (eqb given 0) (end_fault ended) given (ne_eqb given 0 (λ z. n (q ∙ z))))

        pub cells_given : (fault : ℕ) → fault ≡ giving_fault (data_of r) (start_of upper r) table → fault ≡ 0
            → end_fault ended ≡ record_fault r upper ended table
        cells_given fault q z =
            let given = giving_fault (data_of r) (start_of upper r) table in
            sym (cells_fault ∙ cond_true (eqb given 0) (end_fault ended) given (eq-eqb given 0 (sym q ∙ z)))

        pub cells_table : record_table r upper table ≡ with_cells (data_of r) (start_of upper r) table
        unfolding record_table
        cells_table = cond_true (eqb (type_of r) 0x00) _ _ (eq-eqb (type_of r) 0x00 d)
