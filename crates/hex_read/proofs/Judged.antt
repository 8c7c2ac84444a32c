-- A record that is in form, given to a table that marks the cells given: the number is the definition's, and where it is 0 the table marks
-- the cells given behind it. By the checks in their order.
-- Assumes nothing.
use mathlib.Core.Path.{◌≡◌, ◌∙◌, refl, sym, ap, ap₂, subst}
use mathlib.Core.Bool.{Bool, true, false, ◌||◌, cond, false≢true}
use mathlib.Core.List.{List, [], ◌++◌, append-nil}
use mathlib.Core.Logic.{◌⊎◌, inl, inr, ⊎_elim}
use Prim.Native.Nat.{ℕ, ◌+◌, ◌*◌, ◌≤◌}
use native.Mathlib.Omega.{arith}
use lib.Dec.{eqb}
use lib.ListN.{length, drop, replicate}
use Rattle.base.specs.Parts.{Bytes}
use Rattle.base.proofs.Bytes.{bytes_take, bytes_drop}
use Rattle.base.proofs.Choice.{cond_true, cond_false, true_or_false, neither}
use Rattle.base.proofs.Patched.{part_length}
use Rattle.hex_rules.specs.Record.{record_of, count_of, type_of, data_of, upper_of, bad_digit, bad_length, bad_sum, other_type}
use Rattle.hex_rules.specs.Cells.{Cell, cells_from, some_outside, some_twice}
use Rattle.hex_rules.specs.Checks.{Given, cells_of, fault_at, with_record}
use Rattle.hex_rules.proofs.Reading.{fault_31, fault_32, fault_33, fault_34, fault_35, no_fault, faultless}
use Rattle.hex_read.specs.Internal.Marks.{Marks}
use Rattle.hex_read.specs.Internal.Giving.{giving_fault, with_cells}
use Rattle.hex_read.specs.Internal.Judging.{start_of, upper_behind, end_fault, or_else, record_fault, record_table}
use Rattle.hex_read.proofs.GivenBytes.{fault_numbers, given_33, given_34, marks_given}
use Rattle.hex_read.proofs.Filled.{filled_type, filled_address, filled_upper, filled_other, filled_data, filled_whole}

-- the number by the record itself
abbrev judge : List ℕ → ℕ → Bool → List ℕ → ℕ
judge r upper ended table =
    cond (bad_sum r) 31
    (cond (other_type r) 32
    (cond (eqb (type_of r) 0x00) (or_else (giving_fault (data_of r) (start_of upper r) table) (end_fault ended)) (end_fault ended)))

module _ (r : List ℕ) (z : ℕ) (size : length r ≡ 5 + count_of r) (upper : ℕ) (table : List ℕ) where
  same_start : start_of upper (r ++ replicate z 0) ≡ start_of upper r
  same_start = ap (λ (a : ℕ). 65536 * upper + a) (filled_address r z)

  same_fault : (ended : Bool) → record_fault (r ++ replicate z 0) upper ended table ≡ judge r upper ended table
  unfolding record_fault
  same_fault ended =
      ap₂ (λ (l : List ℕ) (o : Bool).
      cond (bad_sum l) 31
      (cond o 32
      (cond (eqb (type_of (r ++ replicate z 0)) 0x00)
      (or_else (giving_fault (data_of (r ++ replicate z 0)) (start_of upper (r ++ replicate z 0)) table) (end_fault ended))
      (end_fault ended))))
      (filled_whole r z size) (filled_other r z)
      ∙ ap₂ (λ (t : ℕ) (n : ℕ).
      cond (bad_sum r) 31 (cond (other_type r) 32 (cond (eqb t 0x00) (or_else n (end_fault ended)) (end_fault ended))))
      (filled_type r z) (ap₂ (λ (d : List ℕ) (s : ℕ). giving_fault d s table) (filled_data r z size) same_start)

  same_table : record_table (r ++ replicate z 0) upper table ≡ cond (eqb (type_of r) 0x00) (with_cells (data_of r) (start_of upper r) table) table
  unfolding record_table
  same_table =
      ap₂ (λ (t : ℕ) (l : List ℕ). cond (eqb t 0x00) l table) (filled_type r z)
      (ap₂ (λ (d : List ℕ) (s : ℕ). with_cells d s table) (filled_data r z size) same_start)

module _ (g : Given) (line : List ℕ) (table : List ℕ) (formed : (bad_digit line || bad_length line) ≡ false)
    (size : length (record_of line) ≡ 5 + count_of (record_of line)) (few : count_of (record_of line) ≤ 255) (bytes : Bytes (record_of line))
    (marks : Marks g.cells table) where
  abbrev r : List ℕ
  r = record_of line

  data_few : length (data_of r) ≤ 255
  data_few = omega (arith, part_length r 4 (count_of r) (omega arith), few)

  data_bytes : Bytes (data_of r)
  data_bytes = bytes_take (count_of r) (drop 4 r) (bytes_drop 4 r bytes)

  -- the cells of a type 00, and of another
  cells_00 : eqb (type_of r) 0x00 ≡ true → cells_of g r ≡ cells_from (start_of g.upper r) (data_of r)
  cells_00 t = cond_true (eqb (type_of r) 0x00) _ _ t

  cells_other : eqb (type_of r) 0x00 ≡ false → cells_of g r ≡ []
  cells_other t = cond_false (eqb (type_of r) 0x00) _ _ t

  module _ (b : bad_sum r ≡ false) (c : other_type r ≡ false) (d : some_outside (cells_of g r) ≡ false)
      (e : some_twice g.cells (cells_of g r) ≡ false) where
    -- the last check
    at_last : end_fault g.ended ≡ fault_at g line
    at_last =
        ⊎_elim
        (λ (t : g.ended ≡ true). ap end_fault t ∙ sym (fault_35 g line formed b c d e t))
        (λ (f : g.ended ≡ false).
        ap end_fault f
        ∙ sym (no_fault g line
        (record {
          digits = (neither (bad_digit line) (bad_length line) formed).0;
          size = (neither (bad_digit line) (bad_length line) formed).1;
          sum = b;
          type = c;
          area = d;
          once = e;
          unended = f;
        })))
        (true_or_false g.ended)

  -- a type 00, by what becomes of its cells
  with_cells_lem : bad_sum r ≡ false → other_type r ≡ false → eqb (type_of r) 0x00 ≡ true
      → or_else (giving_fault (data_of r) (start_of g.upper r) table) (end_fault g.ended) ≡ fault_at g line
  with_cells_lem b c t = ⊎_elim none (⊎_elim outside twice) (fault_numbers (data_of r) (start_of g.upper r) table)
    where
      n : ℕ
      n = giving_fault (data_of r) (start_of g.upper r) table

      none : n ≡ 0 → or_else n (end_fault g.ended) ≡ fault_at g line
      none q =
          let m = marks_given g.cells table marks (data_of r) (start_of g.upper r) data_bytes q in
          ap (λ (k : ℕ). or_else k (end_fault g.ended)) q
          ∙ at_last b c (ap some_outside (cells_00 t) ∙ m.0) (ap (some_twice g.cells) (cells_00 t) ∙ m.1)

      outside : n ≡ 33 → or_else n (end_fault g.ended) ≡ fault_at g line
      outside q =
          ap (λ (k : ℕ). or_else k (end_fault g.ended)) q
          ∙ sym (fault_33 g line formed b c
          (ap some_outside (cells_00 t) ∙ given_33 table (data_of r) (start_of g.upper r) data_few q))

      twice : n ≡ 34 → or_else n (end_fault g.ended) ≡ fault_at g line
      twice q =
          let m = given_34 g.cells table marks (data_of r) (start_of g.upper r) q in
          ap (λ (k : ℕ). or_else k (end_fault g.ended)) q
          ∙ sym (fault_34 g line formed b c (ap some_outside (cells_00 t) ∙ m.0) (ap (some_twice g.cells) (cells_00 t) ∙ m.1))

  judged_right : judge r g.upper g.ended table ≡ fault_at g line
  judged_right =
      ⊎_elim
      (λ (t : bad_sum r ≡ true). cond_true (bad_sum r) _ _ t ∙ sym (fault_31 g line formed t))
      (λ (b : bad_sum r ≡ false).
      cond_false (bad_sum r) _ _ b
      ∙ ⊎_elim
      (λ (t : other_type r ≡ true). cond_true (other_type r) _ _ t ∙ sym (fault_32 g line formed b t))
      (λ (c : other_type r ≡ false).
      cond_false (other_type r) _ _ c
      ∙ ⊎_elim
      (λ (t : eqb (type_of r) 0x00 ≡ true). cond_true (eqb (type_of r) 0x00) _ _ t ∙ with_cells_lem b c t)
      (λ (t : eqb (type_of r) 0x00 ≡ false).
      cond_false (eqb (type_of r) 0x00) _ _ t
      ∙ at_last b c (ap some_outside (cells_other t)) (ap (some_twice g.cells) (cells_other t)))
      (true_or_false (eqb (type_of r) 0x00)))
      (true_or_false (other_type r)))
      (true_or_false (bad_sum r))

  -- the number is the definition's
  pub judged : (z upper : ℕ) (ended : Bool) → upper ≡ g.upper → ended ≡ g.ended
      → record_fault (r ++ replicate z 0) upper ended table ≡ fault_at g line
  judged z upper ended u e =
      ap₂ (λ (x : ℕ) (y : Bool). record_fault (r ++ replicate z 0) x y table) u e
      ∙ same_fault r z size g.upper table g.ended
      ∙ judged_right

  module _ (ok : fault_at g line ≡ 0) where
    -- the cells behind the record: those of a type 00 more
    more_cells : (with_record g r).cells ≡ g.cells ++ cells_of g r
    unfolding with_record
    more_cells = refl

    marks_right : Marks (with_record g r).cells (cond (eqb (type_of r) 0x00) (with_cells (data_of r) (start_of g.upper r) table) table)
    marks_right = subst (λ (cs : List Cell). Marks cs (cond (eqb (type_of r) 0x00) given table)) (sym more_cells) (go (true_or_false (eqb (type_of r) 0x00)))
      where
        given : List ℕ
        given = with_cells (data_of r) (start_of g.upper r) table

        -- no fault, so that no cell was refused
        unrefused : eqb (type_of r) 0x00 ≡ true → giving_fault (data_of r) (start_of g.upper r) table ≡ 0
        unrefused t =
            ⊎_elim (λ q. q)
            (⊎_elim
            (λ q.
            absurd (false≢true (sym (faultless g line ok).area
            ∙ ap some_outside (cells_00 t)
            ∙ given_33 table (data_of r) (start_of g.upper r) data_few q)))
            (λ q.
            absurd (false≢true (sym (faultless g line ok).once
            ∙ ap (some_twice g.cells) (cells_00 t)
            ∙ (given_34 g.cells table marks (data_of r) (start_of g.upper r) q).1))))
            (fault_numbers (data_of r) (start_of g.upper r) table)

        go : (eqb (type_of r) 0x00 ≡ true) ⊎ (eqb (type_of r) 0x00 ≡ false) → Marks (g.cells ++ cells_of g r) (cond (eqb (type_of r) 0x00) given table)
        go (inl t) =
            subst (λ (l : List ℕ). Marks (g.cells ++ cells_of g r) l) (sym (cond_true (eqb (type_of r) 0x00) given table t))
            (subst (λ (cs : List Cell). Marks (g.cells ++ cs) given) (sym (cells_00 t))
            (marks_given g.cells table marks (data_of r) (start_of g.upper r) data_bytes (unrefused t)).2)
        go (inr f) =
            subst (λ (l : List ℕ). Marks (g.cells ++ cells_of g r) l) (sym (cond_false (eqb (type_of r) 0x00) given table f))
            (subst (λ (cs : List Cell). Marks cs table) (sym (ap (λ (cs : List Cell). g.cells ++ cs) (cells_other f) ∙ append-nil g.cells)) marks)

    -- the table behind a record without fault marks the cells given behind it
    pub marks_behind : (z upper : ℕ) → upper ≡ g.upper → Marks (with_record g r).cells (record_table (r ++ replicate z 0) upper table)
    marks_behind z upper u =
        subst (λ (l : List ℕ). Marks (with_record g r).cells l)
        (sym (ap (λ (x : ℕ). record_table (r ++ replicate z 0) x table) u ∙ same_table r z size g.upper table)) marks_right

    -- and so do the upper half and whether the end came
    pub upper_behind_lem : (z upper : ℕ) → upper ≡ g.upper → upper_behind upper (r ++ replicate z 0) ≡ (with_record g r).upper
    unfolding with_record
    upper_behind_lem z upper u =
        ap₂ (λ (t : ℕ) (x : ℕ). cond (eqb t 0x04) x upper) (filled_type r z) (filled_upper r z)
        ∙ ap (λ (x : ℕ). cond (eqb (type_of r) 0x04) (upper_of r) x) u

    pub ended_behind : (z : ℕ) → eqb (type_of (r ++ replicate z 0)) 0x01 ≡ (with_record g r).ended
    unfolding with_record
    ended_behind z =
        ap (λ (t : ℕ). eqb t 0x01) (filled_type r z)
        ∙ sym (ap (λ (b : Bool). b || eqb (type_of r) 0x01) (faultless g line ok).unended)
