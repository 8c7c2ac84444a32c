-- How lines are read, by which every other law knows it: the order of the checks at a line, and one step of a reading. Each number is
-- given exactly where its condition holds and none before it does, whatever the later conditions are; and a reading stops at the first
-- line with a number, and else goes on behind what its record gives.
-- Assumes nothing.
use mathlib.Core.Path.{◌≡◌, refl}
use mathlib.Core.Bool.{Bool, true, false, ◌||◌, cond}
use mathlib.Core.List.{List, [], ◌∷◌}
use Prim.Native.Nat.{ℕ, suc}
use native.Mathlib.Omega.{arith}
use borrow.Author.Tests.{eq-eqb, ne_eqb}
use Rattle.base.proofs.Choice.{neither}
use Rattle.hex_rules.specs.Record.{record_of, bad_digit, bad_length, bad_sum, other_type}
use Rattle.hex_rules.specs.Cells.{some_outside, some_twice}
use Rattle.hex_rules.specs.Checks.{Given, cells_of, rules_at, fault_at, with_record, refused, at_the_end, lines_read}

-- a line with no fault, behind what is given
pub record Faultless (g : Given) (line : List ℕ) : Type 0 where
  pub digits : bad_digit line ≡ false
  pub size : bad_length line ≡ false
  pub sum : bad_sum (record_of line) ≡ false
  pub type : other_type (record_of line) ≡ false
  pub area : some_outside (cells_of g (record_of line)) ≡ false
  pub once : some_twice g.cells (cells_of g (record_of line)) ≡ false
  pub unended : g.ended ≡ false

-- where no condition gave a number, the first did not hold, and none behind it did
past : (b : Bool) (n x : ℕ) → cond b (suc n) x ≡ 0 → (b ≡ false) × (x ≡ 0)
past true n x e = absurd (omega arith)
past false n x e = (refl, e)

module _ (g : Given) (line : List ℕ) where
  -- "bad digit or length"
  pub fault_30 : (bad_digit line || bad_length line) ≡ true → fault_at g line ≡ 30
  unfolding fault_at rules_at
  fault_30 a = simp a

  module _ (whole : (bad_digit line || bad_length line) ≡ false) where
    -- "bad record sum"
    pub fault_31 : bad_sum (record_of line) ≡ true → fault_at g line ≡ 31
    unfolding fault_at rules_at
    fault_31 b = simp (whole, b)

    -- "other type"
    pub fault_32 : bad_sum (record_of line) ≡ false → other_type (record_of line) ≡ true → fault_at g line ≡ 32
    unfolding fault_at rules_at
    fault_32 b c = simp (whole, b, c)

    -- "a cell outside the legal areas"
    pub fault_33 : bad_sum (record_of line) ≡ false → other_type (record_of line) ≡ false
        → some_outside (cells_of g (record_of line)) ≡ true → fault_at g line ≡ 33
    unfolding fault_at rules_at
    fault_33 b c d = simp (whole, b, c, d)

    -- "a cell given twice"
    pub fault_34 : bad_sum (record_of line) ≡ false → other_type (record_of line) ≡ false
        → some_outside (cells_of g (record_of line)) ≡ false → some_twice g.cells (cells_of g (record_of line)) ≡ true
        → fault_at g line ≡ 34
    unfolding fault_at rules_at
    fault_34 b c d e = simp (whole, b, c, d, e)

    -- an "early end record": a line behind it
    pub fault_35 : bad_sum (record_of line) ≡ false → other_type (record_of line) ≡ false
        → some_outside (cells_of g (record_of line)) ≡ false → some_twice g.cells (cells_of g (record_of line)) ≡ false
        → g.ended ≡ true → fault_at g line ≡ 35
    unfolding fault_at rules_at
    fault_35 b c d e f = simp (whole, b, c, d, e, f)

  -- a line without fault has no number
  pub no_fault : Faultless g line → fault_at g line ≡ 0
  unfolding fault_at rules_at
  no_fault f = simp (f.digits, f.size, f.sum, f.type, f.area, f.once, f.unended)

  -- and a line without number has no fault
  pub faultless : fault_at g line ≡ 0 → Faultless g line
  unfolding fault_at rules_at
  faultless e =
      let a = past (bad_digit line || bad_length line) 29 _ e in
      let b = past (bad_sum (record_of line)) 30 _ a.1 in
      let c = past (other_type (record_of line)) 31 _ b.1 in
      let d = past (some_outside (cells_of g (record_of line))) 32 _ c.1 in
      let t = past (some_twice g.cells (cells_of g (record_of line))) 33 _ d.1 in
      let z = past g.ended 34 0 t.1 in
      let w = neither (bad_digit line) (bad_length line) a.0 in
      record { digits = w.0; size = w.1; sum = b.0; type = c.0; area = d.0; once = t.0; unended = z.0 }

module _ (g : Given) (line : List ℕ) (lines : List (List ℕ)) (number : ℕ) where
  -- a line without fault: the reading goes on behind its record
  pub read_on : fault_at g line ≡ 0
      → lines_read (line ∷ lines) number g ≡ lines_read lines (suc number) (with_record g (record_of line))
  unfolding lines_read
  read_on e = simp (eq-eqb (fault_at g line) 0 e)

  -- a line with a fault: the reading stops there, with its number
  pub read_fault : (fault_at g line ≡ 0 → ⊥) → lines_read (line ∷ lines) number g ≡ refused (fault_at g line) number
  unfolding lines_read
  read_fault e = simp (ne_eqb (fault_at g line) 0 e)

-- behind the last line
pub read_end : (number : ℕ) (g : Given) → lines_read [] number g ≡ at_the_end number g
unfolding lines_read
read_end number g = refl
