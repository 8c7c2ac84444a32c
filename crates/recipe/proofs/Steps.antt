-- One step of a reading: it ends, stops at a fault, or goes on behind the item.
-- Assumes nothing.
use mathlib.Core.Path.{◌≡◌}
use mathlib.Core.Bool.{Bool, false}
use mathlib.Core.List.{List, []}
use Prim.Native.Nat.{ℕ, suc, ◌+◌, ◌<◌}
use native.Mathlib.Omega.{arith}
use lib.Dec.{eqb}
use lib.ListN.{length, drop}
use borrow.Author.Tests.{eq-eqb, ne_eqb}
use Rattle.recipe.specs.Faults.{kind_of, fault_at}
use Rattle.recipe.specs.Reading.{at_end, fault, size_of, items_at, with_items, read_from}

module _ (looks : ℕ) (input : List ℕ) (place number : ℕ) (afterLeave : Bool) where
  pub read_end : length input ≡ 0 → read_from (suc looks) input place number afterLeave ≡ record { items = []; stop = at_end afterLeave }
  unfolding read_from
  read_end e = simp (eq-eqb (length input) 0 e)

  pub read_fault : 0 < length input → (fault_at input number afterLeave ≡ 0 → ⊥)
      → read_from (suc looks) input place number afterLeave ≡ record { items = []; stop = fault (fault_at input number afterLeave) place }
  unfolding read_from
  read_fault h f =
      let some : eqb (length input) 0 ≡ false = ne_eqb (length input) 0 (λ e. omega arith) in
      simp (some, ne_eqb (fault_at input number afterLeave) 0 f)

  pub read_on : 0 < length input → fault_at input number afterLeave ≡ 0
      → read_from (suc looks) input place number afterLeave
      ≡ with_items (items_at input)
      (read_from looks (drop (size_of input) input) (place + size_of input) (number + 1) (eqb (kind_of input) 0x0F))
  unfolding read_from
  read_on h f =
      let some : eqb (length input) 0 ≡ false = ne_eqb (length input) 0 (λ e. omega arith) in
      simp (some, eq-eqb (fault_at input number afterLeave) 0 f)
