-- `memory_start::firmware_starts` meets its contract: of a full FLASH no flag is set exactly if the cells don't differ and the sums are
-- equal.
-- Assumes nothing.
use mathlib.Core.Path.{◌≡◌, ◌∙◌, ap, refl}
use mathlib.Core.Bool.{not, Bool, true, false, ◌&&◌, not}
use mathlib.Core.List.{List}
use Prim.Native.Nat.{ℕ}
use lib.Dec.{eqb}
use lib.ListN.{length}
use borrow.Author.Tests.{eq-eqb, ne_eqb}
use Rattle.memory_sum.specs.Sum.{firmware_sum, stored_sum_of}
use Rattle.memory_start.specs.Start.{sums_differ, cells_differ, flags_of, flag_byte, starts}
use Rattle.memory_start.proofs.firmware_starts.Goals as goal

none-set : (equal differ : Bool) → (not differ && equal) ≡ eqb (flags_of (not equal) differ) 0
none-set true true = refl
none-set true false = refl
none-set false true = refl
none-set false false = refl

-- both tests, over any full FLASH
module _ (flash : List ℕ) (full : length flash ≡ 65536) (differ : Bool) (cells : differ ≡ cells_differ flash) where
  both-tests : (not differ && eqb (stored_sum_of flash) (firmware_sum flash)) ≡ starts flash
  unfolding starts flag_byte sums_differ
  both-tests = rw (cells, eq-eqb (length flash) 65536 full) (none-set (eqb (stored_sum_of flash) (firmware_sum flash)) (cells_differ flash))

  -- the cells are right: the sums decide; they aren't: nothing is added up
  sums-decide : (stored sum : ℕ) → not differ ≡ true → stored ≡ stored_sum_of flash → sum ≡ firmware_sum flash → eqb stored sum ≡ starts flash
  sums-decide stored sum d a b = rw (a, b) (rw d at both-tests)

  none-added : not differ ≡ false → not differ ≡ starts flash
  none-added d = d ∙ rw d at both-tests

pub returns-then-flash-ne-FLASH_CELLS : goal.returns-then-flash-ne-FLASH_CELLS
unfolding starts
returns-then-flash-ne-FLASH_CELLS c = simp (ne_eqb _ 65536 c.if-flash-ne-FLASH_CELLS.true)

pub returns-then-not-cells_differ : goal.returns-then-not-cells_differ
returns-then-not-cells_differ c =
    sums-decide _ c.if-flash-ne-FLASH_CELLS.false _ c.cells_differ.ensures _ _ (ap not c.if-not-cells_differ.true)
    c.stored_sum.ensures c.firmware_sum.ensures.0

pub returns-else-not-cells_differ : goal.returns-else-not-cells_differ
returns-else-not-cells_differ c = none-added _ c.if-flash-ne-FLASH_CELLS.false _ c.cells_differ.ensures (ap not c.if-not-cells_differ.false)
