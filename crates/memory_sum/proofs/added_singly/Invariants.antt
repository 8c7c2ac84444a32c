-- `memory_sum::added_singly` meets its contract: after i turns the first i cells are added, each at most 255.
-- Assumes nothing.
use mathlib.Core.Path.{◌≡◌}
use Prim.Native.Nat.{◌≤◌, ◌+◌, ◌*◌}
use lib.ListN.{take}
use Rattle.base.specs.Parts.{sum_of}
use Rattle.memory_sum.proofs.added_singly.Given as goal

abbrev pub invariant-loop-cell : goal.invariant-loop-cell
invariant-loop-cell l = (l.all ≤ l.sum + 255 * l.cell-index) × (l.all ≡ l.sum + sum_of (take l.cell-index l.s))
