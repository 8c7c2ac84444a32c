-- `memory_leaves::write_flash_cells` meets its contract: after i turns the first i cells are combined and the rest as they were.
-- Assumes nothing.
use mathlib.Core.Path.{◌≡◌}
use Rattle.base.proofs.Stored.{mix}
use Rattle.memory_leaves.specs.Leaves.{combined}
use Rattle.memory_leaves.proofs.write_flash_cells.Given as goal

abbrev pub invariant-loop-i : goal.invariant-loop-i
invariant-loop-i l = l.cells ≡ mix (combined l.initial.cells l.new) l.initial.cells l.i
