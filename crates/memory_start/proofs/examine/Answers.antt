-- `memory_start::examine` meets its contract: the sum is worked out once, and compared with the stored one.
-- Assumes nothing.
use Rattle.memory_start.specs.Start.{sums_differ, flag_byte}
use Rattle.memory_start.proofs.examine.Goals as goal

pub returns : goal.returns
unfolding sums_differ flag_byte
returns c = simp (
  ← c.firmware_sum-sum.ensures.0,
  ← c.stored_sum.ensures,
  ← c.cells_differ-cells.ensures,
  c.flags_of-flags.ensures,
)
