-- A piece takes one byte at least, so those that are left fall.
use Rattle.std.proofs.Common.{length}
use Rattle.run_recipes.proofs.pieces.pieces.Given as goal

abbrev pub decreases-loop-left : goal.decreases-loop-left
decreases-loop-left l = length l.left
