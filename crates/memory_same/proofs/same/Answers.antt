-- `memory_same::same` meets its contract: lists of different lengths are not the same, and others are looked at.
-- Assumes nothing.
use mathlib.Core.Path.{sym}
use Rattle.memory_same.proofs.Laws.{other_length_lem}
use Rattle.memory_same.proofs.same.Goals as goal

pub returns-then-x-y : goal.returns-then-x-y
returns-then-x-y c = sym (other_length_lem c.args.x.now c.args.y.now c.if-x-y.true)
