-- `recipe_item::put::put_writes` meets its contract. The loop keeps that i rows are written.
-- Assumes nothing.
use Rattle.recipe_item.proofs.Emitting.{Writing}
use Rattle.recipe_item.proofs.put.put_writes.Given as goal

abbrev pub invariant-loop-i : goal.invariant-loop-i
invariant-loop-i l = Writing l.input l.from l.initial.output l.at l.numbers.module.0 l.numbers.group.0 l.address l.output l.i
