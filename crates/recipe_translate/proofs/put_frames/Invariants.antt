-- `recipe_translate::put_frames` meets its contract. The loop keeps that the frames of what was read so far are put, beside what the
-- check's keeps.
-- Assumes nothing.
use Prim.Native.Nat.{◌-◌}
use lib.ListN.{length}
use Rattle.recipe_translate.proofs.Emission.{Emitted}
use Rattle.recipe_translate.proofs.put_frames.Given as goal

abbrev pub invariant-loop-c : goal.invariant-loop-c
invariant-loop-c l = Emitted l.input l.initial.output l.numbers.module.0 l.numbers.group.0 l.output l.c

abbrev pub decreases-loop-c : goal.decreases-loop-c
decreases-loop-c l = length l.input - l.c.place
