-- `memory_sum::sum_of` meets its contract: before each turn the sum and the cells still to be added come to the whole, and these are the
-- last of the list, so that after the last turn they are the remainder.
-- Assumes nothing.
use mathlib.Core.Path.{◌≡◌}
use Prim.Native.Nat.{◌≤◌, ◌+◌, ◌*◌, ◌-◌, ◌%◌}
use lib.ListN.{length, drop}
use Rattle.base.specs.Parts.{sum_of}
use Rattle.memory_sum.proofs.sum_of.Given as goal

abbrev pub invariant-loop-eight : goal.invariant-loop-eight
invariant-loop-eight l =
    let rest = l.eight-iterator.rest.now in
    (l.eight-iterator.size ≡ 8) × (length rest ≤ length l.s) × (length rest % 8 ≡ length l.s % 8)
    × (rest ≡ drop (length l.s - length rest) l.s)
    × (l.sum + sum_of rest ≡ sum_of l.s) × (l.sum + 255 * length rest ≤ 255 * length l.s)
