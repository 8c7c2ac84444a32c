-- What is filled so far, with what is to come, is the whole.
use Rattle.std.proofs.Common.{◌≡◌, ◌-◌, ◌++◌, length, take}
use Rattle.run_stream.specs.Internal.Filling.{filled}
use Rattle.run_stream.proofs.fill.Given as goal

abbrev pub invariant-loop-i : goal.invariant-loop-i
invariant-loop-i l =
    (length l.cells ≡ length l.fn.cells)
    × (take l.i l.cells ++ filled (length l.cells - l.i) l.i l.value l.step l.more ≡ filled (length l.cells) 0 l.v l.step l.more)
