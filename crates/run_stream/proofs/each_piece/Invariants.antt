-- So many pieces were handled as turns were counted.
use Rattle.std.proofs.Common.{length}
use denote.Param.Always.{always_mut}
use Rattle.run_stream.specs.Internal.Pieces.{Turns}
use Rattle.run_stream.proofs.each_piece.Given as goal

abbrev pub invariant-loop : goal.invariant-loop
invariant-loop g l =
    (always_mut g.F.FnMut l.initial.handle → always_mut g.F.FnMut l.handle)
    × Turns g.F.FnMut g.R.Read.remaining (length l.fn.piece) l.counter l.fn.handle l.fn.input l.handle l.input
