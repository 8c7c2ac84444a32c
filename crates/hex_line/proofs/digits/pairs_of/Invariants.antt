-- `hex_line::digits::pairs_of` meets its contract: before each turn the bytes read so far, with those of the digits left, are all.
-- Assumes nothing.
use Rattle.hex_line.proofs.Pairs.{Done}
use Rattle.hex_line.proofs.digits.pairs_of.Given as goal

abbrev pub invariant-loop-i : goal.invariant-loop-i
invariant-loop-i l = Done l.digits l.bytes l.i
