-- `hex_line::ends::count_at` meets its contract, by its tests.
-- Assumes nothing.
use borrow.Author.Tests.{eq-eqb, ne_eqb, lt-ltb, le-ltb}
use Rattle.hex_line.specs.Internal.Reading.{count_at}
use Rattle.hex_line.proofs.ends.count_at.Goals as goal

pub returns-then-text-lt11 : goal.returns-then-text-lt11
unfolding count_at
returns-then-text-lt11 c = simp (lt-ltb _ 11 c.if-text-lt11.true)

pub returns-then-text-ne58 : goal.returns-then-text-ne58
unfolding count_at
returns-then-text-ne58 c = simp (le-ltb _ 11 c.if-text-lt11.false, ne_eqb _ 0x3A c.if-text-ne58.true)

pub returns : goal.returns
unfolding count_at
returns c = simp (le-ltb _ 11 c.if-text-lt11.false, eq-eqb _ 0x3A c.if-text-ne58.false) c.byte_of.ensures
