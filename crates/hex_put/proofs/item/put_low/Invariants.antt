-- `hex_put::item::put_low` meets its contract: after i turns the first i bytes are new.
-- Assumes nothing.
use mathlib.Core.Path.{◌≡◌}
use Rattle.base.proofs.Stored.{mix}
use Rattle.hex_put.specs.Internal.Table.{low_bytes}
use Rattle.hex_put.proofs.item.put_low.Given as goal

abbrev pub invariant-loop-i : goal.invariant-loop-i
invariant-loop-i l = l.output ≡ mix (low_bytes l.places) l.initial.output l.i
