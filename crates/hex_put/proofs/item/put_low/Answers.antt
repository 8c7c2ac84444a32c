-- `hex_put::item::put_low` meets its contract: after i turns the first i bytes are new.
-- Assumes nothing.
use mathlib.Core.Path.{◌≡◌, ◌∙◌, sym, ap}
use lib.ListN.{length}
use Rattle.base.proofs.Stored.{mix, mix_all, stored}
use Rattle.hex_put.specs.Internal.Table.{low_bytes}
use Rattle.hex_put.proofs.Marking.{low_length, low_byte}
use native.Mathlib.Omega.{arith}
use Rattle.hex_put.proofs.item.put_low.Goals as goal

pub loop-i-preserved : goal.loop-i-preserved
loop-i-preserved c =
    let a = c.args in
    let l = c.loop-i in
    stored (low_bytes a.places.now) a.output.now l.output l.i _ l.invariant (sym (low_byte a.places.now l.i (omega arith)))
    (omega (arith, low_length a.places.now)) (omega (arith, c.requires))

pub returns : goal.returns
returns c =
    let a = c.args in
    let l = c.loop-i in
    let all : l.i ≡ length a.places.now = omega arith in
    l.invariant
    ∙ ap (mix (low_bytes a.places.now) a.output.now) all
    ∙ mix_all (low_bytes a.places.now) a.output.now (length a.places.now) (low_length a.places.now) c.requires
