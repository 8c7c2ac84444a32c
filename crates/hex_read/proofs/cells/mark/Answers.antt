-- `hex_read::cells::mark` meets its contract: after i turns the first i places are marked, and none of them was before.
-- Assumes nothing.
use mathlib.Core.Path.{◌≡◌, ◌∙◌, sym, ap}
use mathlib.Core.Bool.{Bool, cond}
use native.Mathlib.Numerals.{add-one}
use lib.ListN.{length, get_or}
use Rattle.base.proofs.Stored.{mix, mix_next, mix_length, mix_all, stored}
use Rattle.hex_put.proofs.Marking.{marked_here, unmarked_here, none_marked}
use Rattle.hex_read.specs.Internal.Giving.{entries}
use Rattle.hex_read.proofs.Storing.{entries_length, entry_at}
use native.Mathlib.Omega.{arith}
use Rattle.hex_read.proofs.cells.mark.Goals as goal

pub returns-then-places-i-gt255 : goal.returns-then-places-i-gt255
returns-then-places-i-gt255 c =
    let a = c.args in
    let l = c.loop-i in
    let old = ap (λ (x : _). get_or x l.i 0) l.invariant.0 ∙ mix_next (entries a.bytes.now) a.places.now l.i (omega (arith, entries_length a.bytes.now)) (omega (arith, c.requires)) in (
      sym (ap (λ (b : Bool). cond b 34 0) (sym (marked_here a.places.now l.i (omega (arith, c.requires)) (omega (arith, old, c.if-places-i-gt255.true)) l.invariant.1))),
      tt,
      ap length l.invariant.0 ∙ mix_length (entries a.bytes.now) a.places.now l.i (entries_length a.bytes.now ∙ sym c.requires),
    )

pub loop-i-preserved : goal.loop-i-preserved
loop-i-preserved c =
    let a = c.args in
    let l = c.loop-i in
    let old = ap (λ (x : _). get_or x l.i 0) l.invariant.0 ∙ mix_next (entries a.bytes.now) a.places.now l.i (omega (arith, entries_length a.bytes.now)) (omega (arith, c.requires)) in (
      stored (entries a.bytes.now) a.places.now l.places l.i _ l.invariant.0 (sym (entry_at a.bytes.now l.i (omega arith))) (omega (arith, entries_length a.bytes.now)) (omega (arith, c.requires)),
      rw add-one (unmarked_here a.places.now l.i (omega (arith, c.requires)) (omega (arith, old, c.if-places-i-gt255.false)) l.invariant.1),
    )

pub returns : goal.returns
returns c =
    let a = c.args in
    let l = c.loop-i in
    let all : l.i ≡ length a.bytes.now = omega arith in (
      ap (λ (b : Bool). cond b 34 0) (none_marked a.places.now l.i (omega (arith, all, c.requires)) l.invariant.1),
      l.invariant.0 ∙ ap (mix (entries a.bytes.now) a.places.now) all ∙ mix_all (entries a.bytes.now) a.places.now (length a.bytes.now) (entries_length a.bytes.now) c.requires,
      ap length l.invariant.0 ∙ mix_length (entries a.bytes.now) a.places.now l.i (entries_length a.bytes.now ∙ sym c.requires),
    )
