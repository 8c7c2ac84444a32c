-- `hex_put::put_items` meets its contract. The loop keeps that the items so far are put, and the next goes behind them.
-- Assumes nothing.
use mathlib.Core.Path.{◌≡◌, ◌∙◌, ap}
use mathlib.Core.List.{List, [], ◌∷◌}
use Prim.Native.Nat.{ℕ, ◌*◌, ◌+◌, ◌/◌}
use Rattle.base.specs.Parts.{patch}
use lib.ListN.{length, length-append}
use Rattle.std.specs.Slice.Iter.{chunks_exact_size, chunks_exact_rest}
use Rattle.recipe.specs.Internal.Kinds.{code}
use Rattle.hex_put.specs.Internal.Table.{touched_bytes}
use Rattle.hex_put.proofs.Putting.{along_start, along_item, along_more, along_next, along_end, putting_start, putting_room, putting_next, putting_end}
use native.Mathlib.Omega.{arith}
use Rattle.hex_put.proofs.put_items.Goals as goal

pub loop-item-init : goal.loop-item-init
loop-item-init c =
    let a = c.args in
    let none : 0 * a.size ≡ 0 = omega arith in
    let items = c.chunks_exact-item-items.ensures in
    let into = c.into_iter-item-iterator.ensures.into_iter_gives in (
      along_start a.places.now a.size _ (ap chunks_exact_size into ∙ items.size) (ap chunks_exact_rest into ∙ items.rest),
      rw none (putting_start a.output.now a.at (code a.kind) a.size a.places.now (length a.places.now / a.size) 0 a.first c.requires.2),
    )

pub put_touched-to-requires : goal.put_touched-to-requires
put_touched-to-requires c =
    let a = c.args in
    let l = c.loop-item in
    let i = length l.yielded in
    let s = c.in-Some.ensures.steps in
    rw (along_item a.places.now a.size l.item-iterator i l.invariant.0 c.next.new.self _ s.0 s.1.0 s.1.1)
    (putting_room a.output.now a.at (code a.kind) a.size a.places.now (length a.places.now / a.size) 0 a.first l.output l.to (i * a.size) l.address i
    l.invariant.1 (along_more a.places.now a.size l.item-iterator i l.invariant.0 c.next.new.self _ s.0 s.1.0 s.1.1 c.requires.0.some))

pub loop-item-preserved : goal.loop-item-preserved
loop-item-preserved c =
    let a = c.args in
    let l = c.loop-item in
    let i = length l.yielded in
    let s = c.in-Some.ensures.steps in
    let e = length-append l.yielded (c.in-Some.item ∷ []) in
    let step : (i + 1) * a.size ≡ i * a.size + a.size = omega arith in
    let here = along_item a.places.now a.size l.item-iterator i l.invariant.0 c.next.new.self _ s.0 s.1.0 s.1.1 in
    rw e (
      along_next a.places.now a.size l.item-iterator i l.invariant.0 c.next.new.self _ s.0 s.1.0 s.1.1 (i + 1) (omega arith),
      rw step (putting_next a.output.now a.at (code a.kind) a.size a.places.now (length a.places.now / a.size) 0 a.first l.output l.to (i * a.size) l.address i
          l.invariant.1 _ _
          (along_more a.places.now a.size l.item-iterator i l.invariant.0 c.next.new.self _ s.0 s.1.0 s.1.1 c.requires.0.some)
          (c.put_touched-to.ensures.1 ∙ ap (λ (x : List ℕ). patch l.output l.to (touched_bytes (code a.kind) l.address x)) here)
          (c.put_touched-to.ensures.0 ∙ ap (λ (x : List ℕ). l.to + length (touched_bytes (code a.kind) l.address x)) here)),
    )

pub returns : goal.returns
returns c =
    let a = c.args in
    let l = c.loop-item in
    let i = length l.yielded in
    let s = c.in-None.ensures.steps in
    putting_end a.output.now a.at (code a.kind) a.size a.places.now (length a.places.now / a.size) 0 a.first l.output l.to (i * a.size) l.address i
    l.invariant.1 (along_end a.places.now a.size l.item-iterator i l.invariant.0 c.requires.0.some s.1.0)
