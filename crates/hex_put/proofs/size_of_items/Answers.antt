-- `hex_put::size_of_items` meets its contract. The loop keeps the size of the items so far.
-- Assumes nothing.
use mathlib.Core.Path.{◌≡◌, ◌∙◌, ap}
use mathlib.Core.List.{List, [], ◌∷◌}
use Prim.Native.Nat.{ℕ, ◌*◌, ◌+◌, ◌/◌}
use lib.ListN.{length, length-append}
use Rattle.hex_put.specs.Internal.Table.{touched_bytes}
use Rattle.hex_put.proofs.Putting.{along_item, along_more, along_next, along_end, sized_next, sized_end}
use native.Mathlib.Omega.{arith}
use Rattle.hex_put.proofs.size_of_items.Goals as goal

pub loop-item-preserved : goal.loop-item-preserved
loop-item-preserved c =
    let p = c.args.places.now in
    let size = c.args.size in
    let l = c.loop-item in
    let i = length l.yielded in
    let s = c.in-Some.ensures.steps in
    let e = length-append l.yielded (c.in-Some.item ∷ []) in
    let step : (i + 1) * size ≡ i * size + size = omega arith in
    rw e (
      along_next p size l.item-iterator i l.invariant.0 c.next.new.self _ s.0 s.1.0 s.1.1 (i + 1) (omega arith),
      rw step (sized_next p size (length p / size) 0 l.all (i * size) i l.invariant.1 _
          (along_more p size l.item-iterator i l.invariant.0 c.next.new.self _ s.0 s.1.0 s.1.1 c.requires.some)
          (c.size_of-all.ensures.0
          ∙ ap (λ (x : List ℕ). length (touched_bytes 0 0 x)) (along_item p size l.item-iterator i l.invariant.0 c.next.new.self _ s.0 s.1.0 s.1.1))
          c.size_of-all.ensures.1),
    )

pub returns : goal.returns
returns c =
    let p = c.args.places.now in
    let size = c.args.size in
    let l = c.loop-item in
    let s = c.in-None.ensures.steps in
    let over = along_end p size l.item-iterator (length l.yielded) l.invariant.0 c.requires.some s.1.0 in
    (sized_end p size (length p / size) 0 l.all _ (length l.yielded) l.invariant.1 over, omega (arith, l.invariant.1.small, l.invariant.1.few))
