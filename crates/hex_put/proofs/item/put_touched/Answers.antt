-- `hex_put::item::put_touched` meets its contract, by whether the item is touched.
-- Assumes nothing.
use mathlib.Core.Path.{◌∙◌, sym, ap}
use Prim.Native.Nat.{ℕ, ◌+◌}
use Rattle.base.specs.Parts.{patch}
use Rattle.recipe_item.proofs.Putting.{patch_none}
use Rattle.recipe.specs.Internal.Kinds.{code}
use Rattle.hex_put.proofs.Putting.{touched_is, untouched_is, touched_size, untouched_size}
use native.Mathlib.Omega.{arith}
use Rattle.hex_put.proofs.item.put_touched.Goals as goal

pub put_item-requires : goal.put_item-requires
put_item-requires c =
    let a = c.args in
    omega (arith, c.requires, touched_size (code a.kind) a.address a.places.now (sym c.is_touched.ensures ∙ c.if-is_touched.true))

pub returns-then-is_touched : goal.returns-then-is_touched
returns-then-is_touched c =
    let a = c.args in
    let t = sym c.is_touched.ensures ∙ c.if-is_touched.true in (
      ap (λ (n : ℕ). a.at + n) (sym (touched_size (code a.kind) a.address a.places.now t)),
      c.put_item.ensures ∙ ap (patch a.output.now a.at) (sym (touched_is (code a.kind) a.address a.places.now t)),
    )

pub returns : goal.returns
returns c =
    let a = c.args in
    let f = sym c.is_touched.ensures ∙ c.if-is_touched.false in (
      omega (arith, untouched_size (code a.kind) a.address a.places.now f),
      sym (ap (patch a.output.now a.at) (untouched_is (code a.kind) a.address a.places.now f) ∙ patch_none a.output.now a.at),
    )
