-- Where the port listens, none of 1, 2 and 3 is met.
-- Assumes nothing.
use mathlib.Core.Path.{◌≡◌, refl}
use mathlib.Core.Bool.{Bool, true, false}
use Rattle.std.specs.Prelude.{Ok}
use Rattle.node_rules.specs.declared.Node.{Node}
use Rattle.node_rules.specs.Outcomes.{is_deaf}
use Rattle.node_rules.specs.Uart.{is_closed}
use Rattle.node_port.specs.Internal.Port.{listens}

pub listening : (full : Bool) (n : Node) (u : Unit {0}) → listens full n ≡ Ok u
    → (full ≡ true) × (is_closed n.choices.pin ≡ false) × (is_deaf n.mode ≡ false)
listening full n u e = go full refl (is_closed n.choices.pin) refl (is_deaf n.mode) refl
  where
    go : (x : Bool) → full ≡ x → (y : Bool) → is_closed n.choices.pin ≡ y → (z : Bool) → is_deaf n.mode ≡ z
        → (full ≡ true) × (is_closed n.choices.pin ≡ false) × (is_deaf n.mode ≡ false)
    go false f y c z d = let q = rw f at e in cc
    go true f true c z d = let q = rw (f, c) at e in cc
    go true f false c true d = let q = rw (f, c, d) at e in cc
    go true f false c false d = (f, c, d)
