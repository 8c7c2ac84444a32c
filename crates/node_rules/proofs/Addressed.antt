-- Whom a frame is for, in document 01's words: what `is_for` says is what the sentence says, so that no frame with other numbers counts.
-- Assumes nothing.
use mathlib.Core.Path.{◌≡◌}
use mathlib.Core.Bool.{true, ◌&&◌, ◌||◌}
use mathlib.Core.List.{List}
use mathlib.Core.Logic.{⊎_elim, inl, inr}
use Prim.Native.Nat.{ℕ}
use lib.Dec.{eqb}
use borrow.Author.Tests.{eqb-true}
use Rattle.base.proofs.Choice.{both_true, either_true}
use Rattle.frame_rules.specs.Frame.{module_of, group_of}
use Rattle.node_rules.specs.declared.Addressing.TheVariants.{AsGroup, AsNode, AllZero, OwnNumbers}
use Rattle.node_rules.specs.declared.Plate.{Plate}
use Rattle.node_rules.specs.Requests.{D, is_for}
use Rattle.node_rules.specs.Reading.{ToGroup, ToNode}

-- ""Group" means D2 is 0x00 and D3 is 0x00 or the own group"
pub group_says : (p : Plate) (f : List ℕ) → is_for AsGroup p f ≡ true → ToGroup p (D 2 f) (D 3 f)
group_says p f e =
    let b = both_true (eqb (D 2 f) 0x00) (eqb (D 3 f) 0x00 || eqb (D 3 f) p.group.0) e in (
      eqb-true (D 2 f) 0x00 b.0,
      ⊎_elim (λ h. inl (eqb-true (D 3 f) 0x00 h)) (λ h. inr (eqb-true (D 3 f) p.group.0 h))
          (either_true (eqb (D 3 f) 0x00) (eqb (D 3 f) p.group.0) b.1),
    )

two_own : (p : Plate) (m g : ℕ) → (eqb m p.own.0 && eqb g p.group.0) ≡ true → (m ≡ p.own.0) × (g ≡ p.group.0)
two_own p m g e =
    let b = both_true (eqb m p.own.0) (eqb g p.group.0) e in
    (eqb-true m p.own.0 b.0, eqb-true g p.group.0 b.1)

-- ""node" means D2, D3 are the own numbers"
pub node_says : (p : Plate) (f : List ℕ) → is_for AsNode p f ≡ true → ToNode p (D 2 f) (D 3 f)
node_says p f e = two_own p (D 2 f) (D 3 f) e

-- "frame module and group both 0x00"
pub zero_says : (p : Plate) (f : List ℕ) → is_for AllZero p f ≡ true → (module_of f ≡ 0x00) × (group_of f ≡ 0x00)
zero_says p f e =
    let b = both_true (eqb (module_of f) 0x00) (eqb (group_of f) 0x00) e in
    (eqb-true (module_of f) 0x00 b.0, eqb-true (group_of f) 0x00 b.1)

-- "frame module and group the own numbers"
pub own_says : (p : Plate) (f : List ℕ) → is_for OwnNumbers p f ≡ true → (module_of f ≡ p.own.0) × (group_of f ≡ p.group.0)
own_says p f e = two_own p (module_of f) (group_of f) e
