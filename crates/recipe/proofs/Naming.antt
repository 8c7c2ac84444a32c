-- A byte that names a kind is its code, and one that names none is unknown.
-- Assumes nothing.
use mathlib.Core.Path.{◌≡◌, refl, ap, ◌∙◌, sym}
use mathlib.Core.Bool.{Bool, true, false, cond}
use Prim.Native.Nat.{ℕ}
use native.Mathlib.Omega.{arith}
use lib.Dec.{eqb}
use borrow.Author.Tests.{eqb-true}
use Rattle.std.specs.Prelude.{Option, Some, None}
use Rattle.recipe.specs.declared.Kind.{Kind}
use Rattle.recipe.specs.declared.Kind.TheVariants.{Open, Block, Row, Leave}
use Rattle.recipe.specs.Faults.{known}
use Rattle.recipe.specs.Internal.Kinds.{code, kind_named}

module _ (byte : ℕ) where
  -- the answer, by the four tests
  by_tests : Bool → Bool → Bool → Bool → Option Kind
  by_tests o b r l = cond o (Some Open) (cond b (Some Block) (cond r (Some Row) (cond l (Some Leave) None)))

  pub named : (k : Kind) → kind_named byte ≡ Some k → byte ≡ code k
  unfolding by_tests
  named k = go (eqb byte 0x01) (eqb byte 0x02) (eqb byte 0x03) (eqb byte 0x0F) refl refl refl refl
    where
      go : (o b r l : Bool) → eqb byte 0x01 ≡ o → eqb byte 0x02 ≡ b → eqb byte 0x03 ≡ r → eqb byte 0x0F ≡ l
          → by_tests o b r l ≡ Some k → byte ≡ code k
      go true b r l p q s t e = let same : Open ≡ k = cc in rw (sym same) (eqb-true byte 0x01 p)
      go false true r l p q s t e = let same : Block ≡ k = cc in rw (sym same) (eqb-true byte 0x02 q)
      go false false true l p q s t e = let same : Row ≡ k = cc in rw (sym same) (eqb-true byte 0x03 s)
      go false false false true p q s t e = let same : Leave ≡ k = cc in rw (sym same) (eqb-true byte 0x0F t)
      go false false false false p q s t e = cc

  pub unnamed : kind_named byte ≡ None → known byte ≡ false
  unfolding by_tests
  unnamed = go (eqb byte 0x01) (eqb byte 0x02) (eqb byte 0x03) (eqb byte 0x0F) refl refl refl refl
    where
      go : (o b r l : Bool) → eqb byte 0x01 ≡ o → eqb byte 0x02 ≡ b → eqb byte 0x03 ≡ r → eqb byte 0x0F ≡ l
          → by_tests o b r l ≡ None → known byte ≡ false
      go true b r l p q s t e = cc
      go false true r l p q s t e = cc
      go false false true l p q s t e = cc
      go false false false true p q s t e = cc
      go false false false false p q s t e = rw (p, q, s, t)

-- the same of a kind that was looked at
pub named_as : (byte : ℕ) (k k' : Kind) → kind_named byte ≡ Some k → k ≡ k' → byte ≡ code k'
named_as byte k k' e q = named byte k e ∙ ap code q

pub known_code : (k : Kind) → known (code k) ≡ true
known_code Open = refl
known_code Block = refl
known_code Row = refl
known_code Leave = refl

coded : (k : Kind) → kind_named (code k) ≡ Some k
coded Open = refl
coded Block = refl
coded Row = refl
coded Leave = refl

-- a byte that names none is no kind's
pub none_named : (byte : ℕ) → kind_named byte ≡ None → (k : Kind) → byte ≡ code k → ⊥
none_named byte e k q =
    let no : None ≡ Some k = sym e ∙ ap kind_named q ∙ coded k in
    let z : ◌≡◌ {A = ℕ} 0 1 = cc in
    absurd (omega arith)
