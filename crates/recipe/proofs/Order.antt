-- The order of the checks at an item: each number is given exactly where its condition holds and none before it does. Each law says so
-- for whatever the later conditions are, by the tests on the way.
-- Assumes nothing.
use mathlib.Core.Path.{◌≡◌, refl}
use mathlib.Core.Bool.{Bool, true, false, cond, not}
use mathlib.Core.List.{List, [], ◌∷◌, ◌++◌}
use Prim.Native.Nat.{ℕ, suc, ◌≤◌, ◌<◌}
use native.Mathlib.Omega.{arith}
use lib.Dec.{ltb, eqb}
use lib.ListN.{length}
use borrow.Author.Tests.{ltb-false, lt-ltb, le-ltb, eqb-false, eq-eqb, ne_eqb, not-false}
use Rattle.recipe.specs.Faults.{kind_of, known, address_of, out_of_place, address_illegal, rules_at, first_of, fault_at}
use Rattle.recipe.specs.Reading.{size_of}

-- conditions none of which holds
abbrev pub NoneHolds : List (ℕ × Bool) → Type 0
NoneHolds [] = Unit {0}
NoneHolds (r ∷ rs) = (r.1 ≡ false) × NoneHolds rs

-- the number is that of the first condition that holds
pub first_holds : (earlier later : List (ℕ × Bool)) (number : ℕ) → NoneHolds earlier → first_of (earlier ++ ((
  number,
  true,
) ∷ later)) ≡ number
first_holds [] later number h = refl
first_holds (r ∷ rs) later number h = rw h.0 (first_holds rs later number h.1)

pub none_holds : (rules : List (ℕ × Bool)) → NoneHolds rules → first_of rules ≡ 0
none_holds [] h = refl
none_holds (r ∷ rs) h = rw h.0 (none_holds rs h.1)

-- an item with no fault
pub record Faultless (input : List ℕ) (number : ℕ) (afterLeave : Bool) : Type 0 where
  pub few : number ≡ 2049 → ⊥
  pub kind : known (kind_of input) ≡ true
  pub in_place : out_of_place (kind_of input) number afterLeave ≡ false
  pub whole : size_of input ≤ length input
  pub address : address_illegal (kind_of input) (address_of input) ≡ false

module _ (input : List ℕ) (number : ℕ) (afterLeave : Bool) where
  -- "25 it would be item 2,049"
  pub item_2049 : number ≡ 2049 → fault_at input number afterLeave ≡ 25
  unfolding fault_at rules_at
  item_2049 e = simp (eq-eqb number 2049 e)

  -- "21 unknown kind"
  pub unknown_kind : (number ≡ 2049 → ⊥) → known (kind_of input) ≡ false → fault_at input number afterLeave ≡ 21
  unfolding fault_at rules_at
  unknown_kind few k = simp (ne_eqb number 2049 few, k)

  -- "23 out of place (also anything after Leave)"
  pub out_of_place_lem : (number ≡ 2049 → ⊥) → known (kind_of input) ≡ true → out_of_place (kind_of input) number afterLeave ≡ true
      → fault_at input number afterLeave ≡ 23
  unfolding fault_at rules_at
  out_of_place_lem few k p = simp (ne_eqb number 2049 few, k, p)

  -- "22 body cut short"
  pub cut_short : (number ≡ 2049 → ⊥) → known (kind_of input) ≡ true → out_of_place (kind_of input) number afterLeave ≡ false
      → length input < size_of input → fault_at input number afterLeave ≡ 22
  unfolding fault_at rules_at
  cut_short few k p l = simp (ne_eqb number 2049 few, k, p, lt-ltb (length input) (size_of input) l)

  -- "24 address illegal"
  pub address_illegal_lem : (number ≡ 2049 → ⊥) → known (kind_of input) ≡ true → out_of_place (kind_of input) number afterLeave ≡ false
      → size_of input ≤ length input → address_illegal (kind_of input) (address_of input) ≡ true → fault_at input number afterLeave ≡ 24
  unfolding fault_at rules_at
  address_illegal_lem few k p l a = simp (ne_eqb number 2049 few, k, p, le-ltb (length input) (size_of input) l, a)

  pub no_fault : Faultless input number afterLeave → fault_at input number afterLeave ≡ 0
  unfolding fault_at rules_at
  no_fault f =
      simp (ne_eqb number 2049 f.few, f.kind, f.in_place, le-ltb (length input) (size_of input) f.whole, f.address)

-- where no condition gave a number, the first did not hold, and none behind it did
past : (b : Bool) (n x : ℕ) → cond b (suc n) x ≡ 0 → (b ≡ false) × (x ≡ 0)
past true n x e = absurd (omega arith)
past false n x e = (refl, e)

pub faultless : (input : List ℕ) (number : ℕ) (afterLeave : Bool) → fault_at input number afterLeave ≡ 0 → Faultless input number afterLeave
unfolding fault_at rules_at
faultless input number afterLeave e =
    let a = past (eqb number 2049) 24 _ e in
    let b = past (not (known (kind_of input))) 20 _ a.1 in
    let c = past (out_of_place (kind_of input) number afterLeave) 22 _ b.1 in
    let d = past (ltb (length input) (size_of input)) 21 _ c.1 in
    let f = past (address_illegal (kind_of input) (address_of input)) 23 0 d.1 in
    record {
      few = eqb-false number 2049 a.0;
      kind = not-false (known (kind_of input)) b.0;
      in_place = c.0;
      whole = ltb-false (length input) (size_of input) d.0;
      address = f.0;
    }
