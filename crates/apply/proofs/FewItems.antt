-- A recipe of at most 4,096 bytes has no item 2,049, so that no item of it is refused with 25. Behind Open each item takes at least 12
-- bytes, but for Leave; and behind Leave nothing is read, so that Leave is the last before the one at fault.
-- Assumes nothing.
use mathlib.Core.Path.{◌≡◌, refl, sym, ap, subst, ◌∙◌}
use mathlib.Core.Bool.{Bool, true, false, cond, not, true≢false}
use mathlib.Core.List.{List, [], ◌∷◌}
use mathlib.Core.Logic.{◌⊎◌, ⊎_elim, inl, inr}
use Prim.Native.Nat.{ℕ, zero, suc, ◌+◌, ◌-◌, ◌*◌, ◌≤◌}
use native.Mathlib.Omega.{arith}
use lib.Dec.{ltb, eqb}
use lib.ListN.{length, drop, length-drop}
use borrow.Author.Tests.{eqb-true, ne_eqb}
use Rattle.recipe.specs.Faults.{kind_of, known, address_of, out_of_place, address_illegal, rules_at, fault_at}
use Rattle.recipe.specs.Reading.{Reading, at_end, fault, size_of, read_from}
use Rattle.recipe.proofs.Order.{Faultless, faultless}
use Rattle.recipe.proofs.OnlyLegal.{kinds}
use Rattle.recipe.proofs.Steps.{read_end, read_fault, read_on}
use Rattle.apply.proofs.FewFrames.{misplaced}

-- a fault's number: 21 to 24, or 25 where something holds
abbrev Numbered : Type 0 → ℕ → Type 0
Numbered P m = ((21 ≤ m) × (m ≤ 24)) ⊎ P

-- the number by the five conditions
abbrev from_five : Bool → Bool → Bool → Bool → Bool → ℕ
from_five a b c d f = cond a 25 (cond b 21 (cond c 23 (cond d 22 (cond f 24 0))))

-- 25 is item 2,049's alone
fault_numbered : (input : List ℕ) (number : ℕ) (left : Bool) → (fault_at input number left ≡ 0 → ⊥)
    → Numbered (number ≡ 2049) (fault_at input number left)
unfolding fault_at rules_at
fault_numbered input number left =
    go (eqb number 2049) (not (known (kind_of input))) (out_of_place (kind_of input) number left) (ltb (length input) (size_of input))
    (address_illegal (kind_of input) (address_of input)) refl
  where
    go : (a b c d f : Bool) → eqb number 2049 ≡ a → (from_five a b c d f ≡ 0 → ⊥) → Numbered (number ≡ 2049) (from_five a b c d f)
    go true b c d f e h = inr (eqb-true number 2049 e)
    go false true c d f e h = inl (omega arith, omega arith)
    go false false true d f e h = inl (omega arith, omega arith)
    go false false false true f e h = inl (omega arith, omega arith)
    go false false false false true e h = inl (omega arith, omega arith)
    go false false false false false e h = absurd (h refl)

-- the fault at which a reading stops, whose item was looked at
same_fault : {m p m' p' : ℕ} → fault m p ≡ fault m' p' → m ≡ m'
same_fault e = cc

-- an end is no fault
no_fault : {m p : ℕ} {b : Bool} → at_end b ≡ fault m p → ⊥
no_fault e = let z : ◌≡◌ {A = ℕ} 0 1 = cc in omega arith

-- behind Leave 25 comes only at item 2,049
behind_leave : (looks : ℕ) (input : List ℕ) (place number m p : ℕ) → looks + number ≡ 2050
    → (read_from looks input place number true).stop ≡ fault m p → Numbered (2049 ≤ number) m
unfolding read_from
behind_leave zero input place number m p t s = inr (omega arith)
behind_leave (suc looks) [] place number m p t s = absurd (no_fault s)
behind_leave (suc looks) (k ∷ xs) place number m p t s =
    let some : fault_at (k ∷ xs) number true ≡ 0 → ⊥ = λ e. true≢false (faultless (k ∷ xs) number true e).in_place in
    let q = same_fault
    (sym (ap (λ (r : Reading). r.stop) (read_fault looks (k ∷ xs) place number true (omega arith) some)) ∙ s) in
    ⊎_elim (λ h. inl (omega (arith, h.0, q), omega (arith, h.1, q))) (λ h. inr (omega (arith, h)))
    (fault_numbered (k ∷ xs) number true some)

-- behind Open, 25 comes only behind so many bytes: one item, by its kind, where it is so of every shorter reading
module _ (looks : ℕ)
    (ih : (input : List ℕ) (place number m p : ℕ) → 2 ≤ number → looks + number ≡ 2050
    → (read_from looks input place number false).stop ≡ fault m p → Numbered (12 * (2048 - number) ≤ length input) m)
    (xs : List ℕ) (place number m p : ℕ) (more : 2 ≤ number) (t : suc looks + number ≡ 2050) where
  abbrev Stops : ℕ → Type 0
  Stops k =
      Faultless (k ∷ xs) number false
      → (read_from looks (drop (size_of (k ∷ xs)) (k ∷ xs)) (place + size_of (k ∷ xs)) (number + 1) (eqb k 0x0F)).stop ≡ fault m p
      → Numbered (12 * (2048 - number) ≤ length (k ∷ xs)) m

  stops_open : Stops 0x01
  stops_open f s = absurd (true≢false (sym (ap not (ne_eqb number 1 (λ e. omega arith))) ∙ f.in_place))

  stops_block : Stops 0x02
  stops_block f s =
      ⊎_elim (λ h. inl h) (λ h. inr (omega (arith, h, f.whole, length-drop 68 (0x02 ∷ xs))))
      (ih (drop 68 (0x02 ∷ xs)) (place + 68) (number + 1) m p (omega arith) (omega arith) s)

  stops_row : Stops 0x03
  stops_row f s =
      ⊎_elim (λ h. inl h) (λ h. inr (omega (arith, h, f.whole, length-drop 12 (0x03 ∷ xs))))
      (ih (drop 12 (0x03 ∷ xs)) (place + 12) (number + 1) m p (omega arith) (omega arith) s)

  stops_leave : Stops 0x0F
  stops_leave f s =
      ⊎_elim (λ h. inl h) (λ h. inr (omega (arith, h))) (behind_leave looks xs (place + 1) (number + 1) m p (omega arith) s)

  stops_kind : (k : ℕ) → Stops k
  stops_kind k f =
      ⊎_elim
      (λ x.
      ⊎_elim
      (λ y. ⊎_elim (λ e. subst Stops (sym e) stops_open f) (λ e. subst Stops (sym e) stops_block f) y)
      (λ e. subst Stops (sym e) stops_row f)
      x)
      (λ e. subst Stops (sym e) stops_leave f)
      (kinds k f.kind)

behind_open : (looks : ℕ) (input : List ℕ) (place number m p : ℕ) → 2 ≤ number → looks + number ≡ 2050
    → (read_from looks input place number false).stop ≡ fault m p → Numbered (12 * (2048 - number) ≤ length input) m
unfolding read_from
behind_open zero input place number m p more t s = inr (omega arith)
behind_open (suc looks) [] place number m p more t s = absurd (no_fault s)
behind_open (suc looks) (k ∷ xs) place number m p more t s = go (behind_open looks) (fault_at (k ∷ xs) number false) refl
  where
    go : ((input : List ℕ) (place number m p : ℕ) → 2 ≤ number → looks + number ≡ 2050
        → (read_from looks input place number false).stop ≡ fault m p → Numbered (12 * (2048 - number) ≤ length input) m)
        → (n : ℕ) → fault_at (k ∷ xs) number false ≡ n → Numbered (12 * (2048 - number) ≤ length (k ∷ xs)) m
    go ih zero e =
        stops_kind looks ih xs place number m p more t k (faultless (k ∷ xs) number false e)
        (sym (ap (λ (r : Reading). r.stop) (read_on looks (k ∷ xs) place number false (omega arith) e)) ∙ s)
    go ih (suc n) e =
        let some : fault_at (k ∷ xs) number false ≡ 0 → ⊥ = λ z. omega arith in
        let q =
        same_fault (sym (ap (λ (r : Reading). r.stop) (read_fault looks (k ∷ xs) place number false (omega arith) some)) ∙ s) in
        ⊎_elim (λ h. inl (omega (arith, h.0, q), omega (arith, h.1, q))) (λ h. inr (omega (arith, h)))
        (fault_numbered (k ∷ xs) number false some)

-- the whole reading of at most 4,096 bytes: 12 times 2,046 is more
module _ (xs : List ℕ) (few : suc (length xs) ≤ 4096) (m p : ℕ) where
  abbrev Faults : ℕ → Type 0
  Faults k =
      Faultless (k ∷ xs) 1 false
      → (read_from 2048 (drop (size_of (k ∷ xs)) (k ∷ xs)) (0 + size_of (k ∷ xs)) 2 (eqb k 0x0F)).stop ≡ fault m p
      → (21 ≤ m) × (m ≤ 24)

  faults_open : Faults 0x01
  faults_open f s =
      ⊎_elim (λ h. h) (λ h. absurd (omega (arith, h, few, length-drop 3 (0x01 ∷ xs))))
      (behind_open 2048 (drop 3 (0x01 ∷ xs)) 3 2 m p (omega arith) refl s)

  faults_kind : (k : ℕ) → Faults k
  faults_kind k f =
      ⊎_elim
      (λ x.
      ⊎_elim
      (λ y. ⊎_elim (λ e. subst Faults (sym e) faults_open f) (λ e. misplaced k xs f (rw e)) y)
      (λ e. misplaced k xs f (rw e))
      x)
      (λ e. misplaced k xs f (rw e))
      (kinds k f.kind)

pub stops_few : (input : List ℕ) (m p : ℕ) → length input ≤ 4096 → (read_from 2049 input 0 1 false).stop ≡ fault m p → (21 ≤ m) × (m ≤ 24)
stops_few [] m p few s = absurd (no_fault (sym (ap (λ (r : Reading). r.stop) (read_end 2048 [] 0 1 false refl)) ∙ s))
stops_few (k ∷ xs) m p few s = go (fault_at (k ∷ xs) 1 false) refl
  where
    go : (n : ℕ) → fault_at (k ∷ xs) 1 false ≡ n → (21 ≤ m) × (m ≤ 24)
    go zero e =
        faults_kind xs few m p k (faultless (k ∷ xs) 1 false e)
        (sym (ap (λ (r : Reading). r.stop) (read_on 2048 (k ∷ xs) 0 1 false (omega arith) e)) ∙ s)
    go (suc n) e =
        let some : fault_at (k ∷ xs) 1 false ≡ 0 → ⊥ = λ z. omega arith in
        let q = same_fault (sym (ap (λ (r : Reading). r.stop) (read_fault 2048 (k ∷ xs) 0 1 false (omega arith) some)) ∙ s) in
        ⊎_elim (λ h. (omega (arith, h.0, q), omega (arith, h.1, q))) (λ h. absurd (omega (arith, h)))
        (fault_numbered (k ∷ xs) 1 false some)
