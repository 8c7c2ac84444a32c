-- The laws of the outcome table, of any list of outcomes and any effect behind it: the first that holds gives the number, a number but 0
-- says what is decided, and what is shown of each outcome that can hold, and of the effect where none does, holds of what is decided.
-- Assumes nothing.
use Rattle.std.specs.Prelude.{Option, Some, None}
use mathlib.Core.Path.{◌≡◌, refl, sym, subst}
use mathlib.Core.Bool.{Bool, true, false, cond}
use mathlib.Core.List.{List, [], ◌∷◌}
use Prim.Native.Nat.{ℕ}
use Rattle.base.proofs.Choice.{by_cond}
use Rattle.frame_rules.specs.Frame.{type_of}
use Rattle.node_rules.specs.declared.Staged.{Staged}
use Rattle.node_rules.specs.declared.Staged.TheVariants.{Nothing, Read, Write, Erase}
use Rattle.node_rules.specs.declared.Mode.{Mode}
use Rattle.node_rules.specs.declared.Request.{Request}
use Rattle.node_rules.specs.declared.Request.TheVariants.{EnterProgramming, WaitForRestart, HardwareType, FirmwareType, Description, DeviceId, LeaveProgramming, AddressFrame, DataFrame}
use Rattle.node_rules.specs.declared.Node.{Node}
use Rattle.node_rules.specs.Numbered.{Effect}
use Rattle.node_rules.specs.Requests.{found, staged_in, doing, asked, asked_by}
use Rattle.node_rules.specs.Outcomes.{Outcome, refused, first_that, unless, request_outcomes, type_outcomes, frame_outcomes, asked_of}
use Rattle.node_rules.specs.declared.Kind.{Kind}

-- the number
pub unless_number : (os : List Outcome) (e : Effect) → e.number ≡ 0 → (unless os e).number ≡ first_that os
unless_number [] e z = z
unless_number (o ∷ os) e z = go o.when (unless_number os e z)
  where
    go : (b : Bool) → (unless os e).number ≡ first_that os
        → (cond b (refused o.number) (unless os e)).number ≡ cond b o.number (first_that os)
    go true h = refl
    go false h = h

-- a number but 0 says what is decided
pub unless_refused_lem : (os : List Outcome) (e : Effect) → (first_that os ≡ 0 → ⊥) → unless os e ≡ refused (first_that os)
unless_refused_lem [] e m = absurd (m refl)
unless_refused_lem (o ∷ os) e m = go o.when m (unless_refused_lem os e)
  where
    go : (b : Bool) → (cond b o.number (first_that os) ≡ 0 → ⊥)
        → ((first_that os ≡ 0 → ⊥) → unless os e ≡ refused (first_that os))
        → cond b (refused o.number) (unless os e) ≡ refused (cond b o.number (first_that os))
    go true m h = refl
    go false m h = h m

-- what is to be shown of a list of outcomes and the effect behind it: each outcome may take it that those before it don't hold
abbrev pub Cases : (Effect → Type 0) → List Outcome → Effect → Type 0
Cases P [] e = P e
Cases P (o ∷ os) e = (o.when ≡ true → P (refused o.number)) × (o.when ≡ false → Cases P os e)

pub unless_by : (P : Effect → Type 0) (os : List Outcome) (e : Effect) → Cases P os e → P (unless os e)
unless_by P [] e c = c
unless_by P (o ∷ os) e c =
    by_cond P o.when (refused o.number) (unless os e) c.0 (λ w. unless_by P os e (c.1 w))

-- ---- what is asked has the number 0

doing_zero : (s : Staged) → (doing s).number ≡ 0
doing_zero Nothing = refl
doing_zero (Read a) = refl
doing_zero (Write a) = refl
doing_zero (Erase a) = refl

asked_zero : (r : Request) (m : Mode) (f : List ℕ) → (asked r m f).number ≡ 0
asked_zero EnterProgramming m f = refl
asked_zero WaitForRestart m f = refl
asked_zero HardwareType m f = refl
asked_zero FirmwareType m f = refl
asked_zero Description m f = refl
asked_zero DeviceId m f = refl
asked_zero LeaveProgramming m f = refl
asked_zero AddressFrame m f = refl
asked_zero DataFrame m f = doing_zero (staged_in m)

by_type_zero : (k : Option Kind) (m : Mode) (f : List ℕ) → (asked_by k m f).number ≡ 0
by_type_zero None m f = refl
by_type_zero (Some k) m f = asked_zero k.request m f

pub asked_of_zero : (n : Node) (f : List ℕ) → (asked_of n f).number ≡ 0
asked_of_zero n f = by_type_zero (found (type_of f)) n.mode f

-- what holds of every refusal and of what is asked holds of what is decided
pub unless_every : (P : Effect → Type 0) (os : List Outcome) (e : Effect) → ((number : ℕ) → P (refused number)) → P e → P (unless os e)
unless_every P [] e r a = a
unless_every P (o ∷ os) e r a =
    by_cond P o.when (refused o.number) (unless os e) (λ _. r o.number) (λ _. unless_every P os e r a)

-- ---- which numbers there are

-- what holds of each number of a list of outcomes
abbrev pub Among : (ℕ → Type 0) → List Outcome → Type 0
Among Q [] = Unit {0}
Among Q (o ∷ os) = Q o.number × Among Q os

-- what holds of each number of the list, and of 0, is shown of the number that is decided
pub among_cases : (Q : ℕ → Type 0) (os : List Outcome) (e : Effect) → Among Q os → e.number ≡ 0 → Q 0
    → Cases (λ (x : Effect). Q x.number) os e
among_cases Q [] e a z q = subst Q (sym z) q
among_cases Q (o ∷ os) e a z q = (λ _. a.0, λ _. among_cases Q os e a.1 z q)

request_among : (Q : ℕ → Type 0) (r : Request) (m : Mode) (f : List ℕ) → Q 8 → Q 9 → Among Q (request_outcomes r m f)
request_among Q EnterProgramming m f x y = tt
request_among Q WaitForRestart m f x y = tt
request_among Q HardwareType m f x y = tt
request_among Q FirmwareType m f x y = tt
request_among Q Description m f x y = tt
request_among Q DeviceId m f x y = tt
request_among Q LeaveProgramming m f x y = tt
request_among Q AddressFrame m f x y = (x, tt)
request_among Q DataFrame m f x y = (y, tt)

-- a frame's numbers are 4 to 9
pub frame_among : (Q : ℕ → Type 0) (n : Node) (f : List ℕ) → Q 4 → Q 5 → Q 6 → Q 7 → Q 8 → Q 9 → Among Q (frame_outcomes n f)
frame_among Q n f q4 q5 q6 q7 q8 q9 = (q4, (q5, go (found (type_of f))))
  where
    go : (k : Option Kind) → Among Q (type_outcomes k n f)
    go None = (q6, tt)
    go (Some k) = (q6, (q7, request_among Q k.request n.mode f q8 q9))
