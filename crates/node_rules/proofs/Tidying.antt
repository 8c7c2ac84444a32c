-- Tidying: at most 14 bytes are held, tidying twice is tidying once, and a tidied record holds what it held.
-- Assumes nothing.
use mathlib.Core.Path.{◌≡◌, ◌∙◌, refl, sym, ap}
use mathlib.Core.Bool.{Bool, true, false, cond}
use mathlib.Core.List.{List, [], ◌∷◌, ◌++◌, append_assoc}
use Prim.Native.Nat.{ℕ, zero, suc, ◌-◌, ◌≤◌}
use native.Mathlib.Omega.{arith}
use lib.Dec.{leb, eqb}
use lib.ListN.{length, get_or, take, set, replicate, length-take, length-append}
use lib.Seq.{take_at, set_at}
use borrow.Author.Tests.{leb-true, le-leb, eqb-true, eq-eqb}
use Rattle.base.proofs.Choice.{by_cond, both_true}
use Rattle.node_rules.specs.declared.Staged.{Staged}
use Rattle.node_rules.specs.declared.Staged.TheVariants.{Nothing}
use Rattle.node_rules.specs.declared.Mode.{Mode}
use Rattle.node_rules.specs.declared.Mode.TheVariants.{Normal, Programming, Error, Waiting}
use Rattle.node_rules.specs.declared.Receiver.{Receiver}
use Rattle.node_rules.specs.declared.Node.{Node}
use Rattle.node_rules.specs.Record.{Holdable, padded, receiving, holding, with_mode, may_hold, held_in, held_of, legal_staged, tidy_staged, tidy_mode, tidied}

first_holdable : (h : List ℕ) (count : ℕ) → count ≤ 14 → get_or h 0 0 ≡ 0xAA → Holdable (take count h)
first_holdable h zero l e = tt
first_holdable [] (suc k) l e = tt
first_holdable (x ∷ h) (suc k) l e = (e, omega (arith, length-take k h))

pub held_holdable : (r : Receiver) → Holdable (held_in r)
unfolding held_in
held_holdable r =
    by_cond Holdable (may_hold r) _ _
    (λ t.
    let p = both_true (leb r.count 14) (eqb (get_or r.held 0 0) 0xAA) t in
    first_holdable r.held r.count (leb-true r.count 14 p.0) (eqb-true (get_or r.held 0 0) 0xAA p.1))
    (λ _. tt)

pub holdable_few : (xs : List ℕ) → Holdable xs → length xs ≤ 14
holdable_few [] h = omega arith
holdable_few (x ∷ xs) h = omega (arith, h.1)

-- what holds such bytes holds them
pub held_held : (xs : List ℕ) → Holdable xs → held_in (receiving xs) ≡ xs
unfolding held_in
held_held [] h = refl
held_held (x ∷ xs) h =
    simp (le-leb (length (x ∷ xs)) 14 (holdable_few (x ∷ xs) h), eq-eqb x 0xAA h.0)
    (take_at (x ∷ xs) (replicate (15 - length (x ∷ xs)) 0) (length (x ∷ xs)) refl)

-- one byte more behind those that are held
pub room_behind : (xs : List ℕ) (b : ℕ) → length xs ≤ 14 → set (padded xs) (length xs) b ≡ padded (xs ++ (b ∷ []))
room_behind xs b l =
    let k : 15 - length xs ≡ suc (14 - length xs) = omega arith in
    let j : 15 - length (xs ++ (b ∷ [])) ≡ 14 - length xs = omega (arith, length-append xs (b ∷ [])) in
    ap (λ (m : ℕ). set (xs ++ replicate m 0) (length xs) b) k
    ∙ set_at xs 0 (replicate (14 - length xs) 0) b (length xs) refl
    ∙ sym (append_assoc xs (b ∷ []) (replicate (14 - length xs) 0))
    ∙ ap (λ (m : ℕ). (xs ++ (b ∷ [])) ++ replicate m 0) (sym j)

pub tidy_held : (n : Node) → held_of (tidied n) ≡ held_of n
unfolding tidied
tidy_held n = held_held (held_of n) (held_holdable n.receiver)

-- a tidied record that holds what it holds is as it was
pub still_held : (n : Node) → holding (tidied n) (held_of (tidied n)) ≡ tidied n
unfolding tidied
still_held n = ap (holding (tidied n)) (held_held (held_of n) (held_holdable n.receiver))

-- a tidied mode is tidy
staged_twice : (s : Staged) → tidy_staged (tidy_staged s) ≡ tidy_staged s
staged_twice s = go (legal_staged s) refl
  where
    go : (b : Bool) → legal_staged s ≡ b → tidy_staged (cond b s Nothing) ≡ cond b s Nothing
    go true e = rw e refl
    go false e = refl

pub mode_twice : (m : Mode) → tidy_mode (tidy_mode m) ≡ tidy_mode m
mode_twice (Normal b) = refl
mode_twice (Programming s) = ap Programming (staged_twice s)
mode_twice Error = refl
mode_twice Waiting = refl

pub tidied_mode : (n : Node) → tidy_mode (tidied n).mode ≡ (tidied n).mode
unfolding tidied
tidied_mode n = mode_twice n.mode

-- a record that holds such bytes in a tidy mode is tidy
pub holding_tidy : (n : Node) (xs : List ℕ) → Holdable xs → tidy_mode n.mode ≡ n.mode → tidied (holding n xs) ≡ holding n xs
unfolding tidied
holding_tidy n xs h e = simp (held_held xs h, e)

-- "tidying twice is tidying once"
pub tidy_twice : (n : Node) → tidied (tidied n) ≡ tidied n
unfolding tidied
tidy_twice n = simp (held_held (held_of n) (held_holdable n.receiver), mode_twice n.mode)

-- a tidy record in a tidy mode is tidy
pub mode_tidy : (n : Node) → tidied n ≡ n → (m : Mode) → tidy_mode m ≡ m → tidied (with_mode n m) ≡ with_mode n m
unfolding tidied
mode_tidy n e m t = cc (ap (λ (x : Node). x.receiver) e, t)
