-- A restart over its real contract (Calls.antt), with any record and lent memories of any length and content: its number, and what each
-- number leaves. That it changes no memory is its type: both are lent to be read alone.
-- Assumes nothing.
use mathlib.Core.Path.{◌≡◌, ◌∙◌, refl, ap, subst, sym}
use mathlib.Core.Bool.{Bool, true, false}
use mathlib.Core.List.{List}
use mathlib.Core.Logic.{◌⊎◌, inl, inr}
use Prim.Native.Nat.{ℕ}
use native.Mathlib.Nat.{suc-ne-zero}
use lib.Dec.{eqb}
use lib.ListN.{length}
use borrow.Author.Tests.{eqb-true, eqb-false}
use Rattle.node_rules.specs.declared.Pin.{Pin}
use Rattle.node_rules.specs.declared.Choices.{Choices}
use Rattle.node_rules.specs.declared.Node.{Node}
use Rattle.node_rules.specs.Numbered.{Restarted}
use Rattle.node_rules.specs.Record.{plain, tidied}
use Rattle.node_rules.specs.Restart.{mode_reached, restarted_in, restart_step}
use Rattle.node_rules.proofs.Ruling.{sizes_full}
use Rattle.node_rules.proofs.Restarting.{restart_refused}
use Rattle.node.proofs.Calls.{restart_said, restart_with_said}
use Rattle.node.specs.Calls.{Restart, RestartWith}

-- ---- the two cases of the rule

module _ (n : Node) (choices : Choices) (passed : Bool) (flash eeprom : List ℕ) where
  -- what stands after 0, and after 1
  abbrev when_done : Restarted
  when_done = record { number = 0; node = restarted_in (mode_reached passed flash eeprom) n choices eeprom }

  abbrev when_refused : Restarted
  when_refused = record { number = 1; node = tidied n }

  -- both memories of their lengths: 0; else 1
  abbrev Cases : Restarted → Type 0
  Cases r =
      ((r ≡ when_done) × (length flash ≡ 65536) × (length eeprom ≡ 1024))
      ⊎ ((r ≡ when_refused) × ((length flash ≡ 65536 → ⊥) ⊎ (length eeprom ≡ 1024 → ⊥)))

  restart_cases : Cases (restart_step n choices passed flash eeprom)
  unfolding restart_step
  restart_cases = go (eqb (length flash) 65536) refl (eqb (length eeprom) 1024) refl
    where
      refused : (length flash ≡ 65536 → ⊥) ⊎ (length eeprom ≡ 1024 → ⊥) → Cases (restart_step n choices passed flash eeprom)
      refused o = inr (restart_refused n choices passed flash eeprom o, o)

      go : (b : Bool) → eqb (length flash) 65536 ≡ b → (c : Bool) → eqb (length eeprom) 1024 ≡ c
          → Cases (restart_step n choices passed flash eeprom)
      go true p true q =
          let fl = eqb-true (length flash) 65536 p in
          let el = eqb-true (length eeprom) 1024 q in
          inl (rw (sizes_full flash eeprom fl el) refl, fl, el)
      go true p false q = refused (inr (eqb-false (length eeprom) 1024 q))
      go false p c q = refused (inl (eqb-false (length flash) 65536 p))

  -- the number alone
  abbrev RestartNumber : Restarted → Type 0
  RestartNumber r =
      ((r.number ≡ 0) × (length flash ≡ 65536) × (length eeprom ≡ 1024))
      ⊎ ((r.number ≡ 1) × ((length flash ≡ 65536 → ⊥) ⊎ (length eeprom ≡ 1024 → ⊥)))

  number_in : (r : Restarted) → Cases r → RestartNumber r
  number_in r (inl p) = inl (ap (λ (x : Restarted). x.number) p.0, p.1, p.2)
  number_in r (inr p) = inr (ap (λ (x : Restarted). x.number) p.0, p.1)

  -- 0: both memories have their lengths
  pub done_lengths : (r : Restarted) → RestartNumber r → r.number ≡ 0 → (length flash ≡ 65536) × (length eeprom ≡ 1024)
  done_lengths r (inl p) z = (p.1, p.2)
  done_lengths r (inr p) z = absurd (suc-ne-zero 0 (sym p.0 ∙ z))

  done_in : (r : Restarted) → Cases r → r.number ≡ 0 → r ≡ when_done
  done_in r (inl p) z = p.0
  done_in r (inr p) z = absurd (suc-ne-zero 0 (sym (ap (λ (x : Restarted). x.number) p.0) ∙ z))

  refused_in : (r : Restarted) → Cases r → (r.number ≡ 0 → ⊥) → r ≡ when_refused
  refused_in r (inl p) h = absurd (h (ap (λ (x : Restarted). x.number) p.0))
  refused_in r (inr p) h = p.0

-- ---- a call of restart_with

module _ {n : Node} {choices : Choices} {passed : Bool} {flash eeprom : List ℕ} {r : Restarted}
    (c : RestartWith n choices passed flash eeprom r) where
  cases_with : Cases n choices passed flash eeprom r
  cases_with = subst (Cases n choices passed flash eeprom) (sym (restart_with_said c)) (restart_cases n choices passed flash eeprom)

  -- 0 where both memories have their lengths, 1 where one hasn't, and no other number
  pub restart_with_number : ((r.number ≡ 0) × (length flash ≡ 65536) × (length eeprom ≡ 1024))
      ⊎ ((r.number ≡ 1) × ((length flash ≡ 65536 → ⊥) ⊎ (length eeprom ≡ 1024 → ⊥)))
  restart_with_number = number_in n choices passed flash eeprom r cases_with

  -- 0: the restarted node
  pub restart_with_done : r.number ≡ 0
      → r ≡ record { number = 0; node = restarted_in (mode_reached passed flash eeprom) n choices eeprom }
  restart_with_done = done_in n choices passed flash eeprom r cases_with

  -- a number but 0: it is 1, and leaves the tidied record; nothing that was chosen is taken
  pub restart_with_refused : (r.number ≡ 0 → ⊥) → r ≡ record { number = 1; node = tidied n }
  restart_with_refused = refused_in n choices passed flash eeprom r cases_with

-- ---- a call of restart: the same, with what a plain restart chooses

module _ {n : Node} {pin : Pin} {passed : Bool} {flash eeprom : List ℕ} {r : Restarted} (c : Restart n pin passed flash eeprom r) where
  cases : Cases n (plain pin) passed flash eeprom r
  cases = subst (Cases n (plain pin) passed flash eeprom) (sym (restart_said c)) (restart_cases n (plain pin) passed flash eeprom)

  pub plain_restart_number : ((r.number ≡ 0) × (length flash ≡ 65536) × (length eeprom ≡ 1024))
      ⊎ ((r.number ≡ 1) × ((length flash ≡ 65536 → ⊥) ⊎ (length eeprom ≡ 1024 → ⊥)))
  plain_restart_number = number_in n (plain pin) passed flash eeprom r cases

  pub plain_restart_done : r.number ≡ 0
      → r ≡ record { number = 0; node = restarted_in (mode_reached passed flash eeprom) n (plain pin) eeprom }
  plain_restart_done = done_in n (plain pin) passed flash eeprom r cases

  pub plain_restart_refused : (r.number ≡ 0 → ⊥) → r ≡ record { number = 1; node = tidied n }
  plain_restart_refused = refused_in n (plain pin) passed flash eeprom r cases
