-- Restart, one theorem a line of its rule: what it leaves in each case, and when firmware is marked started, both ways.
-- Assumes nothing.
use mathlib.Core.Path.{◌≡◌, ◌∙◌, refl, sym, ap}
use mathlib.Core.Bool.{Bool, true, false, cond}
use mathlib.Core.List.{List}
use mathlib.Core.Logic.{◌⊎◌, inl, inr}
use Prim.Native.Nat.{ℕ}
use lib.Dec.{eqb}
use lib.ListN.{length, get_or, replicate}
use native.Mathlib.Omega.{arith}
use borrow.Author.Tests.{eq-eqb, ne_eqb, eqb-false}
use Rattle.memory_address.specs.Ranges.{Exactly}
use Rattle.memory_start.specs.Start.{starts}
use Rattle.memory_start.specs.Plain.{Starts}
use Rattle.memory_start.proofs.Laws.{starts_if, starts_only_if}
use Rattle.node_rules.specs.declared.Choices.{Choices}
use Rattle.node_rules.specs.declared.Staged.TheVariants.{Nothing}
use Rattle.node_rules.specs.declared.Mode.TheVariants.{Normal, Programming, Error}
use Rattle.node_rules.specs.declared.Node.{Node}
use Rattle.node_rules.specs.Numbered.{Restarted}
use Rattle.node_rules.specs.Record.{tidied}
use Rattle.node_rules.specs.Restart.{restarted_in, restart_step}
use Rattle.node_rules.proofs.Ruling.{sizes_full}
use Rattle.node_rules.proofs.RequestTable.{and_false}

-- "FLASH not 65,536 or EEPROM not 1,024 bytes": 1 and "all unchanged", so nothing that was chosen is taken
pub restart_refused : (n : Node) (choices : Choices) (passed : Bool) (flash eeprom : List ℕ)
    → (length flash ≡ 65536 → ⊥) ⊎ (length eeprom ≡ 1024 → ⊥)
    → restart_step n choices passed flash eeprom ≡ record { number = 1; node = tidied n }
unfolding restart_step
restart_refused n choices passed flash eeprom (inl m) = rw (ne_eqb (length flash) 65536 m) refl
restart_refused n choices passed flash eeprom (inr m) =
    rw (ne_eqb (length eeprom) 1024 m, and_false (eqb (length flash) 65536)) refl

-- firmware doesn't start where not both conditions are met
none_starts : (flash : List ℕ) → (Starts flash → ⊥) → starts flash ≡ false
none_starts flash m = go (starts flash) refl
  where
    go : (b : Bool) → starts flash ≡ b → b ≡ false
    go true e = absurd (m (starts_only_if flash e).1)
    go false e = refl

module _ (n : Node) (choices : Choices) (flash eeprom : List ℕ) (fl : length flash ≡ 65536) (el : length eeprom ≡ 1024) where
  -- normal mode, marked or not
  abbrev normal : Bool → Restarted
  normal b = record { number = 0; node = restarted_in (Normal b) n choices eeprom }

  -- "Failed self-test: error mode."
  pub restart_failed : restart_step n choices false flash eeprom ≡ record { number = 0; node = restarted_in Error n choices eeprom }
  unfolding restart_step
  restart_failed = rw (sizes_full flash eeprom fl el) refl

  -- "Else BOOTFL 0xFF: programming, nothing staged."
  pub restart_programming : get_or eeprom 0 0 ≡ 0xFF
      → restart_step n choices true flash eeprom ≡ record { number = 0; node = restarted_in (Programming Nothing) n choices eeprom }
  unfolding restart_step
  restart_programming e = rw (sizes_full flash eeprom fl el, eq-eqb (get_or eeprom 0 0) 0xFF e) refl

  pub restart_normal : (get_or eeprom 0 0 ≡ 0xFF → ⊥)
      → restart_step n choices true flash eeprom ≡ record { number = 0; node = restarted_in (Normal (starts flash)) n choices eeprom }
  unfolding restart_step
  restart_normal m = rw (sizes_full flash eeprom fl el, ne_eqb (get_or eeprom 0 0) 0xFF m) refl

  -- "Else normal", and "firmware now starts exactly if the sums are equal and cells 0x001010 to 0x001012 are 30 00 03."
  pub restart_started : (get_or eeprom 0 0 ≡ 0xFF → ⊥) → Starts flash
      → restart_step n choices true flash eeprom ≡ record { number = 0; node = restarted_in (Normal true) n choices eeprom }
  restart_started m e = restart_normal m ∙ ap normal (starts_if flash fl e)

  pub restart_not_started : (get_or eeprom 0 0 ≡ 0xFF → ⊥) → (Starts flash → ⊥)
      → restart_step n choices true flash eeprom ≡ record { number = 0; node = restarted_in (Normal false) n choices eeprom }
  restart_not_started m d = restart_normal m ∙ ap normal (none_starts flash d)

  -- own numbers, held bytes, what was chosen and the six bytes of the plate do not hang on the verdict
  pub restart_copies : (passed : Bool)
      → ((restart_step n choices passed flash eeprom).number ≡ 0)
      × ((restart_step n choices passed flash eeprom).node.plate.own.0 ≡ get_or eeprom 0x26 0)
      × ((restart_step n choices passed flash eeprom).node.plate.group.0 ≡ get_or eeprom 0x27 0)
      × ((restart_step n choices passed flash eeprom).node.plate.fixed ≡ n.plate.fixed)
      × ((restart_step n choices passed flash eeprom).node.receiver.held ≡ replicate 15 0)
      × ((restart_step n choices passed flash eeprom).node.receiver.count ≡ 0)
      × ((restart_step n choices passed flash eeprom).node.choices ≡ choices)
  unfolding restart_step
  restart_copies passed = rw (sizes_full flash eeprom fl el) (refl, refl, refl, refl, refl, refl, refl)

  -- a restart that reaches normal mode: what it was handed, and what it says of the mark
  reached : (passed b : Bool) → (restart_step n choices passed flash eeprom).node.mode ≡ Normal b
      → (passed ≡ true) × (get_or eeprom 0 0 ≡ 0xFF → ⊥)
  unfolding restart_step
  reached passed b = rw (sizes_full flash eeprom fl el) (go passed (eqb (get_or eeprom 0 0) 0xFF) refl)
    where
      go : (p t : Bool) → eqb (get_or eeprom 0 0) 0xFF ≡ t → cond p (cond t (Programming Nothing) (Normal (starts flash))) Error ≡ Normal b
          → (p ≡ true) × (get_or eeprom 0 0 ≡ 0xFF → ⊥)
      go true true t e = absurd (let z : ◌≡◌ {A = ℕ} 0 1 = cc in omega arith)
      go true false t e = (refl, eqb-false (get_or eeprom 0 0) 0xFF t)
      go false t h e = absurd (let z : ◌≡◌ {A = ℕ} 0 1 = cc in omega arith)

  marked : (passed b : Bool) → (restart_step n choices passed flash eeprom).node.mode ≡ Normal b → b ≡ starts flash
  unfolding restart_step
  marked passed b = rw (sizes_full flash eeprom fl el) (go passed (eqb (get_or eeprom 0 0) 0xFF))
    where
      go : (p t : Bool) → cond p (cond t (Programming Nothing) (Normal (starts flash))) Error ≡ Normal b → b ≡ starts flash
      go true true e = cc
      go true false e = cc
      go false t e = cc

  -- a restart that reaches normal mode marks firmware started exactly if the sums agree and the three cells do: both ways
  pub marked_if : (passed b : Bool) → (restart_step n choices passed flash eeprom).node.mode ≡ Normal b → Starts flash → b ≡ true
  marked_if passed b e s = marked passed b e ∙ starts_if flash fl s

  pub marked_only_if : (passed : Bool) → (restart_step n choices passed flash eeprom).node.mode ≡ Normal true → Starts flash
  marked_only_if passed e = (starts_only_if flash (sym (marked passed true e))).1

  -- with what it takes to reach normal mode: the self-test passed, and BOOTFL is not 0xFF
  pub started_exactly : (passed : Bool)
      → Exactly ((restart_step n choices passed flash eeprom).node.mode ≡ Normal true)
      ((passed ≡ true) × (get_or eeprom 0 0 ≡ 0xFF → ⊥) × Starts flash)
  started_exactly passed = (
    λ e. ((reached passed true e).0, (reached passed true e).1, marked_only_if passed e),
    λ h. rw h.0 (ap (λ (r : Restarted). r.node.mode) (restart_started h.1 h.2)),
  )
