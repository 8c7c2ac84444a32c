-- What a call returns is tidy. Why it holds: a frame stages only what the address rule lets it, every other mode is tidy by itself, and
-- what is held after a byte may be held.
-- Assumes nothing.
use Rattle.std.specs.Prelude.{Option, Some, None}
use mathlib.Core.Path.{◌≡◌, ◌∙◌, refl, sym, ap, subst}
use mathlib.Core.Bool.{Bool, true, false, ◌&&◌, cond, false≢true}
use mathlib.Core.List.{List, [], ◌∷◌}
use mathlib.Core.Logic.{◌⊎◌, inl, inr}
use Prim.Native.Nat.{ℕ, ◌≤◌}
use native.Mathlib.Omega.{arith}
use lib.Dec.{eqb, leb}
use lib.ListN.{length, get_or, take, length-take}
use borrow.Author.Tests.{eqb-true, ltb-true, not-true}
use Rattle.base.proofs.Choice.{by_cond}
use Rattle.memory_address.specs.Places.{full}
use Rattle.memory_address.specs.Rule.{ruled, is_flash, is_eeprom, is_legal, legal_flash, legal_eeprom, cells_of}
use Rattle.memory_address.specs.declared.FlashAddress.{FlashAddress}
use Rattle.memory_address.specs.declared.EepromPlace.{EepromPlace}
use Rattle.memory_address.specs.declared.Address.TheVariants.{Flash, Eeprom}
use Rattle.memory_address.proofs.Laws.{Within, ruled_within, legal_command, no_eeprom_erase}
use Rattle.memory_start.specs.Start.{starts}
use Rattle.frame_rules.specs.Frame.{type_of}
use Rattle.frame_rules.specs.Wrapping.{inner_of, rightly_wrapped}
use Rattle.node_rules.specs.declared.Staged.{Staged}
use Rattle.node_rules.specs.declared.Staged.TheVariants.{Nothing, Read, Write, Erase}
use Rattle.node_rules.specs.declared.Mode.{Mode}
use Rattle.node_rules.specs.declared.Mode.TheVariants.{Normal, Programming, Error, Waiting}
use Rattle.node_rules.specs.declared.Request.{Request}
use Rattle.node_rules.specs.declared.Request.TheVariants.{EnterProgramming, WaitForRestart, HardwareType, FirmwareType, Description, DeviceId, LeaveProgramming, AddressFrame, DataFrame}
use Rattle.node_rules.specs.declared.Noise.{Noise}
use Rattle.node_rules.specs.declared.Noise.TheVariants.{KeepFromNext, DropAll}
use Rattle.node_rules.specs.declared.Choices.{Choices}
use Rattle.node_rules.specs.declared.Node.{Node}
use Rattle.node_rules.specs.Numbered.{Restarted, Effect}
use Rattle.node_rules.specs.declared.Next.{Next}
use Rattle.node_rules.specs.declared.Next.TheVariants.{Stays, Programs, Waits}
use Rattle.node_rules.specs.Record.{holding, held_in, held_of, legal_staged, tidy_mode, tidied, fresh_node, Holdable}
use Rattle.node_rules.specs.Requests.{found, D, address_in, command_at, staged_by, staged_in, doing, asked, asked_by}
use Rattle.node_rules.specs.Outcomes.{Outcome, refused, frame_outcomes, can_outcomes, unless, asked_of, decided}
use Rattle.node_rules.specs.Step.{node_after, done, can_step}
use Rattle.node_rules.specs.Restart.{mode_reached, restarted_in, restart_step}
use Rattle.node_rules.specs.Uart.{held_with, incomplete, held_outcomes, from_start, kept_by, held_after_bad, held_after, held_decided, uart_step}
use Rattle.node_rules.proofs.Tidying.{held_holdable, holding_tidy, tidy_twice, tidied_mode, mode_tidy}
use Rattle.node_rules.proofs.Deciding.{unless_every, unless_by, among_cases, frame_among, asked_of_zero}
use Rattle.memory_address.specs.declared.Address.{Address}
use Rattle.node_rules.specs.declared.Kind.{Kind}

-- ---- what a frame stages is legal

flash_staged : (c : ℕ) (f : FlashAddress) → (c ≡ 0x01) ⊎ ((c ≡ 0x02) ⊎ (c ≡ 0x03)) → legal_flash f.0 c ≡ true
    → legal_staged (command_at c (Flash f)) ≡ true
flash_staged c f (inl e) = subst (λ (k : ℕ). legal_flash f.0 k ≡ true → legal_staged (command_at k (Flash f)) ≡ true) (sym e) (λ h. h)
flash_staged c f (inr (inl e)) = subst (λ (k : ℕ). legal_flash f.0 k ≡ true → legal_staged (command_at k (Flash f)) ≡ true) (sym e) (λ h. h)
flash_staged c f (inr (inr e)) = subst (λ (k : ℕ). legal_flash f.0 k ≡ true → legal_staged (command_at k (Flash f)) ≡ true) (sym e) (λ h. h)

eeprom_staged : (c : ℕ) (p : EepromPlace) → (c ≡ 0x01) ⊎ ((c ≡ 0x02) ⊎ (c ≡ 0x03)) → legal_eeprom p.0 c ≡ true
    → legal_staged (command_at c (Eeprom p)) ≡ true
eeprom_staged c p (inl e) = subst (λ (k : ℕ). legal_eeprom p.0 k ≡ true → legal_staged (command_at k (Eeprom p)) ≡ true) (sym e) (λ h. h)
eeprom_staged c p (inr (inl e)) =
    subst (λ (k : ℕ). legal_eeprom p.0 k ≡ true → legal_staged (command_at k (Eeprom p)) ≡ true) (sym e) (λ h. h)
eeprom_staged c p (inr (inr e)) =
    λ h. absurd (false≢true (sym (no_eeprom_erase p.0) ∙ subst (λ (k : ℕ). legal_eeprom p.0 k ≡ true) e h))

staged_legal : (a c : ℕ) → legal_staged (staged_by c (ruled a c)) ≡ true
staged_legal a c = go (ruled a c) refl (ruled_within a c)
  where
    go : (r : Option Address) → ruled a c ≡ r → Within (cells_of c) a r → legal_staged (staged_by c r) ≡ true
    go (Some (Flash f)) e w =
        flash_staged c f (legal_command a c (ap is_legal e)) (subst (λ (x : ℕ). legal_flash x c ≡ true) (sym w.0) (ap is_flash e))
    go (Some (Eeprom p)) e w =
        eeprom_staged c p (legal_command a c (ap is_legal e)) (subst (λ (x : ℕ). legal_eeprom x c ≡ true) (sym w.0) (ap is_eeprom e))
    go None e w = refl

-- what becomes of the mode stages nothing that isn't legal
abbrev StagesLegal : Next → Type 0
StagesLegal Stays = Unit {0}
StagesLegal (Programs s) = legal_staged s ≡ true
StagesLegal Waits = Unit {0}

abbrev Legally : Effect → Type 0
Legally e = StagesLegal e.next

doing_legally : (s : Staged) → Legally (doing s)
doing_legally Nothing = tt
doing_legally (Read a) = tt
doing_legally (Write a) = tt
doing_legally (Erase a) = tt

asked_legally : (r : Request) (m : Mode) (f : List ℕ) → Legally (asked r m f)
asked_legally EnterProgramming m f = refl
asked_legally WaitForRestart m f = tt
asked_legally HardwareType m f = tt
asked_legally FirmwareType m f = tt
asked_legally Description m f = tt
asked_legally DeviceId m f = tt
asked_legally LeaveProgramming m f = tt
asked_legally AddressFrame m f = staged_legal (address_in f) (D 5 f)
asked_legally DataFrame m f = doing_legally (staged_in m)

by_type_legally : (k : Option Kind) (m : Mode) (f : List ℕ) → Legally (asked_by k m f)
by_type_legally None m f = tt
by_type_legally (Some k) m f = asked_legally k.request m f

refused_legally : (number : ℕ) → Legally (refused number)
refused_legally number = by_cond StagesLegal (eqb number 8) (Programs Nothing) Stays (λ _. refl) (λ _. tt)

decided_legally : (os : List Outcome) (n : Node) (f : List ℕ) → Legally (unless os (asked_of n f))
decided_legally os n f = unless_every Legally os (asked_of n f) refused_legally (by_type_legally (found (type_of f)) n.mode f)

after_tidy : (x : Next) (n : Node) → tidied n ≡ n → StagesLegal x → tidied (node_after x n) ≡ node_after x n
after_tidy Stays n e l = e
after_tidy (Programs s) n e l = mode_tidy n e (Programming s) (rw l refl)
after_tidy Waits n e l = mode_tidy n e Waiting refl

-- ---- a CAN frame

pub can_tidy : (n : Node) (f flash eeprom : List ℕ)
    → tidied (can_step n f flash eeprom).answer.node ≡ (can_step n f flash eeprom).answer.node
unfolding can_step done decided
can_tidy n f flash eeprom =
    after_tidy (decided (tidied n) (full flash eeprom) f).next (tidied n) (tidy_twice n)
    (decided_legally (can_outcomes (tidied n) (full flash eeprom) f) (tidied n) f)

-- ---- a UART byte: what is held afterwards may be held

pub with_holdable : (xs : List ℕ) (b : ℕ) → Holdable xs → incomplete (held_with xs b) ≡ true → Holdable (held_with xs b)
with_holdable [] b h e = go (eqb b 0xAA) refl
  where
    go : (t : Bool) → eqb b 0xAA ≡ t → Holdable (cond t (b ∷ []) [])
    go true q = (eqb-true b 0xAA q, omega arith)
    go false q = tt
with_holdable (x ∷ xs) b h e = (h.0, omega (arith, ltb-true (length (held_with (x ∷ xs) b)) 15 e))

-- at most 14 bytes from the first 0xAA among them on may be held
start_holdable : (bs : List ℕ) → length bs ≤ 14 → Holdable (from_start bs)
start_holdable [] l = tt
start_holdable (b ∷ bs) l =
    by_cond Holdable (eqb b 0xAA) (b ∷ bs) (from_start bs) (λ e. (eqb-true b 0xAA e, omega arith)) (λ _. start_holdable bs (omega arith))

fourteen_taken : (xs : List ℕ) → length (take 14 xs) ≤ 14
fourteen_taken xs = omega (arith, length-take 14 xs)

kept_holdable : (way : Noise) (fifteen : List ℕ) → Holdable (kept_by way fifteen)
kept_holdable KeepFromNext fifteen = search (start_holdable, fourteen_taken)
kept_holdable DropAll fifteen = search (start_holdable, fourteen_taken)

-- THE LAW of what stays held after 11, in each way: it may be held
pub bad_holdable : (c : Choices) (fifteen : List ℕ) → Holdable (held_after_bad c fifteen)
unfolding held_after_bad
bad_holdable c fifteen = kept_holdable c.noise fifteen

-- 10 comes only where the frame is incomplete, and 11 only where it is complete and not right
abbrev SaysHeld : List ℕ → ℕ → Type 0
SaysHeld xs number =
    (number ≡ 10 → incomplete xs ≡ true) × (number ≡ 11 → (incomplete xs ≡ false) × (rightly_wrapped xs ≡ false))

10_not_11 : ◌≡◌ {A = ℕ} 10 11 → ⊥
10_not_11 e = omega arith

says_held : (n : Node) (full : Bool) (xs : List ℕ) → SaysHeld xs (held_decided n full xs).number
says_held n full xs =
    let Q : ℕ → Type 0 = SaysHeld xs in
    let other : (number : ℕ) → (number ≡ 10 → ⊥) → (number ≡ 11 → ⊥) → Q number = λ number m k. (λ e. absurd (m e), λ e. absurd (k e)) in
    unless_by (λ (e : Effect). Q e.number) (held_outcomes n full xs) (asked_of n (inner_of xs)) (
      λ _. other 1 (λ e. omega arith) (λ e. omega arith),
      λ _. (
        λ _. other 2 (λ e. omega arith) (λ e. omega arith),
        λ _. (
          λ _. other 3 (λ e. omega arith) (λ e. omega arith),
          λ _. (
            λ i. (λ _. i, λ e. absurd (10_not_11 e)),
            λ i. (
              λ w. (λ e. absurd (10_not_11 (sym e)), λ _. (i, not-true (rightly_wrapped xs) w)),
              λ _. among_cases Q (frame_outcomes n (inner_of xs)) (asked_of n (inner_of xs))
                  (frame_among Q n (inner_of xs) (other 4 (λ e. omega arith) (λ e. omega arith)) (other 5 (λ e. omega arith) (λ e. omega arith))
                  (other 6 (λ e. omega arith) (λ e. omega arith)) (other 7 (λ e. omega arith) (λ e. omega arith))
                  (other 8 (λ e. omega arith) (λ e. omega arith)) (other 9 (λ e. omega arith) (λ e. omega arith)))
                  (asked_of_zero n (inner_of xs)) (other 0 (λ e. omega arith) (λ e. omega arith)),
            ),
          ),
        ),
      ),
    )

pub only_ten : (n : Node) (full : Bool) (xs : List ℕ) → (held_decided n full xs).number ≡ 10 → incomplete xs ≡ true
only_ten n full xs = (says_held n full xs).0

pub only_eleven : (n : Node) (full : Bool) (xs : List ℕ) → (held_decided n full xs).number ≡ 11
    → (incomplete xs ≡ false) × (rightly_wrapped xs ≡ false)
only_eleven n full xs = (says_held n full xs).1

-- whatever the number, where 10 comes only with a frame that is incomplete
after_holdable : (number : ℕ) (n : Node) (xs : List ℕ) → (number ≡ 10 → Holdable xs) → Holdable (held_after number n xs)
after_holdable number n xs h =
    by_cond Holdable (leb 1 number && leb number 3) _ _ (λ _. held_holdable n.receiver)
    (λ _. by_cond Holdable (eqb number 10) _ _ (λ e. h (eqb-true number 10 e))
    (λ _. by_cond Holdable (eqb number 11) _ _ (λ _. bad_holdable n.choices xs) (λ _. tt)))

pub uart_tidy : (n : Node) (b : ℕ) (flash eeprom : List ℕ)
    → tidied (uart_step n b flash eeprom).answer.node ≡ (uart_step n b flash eeprom).answer.node
unfolding uart_step done
uart_tidy n b flash eeprom =
    let t = tidied n in
    let xs = held_with (held_of t) b in
    let e = held_decided t (full flash eeprom) xs in
    after_tidy e.next (holding t (held_after e.number t xs))
    (holding_tidy t (held_after e.number t xs) (after_holdable e.number t xs (λ z. with_holdable (held_of t) b (held_holdable
    t.receiver) (only_ten t (full flash eeprom) xs z))) (tidied_mode n))
    (decided_legally (held_outcomes t (full flash eeprom) xs) t (inner_of xs))

-- ---- restart and a fresh node

reached_tidy : (passed : Bool) (flash eeprom : List ℕ) → tidy_mode (mode_reached passed flash eeprom) ≡ mode_reached passed flash eeprom
reached_tidy passed flash eeprom =
    by_cond (λ (m : Mode). tidy_mode m ≡ m) passed _ Error
    (λ _. by_cond (λ (m : Mode). tidy_mode m ≡ m) (eqb (get_or eeprom 0 0) 0xFF) (Programming Nothing) (Normal (starts flash)) (λ _. refl)
    (λ _. refl))
    (λ _. refl)

pub restart_tidy : (n : Node) (c : Choices) (passed : Bool) (flash eeprom : List ℕ)
    → tidied (restart_step n c passed flash eeprom).node ≡ (restart_step n c passed flash eeprom).node
unfolding restart_step
restart_tidy n c passed flash eeprom =
    let after = restarted_in (mode_reached passed flash eeprom) n c eeprom in
    by_cond (λ (r : Restarted). tidied r.node ≡ r.node) (full flash eeprom) (record { number = 0; node = after })
    (record { number = 1; node = tidied n }) (λ _. holding_tidy after [] tt (reached_tidy passed flash eeprom)) (λ _. tidy_twice n)

pub fresh_tidy : (six : List ℕ) → tidied (fresh_node six) ≡ fresh_node six
unfolding tidied held_in fresh_node
fresh_tidy six = refl
