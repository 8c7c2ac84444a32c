-- What document 01 says of a fresh node, of an illegal staged command, of refusals and of two replies on UART, each in its own words and
-- numbers. The examples (specs/Examples.antt) hold by computing.
-- Assumes nothing.
use mathlib.Core.Path.{◌≡◌, ◌∙◌, refl, ap}
use mathlib.Core.Bool.{Bool, true, false}
use mathlib.Core.List.{List, [], ◌∷◌}
use Prim.Native.Nat.{ℕ}
use lib.ListN.{replicate}
use Rattle.memory_address.specs.declared.Address.TheVariants.{Flash, Eeprom}
use Rattle.memory_address.specs.Places.{blank_flash}
use Rattle.memory_address.specs.Rule.{ruled, legal_flash, legal_eeprom, in_flash, in_eeprom}
use Rattle.memory_address.proofs.Laws.{flash_ruled, eeprom_ruled}
use Rattle.memory_address.proofs.BothSides.{read_legal, write_legal, erase_legal}
use Rattle.memory_address.specs.Ranges.{Exactly}
use Rattle.frame_rules.specs.Wrapping.{wrapped_of, rightly_wrapped}
use Rattle.node_rules.specs.declared.Pin.{Pin}
use Rattle.node_rules.specs.declared.Pin.TheVariants.{CanOnly, CanAndUart}
use Rattle.node_rules.specs.declared.Staged.{Staged}
use Rattle.node_rules.specs.declared.Staged.TheVariants.{Nothing, Read, Write, Erase}
use Rattle.node_rules.specs.declared.Mode.{Mode}
use Rattle.node_rules.specs.declared.Mode.TheVariants.{Normal, Programming, Waiting}
use Rattle.node_rules.specs.declared.Noise.TheVariants.{KeepFromNext}
use Rattle.node_rules.specs.declared.Node.{Node}
use Rattle.node_rules.specs.Record.{held_in, held_of, legal_staged, tidied, plain, fresh_node}
use Rattle.node_rules.specs.Requests.{handled_types, found}
use Rattle.node_rules.specs.Outcomes.{decided}
use Rattle.node_rules.specs.Step.{done, can_step}
use Rattle.node_rules.specs.Uart.{held_with, held_after_bad, held_decided, held_done, uart_step, silent}
use Rattle.node_rules.specs.Reading.{leaves}
use Rattle.node_rules.specs.Examples.{node050_a, noisy, Row, can_row, uart_row, both_row, noise_row, OnCan, OnUart, RowHolds, AllHold, all_but_stop, asking, refusals, MayBeStaged, described}

-- "A fresh node takes the six bytes, has own numbers 0, no bytes held, pin CAN only, and waits for restart."
pub fresh_says : (six : List ℕ) → ((fresh_node six).plate.fixed ≡ six)
    × ((fresh_node six).plate.own.0 ≡ 0) × ((fresh_node six).plate.group.0 ≡ 0)
    × ((fresh_node six).receiver.count ≡ 0) × ((fresh_node six).receiver.held ≡ replicate 15 0)
    × ((fresh_node six).choices.pin ≡ CanOnly) × ((fresh_node six).choices.noise ≡ KeepFromNext) × ((fresh_node six).mode ≡ Waiting)
unfolding fresh_node
fresh_says six = (refl, refl, refl, refl, refl, refl, refl, refl)

-- a plain restart: this pin, and the new way after noise
pub plain_says : (p : Pin) → ((plain p).pin ≡ p) × ((plain p).noise ≡ KeepFromNext)
plain_says p = (refl, refl)

-- ---- "A staged command that isn't legal counts as none"

is_false : (P : Type 0) (b : Bool) → (b ≡ true → P) → (P → ⊥) → b ≡ false
is_false P true f n = absurd (n (f refl))
is_false P false f n = refl

-- whether a command is legal in a memory, by the law that says exactly where it is
module _ (a command : ℕ) (P : Type 0) where
  flash_says : Exactly (ruled a command ≡ in_flash a) P
      → (P → legal_flash a command ≡ true) × ((P → ⊥) → legal_flash a command ≡ false)
  flash_says x = (λ m. rw (x.1 m) refl, is_false P (legal_flash a command) (λ t. x.0 (flash_ruled a command t)))

  eeprom_says : Exactly (ruled a command ≡ in_eeprom a) P
      → (P → legal_eeprom a command ≡ true) × ((P → ⊥) → legal_eeprom a command ≡ false)
  eeprom_says x = (λ m. rw (x.1 m) refl, is_false P (legal_eeprom a command) (λ t. x.0 (eeprom_ruled a command t)))

staged_says : (s : Staged) → (MayBeStaged s → legal_staged s ≡ true) × ((MayBeStaged s → ⊥) → legal_staged s ≡ false)
staged_says Nothing = (λ _. refl, λ n. absurd (n tt))
staged_says (Read (Flash a)) = flash_says a.0 0x01 _ (read_legal a.0).0
staged_says (Read (Eeprom p)) = eeprom_says p.0 0x01 _ (read_legal p.0).1
staged_says (Write (Flash a)) = flash_says a.0 0x02 _ (write_legal a.0).0
staged_says (Write (Eeprom p)) = eeprom_says p.0 0x02 _ (write_legal p.0).1
staged_says (Erase a) = flash_says a.0 0x03 _ (erase_legal a.0).0

-- an illegal one is none; a legal one stays
pub illegal_is_none : (n : Node) (s : Staged) → n.mode ≡ Programming s → (MayBeStaged s → ⊥) → (tidied n).mode ≡ Programming Nothing
unfolding tidied
illegal_is_none n s e n' = rw e (rw ((staged_says s).1 n') refl)

pub legal_stays : (n : Node) (s : Staged) → n.mode ≡ Programming s → MayBeStaged s → (tidied n).mode ≡ Programming s
unfolding tidied
legal_stays n s e m = rw e (rw ((staged_says s).0 m) refl)

-- ---- the table of refusals (specs/Examples.antt): whether both memories have their size is asked once, and the rest computes

-- what a row says once that is asked
abbrev CanComputes : ℕ → Bool → Mode → List ℕ → Mode → Type 0
CanComputes number sized m f m' = (flash eeprom : List ℕ)
    → let n = tidied (node050_a CanOnly m []) in
    done (decided n sized f) n f flash eeprom ≡ leaves number 0 (replicate 24 0) (node050_a CanOnly m' []) flash eeprom

abbrev UartComputes : ℕ → Bool → Node → ℕ → Node → Type 0
UartComputes number sized m b m' = (flash eeprom : List ℕ)
    → let n = tidied m in
    let with = held_with (held_of n) b in
    held_done (held_decided n sized with) n with flash eeprom ≡ silent number m' flash eeprom

abbrev Computes : Row → Type 0
Computes (can_row number sized m f m') = CanComputes number sized m f m'
Computes (uart_row number sized p m xs b xs') = UartComputes number sized (node050_a p m xs) b (node050_a p m xs')
Computes (both_row number m f m') =
    CanComputes number true m f m' × UartComputes number true (node050_a CanAndUart m (all_but_stop f)) 0xA5 (node050_a CanAndUart m' [])
Computes (noise_row way xs b xs') = UartComputes 11 true (noisy way xs) b (noisy way xs')

abbrev AllCompute : List Row → Type 0
AllCompute [] = Unit {0}
AllCompute (r ∷ rs) = Computes r × AllCompute rs

can_computed : (number : ℕ) (sized : Bool) (m : Mode) (f : List ℕ) (m' : Mode) → CanComputes number sized m f m' → OnCan number sized m f m'
unfolding can_step
can_computed number sized m f m' e flash eeprom h =
    let n = tidied (node050_a CanOnly m []) in
    ap (λ (b : Bool). done (decided n b f) n f flash eeprom) h ∙ e flash eeprom

uart_computed : (number : ℕ) (sized : Bool) (m : Node) (b : ℕ) (m' : Node)
    → UartComputes number sized m b m' → OnUart number sized m b m'
unfolding uart_step
uart_computed number sized m b m' e flash eeprom h =
    let n = tidied m in
    let with = held_with (held_of n) b in
    ap (λ (s : Bool). held_done (held_decided n s with) n with flash eeprom) h ∙ e flash eeprom

row_computed : (r : Row) → Computes r → RowHolds r
row_computed (can_row number sized m f m') e = can_computed number sized m f m' e
row_computed (uart_row number sized p m xs b xs') e = uart_computed number sized (node050_a p m xs) b (node050_a p m xs') e
row_computed (both_row number m f m') e = (
  can_computed number true m f m' e.0,
  uart_computed number true (node050_a CanAndUart m (all_but_stop f)) 0xA5 (node050_a CanAndUart m' []) e.1,
)
row_computed (noise_row way xs b xs') e = uart_computed 11 true (noisy way xs) b (noisy way xs') e

all_computed : (rs : List Row) → AllCompute rs → AllHold rs
all_computed [] e = tt
all_computed (r ∷ rs) e = (row_computed r e.0, all_computed rs e.1)

infixr 4 ◌&◌
◌&◌ : {A B : Type 0} → A → B → A × B
a & b = (a, b)

pub refusals_hold : AllHold refusals
unfolding tidied held_in decided found handled_types done ruled held_after_bad wrapped_of rightly_wrapped
refusals_hold = all_computed refusals (
    (λ _ _. refl) & (λ _ _. refl) & (λ _ _. refl) & (λ _ _. refl) & (λ _ _. refl) & (λ _ _. refl) & (λ _ _. refl) & (λ _ _. refl) &
    (λ _ _. refl, λ _ _. refl) & (λ _ _. refl, λ _ _. refl) & (λ _ _. refl, λ _ _. refl) & (λ _ _. refl, λ _ _. refl) &
    (λ _ _. refl, λ _ _. refl) & (λ _ _. refl, λ _ _. refl) & (λ _ _. refl) & (λ _ _. refl) & (λ _ _. refl) & (λ _ _. refl) &
    (λ _ _. refl) & (λ _ _. refl) & (λ _ _. refl) & (λ _ _. refl) & (λ _ _. refl) & (λ _ _. refl) & (λ _ _. refl) & (λ _ _. refl) &
    (λ _ _. refl) & (λ _ _. refl) & (λ _ _. refl, λ _ _. refl) & (λ _ _. refl) & (λ _ _. refl, λ _ _. refl) &
    (λ _ _. refl, λ _ _. refl) & (λ _ _. refl, λ _ _. refl) & (λ _ _. refl, λ _ _. refl) & (λ _ _. refl, λ _ _. refl) &
    (λ _ _. refl, λ _ _. refl) & (λ _ _. refl, λ _ _. refl) & (λ _ _. refl, λ _ _. refl) & (λ _ _. refl, λ _ _. refl) &
    (λ _ _. refl, λ _ _. refl) & (λ _ _. refl, λ _ _. refl) & (λ _ _. refl, λ _ _. refl) & (λ _ _. refl) & (λ _ _. refl) &
    (λ _ _. refl) & (λ _ _. refl) & (λ _ _. refl) & (λ _ _. refl) & (λ _ _. refl) & (λ _ _. refl) &
    (λ _ _. refl) & (λ _ _. refl) & (λ _ _. refl) & (λ _ _. refl) & (λ _ _. refl) & (λ _ _. refl) & (λ _ _. refl) & (λ _ _. refl) &
    (λ _ _. refl) & (λ _ _. refl) & (λ _ _. refl) & (λ _ _. refl) & (λ _ _. refl, λ _ _. refl) &
    (λ _ _. refl, λ _ _. refl) & (λ _ _. refl, λ _ _. refl) & (λ _ _. refl, λ _ _. refl) & (λ _ _. refl, λ _ _. refl) &
    (λ _ _. refl, λ _ _. refl) & (λ _ _. refl, λ _ _. refl) & (λ _ _. refl, λ _ _. refl) & (λ _ _. refl, λ _ _. refl) &
    (λ _ _. refl, λ _ _. refl) & (λ _ _. refl, λ _ _. refl) & (λ _ _. refl, λ _ _. refl) & tt)

-- ---- "two frames, description 0 to 7 then 8 to 15", "wrapped on UART"

-- the last byte of 0x10D to all, at node 05, 0A: two replies, and nothing else
pub two_on_uart : uart_step (node050_a CanAndUart (Normal true) (all_but_stop (asking 0x10 0xD0 0x00 0x00))) 0xA5 blank_flash described
    ≡ record {
      answer =
          record {
            number = 0;
            count = 2;
            replies =
                0xAA ∷ 0x10 ∷ 0xD1 ∷ 0x05 ∷ 0x0A ∷ 0x41 ∷ 0x42 ∷ 0x43 ∷ 0x44 ∷ 0x45 ∷ 0x46 ∷ 0x47 ∷ 0x48 ∷ 0x14 ∷ 0xA5 ∷
                0xAA ∷ 0x10 ∷ 0xD1 ∷ 0x05 ∷ 0x0A ∷ 0x49 ∷ 0x4A ∷ 0x4B ∷ 0x4C ∷ 0x4D ∷ 0x4E ∷ 0x4F ∷ 0x50 ∷ 0x54 ∷ 0xA5 ∷ [];
            node = node050_a CanAndUart (Normal true) [];
          };
      flash = blank_flash;
      eeprom = described;
    }
unfolding uart_step tidied held_in found handled_types done wrapped_of rightly_wrapped
two_on_uart = refl
