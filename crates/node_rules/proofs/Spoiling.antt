-- What no frame and no byte can spoil, over the definitions. The memories change by memory effects alone, and of any list of them: the
-- protected cells of FLASH stay, and so do both lengths. In normal mode a frame comes to an effect that leaves FLASH, and EEPROM but for
-- BOOTFL, since a data frame finds nothing staged there.
-- Assumes nothing.
use Rattle.std.specs.Prelude.{Option, Some, None}
use mathlib.Core.Path.{◌≡◌, ◌∙◌, refl, sym, ap, subst}
use mathlib.Core.Bool.{Bool, true}
use mathlib.Core.List.{List, [], ◌∷◌}
use Prim.Native.Nat.{ℕ}
use lib.ListN.{length, get_or, length-set}
use lib.Seq.{get_or-set_other}
use Rattle.memory_address.specs.Places.{full, eeprom_cell, bootfl}
use Rattle.memory_address.specs.Rule.{protected}
use Rattle.memory_address.specs.declared.Address.TheVariants.{Flash, Eeprom}
use Rattle.memory_cells.proofs.Laws.{written_length, written_protected, erased_length, erased_protected, eeprom_written_length}
use Rattle.frame_rules.specs.Frame.{type_of}
use Rattle.frame_rules.specs.Wrapping.{inner_of}
use Rattle.node_rules.specs.declared.Mode.{Mode}
use Rattle.node_rules.specs.declared.Mode.TheVariants.{Normal}
use Rattle.node_rules.specs.declared.Request.{Request}
use Rattle.node_rules.specs.declared.Request.TheVariants.{EnterProgramming, WaitForRestart, HardwareType, FirmwareType, Description, DeviceId, LeaveProgramming, AddressFrame, DataFrame}
use Rattle.node_rules.specs.declared.Node.{Node}
use Rattle.node_rules.specs.declared.Memory.{Memory}
use Rattle.node_rules.specs.declared.Memory.TheVariants.{Kept, Bootfl, Written, Erased}
use Rattle.node_rules.specs.Numbered.{Effect}
use Rattle.node_rules.specs.Record.{held_of, tidy_mode, tidied}
use Rattle.node_rules.specs.Requests.{found, data_in, asked, asked_by}
use Rattle.node_rules.specs.Outcomes.{Outcome, can_outcomes, unless, asked_of, decided}
use Rattle.node_rules.specs.Step.{flash_after, eeprom_after, done, can_step}
use Rattle.node_rules.specs.Runs.{flash_after_all, eeprom_after_all}
use Rattle.node_rules.specs.Uart.{held_with, uart_outcomes, held_decided, uart_step}
use Rattle.node_rules.specs.Others.{ButBootfl}
use Rattle.node_rules.proofs.Deciding.{unless_every}
use Rattle.node_rules.specs.declared.Kind.{Kind}

-- ---- one memory effect

flash_spared : (m : Memory) (d flash : List ℕ) (i : ℕ) → protected i ≡ true → get_or (flash_after m d flash) i 0 ≡ get_or flash i 0
flash_spared Kept d flash i p = refl
flash_spared (Bootfl v) d flash i p = refl
flash_spared (Written (Flash a)) d flash i p = written_protected flash a.0 d i p
flash_spared (Written (Eeprom e)) d flash i p = refl
flash_spared (Erased a) d flash i p = erased_protected flash a.0 i p

flash_length_lem : (m : Memory) (d flash : List ℕ) → length (flash_after m d flash) ≡ length flash
flash_length_lem Kept d flash = refl
flash_length_lem (Bootfl v) d flash = refl
flash_length_lem (Written (Flash a)) d flash = written_length flash a.0 d
flash_length_lem (Written (Eeprom e)) d flash = refl
flash_length_lem (Erased a) d flash = erased_length flash a.0

eeprom_length_lem : (m : Memory) (d eeprom : List ℕ) → length (eeprom_after m d eeprom) ≡ length eeprom
eeprom_length_lem Kept d eeprom = refl
eeprom_length_lem (Bootfl v) d eeprom = length-set eeprom (eeprom_cell bootfl) v
eeprom_length_lem (Written (Flash a)) d eeprom = refl
eeprom_length_lem (Written (Eeprom e)) d eeprom = eeprom_written_length eeprom e.0 d
eeprom_length_lem (Erased a) d eeprom = refl

-- ---- THE LAW, of any memory effects one after the other, each with its own data, wherever they point: a write or an erase at an
-- illegal address changes nothing

pub protected_stays : (cs : List (Memory × List ℕ)) (flash : List ℕ) (i : ℕ) → protected i ≡ true
    → get_or (flash_after_all cs flash) i 0 ≡ get_or flash i 0
protected_stays [] flash i p = refl
protected_stays (c ∷ cs) flash i p = protected_stays cs (flash_after c.0 c.1 flash) i p ∙ flash_spared c.0 c.1 flash i p

pub lengths_stay : (cs : List (Memory × List ℕ)) (flash eeprom : List ℕ)
    → (length (flash_after_all cs flash) ≡ length flash) × (length (eeprom_after_all cs eeprom) ≡ length eeprom)
lengths_stay [] flash eeprom = (refl, refl)
lengths_stay (c ∷ cs) flash eeprom =
    let l = lengths_stay cs (flash_after c.0 c.1 flash) (eeprom_after c.0 c.1 eeprom) in
    (l.0 ∙ flash_length_lem c.0 c.1 flash, l.1 ∙ eeprom_length_lem c.0 c.1 eeprom)

-- ---- the two ports: each call does one memory effect

-- the effect of a call, with its data
abbrev on_can : Node → List ℕ → List ℕ → List ℕ → List (Memory × List ℕ)
on_can n f flash eeprom = ((decided (tidied n) (full flash eeprom) f).memory, data_in f) ∷ []

abbrev on_uart_byte : Node → ℕ → List ℕ → List ℕ → List (Memory × List ℕ)
on_uart_byte n b flash eeprom = (
  (held_decided (tidied n) (full flash eeprom) (held_with (held_of (tidied n)) b)).memory,
  data_in (inner_of (held_with (held_of
      (tidied n)) b)),
) ∷ []

pub can_protected : (n : Node) (f flash eeprom : List ℕ) (i : ℕ) → protected i ≡ true
    → get_or (can_step n f flash eeprom).flash i 0 ≡ get_or flash i 0
unfolding can_step done
can_protected n f flash eeprom i p = protected_stays (on_can n f flash eeprom) flash i p

pub uart_protected : (n : Node) (b : ℕ) (flash eeprom : List ℕ) (i : ℕ) → protected i ≡ true
    → get_or (uart_step n b flash eeprom).flash i 0 ≡ get_or flash i 0
unfolding uart_step done
uart_protected n b flash eeprom i p = protected_stays (on_uart_byte n b flash eeprom) flash i p

pub can_lengths : (n : Node) (f flash eeprom : List ℕ)
    → (length (can_step n f flash eeprom).flash ≡ length flash) × (length (can_step n f flash eeprom).eeprom ≡ length eeprom)
unfolding can_step done
can_lengths n f flash eeprom = lengths_stay (on_can n f flash eeprom) flash eeprom

pub uart_lengths : (n : Node) (b : ℕ) (flash eeprom : List ℕ)
    → (length (uart_step n b flash eeprom).flash ≡ length flash) × (length (uart_step n b flash eeprom).eeprom ≡ length eeprom)
unfolding uart_step done
uart_lengths n b flash eeprom = lengths_stay (on_uart_byte n b flash eeprom) flash eeprom

-- ---- in normal mode: FLASH stays, and EEPROM but for BOOTFL

-- a memory effect that leaves FLASH, and EEPROM but for BOOTFL
abbrev OnlyBootfl : Memory → Type 0
OnlyBootfl Kept = Unit {0}
OnlyBootfl (Bootfl v) = Unit {0}
OnlyBootfl (Written a) = ⊥
OnlyBootfl (Erased a) = ⊥

but_bootfl : (m : Memory) (d flash eeprom : List ℕ) → OnlyBootfl m → ButBootfl flash eeprom (flash_after m d flash) (eeprom_after m d eeprom)
but_bootfl Kept d flash eeprom o = (refl, λ i h. refl)
but_bootfl (Bootfl v) d flash eeprom o = (refl, λ i h. get_or-set_other eeprom (eeprom_cell bootfl) i v 0 h)
but_bootfl (Written a) d flash eeprom o = absurd o
but_bootfl (Erased a) d flash eeprom o = absurd o

asked_in_normal : (r : Request) (started : Bool) (f : List ℕ) → OnlyBootfl (asked r (Normal started) f).memory
asked_in_normal EnterProgramming started f = tt
asked_in_normal WaitForRestart started f = tt
asked_in_normal HardwareType started f = tt
asked_in_normal FirmwareType started f = tt
asked_in_normal Description started f = tt
asked_in_normal DeviceId started f = tt
asked_in_normal LeaveProgramming started f = tt
asked_in_normal AddressFrame started f = tt
asked_in_normal DataFrame started f = tt

by_type_in_normal : (k : Option Kind) (started : Bool) (f : List ℕ) → OnlyBootfl (asked_by k (Normal started) f).memory
by_type_in_normal None started f = tt
by_type_in_normal (Some k) started f = asked_in_normal k.request started f

decided_in_normal : (n : Node) (started : Bool) (os : List Outcome) (f : List ℕ) → n.mode ≡ Normal started
    → OnlyBootfl (unless os (asked_of n f)).memory
decided_in_normal n started os f e =
    unless_every (λ (x : Effect). OnlyBootfl x.memory) os (asked_of n f) (λ k. tt)
    (subst (λ (m : Mode). OnlyBootfl (asked_by (found (type_of f)) m f).memory) (sym e) (by_type_in_normal (found (type_of f)) started f))

-- "in normal mode no frame or byte changes FLASH at all, nor EEPROM but for BOOTFL"
pub can_normal_spares : (n : Node) (started : Bool) (f flash eeprom : List ℕ) → n.mode ≡ Normal started
    → ButBootfl flash eeprom (can_step n f flash eeprom).flash (can_step n f flash eeprom).eeprom
unfolding can_step done decided tidied
can_normal_spares n started f flash eeprom e =
    but_bootfl (decided (tidied n) (full flash eeprom) f).memory (data_in f) flash eeprom
    (decided_in_normal (tidied n) started (can_outcomes (tidied n) (full flash eeprom) f) f (ap tidy_mode e))

pub uart_normal_spares : (n : Node) (started : Bool) (b : ℕ) (flash eeprom : List ℕ) → n.mode ≡ Normal started
    → ButBootfl flash eeprom (uart_step n b flash eeprom).flash (uart_step n b flash eeprom).eeprom
unfolding uart_step done tidied
uart_normal_spares n started b flash eeprom e =
    let xs = held_with (held_of (tidied n)) b in
    but_bootfl (held_decided (tidied n) (full flash eeprom) xs).memory (data_in (inner_of xs)) flash eeprom
    (decided_in_normal (tidied n) started (uart_outcomes (tidied n) (full flash eeprom) b) (inner_of xs) (ap tidy_mode e))
