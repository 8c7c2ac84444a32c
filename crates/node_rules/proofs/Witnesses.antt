-- The premises of the answer's theorems can be met: each theorem at a node, a frame and memories, by computing.
-- Assumes nothing.
use mathlib.Core.Path.{◌≡◌, refl, ap}
use mathlib.Core.Bool.{true, false}
use mathlib.Core.List.{List, [], ◌∷◌}
use mathlib.Core.Logic.{inl, inr}
use Prim.Native.Nat.{ℕ}
use native.Mathlib.Omega.{arith}
use lib.ListN.{length, replicate, length-replicate}
use Rattle.base.specs.Parts.{patch}
use Rattle.memory_address.specs.declared.Address.TheVariants.{Flash, Eeprom}
use Rattle.memory_address.specs.Rule.{ruled}
use Rattle.memory_start.specs.Plain.{Starts}
use Rattle.memory_start.proofs.Laws.{flag_says}
use Rattle.node_rules.specs.declared.Pin.TheVariants.{CanAndUart}
use Rattle.node_rules.specs.declared.Staged.{Staged}
use Rattle.node_rules.specs.declared.Staged.TheVariants.{Nothing, Read, Write, Erase}
use Rattle.node_rules.specs.declared.Mode.{Mode}
use Rattle.node_rules.specs.declared.Mode.TheVariants.{Normal, Programming, Error}
use Rattle.node_rules.specs.declared.Choices.{Choices}
use Rattle.node_rules.specs.declared.Node.{Node}
use Rattle.node_rules.specs.declared.HandledIn.TheVariants.{InNormal, InProgramming}
use Rattle.node_rules.specs.declared.Addressing.TheVariants.{AsGroup, AsNode, AllZero, OwnNumbers}
use Rattle.node_rules.specs.declared.Request.TheVariants.{EnterProgramming, HardwareType, LeaveProgramming, DataFrame}
use Rattle.node_rules.specs.Numbered.{Restarted}
use Rattle.node_rules.specs.Record.{receiving, plain, tidied}
use Rattle.node_rules.specs.Requests.{kind, found, handled_types, is_programming}
use Rattle.node_rules.specs.Step.{Step, can_step}
use Rattle.node_rules.specs.Restart.{restart_step}
use Rattle.node_rules.specs.Reading.{eight_of}
use Rattle.node_rules.specs.Examples.{flash_with}
use Rattle.node_rules.proofs.Restarting.{restart_refused, restart_failed, restart_programming, restart_started, restart_not_started}
use Rattle.node_rules.proofs.RequestTable.{request_100, request_101_102, request_103_104, request_105_106, request_1F1, request_10_d_10_e, request_10_f_111, other_type_lem, other_mode, not_for_group, not_for_node, not_for_own, not_for_zero}
use Rattle.node_rules.proofs.ProgrammingList.{request_010_020, request_030_illegal, request_030_read_flash, request_030_write_flash, request_030_erase, request_030_read_eeprom, request_030_write_eeprom, request_040_nothing, request_040_read_flash, request_040_read_eeprom, request_040_write_flash, request_040_write_eeprom, request_040_erase}

-- a node with numbers 05, 0A, and blank memories
unfoldable pub node_in : Mode → Node
node_in m =
    record {
      choices = plain CanAndUart;
      plate = record { fixed = 1 ∷ 2 ∷ 3 ∷ 4 ∷ 5 ∷ 6 ∷ []; own = record { 0 = 0x05 }; group = record { 0 = 0x0A } };
      receiver = receiving [];
      mode = m;
    }

pub blank : ℕ → List ℕ
blank size = replicate size 0xFF

pub sized : (size : ℕ) → length (blank size) ≡ size
unfolding blank
sized size = length-replicate {A = ℕ} size 0xFF

-- the number of a step
abbrev pub number_in : Step → ℕ
number_in s = s.answer.number

-- memories of their size there are, and these serve any
pub sizes_met : (length (blank 65536) ≡ 65536) × (length (blank 1024) ≡ 1024)
sizes_met = (sized 65536, sized 1024)

-- 0x100 to the node
unfoldable pub asks : List ℕ
asks = 0x10 ∷ 0x00 ∷ 0xF0 ∷ 0xF0 ∷ 0xFF ∷ 0xFF ∷ 0x05 ∷ 0x0A ∷ 0xFF ∷ 0xFF ∷ 0xFF ∷ 0xFF ∷ []

-- frames of the request table by their first two bytes, D2 and D3; of 0x010, 0x020 and 0x040 by the first byte and the frame numbers; of
-- 0x030 by address and command; and a data frame
abbrev asking : ℕ → ℕ → ℕ → ℕ → List ℕ
asking b1 b2 d2 d3 = b1 ∷ b2 ∷ 0 ∷ 0 ∷ eight_of 0 0 d2 d3 0 0 0 0

abbrev to : ℕ → ℕ → ℕ → List ℕ
to b1 m g = b1 ∷ 0x00 ∷ m ∷ g ∷ replicate 8 0

abbrev addressing : ℕ → ℕ → ℕ → ℕ → List ℕ
addressing d0 d1 d2 command = 0x03 ∷ 0x00 ∷ 0x05 ∷ 0x0A ∷ eight_of d0 d1 d2 0 0 command 0 0

abbrev sevens : List ℕ
sevens = 0x04 ∷ 0x00 ∷ 0x05 ∷ 0x0A ∷ replicate 8 7

-- the node in normal mode with firmware started, and in programming mode with nothing staged, or with this
abbrev normal : Node
normal = node_in (Normal true)

abbrev staging : Staged → Node
staging s = node_in (Programming s)

abbrev ready : Node
ready = staging Nothing

module _ (F E : List ℕ) (fl : length F ≡ 65536) (el : length E ≡ 1024) where
  -- the request table, and 6
  pub request_table_met :
      (number_in (can_step normal (asking 0x10 0x00 0x05 0x0A) F E) ≡ 0)
      × (number_in (can_step normal (asking 0x10 0x10 0x00 0x00) F E) ≡ 0)
      × (number_in (can_step normal (asking 0x10 0x40 0x05 0x0A) F E) ≡ 0)
      × (number_in (can_step normal (asking 0x10 0x60 0x05 0x0A) F E) ≡ 0)
      × (number_in (can_step (node_in (Normal false)) (asking 0x10 0x60 0x05 0x0A) F E) ≡ 0)
      × (number_in (can_step normal (asking 0x10 0xD0 0x00 0x0A) F E) ≡ 0)
      × (number_in (can_step normal (asking 0x11 0x10 0x05 0x0A) F E) ≡ 0)
      × (number_in (can_step normal (asking 0x10 0x70 0x05 0x0A) F E) ≡ 6)
      × (number_in (can_step ready (asking 0x10 0x00 0x05 0x0A) F E) ≡ 6)
  unfolding node_in tidied found handled_types
  request_table_met = (
    ap number_in (request_100 normal F E fl el true refl 0 0 0 0 0x05 0x0A 0 0 0 0 (refl, refl)),
    ap number_in (request_101_102 normal F E fl el true refl 0 0 0 0 0x00 0x00 0 0 0 0 0x10 (inl (refl, (refl, inl refl)))),
    ap number_in (request_103_104 normal F E fl el true refl 0 0 0 0 0x05 0x0A 0 0 0 0 0x40 (inr (refl, (refl, refl)))),
    ap number_in (request_105_106 normal F E fl el true refl 0 0 0 0 0x05 0x0A 0 0 0 0 0x60 (inr (refl, (refl, refl), refl))),
    ap number_in (request_1F1 (node_in (Normal false)) F E fl el false refl 0 0 0 0 0x05 0x0A 0 0 0 0 (refl, refl) refl _ _ (flag_says F fl) refl),
    ap number_in (request_10_d_10_e normal F E fl el true refl 0 0 0 0 0x00 0x0A 0 0 0 0 0xD0 (inl (refl, (refl, inr refl)))),
    ap number_in (request_10_f_111 normal F E fl el true refl 0 0 0 0 0x05 0x0A 0 0 0 0 0x11 0x10 (inr (refl, refl, (refl, refl)))),
    ap number_in (other_type_lem normal (asking 0x10 0x70 0x05 0x0A) F E fl el refl refl refl refl),
    ap number_in
        (other_mode ready (asking 0x10 0x00 0x05 0x0A) F E fl el refl refl (kind 0x100 InNormal AsNode EnterProgramming) refl refl refl),
  )

  -- the list "In programming mode only", 8 and 9
  pub programming_list_met :
      (number_in (can_step ready (to 0x01 0x00 0x00) F E) ≡ 0)
      × (number_in (can_step ready (to 0x02 0x05 0x0A) F E) ≡ 0)
      × (number_in (can_step ready (addressing 0x00 0x10 0x00 0x01) F E) ≡ 0)
      × (number_in (can_step ready (addressing 0x00 0xFF 0xF8 0x02) F E) ≡ 0)
      × (number_in (can_step ready (addressing 0x00 0xFF 0xC0 0x03) F E) ≡ 0)
      × (number_in (can_step ready (addressing 0xF0 0x00 0x00 0x01) F E) ≡ 0)
      × (number_in (can_step ready (addressing 0xF0 0x03 0xF8 0x02) F E) ≡ 0)
      × (number_in (can_step ready (addressing 0x00 0x0F 0xF8 0x02) F E) ≡ 8)
      × (number_in (can_step ready sevens F E) ≡ 9)
      × (number_in (can_step (staging (Read (Flash (record { 0 = 0x001000 })))) sevens F E) ≡ 0)
      × (number_in (can_step (staging (Read (Eeprom (record { 0 = 0xF00030 })))) sevens F E) ≡ 0)
      × (number_in (can_step (staging (Write (Flash (record { 0 = 0x00FFF8 })))) sevens F E) ≡ 0)
      × (number_in (can_step (staging (Write (Eeprom (record { 0 = 0xF003F8 })))) sevens F E) ≡ 0)
      × (number_in (can_step (staging (Erase (record { 0 = 0x00FFC0 }))) sevens F E) ≡ 0)
  unfolding node_in tidied ruled
  programming_list_met = (
    ap number_in (request_010_020 ready F E fl el Nothing refl 0 0 0 0 0 0 0 0 0x01 0x00 0x00 (inl (refl, refl, refl))),
    ap number_in (request_010_020 ready F E fl el Nothing refl 0 0 0 0 0 0 0 0 0x02 0x05 0x0A (inr (refl, refl, refl))),
    ap number_in (request_030_read_flash ready F E fl el Nothing refl 0x00 0x10 0x00 0 0 0 0 refl),
    ap number_in (request_030_write_flash ready F E fl el Nothing refl 0x00 0xFF 0xF8 0 0 0 0 refl),
    ap number_in (request_030_erase ready F E fl el Nothing refl 0x00 0xFF 0xC0 0 0 0 0 refl),
    ap number_in (request_030_read_eeprom ready F E fl el Nothing refl 0xF0 0x00 0x00 0 0 0 0 refl),
    ap number_in (request_030_write_eeprom ready F E fl el Nothing refl 0xF0 0x03 0xF8 0 0 0 0 refl),
    ap number_in (request_030_illegal ready F E fl el Nothing refl 0x00 0x0F 0xF8 0 0 0x02 0 0 refl refl),
    ap number_in (request_040_nothing ready F E fl el 7 7 7 7 7 7 7 7 refl),
    ap number_in (request_040_read_flash (staging (Read (Flash (record { 0 = 0x001000 })))) F E fl el 7 7 7 7 7 7 7 7 0x001000 refl),
    ap number_in (request_040_read_eeprom (staging (Read (Eeprom (record { 0 = 0xF00030 })))) F E fl el 7 7 7 7 7 7 7 7 0xF00030 refl),
    ap number_in (request_040_write_flash (staging (Write (Flash (record { 0 = 0x00FFF8 })))) F E fl el 7 7 7 7 7 7 7 7 0x00FFF8 refl),
    ap number_in (request_040_write_eeprom (staging (Write (Eeprom (record { 0 = 0xF003F8 })))) F E fl el 7 7 7 7 7 7 7 7 0xF003F8 refl),
    ap number_in (request_040_erase (staging (Erase (record { 0 = 0x00FFC0 }))) F E fl el 7 7 7 7 7 7 7 7 0x00FFC0 refl),
  )

  -- a frame with D2 not 0x00, two to other numbers, and 0x010 to the own numbers: 7
  pub foreign_met :
      (number_in (can_step normal (asking 0x10 0x30 0x05 0x00) F E) ≡ 7)
      × (number_in (can_step normal (asking 0x10 0x40 0x06 0x0A) F E) ≡ 7)
      × (number_in (can_step ready (to 0x04 0x05 0x0B) F E) ≡ 7)
      × (number_in (can_step ready (to 0x01 0x05 0x0A) F E) ≡ 7)
  unfolding node_in tidied found handled_types
  foreign_met = (
    ap number_in
        (not_for_group normal (asking 0x10 0x30 0x05 0x00) F E fl el refl refl
        (kind 0x103 InNormal AsGroup HardwareType) refl refl refl (inl (λ e. let z : ◌≡◌ {A = ℕ} 0x05 0x00 = e in omega arith))),
    ap number_in
        (not_for_node normal (asking 0x10 0x40 0x06 0x0A) F E fl el refl refl
        (kind 0x104 InNormal AsNode HardwareType) refl refl refl (inl (λ e. let z : ◌≡◌ {A = ℕ} 0x06 0x05 = e in omega arith))),
    ap number_in
        (not_for_own ready (to 0x04 0x05 0x0B) F E fl el refl refl
        (kind 0x040 InProgramming OwnNumbers DataFrame) refl refl refl (inr (λ e. let z : ◌≡◌ {A = ℕ} 0x0B 0x0A = e in omega arith))),
    ap number_in
        (not_for_zero ready (to 0x01 0x05 0x0A) F E fl el refl refl
        (kind 0x010 InProgramming AllZero LeaveProgramming) refl refl refl (inl (λ e. let z : ◌≡◌ {A = ℕ} 0x05 0x00 = e in omega arith))),
  )

  -- 0x100 enters programming from normal mode
  pub entering_met : is_programming (can_step normal asks F E).answer.node.mode ≡ true
  unfolding node_in tidied asks
  entering_met =
      ap (λ (s : Step). is_programming s.answer.node.mode)
      (request_100 normal F E fl el true refl 0xF0 0xF0 0xFF 0xFF 0x05 0x0A 0xFF 0xFF 0xFF 0xFF (refl, refl))

-- ---- restart

pub zeros : ℕ → List ℕ
zeros size = replicate size 0

-- with 30 00 03 and their sum both conditions are met; all zeros have the sums only, and a blank FLASH has neither
pub starts_met : Starts (flash_with 0x33 0x001010 0x30 0x00 0x03) × (Starts (zeros 65536) → ⊥) × (Starts (blank 65536) → ⊥)
unfolding zeros blank flash_with patch
starts_met = (
  (refl, (refl, refl, refl)),
  λ h. let z : ◌≡◌ {A = ℕ} 0 0x30 = h.1.0 in omega arith,
  λ h. let z : ◌≡◌ {A = ℕ} 0xFF 0x30 = h.1.0 in omega arith,
)

pub restarts_met : (n : Node) (c : Choices)
    → ((restart_step n c false (blank 65536) (blank 1024)).node.mode ≡ Error)
    × ((restart_step n c true (blank 65536) (blank 1024)).node.mode ≡ Programming Nothing)
    × ((restart_step n c true (flash_with 0x33 0x001010 0x30 0x00 0x03) (zeros 1024)).node.mode ≡ Normal true)
    × ((restart_step n c true (zeros 65536) (zeros 1024)).node.mode ≡ Normal false)
    × ((restart_step n c true (blank 65536) (zeros 1024)).node.mode ≡ Normal false)
    × (restart_step n c true [] [] ≡ record { number = 1; node = tidied n })
unfolding zeros blank flash_with patch
restarts_met n c =
    let z : (size : ℕ) → length (zeros size) ≡ size = λ size. length-replicate {A = ℕ} size 0 in
    let d : ◌≡◌ {A = ℕ} 0 0xFF → ⊥ = λ e. omega arith in (
      ap (λ (r : Restarted). r.node.mode) (restart_failed n c (blank 65536) (blank 1024) (sized 65536) (sized 1024)),
      ap (λ (r : Restarted). r.node.mode) (restart_programming n c (blank 65536) (blank 1024) (sized 65536) (sized 1024) refl),
      ap (λ (r : Restarted). r.node.mode)
          (restart_started n c (flash_with 0x33 0x001010 0x30 0x00 0x03) (zeros 1024) refl (z 1024) d starts_met.0),
      ap (λ (r : Restarted). r.node.mode)
          (restart_not_started n c (zeros 65536) (zeros 1024) (z 65536) (z 1024) d starts_met.1),
      ap (λ (r : Restarted). r.node.mode)
          (restart_not_started n c (blank 65536) (zeros 1024) (sized 65536) (z 1024) d starts_met.2),
      restart_refused n c true [] [] (inl (λ e. let y : ◌≡◌ {A = ℕ} 0 65536 = e in omega arith)),
    )
