-- Words of answer one: what stays but for BOOTFL, a frame for others, and what it leaves.
use Rattle.std.specs.Prelude.{ℕ, ◌≡◌, true, false, List, [], ◌⊎◌, get_or}
use Rattle.memory_address.specs.Places.{eeprom_cell, bootfl}
use Rattle.frame_rules.specs.Frame.{type_of, module_of, group_of}
use Rattle.node_rules.specs.declared.Addressing.TheVariants.{AsGroup, AllZero}
use Rattle.node_rules.specs.declared.Mode.TheVariants.{Waiting}
use Rattle.node_rules.specs.declared.Node.{Node}
use Rattle.node_rules.specs.Record.{holding, with_mode, held_of}
use Rattle.node_rules.specs.Requests.{D, are_own, a_module, a_group, is_for, is_normal, is_programming}
use Rattle.node_rules.specs.Outcomes.{afterwards}
use Rattle.node_rules.specs.Step.{Step, bootfl_set, node_after}
use Rattle.node_rules.specs.Uart.{UartStep, held_with, held_after}

-- "Afterwards", of each number but 0: the node that it leaves, from the tidied record
abbrev pub left_on_can : ℕ → Node → Node
left_on_can number n = node_after (afterwards number) n

abbrev pub left_on_uart : ℕ → Node → ℕ → Node
left_on_uart number n b = node_after (afterwards number) (holding n (held_after number n (held_with (held_of n) b)))

-- FLASH as it was, and each cell of EEPROM but BOOTFL's
abbrev pub ButBootfl : List ℕ → List ℕ → List ℕ → List ℕ → Type 0
ButBootfl flash eeprom flash' eeprom' =
    (flash' ≡ flash) × ((i : ℕ) → (i ≡ eeprom_cell bootfl → ⊥) → get_or eeprom' i 0 ≡ get_or eeprom i 0)

-- a frame in which neither (D2, D3) nor the frame's module and group are the own numbers
abbrev pub ForOthers : Node → List ℕ → Type 0
ForOthers n f =
    (are_own n.plate (a_module (D 2 f)) (a_group (D 3 f)) ≡ false)
    × (are_own n.plate (a_module (module_of f)) (a_group (group_of f)) ≡ false)

-- a group request of this type in normal mode; and 0x010 with 00 00 in programming mode
abbrev pub ByGroup : ℕ → Node → List ℕ → Type 0
ByGroup t n f = (type_of f ≡ t) × (is_for AsGroup n.plate f ≡ true) × (is_normal n.mode ≡ true)

abbrev pub ByZero : Node → List ℕ → Type 0
ByZero n f = (type_of f ≡ 0x010) × (is_for AllZero n.plate f ≡ true) × (is_programming n.mode ≡ true)

-- what a frame for others leaves: FLASH with no exception; EEPROM but for BOOTFL set to 0x00 by 0x010; the record but for waiting, by that
-- 0x010 or by 0x101; and it is answered only where it is 0x103, 0x105, 0x10D or 0x10F
abbrev pub LeftByOthers : Node → List ℕ → List ℕ → List ℕ → Step → Type 0
LeftByOthers n f flash eeprom s =
    (s.flash ≡ flash)
    × ((s.eeprom ≡ eeprom) ⊎ ((s.eeprom ≡ bootfl_set eeprom 0x00) × ByZero n f))
    × ((s.answer.node ≡ n) ⊎ ((s.answer.node ≡ with_mode n Waiting) × (ByZero n f ⊎ ByGroup 0x101 n f)))
    × ((s.answer.count ≡ 0) ⊎ (ByGroup 0x103 n f ⊎ (ByGroup 0x105 n f ⊎ (ByGroup 0x10D n f ⊎ ByGroup 0x10F n f))))

-- on UART the same but for held bytes
abbrev pub emptied : Node → Node
emptied n = holding n []

abbrev pub LeftByOthersOnUart : Node → List ℕ → List ℕ → List ℕ → UartStep → Type 0
LeftByOthersOnUart n f flash eeprom s =
    (s.flash ≡ flash)
    × ((s.eeprom ≡ eeprom) ⊎ ((s.eeprom ≡ bootfl_set eeprom 0x00) × ByZero n f))
    × ((emptied s.answer.node ≡ emptied n) ⊎ ((emptied s.answer.node ≡ emptied (with_mode n Waiting)) ×
    (ByZero n f ⊎ ByGroup 0x101 n f)))
    × ((s.answer.count ≡ 0) ⊎ (ByGroup 0x103 n f ⊎ (ByGroup 0x105 n f ⊎ (ByGroup 0x10D n f ⊎ ByGroup 0x10F n f))))
