-- Bytes handed to a node on UART one by one, for samples S3 and S4.
use Rattle.std.specs.Prelude.{ℕ, false, List, [], ◌∷◌, map}
use Rattle.memory_address.specs.Places.{blank_flash, blank_eeprom}
use Rattle.node_rules.specs.declared.Pin.TheVariants.{CanAndUart}
use Rattle.node_rules.specs.declared.Mode.TheVariants.{Normal}
use Rattle.node_rules.specs.Examples.{node050_a}
use Rattle.node_rules.specs.Uart.{UartStep, silent}
use Rattle.node_rules.specs.Runs.{state, bytes_in}

-- "node 05, 0A in normal mode, pin CAN and UART"; the fixed bytes, whether firmware has started, and the memories are left open and don't
-- show: 0, no, and blank
abbrev pub steps_from : List ℕ → List UartStep
steps_from bytes = bytes_in bytes (state (node050_a CanAndUart (Normal false) []) blank_flash blank_eeprom)

-- the number of each byte, in order
abbrev pub numbers_of : List ℕ → List ℕ
numbers_of bytes = map (λ (s : UartStep). s.answer.number) (steps_from bytes)

-- what the last of some steps leaves; s where there is none
abbrev pub last_of : UartStep → List UartStep → UartStep
last_of s [] = s
last_of s (t ∷ ts) = last_of t ts

-- what the last byte leaves
abbrev pub left_by_last : List ℕ → UartStep
left_by_last bytes = last_of (silent 0 (node050_a CanAndUart (Normal false) []) blank_flash blank_eeprom) (steps_from bytes)
