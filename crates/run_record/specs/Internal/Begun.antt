-- What the byte codes of a record's beginning say (second/PROTOCOL.md): the way back from the bytes of a written record.
use Rattle.std.specs.Prelude.{ℕ, Bool, cond, not, ◌&&◌, eqb, Option, Some, None}
use Rattle.memory_address.specs.declared.Address.{Address}
use Rattle.memory_address.specs.declared.Address.TheVariants.{Flash, Eeprom}
use Rattle.node_rules.specs.declared.Noise.{Noise}
use Rattle.node_rules.specs.declared.Noise.TheVariants.{KeepFromNext, DropAll}
use Rattle.node_rules.specs.declared.Pin.{Pin}
use Rattle.node_rules.specs.declared.Pin.TheVariants.{CanOnly, CanAndUart}
use Rattle.node_rules.specs.declared.Staged.{Staged}
use Rattle.node_rules.specs.declared.Staged.TheVariants.{Nothing, Read, Write, Erase}

-- "pin (0 CAN only, 1 CAN and UART)"; any other number says CAN and UART too
abbrev pub pin_of : ℕ → Pin
pin_of b = cond (eqb b 0) CanOnly CanAndUart

-- the way after noise: "1 is the new way, the default, and 2 and more the old one. 0 says nothing of it": none, or the old way where that
-- is meant
abbrev pub way_of : ℕ → Bool → Option Noise
way_of b old = cond (eqb b 0 && not old) None (cond (eqb b 1) (Some KeepFromNext) (Some DropAll))

-- "kind of address (0 FLASH, 1 EEPROM)"; any other number says EEPROM too
abbrev pub address_of : ℕ → ℕ → Address
address_of kind a = cond (eqb kind 0) (Flash (record { 0 = a })) (Eeprom (record { 0 = a }))

-- "staged (0 nothing, 1 read, 2 write, 3 erase)"; any other number says nothing too
abbrev pub staged_of : ℕ → ℕ → ℕ → Staged
staged_of command kind a =
    cond (eqb command 1) (Read (address_of kind a))
    (cond (eqb command 2) (Write (address_of kind a))
    (cond (eqb command 3) (Erase (record { 0 = a })) Nothing))
