-- The node's record as bytes: second/PROTOCOL.md, "NODE is 31 bytes", its fields in its order. Any record has them.
use Rattle.std.specs.Prelude.{ℕ, ◌/◌, ◌%◌, cond, List, [], ◌∷◌, ◌++◌, take, replicate, Result, Ok, Err}
use Rattle.memory_address.specs.declared.Address.{Address}
use Rattle.memory_address.specs.declared.Address.TheVariants.{Flash, Eeprom}
use Rattle.node_rules.specs.declared.Pin.{Pin}
use Rattle.node_rules.specs.declared.Pin.TheVariants.{CanOnly, CanAndUart}
use Rattle.node_rules.specs.declared.Staged.{Staged}
use Rattle.node_rules.specs.declared.Staged.TheVariants.{Nothing, Read, Write, Erase}
use Rattle.node_rules.specs.declared.Mode.{Mode}
use Rattle.node_rules.specs.declared.Mode.TheVariants.{Normal, Programming, Error, Waiting}
use Rattle.node_rules.specs.declared.Node.{Node}
use Rattle.node_rules.specs.declared.Refusal.{Refusal}
use Rattle.node_rules.specs.declared.Replies.{Replies}
use Rattle.node_rules.specs.Requests.{staged_in}
use Rattle.node_rules.specs.InNumbers.{refusal_number}

-- "pin (0 CAN only, 1 CAN and UART)"
abbrev pub pin_byte : Pin → ℕ
pin_byte CanOnly = 0
pin_byte CanAndUart = 1

-- "mode (0 normal, firmware not started; 1 normal, started; 2 programming; 3 error; 4 waiting for restart)"
abbrev pub mode_byte : Mode → ℕ
mode_byte (Normal started) = cond started 1 0
mode_byte (Programming s) = 2
mode_byte Error = 3
mode_byte Waiting = 4

-- "staged (0 nothing, 1 read, 2 write, 3 erase)"
abbrev pub staged_byte : Staged → ℕ
staged_byte Nothing = 0
staged_byte (Read a) = 1
staged_byte (Write a) = 2
staged_byte (Erase f) = 3

-- "kind of address (0 FLASH, 1 EEPROM)"
abbrev pub memory_of : Address → ℕ
memory_of (Flash f) = 0
memory_of (Eeprom e) = 1

-- the kind and the address of what is staged; of nothing, which is what is staged outside programming mode, 0
abbrev pub kind_byte : Staged → ℕ
kind_byte Nothing = 0
kind_byte (Read a) = memory_of a
kind_byte (Write a) = memory_of a
kind_byte (Erase f) = 0

-- the number of an address of either kind
abbrev pub address_number : Address → ℕ
address_number (Flash f) = f.0
address_number (Eeprom e) = e.0

abbrev pub placed_at : Staged → ℕ
placed_at Nothing = 0
placed_at (Read a) = address_number a
placed_at (Write a) = address_number a
placed_at (Erase f) = f.0

-- "A number of several bytes has its high byte first": a number of 32 bits as four bytes
abbrev pub four_bytes : ℕ → List ℕ
four_bytes a = a / 16777216 ∷ a / 65536 % 256 ∷ a / 256 % 256 ∷ a % 256 ∷ []

-- "mode ..; staged ..; kind of address ..; address, 4 bytes"
abbrev pub mode_bytes : Mode → List ℕ
mode_bytes m = mode_byte m ∷ staged_byte (staged_in m) ∷ kind_byte (staged_in m) ∷ four_bytes (placed_at (staged_in m))

-- "pin ..; six fixed bytes; own module; own group; count of held bytes; 14 held bytes", then the mode's bytes. A count is one byte: of
-- one that passes 255, which no tidied record has, the low byte. The 14 held bytes are the first 14 of the record's, as they stand.
unfoldable pub node_bytes : Node → List ℕ
node_bytes n =
    pin_byte n.choices.pin ∷
    (n.plate.fixed ++ (n.plate.own.0 ∷ n.plate.group.0 ∷ n.receiver.count % 256 ∷
    (take 14 n.receiver.held ++ mode_bytes n.mode)))

-- "number, count of replies" and the reply bytes, "unused ones 0": of a refusal its number, and n bytes 0
abbrev pub told_of : (n : ℕ) → Result (Replies n) Refusal → ℕ × Replies n
told_of n (Ok replies) = (0, replies)
told_of n (Err refusal) = (refusal_number refusal, record { count = 0; bytes = replicate n 0 })
