-- Computed examples of refusals, for node 05, 0A over any memories. A row has a number, a node, what is handed to it, and what it is left
-- as: what it says is an equation of all that a call leaves, the number, no reply, the node, and both memories as they were.
use Rattle.std.specs.Prelude.{ℕ, ◌%◌, ◌≡◌, Bool, false, true, List, [], ◌∷◌, ◌++◌, take, replicate}
use Rattle.base.specs.Parts.{patch, sum_of}
use Rattle.memory_address.specs.Places.{full}
use Rattle.memory_address.specs.Ranges.{FlashRow, EepromRow, Block}
use Rattle.memory_address.specs.declared.Address.{Address}
use Rattle.memory_address.specs.declared.Address.TheVariants.{Flash, Eeprom}
use Rattle.node_rules.specs.declared.Pin.{Pin}
use Rattle.node_rules.specs.declared.Pin.TheVariants.{CanOnly, CanAndUart}
use Rattle.node_rules.specs.declared.Staged.{Staged}
use Rattle.node_rules.specs.declared.Staged.TheVariants.{Nothing, Read, Write, Erase}
use Rattle.node_rules.specs.declared.Mode.{Mode}
use Rattle.node_rules.specs.declared.Mode.TheVariants.{Normal, Programming, Error, Waiting}
use Rattle.node_rules.specs.declared.Noise.{Noise}
use Rattle.node_rules.specs.declared.Noise.TheVariants.{KeepFromNext, DropAll}
use Rattle.node_rules.specs.declared.Choices.{Choices}
use Rattle.node_rules.specs.declared.Node.{Node}
use Rattle.node_rules.specs.Record.{receiving, plain}
use Rattle.node_rules.specs.Step.{can_step}
use Rattle.node_rules.specs.Uart.{uart_step, silent}
use Rattle.node_rules.specs.Reading.{leaves, eight_of}

-- node 05, 0A with these choices in a mode, holding xs; and with a pin and nothing else said
abbrev pub chosen050_a : Choices → Mode → List ℕ → Node
chosen050_a c m xs =
    record {
      choices = c;
      plate = record { fixed = replicate 6 0; own = record { 0 = 0x05 }; group = record { 0 = 0x0A } };
      receiver = receiving xs;
      mode = m;
    }

abbrev pub node050_a : Pin → Mode → List ℕ → Node
node050_a p m xs = chosen050_a (plain p) m xs

-- on CAN: the number, whether both memories have their size, a mode, a frame, the mode afterwards
-- on UART: the number, whether both memories have their size, a pin, a mode, the bytes that are held, a byte, the bytes held afterwards
-- on both ports, over full memories: the number, a mode, a frame that comes whole, the mode afterwards
-- 11 in a way that was chosen, over full memories in normal mode: the way, the bytes that are held, a byte, the bytes held afterwards
pub data Row : Type 0 where
  can_row : ℕ → Bool → Mode → List ℕ → Mode → Row
  uart_row : ℕ → Bool → Pin → Mode → List ℕ → ℕ → List ℕ → Row
  both_row : ℕ → Mode → List ℕ → Mode → Row
  noise_row : Noise → List ℕ → ℕ → List ℕ → Row

-- a node in normal mode with this way, holding xs
abbrev pub noisy : Noise → List ℕ → Node
noisy way xs = chosen050_a (record { pin = CanAndUart; noise = way }) (Normal false) xs

-- what is held of a frame before its last byte: "0xAA, the 12 bytes, the sum of the 12 modulo 256"
abbrev pub all_but_stop : List ℕ → List ℕ
all_but_stop f = 0xAA ∷ f ++ (sum_of f % 256 ∷ [])

abbrev pub OnCan : ℕ → Bool → Mode → List ℕ → Mode → Type 0
OnCan number sized m f m' = (flash eeprom : List ℕ) → full flash eeprom ≡ sized
    → can_step (node050_a CanOnly m []) f flash eeprom ≡ leaves number 0 (replicate 24 0) (node050_a CanOnly m' []) flash eeprom

abbrev pub OnUart : ℕ → Bool → Node → ℕ → Node → Type 0
OnUart number sized n b n' = (flash eeprom : List ℕ) → full flash eeprom ≡ sized
    → uart_step n b flash eeprom ≡ silent number n' flash eeprom

-- what a row says, of any memories; on UART, where the mode stays, and where a frame comes whole, whose last byte leaves nothing held
abbrev pub RowHolds : Row → Type 0
RowHolds (can_row number sized m f m') = OnCan number sized m f m'
RowHolds (uart_row number sized p m xs b xs') = OnUart number sized (node050_a p m xs) b (node050_a p m xs')
RowHolds (both_row number m f m') =
    OnCan number true m f m' × OnUart number true (node050_a CanAndUart m (all_but_stop f)) 0xA5 (node050_a CanAndUart m' [])
RowHolds (noise_row way xs b xs') = OnUart 11 true (noisy way xs) b (noisy way xs')

abbrev pub AllHold : List Row → Type 0
AllHold [] = Unit {0}
AllHold (r ∷ rs) = RowHolds r × AllHold rs

-- programming, with a write of the first row staged
abbrev pub writing : Mode
writing = Programming (Write (Flash (record { 0 = 0x001000 })))

-- a frame by its first two bytes, with D2 and D3; and one by its first two bytes and its numbers, with D0 D1 D2 and D5
abbrev pub asking : ℕ → ℕ → ℕ → ℕ → List ℕ
asking b1 b2 d2 d3 = b1 ∷ b2 ∷ 0xF0 ∷ 0xF0 ∷ eight_of 0xFF 0xFF d2 d3 0xFF 0xFF 0xFF 0xFF

abbrev pub telling : ℕ → ℕ → ℕ → ℕ → ℕ → ℕ → ℕ → ℕ → List ℕ
telling b1 b2 m g d0 d1 d2 d5 = b1 ∷ b2 ∷ m ∷ g ∷ eight_of d0 d1 d2 0xFF 0xFF d5 0xFF 0xFF

-- 0x040 to node 05, 0A
abbrev pub data040 : List ℕ
data040 = telling 0x04 0x00 0x05 0x0A 0x00 0x00 0x00 0x00

-- S3 behind a stray 0xAA
abbrev pub stray_s3 : List ℕ
stray_s3 = 0xAA ∷ all_but_stop (asking 0x10 0x00 0x05 0x0A) ++ (0xA5 ∷ [])

-- twelve bytes, all different
abbrev pub one_to_twelve : List ℕ
one_to_twelve = 1 ∷ 2 ∷ 3 ∷ 4 ∷ 5 ∷ 6 ∷ 7 ∷ 8 ∷ 9 ∷ 10 ∷ 11 ∷ 12 ∷ []

-- the table
abbrev pub refusals : List Row
refusals =
    -- EACH NUMBER BUT 0, on each port where it can be
    -- memories of another length; the pin says CAN only; waiting for restart
    can_row 1 false (Normal false) (asking 0x10 0x40 0x05 0x0A) (Normal false) ∷
    uart_row 1 false CanAndUart (Normal false) [] 0xAA [] ∷
    uart_row 2 true CanOnly (Normal false) [] 0xAA [] ∷
    can_row 3 true Waiting (asking 0x10 0x40 0x05 0x0A) Waiting ∷
    uart_row 3 true CanAndUart Waiting [] 0xAA [] ∷
    -- a byte that is skipped, and one that is held; a wrong stop
    uart_row 10 true CanAndUart (Normal false) [] 0x00 [] ∷
    uart_row 10 true CanAndUart (Normal false) [] 0xAA (0xAA ∷ []) ∷
    uart_row 11 true CanAndUart (Normal false) (all_but_stop (asking 0x10 0x40 0x05 0x0A)) 0xA6 [] ∷
    -- an upper flag, a response, another type, another node
    both_row 4 (Normal false) (asking 0x10 0x42 0x05 0x0A) (Normal false) ∷
    both_row 5 (Normal false) (asking 0x10 0x41 0x05 0x0A) (Normal false) ∷
    both_row 6 (Normal false) (asking 0x10 0x70 0x05 0x0A) (Normal false) ∷
    both_row 7 (Normal false) (asking 0x10 0x40 0x06 0x0A) (Normal false) ∷
    -- an address below the rim; nothing staged
    both_row 8 writing (telling 0x03 0x00 0x05 0x0A 0x00 0x0F 0xF8 0x02) (Programming Nothing) ∷
    both_row 9 (Programming Nothing) data040 (Programming Nothing) ∷
    -- TWO FAULTS AT ONCE, "Checked in this order"
    -- 1 before 2: memories of another length, and the pin says CAN only
    uart_row 1 false CanOnly (Normal false) [] 0xAA [] ∷
    -- 1 before 3: EEPROM of another length, and error mode; FLASH of another length, and waiting for restart
    can_row 1 false Error (asking 0x10 0x40 0x05 0x0A) Error ∷
    can_row 1 false Waiting (asking 0x10 0x40 0x05 0x0A) Waiting ∷
    uart_row 1 false CanAndUart Error [] 0xAA [] ∷
    uart_row 1 false CanAndUart Waiting (0xAA ∷ []) 0x10 (0xAA ∷ []) ∷
    -- 2 before 3: the pin says CAN only, and waiting for restart, or error mode
    uart_row 2 true CanOnly Waiting [] 0xAA [] ∷
    uart_row 2 true CanOnly Error (0xAA ∷ []) 0x10 (0xAA ∷ []) ∷
    -- 3 before 4: a deaf mode, and an upper flag
    can_row 3 true Error (asking 0x10 0x42 0x05 0x0A) Error ∷
    can_row 3 true Waiting (asking 0x10 0x42 0x05 0x0A) Waiting ∷
    -- 3 before 10: a deaf mode, and a byte that completes nothing
    uart_row 3 true CanAndUart Error [] 0xAA [] ∷
    uart_row 3 true CanAndUart Waiting (0xAA ∷ []) 0x10 (0xAA ∷ []) ∷
    -- 3 before 11: error mode, and a wrong stop
    uart_row 3 true CanAndUart Error (all_but_stop (asking 0x10 0x40 0x05 0x0A)) 0xA6 (all_but_stop (asking 0x10 0x40 0x05 0x0A)) ∷
    -- 11 before 4: a wrong stop, or a wrong sum, and an upper flag
    uart_row 11 true CanAndUart (Normal false) (all_but_stop (asking 0x10 0x42 0x05 0x0A)) 0xA6 [] ∷
    uart_row 11 true CanAndUart (Normal false) (0xAA ∷ asking 0x10 0x42 0x05 0x0A ++ (0x00 ∷ [])) 0xA5 [] ∷
    -- 4 before 5: an upper flag, and the response flag; a frame of two bytes with the response flag
    both_row 4 (Normal false) (asking 0x10 0x43 0x05 0x0A) (Normal false) ∷
    can_row 4 true writing (0x04 ∷ 0x01 ∷ []) writing ∷
    -- 5 before 6: a response of no handled type, and of a type of the other mode
    both_row 5 (Normal false) (asking 0x10 0x71 0x05 0x0A) (Normal false) ∷
    both_row 5 writing (asking 0x10 0x41 0x05 0x0A) writing ∷
    -- 6 before 7: a type of the other mode, for another node
    both_row 6 writing (asking 0x10 0x40 0x06 0x0A) writing ∷
    both_row 6 (Normal false) (telling 0x04 0x00 0x06 0x0A 0x00 0x00 0x00 0x00) (Normal false) ∷
    -- 7 before 8: an illegal address, and an illegal command, for another node
    both_row 7 writing (telling 0x03 0x00 0x06 0x0A 0x00 0x0F 0xF8 0x02) writing ∷
    both_row 7 writing (telling 0x03 0x00 0x05 0x0B 0x00 0x10 0x00 0x04) writing ∷
    -- 7 before 9: data for another node, with nothing staged
    both_row 7 (Programming Nothing) (telling 0x04 0x00 0x05 0x0B 0x00 0x00 0x00 0x00) (Programming Nothing) ∷
    -- FLAGS, LENGTHS, DEAF MODES
    -- each upper flag, in a request and in a data frame
    both_row 4 (Normal false) (asking 0x10 0x44 0x05 0x0A) (Normal false) ∷
    both_row 4 (Normal false) (asking 0x10 0x48 0x05 0x0A) (Normal false) ∷
    both_row 4 writing (telling 0x04 0x02 0x05 0x0A 0x00 0x00 0x00 0x00) writing ∷
    both_row 4 writing (telling 0x04 0x04 0x05 0x0A 0x00 0x00 0x00 0x00) writing ∷
    both_row 4 writing (telling 0x04 0x08 0x05 0x0A 0x00 0x00 0x00 0x00) writing ∷
    -- no bytes, 11 and 13
    can_row 4 true writing [] writing ∷
    can_row 4 true writing (take 11 data040) writing ∷
    can_row 4 true writing (data040 ++ (0x00 ∷ [])) writing ∷
    -- error mode and waiting for restart, also where a wrapped frame's last byte comes
    can_row 3 true Error (asking 0x10 0x40 0x05 0x0A) Error ∷
    can_row 3 true Error data040 Error ∷
    can_row 3 true Waiting data040 Waiting ∷
    uart_row 3 true CanAndUart Error (all_but_stop data040) 0xA5 (all_but_stop data040) ∷
    uart_row 3 true CanAndUart Waiting (all_but_stop data040) 0xA5 (all_but_stop data040) ∷
    -- 11 IN EACH WAY
    -- an 0xAA that is the second byte, or the fifteenth; two among the others, of which the first decides; none
    noise_row KeepFromNext (0xAA ∷ 0xAA ∷ one_to_twelve) 0x0D (0xAA ∷ one_to_twelve ++ (0x0D ∷ [])) ∷
    noise_row KeepFromNext (0xAA ∷ one_to_twelve ++ (0x0D ∷ [])) 0xAA (0xAA ∷ []) ∷
    noise_row KeepFromNext (0xAA ∷ eight_of 1 2 0xAA 4 5 6 7 8 ++ (0xAA ∷ 10 ∷ 11 ∷ 12 ∷ 13 ∷ [])) 14
    (0xAA ∷ 4 ∷ 5 ∷ 6 ∷ 7 ∷ 8 ∷ 0xAA ∷ 10 ∷ 11 ∷ 12 ∷ 13 ∷ 14 ∷ []) ∷
    noise_row KeepFromNext (0xAA ∷ one_to_twelve ++ (0x0D ∷ [])) 0x0E [] ∷
    noise_row DropAll (0xAA ∷ 0xAA ∷ one_to_twelve) 0x0D [] ∷
    noise_row DropAll (0xAA ∷ one_to_twelve ++ (0x0D ∷ [])) 0xAA [] ∷
    noise_row DropAll (0xAA ∷ eight_of 1 2 0xAA 4 5 6 7 8 ++ (0xAA ∷ 10 ∷ 11 ∷ 12 ∷ 13 ∷ [])) 14 [] ∷
    noise_row DropAll (0xAA ∷ one_to_twelve ++ (0x0D ∷ [])) 0x0E [] ∷
    -- a right sum and a wrong stop; a wrong sum and a right stop
    noise_row KeepFromNext (all_but_stop (asking 0x10 0x40 0xAA 0x0A)) 0xA6 (0xAA ∷ 0x0A ∷ 0xFF ∷ 0xFF ∷ 0xFF ∷ 0xFF ∷ 0xDE ∷ 0xA6 ∷ []) ∷
    noise_row KeepFromNext (0xAA ∷ asking 0x10 0x40 0x05 0x0A ++ (0xAA ∷ [])) 0xA5 (0xAA ∷ 0xA5 ∷ []) ∷
    noise_row DropAll (all_but_stop (asking 0x10 0x40 0xAA 0x0A)) 0xA6 [] ∷
    noise_row DropAll (0xAA ∷ asking 0x10 0x40 0x05 0x0A ++ (0xAA ∷ [])) 0xA5 [] ∷
    -- "A staged command that isn't legal counts as none"
    both_row 9 (Programming (Read (Flash (record { 0 = 0x000FF8 })))) data040 (Programming Nothing) ∷
    both_row 9 (Programming (Read (Flash (record { 0 = 0x001004 })))) data040 (Programming Nothing) ∷
    both_row 9 (Programming (Read (Flash (record { 0 = 0xF00000 })))) data040 (Programming Nothing) ∷
    both_row 9 (Programming (Read (Eeprom (record { 0 = 0xF00400 })))) data040 (Programming Nothing) ∷
    both_row 9 (Programming (Read (Eeprom (record { 0 = 0x001000 })))) data040 (Programming Nothing) ∷
    both_row 9 (Programming (Write (Flash (record { 0 = 0x000FF8 })))) data040 (Programming Nothing) ∷
    both_row 9 (Programming (Write (Flash (record { 0 = 0x010000 })))) data040 (Programming Nothing) ∷
    both_row 9 (Programming (Write (Eeprom (record { 0 = 0xF00004 })))) data040 (Programming Nothing) ∷
    both_row 9 (Programming (Write (Eeprom (record { 0 = 0x001000 })))) data040 (Programming Nothing) ∷
    both_row 9 (Programming (Erase (record { 0 = 0x000FC0 }))) data040 (Programming Nothing) ∷
    both_row 9 (Programming (Erase (record { 0 = 0x00FFC8 }))) data040 (Programming Nothing) ∷
    both_row 9 (Programming (Erase (record { 0 = 0x001008 }))) data040 (Programming Nothing) ∷ []

-- which command may be staged, in document 01's numbers ("Legal rows")
abbrev pub RowAt : Address → Type 0
RowAt (Flash a) = FlashRow a.0
RowAt (Eeprom p) = EepromRow p.0

abbrev pub MayBeStaged : Staged → Type 0
MayBeStaged Nothing = Unit {0}
MayBeStaged (Read a) = RowAt a
MayBeStaged (Write a) = RowAt a
MayBeStaged (Erase a) = Block a.0

-- EEPROM with the description 41 to 50, all different
abbrev pub described : List ℕ
described =
    replicate 0x30 0xFF ++
    (0x41 ∷ 0x42 ∷ 0x43 ∷ 0x44 ∷ 0x45 ∷ 0x46 ∷ 0x47 ∷ 0x48 ∷ 0x49 ∷ 0x4A ∷ 0x4B ∷ 0x4C ∷ 0x4D ∷ 0x4E ∷ 0x4F ∷ 0x50 ∷ replicate 0x3C0 0xFF)

-- FLASH of zeros but for its stored sum, of one byte, and three cells
unfoldable pub flash_with : ℕ → ℕ → ℕ → ℕ → ℕ → List ℕ
flash_with low place x y z = patch (patch (replicate 65536 0) 0x001002 (low ∷ [])) place (x ∷ y ∷ z ∷ [])
