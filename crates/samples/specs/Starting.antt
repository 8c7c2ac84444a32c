-- Computed examples of request A4, a row each: a FLASH, whether a restart over it starts its firmware, and the answer to 0x106 of a node
-- whose firmware has not started, with FLASH as it is now. proofs/Starting.antt has the single statement, `starts_hold`.
use Rattle.std.specs.Prelude.{ℕ, ◌≡◌, Bool, true, false, List, [], ◌∷◌, length, take, replicate}
use Rattle.memory_address.specs.Places.{blank_flash}
use Rattle.node_rules.specs.declared.Pin.TheVariants.{CanOnly}
use Rattle.node_rules.specs.declared.Mode.{Mode}
use Rattle.node_rules.specs.declared.Mode.TheVariants.{Normal, Waiting}
use Rattle.node_rules.specs.Record.{plain}
use Rattle.node_rules.specs.Restart.{restart_step}
use Rattle.node_rules.specs.Step.{can_step}
use Rattle.node_rules.specs.Reading.{eight_of}
use Rattle.node_rules.specs.Examples.{node050_a, asking, flash_with}

-- the mode of node 05, 0A after a restart over a FLASH, with a passing self-test and BOOTFL 0x00
abbrev pub mode_over : List ℕ → Mode
mode_over flash = (restart_step (node050_a CanOnly Waiting []) (plain CanOnly) true flash (replicate 1024 0)).node.mode

-- its reply to 0x106 over a FLASH, where its firmware has not started
abbrev pub reply_over : List ℕ → List ℕ
reply_over flash =
    take 12 (can_step (node050_a CanOnly (Normal false) []) (asking 0x10 0x60 0x05 0x0A) flash (replicate 1024 0)).answer.replies

-- a FLASH; whether it starts; the flag byte, and the worked-out sum high byte first
pub data Row : Type 0 where
  row : List ℕ → Bool → ℕ → ℕ → ℕ → ℕ → Row

abbrev pub RowHolds : Row → Type 0
RowHolds (row flash started flag high middle low) =
    (length flash ≡ 65536) × (mode_over flash ≡ Normal started)
    × (reply_over flash ≡ 0x1F ∷ 0x11 ∷ 0x05 ∷ 0x0A ∷ eight_of flag high middle low 0xFF 0xFF 0x03 0x04)

abbrev pub AllHold : List Row → Type 0
AllHold [] = Unit {0}
AllHold (r ∷ rs) = RowHolds r × AllHold rs

abbrev pub starting : List Row
starting =
    -- "A module with FLASH all zeros started": it doesn't now; nor does a blank one
    row (replicate 65536 0x00) false 2 0x00 0x00 0x00 ∷
    row blank_flash false 3 0x6F 0x8D 0x03 ∷
    -- both conditions; the flag byte of such a FLASH, where the caller brought it about since the restart, is 0
    row (flash_with 0x33 0x001010 0x30 0x00 0x03) true 0 0x00 0x00 0x33 ∷
    -- the three cells, and another stored sum
    row (flash_with 0x32 0x001010 0x30 0x00 0x03) false 1 0x00 0x00 0x33 ∷
    -- equal sums, and other cells; 30 00 03 one place off
    row (flash_with 0x34 0x001010 0x31 0x00 0x03) false 2 0x00 0x00 0x34 ∷
    row (flash_with 0x33 0x001011 0x30 0x00 0x03) false 2 0x00 0x00 0x33 ∷ []
