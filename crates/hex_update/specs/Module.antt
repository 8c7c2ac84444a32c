-- What a module holds of a file's cells: the end of the chain from text to cells. Document 02, A5: "every cell the file gives, 0xFF in the
-- rest of a touched block or row, and no other change, save BOOTFL, which ends 0x00".
use Rattle.std.specs.Prelude.{ℕ, ◌+◌, ◌<◌, ◌≡◌, List, ◌∷◌, ◌++◌, get_or}
use Rattle.memory_address.specs.Places as places
use Rattle.node_rules.specs.declared.Node.{Node}
use Rattle.node_rules.specs.declared.Mode.TheVariants.{Waiting}
use Rattle.node_rules.specs.Record.{with_mode, tidied}
use Rattle.node_rules.specs.Runs.{State}
use Rattle.recipe.specs.Plain.{Memories}
use Rattle.hex_rules.specs.Cells.{Cell}
use Rattle.hex_rules.specs.Holding.{Holds}

pub record HoldsFile (cells : List Cell) (n : Node) (before : Memories) (after : State) : Type 0 where
  -- the node waits for a restart
  pub waits : after.node ≡ with_mode (tidied n) Waiting
  -- cell by cell, from the memories before
  pub holds : Holds cells before (record { flash = after.flash; eeprom = after.eeprom })
  -- so each cell of the file stands in FLASH, or in EEPROM but for BOOTFL
  pub flash_cell : (xs : List Cell) (c : Cell) (ys : List Cell) → cells ≡ xs ++ (c ∷ ys) → c.place < 65536
      → get_or after.flash c.place 0 ≡ c.byte
  pub eeprom_cell : (xs : List Cell) (c : Cell) (ys : List Cell) → cells ≡ xs ++ (c ∷ ys) → (k : ℕ) → c.place ≡ 0xF00000 + k
      → (k ≡ places.eeprom_cell places.bootfl → ⊥) → get_or after.eeprom k 0 ≡ c.byte
