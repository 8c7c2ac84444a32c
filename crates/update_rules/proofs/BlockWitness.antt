-- The premises of demand 3 can be met by a Block, over a FLASH that is not blank, with a command staged at the start: so the theorems say
-- something of an erase that is needed and of a node that was left in the middle of something else. Here is what they say of four cells.
-- Assumes nothing.
use mathlib.Core.Path.{◌≡◌, refl}
use mathlib.Core.List.{List, [], ◌∷◌}
use mathlib.Core.Logic.{inl, inr}
use Prim.Native.Nat.{ℕ}
use native.Mathlib.Omega.{arith}
use lib.Dec.{lit<}
use lib.ListN.{get_or, replicate, length-replicate}
use Rattle.base.proofs.Bytes.{bytes_replicate}
use Rattle.base.specs.Parts.{Bytes}
use Rattle.memory_address.specs.declared.Address.TheVariants.{Flash}
use Rattle.memory_address.specs.Rule.{ruled}
use Rattle.node_rules.specs.declared.Pin.TheVariants.{CanAndUart}
use Rattle.node_rules.specs.declared.Staged.{Staged}
use Rattle.node_rules.specs.declared.Staged.TheVariants.{Write}
use Rattle.node_rules.specs.declared.Mode.TheVariants.{Programming}
use Rattle.node_rules.specs.declared.Node.{Node}
use Rattle.node_rules.specs.Record.{receiving, plain, held_in, tidied}
use Rattle.node_rules.specs.Runs.{State}
use Rattle.recipe.specs.Items.{block, Recipe, Legal}
use Rattle.recipe.specs.Frames.{frames_of}
use Rattle.recipe.specs.Plain.{Memories}
use Rattle.update_rules.specs.Delivery.{behind_frames, delivered}
use Rattle.update_rules.specs.Updated.{Ready, over, Full, Arrived}
use Rattle.update_rules.proofs.Deliveries.{all_delivered}
use Rattle.update_rules.proofs.DemandThree.{delivery_arrives}
use Rattle.update_rules.specs.Serial.{OpenPort}
use Rattle.update_rules.proofs.Corollaries.{last_block_lem, flash_kept_lem, bootfl_ends_zero}

-- a Block at the rim, for module 05 and group 0A
cells : List ℕ
cells = 0x12 ∷ 0x34 ∷ replicate 62 0x56

pub block_recipe : Recipe
block_recipe = record { module_number = 0x05; group_number = 0x0A; items = block 0x001000 cells ∷ [] }

-- a write of the last row of FLASH was staged when the recipe came
unfoldable pub staged_before : Staged
staged_before = Write (Flash (record { 0 = 0x00FFF8 }))

unfoldable pub node : Node
node =
    record {
      choices = plain CanAndUart;
      plate = record { fixed = replicate 6 0; own = record { 0 = 0x05 }; group = record { 0 = 0x0A } };
      receiver = receiving [];
      mode = Programming staged_before;
    }

-- every bit of FLASH is cleared: no write alone would leave what the recipe says
unfoldable pub memories : Memories
memories = record { flash = replicate 65536 0x00; eeprom = replicate 1024 0xFF }

cells_bytes : Bytes cells
unfolding cells
cells_bytes = (lit< tt, (lit< tt, bytes_replicate 62 0x56 (lit< tt)))

pub block_legal : Legal block_recipe
unfolding block_recipe cells ruled
block_legal = record { module_byte = lit< tt; group_byte = lit< tt; few = omega arith; each = ((refl, refl, cells_bytes), tt) }

pub block_ready : Ready node block_recipe
unfolding block_recipe node staged_before tidied ruled
block_ready = record { staged = staged_before; is_programming = refl; same_module = refl; same_group = refl }

pub block_full : Full memories
unfolding memories
block_full = (length-replicate {A = ℕ} 65536 0x00, length-replicate {A = ℕ} 1024 0xFF)

pub block_open_port : OpenPort node memories.flash memories.eeprom
unfolding node held_in
block_open_port = record { both_ports = refl; none_held = refl; flash_full = block_full.0; eeprom_full = block_full.1 }

-- what stands after the delivery
abbrev after : State
after = behind_frames (frames_of block_recipe) (over node memories)

-- it has arrived whole
pub block_arrives : Arrived block_recipe node memories
    (delivered (frames_of block_recipe) node memories.flash memories.eeprom).answers after
block_arrives =
    delivery_arrives block_recipe node memories _ after block_legal block_ready block_full
    (all_delivered (frames_of block_recipe) (over node memories))

-- the first two cells of the Block hold its bytes; the cell below it, and the one behind it, hold what they held; BOOTFL holds 0x00
pub block_cells : (get_or after.flash 0x001000 0 ≡ 0x12) × (get_or after.flash 0x001001 0 ≡ 0x34)
    × (get_or after.flash 0x000FFF 0 ≡ 0x00) × (get_or after.flash 0x001040 0 ≡ 0x00) × (get_or after.eeprom 0 0 ≡ 0x00)
unfolding block_recipe cells memories
block_cells =
    let said = last_block_lem block_recipe node memories _ after block_legal block_full block_arrives [] [] 0x001000 cells in
    let kept = flash_kept_lem block_recipe node memories _ after block_legal block_full block_arrives in (
      said 0 (lit< tt) refl tt,
      said 1 (lit< tt) refl tt,
      kept 0x000FFF (inl (lit< tt), tt),
      kept 0x001040 (inr (omega arith), tt),
      bootfl_ends_zero block_recipe node memories _ after block_legal block_full block_arrives,
    )
