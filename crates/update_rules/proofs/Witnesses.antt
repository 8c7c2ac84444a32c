-- The premises of demand 3 can be met: the recipe of S11, a node in programming mode that bears its numbers on an open port, and memories
-- blank but for the own numbers' cells. So the theorems say something of them, and here is what they say of two cells, whether the recipe
-- comes whole or is broken off after one frame and comes again after a restart.
-- Assumes nothing.
use mathlib.Core.Path.{◌≡◌, ◌∙◌, refl}
use mathlib.Core.Bool.{true}
use mathlib.Core.List.{List, [], ◌∷◌}
use mathlib.Core.Logic.{inl}
use Prim.Native.Nat.{ℕ}
use native.Mathlib.Nat.{suc-ne-zero}
use native.Mathlib.Omega.{arith}
use lib.Dec.{lit<}
use lib.ListN.{get_or, set, take, replicate, length-set, length-replicate}
use Rattle.base.specs.Parts.{Bytes}
use Rattle.memory_address.specs.Rule.{ruled}
use Rattle.node_rules.specs.declared.Pin.TheVariants.{CanAndUart}
use Rattle.node_rules.specs.declared.Staged.TheVariants.{Nothing}
use Rattle.node_rules.specs.declared.Mode.TheVariants.{Programming, Waiting}
use Rattle.node_rules.specs.declared.Node.{Node}
use Rattle.node_rules.specs.Record.{receiving, plain, with_mode, held_in, tidied}
use Rattle.node_rules.specs.Restart.{restart_step}
use Rattle.node_rules.specs.Runs.{State, state}
use Rattle.recipe.specs.Items.{row, Recipe, Legal}
use Rattle.recipe.specs.Frames.{frames_of, items_count, frame_count}
use Rattle.recipe.specs.Plain.{Memories, plainly}
use Rattle.update_rules.specs.Delivery.{behind_frames, delivered, Delivers}
use Rattle.update_rules.specs.Mirror.{answers_of}
use Rattle.update_rules.specs.Updated.{Ready, over, Full}
use Rattle.update_rules.specs.Serial.{OpenPort}
use Rattle.update_rules.proofs.Deliveries.{all_delivered}
use Rattle.update_rules.proofs.DemandThree.{delivery_arrives}
use Rattle.update_rules.proofs.Corollaries.{last_row, bootfl_ends_zero}
use Rattle.update_rules.proofs.Interrupted.{again_after_restart}

-- S11: a Row at 0xF00030, for module 05 and group 0A
eight : List ℕ
eight = 0x41 ∷ 0x42 ∷ 0x43 ∷ 0x44 ∷ 0x45 ∷ 0x46 ∷ 0x47 ∷ 0x48 ∷ []

pub row_recipe : Recipe
row_recipe = record { module_number = 0x05; group_number = 0x0A; items = row 0xF00030 eight ∷ [] }

-- a node with these numbers, in programming mode
pub node : Node
node =
    record {
      choices = plain CanAndUart;
      plate = record { fixed = replicate 6 0; own = record { 0 = 0x05 }; group = record { 0 = 0x0A } };
      receiver = receiving [];
      mode = Programming Nothing;
    }

pub memories : Memories
memories = record { flash = replicate 65536 0xFF; eeprom = set (set (replicate 1024 0xFF) 0x26 0x05) 0x27 0x0A }

eight_bytes : Bytes eight
unfolding eight
eight_bytes = (lit< tt, (lit< tt, (lit< tt, (lit< tt, (lit< tt, (lit< tt, (lit< tt, (lit< tt, tt))))))))

pub legal_met : Legal row_recipe
unfolding row_recipe eight ruled
legal_met =
    record { module_byte = lit< tt; group_byte = lit< tt; few = omega arith; each = ((refl, refl, eight_bytes), tt) }

pub ready_met : Ready node row_recipe
unfolding row_recipe node tidied
ready_met = record { staged = Nothing; is_programming = refl; same_module = refl; same_group = refl }

pub full_met : Full memories
unfolding memories
full_met =
    let empty : List ℕ = replicate 1024 0xFF in (
      length-replicate {A = ℕ} 65536 0xFF,
      length-set (set empty 0x26 0x05) 0x27 0x0A ∙ length-set empty 0x26 0x05 ∙ length-replicate {A = ℕ} 1024 0xFF,
    )

pub open_port_met : OpenPort node memories.flash memories.eeprom
unfolding node held_in
open_port_met = record { both_ports = refl; none_held = refl; flash_full = full_met.0; eeprom_full = full_met.1 }

-- after the delivery cell 0x30 of EEPROM holds 0x41, and BOOTFL 0x00
pub cells_met : (get_or (delivered (frames_of row_recipe) node memories.flash memories.eeprom).eeprom 0x30 0 ≡ 0x41)
    × (get_or (delivered (frames_of row_recipe) node memories.flash memories.eeprom).eeprom 0 0 ≡ 0x00)
unfolding row_recipe eight delivered
cells_met =
    let whole = delivery_arrives row_recipe node memories _ _ legal_met ready_met full_met
    (all_delivered (frames_of row_recipe) (over node memories)) in (
      last_row row_recipe node memories _ _ legal_met full_met whole [] [] 0xF00030 eight 0 (lit< tt) refl tt (suc-ne-zero 47),
      bootfl_ends_zero row_recipe node memories _ _ legal_met full_met whole,
    )

-- what stands after its first frame, and the node that a restart then makes
pub broken : State
broken = behind_frames (take 1 (frames_of row_recipe)) (over node memories)

pub restarted : Node
restarted = (restart_step broken.node (plain CanAndUart) true broken.flash broken.eeprom).node

-- broken off after one frame, restarted, and delivered again
pub again_met : Delivers (frames_of row_recipe) (state restarted broken.flash broken.eeprom) (answers_of row_recipe)
    (over (with_mode (tidied restarted) Waiting) (plainly row_recipe memories))
unfolding broken restarted row_recipe memories frame_count items_count
again_met =
    again_after_restart row_recipe 1 node memories _ broken legal_met ready_met full_met (lit< tt)
    (all_delivered (take 1 (frames_of row_recipe)) (over node memories)) (plain CanAndUart) (inl (lit< tt), tt) refl (inl (lit< tt), tt) refl
    (inl (lit< tt), tt) refl
