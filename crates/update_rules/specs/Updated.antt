-- Demand 3's two ends, and what lies between them: the node that an update is delivered to, what it leaves when it arrives whole, and how
-- things stand while it is under way.
use Rattle.std.specs.Prelude.{ℕ, ◌≡◌, List, length, get_or}
use Rattle.memory_address.specs.Places.{flash_cells, eeprom_cells}
use Rattle.node_rules.specs.declared.Staged.{Staged}
use Rattle.node_rules.specs.declared.Mode.TheVariants.{Programming, Waiting}
use Rattle.node_rules.specs.declared.Node.{Node}
use Rattle.node_rules.specs.Record.{with_mode, tidied}
use Rattle.node_rules.specs.Runs.{State, state}
use Rattle.recipe.specs.Items.{Recipe}
use Rattle.recipe.specs.Plain.{Memories, plainly, OutsideFlash, OutsideEeprom, Each}
use Rattle.update_rules.specs.Delivery.{Delivery, delivery}
use Rattle.update_rules.specs.Mirror.{answers_of}

-- "a node in programming mode (tidied record) that bears the recipe's numbers, whatever is staged"
pub record Ready (n : Node) (r : Recipe) : Type 0 where
  pub staged : Staged
  pub is_programming : (tidied n).mode ≡ Programming staged
  pub same_module : n.plate.own.0 ≡ r.module_number
  pub same_group : n.plate.group.0 ≡ r.group_number

-- a node over two memories
abbrev pub over : Node → Memories → State
over n m = state n m.flash m.eeprom

-- memories of their size
abbrev pub Full : Memories → Type 0
Full m = (length m.flash ≡ flash_cells) × (length m.eeprom ≡ eeprom_cells)

-- what a whole update leaves standing: the tidied node, waiting for a restart, over both memories as the recipe says, read plainly
abbrev pub left_whole : Recipe → Node → Memories → State
left_whole r n m = over (with_mode (tidied n) Waiting) (plainly r m)

-- and what is told besides: each frame but the last answered by itself with the flag set, the last by nothing
abbrev pub updated : Recipe → Node → Memories → Delivery
updated r n m = delivery (answers_of r) (left_whole r n m)

-- a recipe has arrived whole, where these answers were told and this stands
pub record Arrived (r : Recipe) (n : Node) (m : Memories) (answers : List (List ℕ)) (after : State) : Type 0 where
  pub answered : answers ≡ answers_of r
  pub stands : after ≡ left_whole r n m

-- a recipe under way: the node is still programming with the recipe's numbers, the memories have their lengths, and every cell that no item
-- names is as it was
pub record Underway (r : Recipe) (before after : State) : Type 0 where
  pub ready : Ready after.node r
  pub flash_length : length after.flash ≡ length before.flash
  pub eeprom_length : length after.eeprom ≡ length before.eeprom
  pub flash_kept : (c : ℕ) → Each (OutsideFlash c) r.items → get_or after.flash c 0 ≡ get_or before.flash c 0
  pub eeprom_kept : (c : ℕ) → Each (OutsideEeprom c) r.items → get_or after.eeprom c 0 ≡ get_or before.eeprom c 0
