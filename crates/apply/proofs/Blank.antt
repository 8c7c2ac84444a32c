-- What a blank node is after its restart (document 01, "What we cook and what we leave on the shelf"): "A blank node is 65,536 FLASH cells
-- and 1,024 EEPROM cells, all 0xFF, with fixed bytes 0, restarted with pin CAN only and a passing self-test; so its own numbers are 0xFF
-- and it is programming." It holds by computing the definition of restart. Assumes nothing.
use mathlib.Core.Path.{◌≡◌, refl}
use mathlib.Core.Bool.{true}
use lib.ListN.{replicate}
use Rattle.node_rules.specs.declared.Pin.TheVariants.{CanOnly}
use Rattle.node_rules.specs.declared.Noise.TheVariants.{KeepFromNext}
use Rattle.node_rules.specs.declared.Staged.TheVariants.{Nothing}
use Rattle.node_rules.specs.declared.Mode.TheVariants.{Programming}
use Rattle.node_rules.specs.Numbered.{Restarted}
use Rattle.node_rules.specs.Record.{plain, fresh_node}
use Rattle.node_rules.specs.Restart.{restart_step}

-- the blank node, as the program makes it
abbrev pub blank_node : Restarted
blank_node = restart_step (fresh_node (replicate 6 0)) (plain CanOnly) true (replicate 65536 0xFF) (replicate 1024 0xFF)

-- the whole record, and that the restart was done
pub blank_programming :
    blank_node
    ≡ record {
      number = 0;
      node =
          record {
            choices = record { pin = CanOnly; noise = KeepFromNext };
            plate = record { fixed = replicate 6 0; own = record { 0 = 0xFF }; group = record { 0 = 0xFF } };
            receiver = record { held = replicate 15 0; count = 0 };
            mode = Programming Nothing;
          };
    }
unfolding restart_step fresh_node
blank_programming = refl
