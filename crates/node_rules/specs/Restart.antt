-- Restart (document 01, "Node and modes"): "takes the pin and the self-test's verdict, may come in any mode, and changes no memory."
use Rattle.std.specs.Prelude.{ℕ, Bool, cond, List, [], eqb, get_or}
use Rattle.memory_address.specs.Places.{full, eeprom_cell, bootfl, module_place, group_place}
use Rattle.memory_start.specs.Start.{starts}
use Rattle.node_rules.specs.declared.Staged.TheVariants.{Nothing}
use Rattle.node_rules.specs.declared.Mode.{Mode}
use Rattle.node_rules.specs.declared.Mode.TheVariants.{Normal, Programming, Error}
use Rattle.node_rules.specs.declared.Choices.{Choices}
use Rattle.node_rules.specs.declared.Plate.{Plate}
use Rattle.node_rules.specs.declared.Node.{Node}
use Rattle.node_rules.specs.Numbered.{Restarted}
use Rattle.node_rules.specs.Record.{receiving, tidied}

-- "Failed self-test: error mode. Else BOOTFL 0xFF: programming, nothing staged. Else normal"; "At a restart that reaches normal mode,
-- firmware now starts exactly if the sums are equal and cells 0x001010 to 0x001012 are 30 00 03."
abbrev pub mode_reached : Bool → List ℕ → List ℕ → Mode
mode_reached passed flash eeprom =
    cond passed (cond (eqb (get_or eeprom (eeprom_cell bootfl) 0) 0xFF) (Programming Nothing) (Normal (starts flash))) Error

-- "It .. copies own numbers from EEPROM"
abbrev pub plate_read : Plate → List ℕ → Plate
plate_read p eeprom =
    record {
      fixed = p.fixed;
      own = record { 0 = get_or eeprom (eeprom_cell module_place) 0 };
      group = record { 0 = get_or eeprom (eeprom_cell group_place) 0 };
    }

-- "It empties held bytes"; what was chosen is kept
abbrev pub restarted_in : Mode → Node → Choices → List ℕ → Node
restarted_in m n choices eeprom =
    record { choices = choices; plate = plate_read n.plate eeprom; receiver = receiving []; mode = m }

-- "Restart gives 0 or 1."
unfoldable pub restart_step : Node → Choices → Bool → List ℕ → List ℕ → Restarted
restart_step n choices passed flash eeprom =
    cond (full flash eeprom) (record { number = 0; node = restarted_in (mode_reached passed flash eeprom) n choices eeprom })
    (record { number = 1; node = tidied n })
