-- `node_change::put` meets its contract: each arm knows the memory, and the other is not touched.
-- Assumes nothing.
use Rattle.node_change.proofs.put.Goals as goal

pub returns-in-Flash : goal.returns-in-Flash
returns-in-Flash c = (
  simp c.in-Flash.is c.write_flash.ensures.1,
  simp c.in-Flash.is,
)

pub returns-in-Eeprom : goal.returns-in-Eeprom
returns-in-Eeprom c = (
  simp c.in-Eeprom.is,
  simp c.in-Eeprom.is c.write_eeprom.ensures.1,
)
