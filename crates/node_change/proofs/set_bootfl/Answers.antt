-- `node_change::set_bootfl` meets its contract: where EEPROM has no such cell, setting it changes nothing.
-- Assumes nothing.
use mathlib.Core.Path.{sym}
use lib.Seq.{set_out}
use Rattle.node_change.proofs.set_bootfl.Goals as goal

pub returns-else-at-eeprom : goal.returns-else-at-eeprom
returns-else-at-eeprom c = sym (set_out c.args.eeprom.now 0 c.args.v c.if-at-eeprom.false)
