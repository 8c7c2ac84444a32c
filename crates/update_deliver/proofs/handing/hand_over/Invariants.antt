-- `update_deliver::handing::hand_over` meets its contract. At each turn what was told, and then the delivery of the frames that are left,
-- is the whole delivery (proofs/Turns).
-- Assumes nothing.
use Rattle.update_deliver.proofs.Turns.{Handing}
use Rattle.update_deliver.proofs.handing.hand_over.Given as goal

abbrev pub invariant-loop-i : goal.invariant-loop-i
invariant-loop-i l =
    Handing l.frames l.count l.initial.flash l.initial.eeprom l.initial.answers l.initial.n l.flash l.eeprom l.answers l.n l.i
