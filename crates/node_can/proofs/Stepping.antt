-- What is decided, done to the memories and answered over them is the step of a CAN frame.
-- Assumes nothing.
use mathlib.Core.Path.{◌≡◌, refl}
use mathlib.Core.Bool.{Bool}
use mathlib.Core.List.{List}
use Prim.Native.Nat.{ℕ}
use Rattle.memory_address.specs.Places.{full}
use Rattle.node_rules.specs.declared.Node.{Node}
use Rattle.node_rules.specs.declared.Replies.{Replies}
use Rattle.node_rules.specs.Numbered.{Effect}
use Rattle.node_rules.specs.Record.{tidied}
use Rattle.node_rules.specs.Requests.{data_in}
use Rattle.node_rules.specs.Outcomes.{decided}
use Rattle.node_rules.specs.Replies.{replying}
use Rattle.node_rules.specs.Step.{after, flash_after, eeprom_after, node_after, answering, done, can_step}

pub stepped : (n : Node) (f flash eeprom : List ℕ) (t : Node) (isFull : Bool) (e : Effect) (flash' eeprom' : List ℕ) (r : Replies 24)
    (z : Node)
    → t ≡ tidied n → isFull ≡ full flash eeprom → e ≡ decided t isFull f
    → flash' ≡ flash_after e.memory (data_in f) flash → eeprom' ≡ eeprom_after e.memory (data_in f) eeprom
    → r ≡ replying e.reply t f flash' eeprom' → z ≡ node_after e.next t
    → after (answering e.number r z) flash' eeprom' ≡ can_step n f flash eeprom
unfolding done can_step
stepped n f flash eeprom t isFull e flash' eeprom' r z p q u w x y k = rw (k, y, w, x, u, q, p) refl
