-- What an effect does to the memories and the node, and so a CAN frame (document 01, "Requests and replies").
use Rattle.std.specs.Prelude.{ℕ, List, set}
use Rattle.memory_address.specs.Places.{full, eeprom_cell, bootfl}
use Rattle.memory_address.specs.declared.Address.TheVariants.{Flash, Eeprom}
use Rattle.memory_cells.specs.Memory.{flash_written, flash_erased, eeprom_written}
use Rattle.node_rules.specs.declared.Mode.TheVariants.{Programming, Waiting}
use Rattle.node_rules.specs.declared.Node.{Node}
use Rattle.node_rules.specs.declared.Memory.{Memory}
use Rattle.node_rules.specs.declared.Memory.TheVariants.{Kept, Bootfl, Written, Erased}
use Rattle.node_rules.specs.declared.Next.{Next}
use Rattle.node_rules.specs.declared.Next.TheVariants.{Stays, Programs, Waits}
use Rattle.node_rules.specs.declared.Replies.{Replies}
use Rattle.node_rules.specs.Numbered.{Effect, Answer}
use Rattle.node_rules.specs.Record.{with_mode, tidied}
use Rattle.node_rules.specs.Requests.{data_in}
use Rattle.node_rules.specs.Outcomes.{decided}
use Rattle.node_rules.specs.Replies.{no_reply, replying}

-- all that a call leaves: the answer, with the node in it, and the two memories
pub record Step : Type 0 where
  pub answer : Answer
  pub flash : List ℕ
  pub eeprom : List ℕ

abbrev pub after : Answer → List ℕ → List ℕ → Step
after r flash eeprom = record { answer = r; flash = flash; eeprom = eeprom }

-- "BOOTFL becomes .."
abbrev pub bootfl_set : List ℕ → ℕ → List ℕ
bootfl_set eeprom v = set eeprom (eeprom_cell bootfl) v

-- the memories afterwards, with d as the data of a write
abbrev pub flash_after : Memory → List ℕ → List ℕ → List ℕ
flash_after Kept d flash = flash
flash_after (Bootfl v) d flash = flash
flash_after (Written (Flash a)) d flash = flash_written flash a.0 d
flash_after (Written (Eeprom p)) d flash = flash
flash_after (Erased a) d flash = flash_erased flash a.0

abbrev pub eeprom_after : Memory → List ℕ → List ℕ → List ℕ
eeprom_after Kept d eeprom = eeprom
eeprom_after (Bootfl v) d eeprom = bootfl_set eeprom v
eeprom_after (Written (Flash a)) d eeprom = eeprom
eeprom_after (Written (Eeprom p)) d eeprom = eeprom_written eeprom p.0 d
eeprom_after (Erased a) d eeprom = eeprom

-- the node afterwards
abbrev pub node_after : Next → Node → Node
node_after Stays n = n
node_after (Programs s) n = with_mode n (Programming s)
node_after Waits n = with_mode n Waiting

abbrev pub answering : ℕ → Replies 24 → Node → Answer
answering number r n = record { number = number; count = r.count; replies = r.bytes; node = n }

-- an effect done: the memories change, and the replies are read over them
unfoldable pub done : Effect → Node → List ℕ → List ℕ → List ℕ → Step
done e n f flash eeprom =
    after
    (answering e.number
    (replying e.reply n f (flash_after e.memory (data_in f) flash) (eeprom_after e.memory (data_in f) eeprom))
    (node_after e.next n))
    (flash_after e.memory (data_in f) flash)
    (eeprom_after e.memory (data_in f) eeprom)

-- a CAN frame
unfoldable pub can_step : Node → List ℕ → List ℕ → List ℕ → Step
can_step n f flash eeprom = done (decided (tidied n) (full flash eeprom) f) (tidied n) f flash eeprom

-- a number with no reply, and the node
abbrev pub silent_answer : ℕ → Node → Answer
silent_answer number n = answering number no_reply n
