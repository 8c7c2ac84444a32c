-- The node's record (document 01, "Node and modes"): what is held, what is legal to be staged, and the tidied record.
use Rattle.std.specs.Prelude.{ℕ, ◌-◌, ◌≤◌, ◌≡◌, Bool, true, ◌&&◌, cond, List, [], ◌∷◌, ◌++◌, leb, eqb, length, get_or, take, replicate}
use Rattle.memory_address.specs.Rule.{legal_flash, legal_eeprom}
use Rattle.memory_address.specs.declared.Address.{Address}
use Rattle.memory_address.specs.declared.Address.TheVariants.{Flash, Eeprom}
use Rattle.node_rules.specs.declared.Pin.{Pin}
use Rattle.node_rules.specs.declared.Pin.TheVariants.{CanOnly}
use Rattle.node_rules.specs.declared.Noise.TheVariants.{KeepFromNext}
use Rattle.node_rules.specs.declared.Staged.{Staged}
use Rattle.node_rules.specs.declared.Staged.TheVariants.{Nothing, Read, Write, Erase}
use Rattle.node_rules.specs.declared.Mode.{Mode}
use Rattle.node_rules.specs.declared.Mode.TheVariants.{Normal, Programming, Error, Waiting}
use Rattle.node_rules.specs.declared.Choices.{Choices}
use Rattle.node_rules.specs.declared.Receiver.{Receiver}
use Rattle.node_rules.specs.declared.Node.{Node}

-- unused room in the record is 0
abbrev pub padded : List ℕ → List ℕ
padded xs = xs ++ replicate (15 - length xs) 0

-- what holds these bytes
abbrev pub receiving : List ℕ → Receiver
receiving xs = record { held = padded xs; count = length xs }

-- the record that holds these bytes, and the record in this mode
abbrev pub holding : Node → List ℕ → Node
holding n xs = record { choices = n.choices; plate = n.plate; receiver = receiving xs; mode = n.mode }

abbrev pub with_mode : Node → Mode → Node
with_mode n m = record { choices = n.choices; plate = n.plate; receiver = n.receiver; mode = m }

-- "more than 14 held bytes, or held bytes not starting with 0xAA, count as none held"
abbrev pub may_hold : Receiver → Bool
may_hold r = leb r.count 14 && eqb (get_or r.held 0 0) 0xAA

unfoldable pub held_in : Receiver → List ℕ
held_in r = cond (may_hold r) (take r.count r.held) []

abbrev pub held_of : Node → List ℕ
held_of n = held_in n.receiver

-- bytes that may be held: none, or at most 14 that start with 0xAA
abbrev pub Holdable : List ℕ → Type 0
Holdable [] = Unit {0}
Holdable (x ∷ xs) = (x ≡ 0xAA) × (length xs ≤ 13)

-- whether a command is legal at an address of either kind
abbrev pub legal_at : Address → ℕ → Bool
legal_at (Flash a) command = legal_flash a.0 command
legal_at (Eeprom p) command = legal_eeprom p.0 command

abbrev pub legal_staged : Staged → Bool
legal_staged Nothing = true
legal_staged (Read a) = legal_at a 0x01
legal_staged (Write a) = legal_at a 0x02
legal_staged (Erase a) = legal_flash a.0 0x03

-- "A staged command that isn't legal counts as none"
abbrev pub tidy_staged : Staged → Staged
tidy_staged s = cond (legal_staged s) s Nothing

abbrev pub tidy_mode : Mode → Mode
tidy_mode (Normal started) = Normal started
tidy_mode (Programming s) = Programming (tidy_staged s)
tidy_mode Error = Error
tidy_mode Waiting = Waiting

-- "A caller may hand in any node record. .. "Unchanged" below means the record so tidied."
unfoldable pub tidied : Node → Node
tidied n = with_mode (holding n (held_of n)) (tidy_mode n.mode)

-- what a plain restart chooses: this pin, and for the rest what is meant where nothing is said. After noise ("From now on the default on
-- 11 is") that is the new way; the old one must be asked for "by name".
abbrev pub plain : Pin → Choices
plain pin = record { pin = pin; noise = KeepFromNext }

-- "A fresh node takes the six bytes, has own numbers 0, no bytes held, pin CAN only, and waits for restart."
unfoldable pub fresh_node : List ℕ → Node
fresh_node six =
    record {
      choices = plain CanOnly;
      plate = record { fixed = six; own = record { 0 = 0 }; group = record { 0 = 0 } };
      receiver = receiving [];
      mode = Waiting;
    }
