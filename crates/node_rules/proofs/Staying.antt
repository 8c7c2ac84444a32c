-- "They stay until the next restart, whatever is written meanwhile": no frame and no byte changes the plate, with the own numbers and the
-- fixed bytes, or what was chosen. Tidying touches neither, and an effect changes at most the mode.
-- Assumes nothing.
use mathlib.Core.Path.{◌≡◌, refl}
use mathlib.Core.List.{List}
use Prim.Native.Nat.{ℕ}
use Rattle.memory_address.specs.Places.{full}
use Rattle.node_rules.specs.declared.Next.{Next}
use Rattle.node_rules.specs.declared.Next.TheVariants.{Stays, Programs, Waits}
use Rattle.node_rules.specs.declared.Node.{Node}
use Rattle.node_rules.specs.Record.{holding, held_of, tidied}
use Rattle.node_rules.specs.Outcomes.{decided}
use Rattle.node_rules.specs.Step.{node_after, done, can_step}
use Rattle.node_rules.specs.Uart.{held_with, held_after, held_decided, uart_step}

-- one record and another: the same own numbers and fixed bytes, and the same choices
abbrev pub SameNumbers : Node → Node → Type 0
SameNumbers n n' = (n'.plate ≡ n.plate) × (n'.choices ≡ n.choices)

stays : (x : Next) (n : Node) → SameNumbers n (node_after x n)
stays Stays n = (refl, refl)
stays (Programs s) n = (refl, refl)
stays Waits n = (refl, refl)

pub can_stays : (n : Node) (f flash eeprom : List ℕ) → SameNumbers n (can_step n f flash eeprom).answer.node
unfolding can_step done tidied
can_stays n f flash eeprom = stays (decided (tidied n) (full flash eeprom) f).next (tidied n)

pub uart_stays : (n : Node) (b : ℕ) (flash eeprom : List ℕ) → SameNumbers n (uart_step n b flash eeprom).answer.node
unfolding uart_step done tidied
uart_stays n b flash eeprom =
    let xs = held_with (held_of (tidied n)) b in
    let e = held_decided (tidied n) (full flash eeprom) xs in
    stays e.next (holding (tidied n) (held_after e.number (tidied n) xs))
