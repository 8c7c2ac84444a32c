-- A UART byte (document 01, "Frames" and "Numbered outcomes").
use Rattle.std.specs.Prelude.{ℕ, Bool, true, false, ◌&&◌, not, cond, List, [], ◌∷◌, ◌++◌, eqb, leb, ltb, length, replicate}
use Rattle.base.specs.Parts.{listed, part}
use Rattle.memory_address.specs.Places.{full}
use Rattle.frame_rules.specs.Wrapping.{wrapped_of, inner_of, rightly_wrapped}
use Rattle.node_rules.specs.declared.Pin.{Pin}
use Rattle.node_rules.specs.declared.Pin.TheVariants.{CanOnly, CanAndUart}
use Rattle.node_rules.specs.declared.Noise.{Noise}
use Rattle.node_rules.specs.declared.Noise.TheVariants.{KeepFromNext, DropAll}
use Rattle.node_rules.specs.declared.Choices.{Choices}
use Rattle.node_rules.specs.declared.Node.{Node}
use Rattle.node_rules.specs.Numbered.{Effect, Answer, UartAnswer}
use Rattle.node_rules.specs.Record.{holding, held_of, tidied}
use Rattle.node_rules.specs.Outcomes.{Outcome, outcome, unless, is_deaf, frame_outcomes, asked_of}
use Rattle.node_rules.specs.Step.{Step, done}

-- all that a UART byte leaves
pub record UartStep : Type 0 where
  pub answer : UartAnswer
  pub flash : List ℕ
  pub eeprom : List ℕ

abbrev pub uart_after : UartAnswer → List ℕ → List ℕ → UartStep
uart_after r flash eeprom = record { answer = r; flash = flash; eeprom = eeprom }

-- "the receiver skips bytes until 0xAA, then collects 14 more": what is held with this byte
abbrev pub held_with : List ℕ → ℕ → List ℕ
held_with [] b = cond (eqb b 0xAA) (b ∷ []) []
held_with (x ∷ xs) b = x ∷ xs ++ (b ∷ [])

-- 2: "UART while pin says CAN only"
abbrev pub is_closed : Pin → Bool
is_closed CanOnly = true
is_closed CanAndUart = false

-- 10: "UART frame incomplete"
abbrev pub incomplete : List ℕ → Bool
incomplete xs = ltb (length xs) 15

-- the whole table for a UART byte with which xs are held: "for a UART byte 10 and 11 come after 3, and a complete frame goes on from 4"
abbrev pub held_outcomes : Node → Bool → List ℕ → List Outcome
held_outcomes n full xs =
    outcome 1 (not full) ∷
    outcome 2 (is_closed n.choices.pin) ∷
    outcome 3 (is_deaf n.mode) ∷
    outcome 10 (incomplete xs) ∷
    outcome 11 (not (rightly_wrapped xs)) ∷
    frame_outcomes n (inner_of xs)

abbrev pub uart_outcomes : Node → Bool → ℕ → List Outcome
uart_outcomes n full b = held_outcomes n full (held_with (held_of n) b)

-- the bytes from the first 0xAA among them on, or nothing
abbrev pub from_start : List ℕ → List ℕ
from_start [] = []
from_start (b ∷ bs) = cond (eqb b 0xAA) (b ∷ bs) (from_start bs)

-- what each way leaves held of fifteen bytes. The default: "drop the first held byte, keep from the next 0xAA among the fourteen others, or
-- nothing". "The old way stays": "A wrong sum or stop drops all fifteen."
abbrev pub kept_by : Noise → List ℕ → List ℕ
kept_by KeepFromNext fifteen = from_start (part fifteen 1 14)
kept_by DropAll fifteen = []

-- 11: what stays held of fifteen bytes with a wrong sum or stop, by the way that was chosen
unfoldable pub held_after_bad : Choices → List ℕ → List ℕ
held_after_bad c fifteen = kept_by c.noise fifteen

-- "Afterwards", as far as it is about held bytes: 1, 2 and 3 "all unchanged"; 10 "byte held or skipped"; 11; and else "A complete UART
-- frame empties the held bytes whatever follows."
abbrev pub held_after : ℕ → Node → List ℕ → List ℕ
held_after number n xs =
    cond (leb 1 number && leb number 3) (held_of n)
    (cond (eqb number 10) xs (cond (eqb number 11) (held_after_bad n.choices xs) []))

-- "Replies go to the port of the request, wrapped on UART": each of the replies by itself; unused room is 0
abbrev pub wrapped_replies : ℕ → List ℕ → List ℕ
wrapped_replies count replies =
    cond (eqb count 0) (replicate 30 0)
    (cond (eqb count 1) (wrapped_of (listed replies 0 12) ++ replicate 15 0)
    (wrapped_of (listed replies 0 12) ++ wrapped_of (listed replies 12 12)))

abbrev pub on_uart : Answer → UartAnswer
on_uart r =
    record { number = r.number; count = r.count; replies = wrapped_replies r.count r.replies; node = r.node }

abbrev pub via_uart : Step → UartStep
via_uart s = uart_after (on_uart s.answer) s.flash s.eeprom

-- what a byte with which xs are held comes to, and that done: the frame is the 12 bytes inside
abbrev pub held_decided : Node → Bool → List ℕ → Effect
held_decided n full xs = unless (held_outcomes n full xs) (asked_of n (inner_of xs))

abbrev pub held_done : Effect → Node → List ℕ → List ℕ → List ℕ → UartStep
held_done e n xs flash eeprom = via_uart (done e (holding n (held_after e.number n xs)) (inner_of xs) flash eeprom)

-- a byte to a tidied node
abbrev pub received : Node → ℕ → List ℕ → List ℕ → UartStep
received n b flash eeprom =
    held_done (held_decided n (full flash eeprom) (held_with (held_of n) b)) n (held_with (held_of n) b) flash eeprom

-- a UART byte
unfoldable pub uart_step : Node → ℕ → List ℕ → List ℕ → UartStep
uart_step n b flash eeprom = received (tidied n) b flash eeprom

-- a number with no reply, and the node
abbrev pub silent_on_uart : ℕ → Node → UartAnswer
silent_on_uart number n = record { number = number; count = 0; replies = replicate 30 0; node = n }

abbrev pub silent : ℕ → Node → List ℕ → List ℕ → UartStep
silent number n flash eeprom = uart_after (silent_on_uart number n) flash eeprom
