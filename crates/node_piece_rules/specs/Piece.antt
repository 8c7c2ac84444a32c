-- UART in pieces (document 02, A1): "Take a piece, stop behind the byte that gives an outcome other than 10, or at the end, and report
-- bytes taken, the outcome and any replies."
use Rattle.std.specs.Prelude.{ℕ, ◌+◌, ◌≡◌, Bool, false, ◌&&◌, cond, List, [], ◌∷◌, eqb, leb, length, get_or, take}
use Rattle.memory_address.specs.Places.{full}
use Rattle.frame_rules.specs.Wrapping.{inner_of}
use Rattle.node_rules.specs.declared.Node.{Node}
use Rattle.node_rules.specs.Record.{held_of, tidied}
use Rattle.node_rules.specs.Outcomes.{first_that}
use Rattle.node_rules.specs.Uart.{UartStep, uart_after, held_with, held_outcomes, silent}
use Rattle.node_rules.specs.Runs.{state, end_of, behind_byte, bytes_in}
use Rattle.node_rules.specs.Numbered.{UartAnswer}
use Rattle.node_rules.specs.InNumbers.{uart_in_numbers}
use Rattle.node_piece_rules.specs.declared.PieceAnswer.{PieceAnswer as PieceHanded}

-- the answer to a piece, in document 01's numbers: how many of its bytes are taken, and the answer to the last of them
pub record PieceAnswer : Type 0 where
  pub taken : ℕ
  pub answer : UartAnswer

-- and what the code's answer is in these
abbrev pub piece_in_numbers : PieceHanded → PieceAnswer
piece_in_numbers a = record { taken = a.taken; answer = uart_in_numbers a.answer }

-- all that a piece leaves: how many of its bytes are taken, and what the last of them leaves
pub record PieceStep : Type 0 where
  pub taken : ℕ
  pub last : UartStep

abbrev pub piece_after : PieceAnswer → List ℕ → List ℕ → PieceStep
piece_after r flash eeprom = record { taken = r.taken; last = uart_after r.answer flash eeprom }

-- "Outcomes 1, 2 and 3 take no byte"
abbrev pub takes_none : ℕ → Bool
takes_none number = leb 1 number && leb number 3

-- of what the bytes give one after the other, what is taken: "stop behind the byte that gives an outcome other than 10, or at the end"
abbrev pub taken_of : List UartStep → List UartStep
taken_of [] = []
taken_of (s ∷ ss) = cond (takes_none s.answer.number) [] (s ∷ cond (eqb s.answer.number 10) (taken_of ss) [])

-- no byte taken: the outcome table for what is held and no byte more, which is 1, 2 or 3, or else 10, with no reply; the record tidied
abbrev pub no_byte : Node → List ℕ → List ℕ → UartStep
no_byte n flash eeprom = silent (first_that (held_outcomes (tidied n) (full flash eeprom) (held_of (tidied n)))) (tidied n) flash eeprom

-- the last of some, or s where there is none
abbrev pub last_of : UartStep → List UartStep → UartStep
last_of s [] = s
last_of s (t ∷ ts) = last_of t ts

abbrev pub last_taken : UartStep → List UartStep → PieceStep
last_taken s ts = record { taken = length ts; last = last_of s ts }

-- a piece of UART bytes
unfoldable pub piece_step : Node → List ℕ → List ℕ → List ℕ → PieceStep
piece_step n bs flash eeprom = last_taken (no_byte n flash eeprom) (taken_of (bytes_in bs (state n flash eeprom)))

-- the node before the byte of a piece that has j bytes in front of it, and the frame that this byte completes, or would complete
abbrev pub node_before : Node → List ℕ → List ℕ → List ℕ → ℕ → Node
node_before n bs flash eeprom j = (end_of behind_byte (state n flash eeprom) (bytes_in (take j bs) (state n flash eeprom))).node

abbrev pub frame_at : Node → List ℕ → List ℕ → List ℕ → ℕ → List ℕ
frame_at n bs flash eeprom j = inner_of (held_with (held_of (tidied (node_before n bs flash eeprom j))) (get_or bs j 0))

-- the outcomes other than 10, of steps one after the other
abbrev pub but_tens : List UartStep → List UartStep
but_tens [] = []
but_tens (s ∷ ss) = cond (eqb s.answer.number 10) (but_tens ss) (s ∷ but_tens ss)

-- of pieces one after the other: how many bytes are taken in all, and what each leaves
abbrev pub taken_in_all : List PieceStep → ℕ
taken_in_all [] = 0
taken_in_all (p ∷ ps) = p.taken + taken_in_all ps

abbrev pub lasts_of : List PieceStep → List UartStep
lasts_of [] = []
lasts_of (p ∷ ps) = p.last ∷ lasts_of ps

-- "before the first 1, 2 or 3"
abbrev pub NoneRefused : List PieceStep → Type 0
NoneRefused [] = Unit {0}
NoneRefused (p ∷ ps) = (takes_none p.last.answer.number ≡ false) × NoneRefused ps

-- each piece has a byte
abbrev pub NoneEmpty : List (List ℕ) → Type 0
NoneEmpty [] = Unit {0}
NoneEmpty (p ∷ ps) = (p ≡ [] → ⊥) × NoneEmpty ps
