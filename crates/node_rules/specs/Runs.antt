-- Calls one after the other, each to the node and the memories that the one before left.
use Rattle.std.specs.Prelude.{ℕ, ◌≡◌, false, List, [], ◌∷◌, ◌++◌, ◌⊎◌, take, replicate}
use Rattle.frame_rules.specs.Wrapping.{rightly_wrapped}
use Rattle.node_rules.specs.declared.Node.{Node}
use Rattle.node_rules.specs.declared.Memory.{Memory}
use Rattle.node_rules.specs.Step.{Step, can_step, flash_after, eeprom_after}
use Rattle.node_rules.specs.Record.{holding}
use Rattle.node_rules.specs.Uart.{UartStep, uart_step, silent}

-- what stands between two calls: the node and the two memories
pub record State : Type 0 where
  pub node : Node
  pub flash : List ℕ
  pub eeprom : List ℕ

abbrev pub state : Node → List ℕ → List ℕ → State
state n flash eeprom = record { node = n; flash = flash; eeprom = eeprom }

-- all that each call leaves, in order, where `step` is a call and `left` what stands behind it
abbrev pub steps_of : {X S : Type 0} → (X → State → S) → (S → State) → List X → State → List S
steps_of step left [] s = []
steps_of step left (x ∷ xs) s = step x s ∷ steps_of step left xs (left (step x s))

-- what stands behind the last of them
abbrev pub end_of : {S : Type 0} → (S → State) → State → List S → State
end_of left s [] = s
end_of left s (t ∷ ts) = end_of left (left t) ts

-- CAN frames
abbrev pub behind_frame : Step → State
behind_frame s = state s.answer.node s.flash s.eeprom

abbrev pub frames_in : List (List ℕ) → State → List Step
frames_in = steps_of (λ f s. can_step s.node f s.flash s.eeprom) behind_frame

-- UART bytes
abbrev pub behind_byte : UartStep → State
behind_byte s = state s.answer.node s.flash s.eeprom

abbrev pub bytes_in : List ℕ → State → List UartStep
bytes_in = steps_of (λ b s. uart_step s.node b s.flash s.eeprom) behind_byte

-- bytes that are held one after the other behind those that are held: each 10, with no reply and memories untouched
abbrev pub collected : Node → List ℕ → List ℕ → List ℕ → List ℕ → List UartStep
collected n xs [] flash eeprom = []
collected n xs (b ∷ bs) flash eeprom =
    silent 10 (holding n (xs ++ (b ∷ []))) flash eeprom ∷ collected n (xs ++ (b ∷ [])) bs flash eeprom

-- each step has a number of which this holds, with no reply and memories untouched
abbrev pub EachSilent : (ℕ → Type 0) → List ℕ → List ℕ → List UartStep → Type 0
EachSilent P flash eeprom [] = Unit {0}
EachSilent P flash eeprom (s ∷ ss) =
    P s.answer.number × (s.answer.count ≡ 0) × (s.answer.replies ≡ replicate 30 0) × (s.flash ≡ flash) × (s.eeprom ≡ eeprom)
    × EachSilent P flash eeprom ss

-- each step is 10; each is 11; each is 10 or 11
abbrev pub AllTen : List ℕ → List ℕ → List UartStep → Type 0
AllTen = EachSilent (λ (number : ℕ). number ≡ 10)

abbrev pub AllEleven : List ℕ → List ℕ → List UartStep → Type 0
AllEleven = EachSilent (λ (number : ℕ). number ≡ 11)

abbrev pub TensAndElevens : List ℕ → List ℕ → List UartStep → Type 0
TensAndElevens = EachSilent (λ (number : ℕ). (number ≡ 10) ⊎ (number ≡ 11))

-- none of these bytes is 0xAA
abbrev pub NoStart : List ℕ → Type 0
NoStart [] = Unit {0}
NoStart (b ∷ bs) = (b ≡ 0xAA → ⊥) × NoStart bs

-- no fifteen bytes that start at an 0xAA of the noise, be they the noise's or those behind it, are a right frame
abbrev pub NoFrameIn : List ℕ → List ℕ → Type 0
NoFrameIn [] behind = Unit {0}
NoFrameIn (b ∷ noise) behind = (b ≡ 0xAA → rightly_wrapped (take 15 (b ∷ noise ++ behind)) ≡ false) × NoFrameIn noise behind

-- effects on the memories one after the other, each with its own data
abbrev pub flash_after_all : List (Memory × List ℕ) → List ℕ → List ℕ
flash_after_all [] flash = flash
flash_after_all (c ∷ cs) flash = flash_after_all cs (flash_after c.0 c.1 flash)

abbrev pub eeprom_after_all : List (Memory × List ℕ) → List ℕ → List ℕ
eeprom_after_all [] eeprom = eeprom
eeprom_after_all (c ∷ cs) eeprom = eeprom_after_all cs (eeprom_after c.0 c.1 eeprom)
