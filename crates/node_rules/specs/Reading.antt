-- The words of the theorems that docs/ANSWERS.md cites, beside those of the rules themselves.
use Rattle.std.specs.Prelude.{ℕ, ◌+◌, ◌≡◌, List, [], ◌∷◌, ◌++◌, ◌⊎◌, get_or, replicate}
use Rattle.std.specs.Int.Bits.{bit_and}
use Rattle.node_rules.specs.declared.Staged.{Staged}
use Rattle.node_rules.specs.declared.Mode.TheVariants.{Programming}
use Rattle.node_rules.specs.declared.Noise.{Noise}
use Rattle.node_rules.specs.declared.Noise.TheVariants.{KeepFromNext, DropAll}
use Rattle.node_rules.specs.declared.Plate.{Plate}
use Rattle.node_rules.specs.declared.Node.{Node}
use Rattle.node_rules.specs.Record.{with_mode, tidied}
use Rattle.node_rules.specs.Step.{Step, can_step}
use Rattle.node_rules.specs.Runs.{NoStart}

-- all that a call leaves: the number, how many replies, their 24 bytes, the node, FLASH, EEPROM
abbrev pub leaves : ℕ → ℕ → List ℕ → Node → List ℕ → List ℕ → Step
leaves number count replies n flash eeprom =
    record { answer = record { number = number; count = count; replies = replies; node = n }; flash = flash; eeprom = eeprom }

-- done, with this one reply
abbrev pub replies_with : List ℕ → Node → List ℕ → List ℕ → Step
replies_with reply n flash eeprom = leaves 0 1 (reply ++ replicate 12 0) n flash eeprom

-- one frame and then another, to the node and the memories that the first left
abbrev pub can_then : Step → List ℕ → Step
can_then s f = can_step s.answer.node f s.flash s.eeprom

-- a frame with the own numbers: its first two bytes, and D0 to D7
abbrev pub with_own : Plate → ℕ → ℕ → List ℕ → List ℕ
with_own p b1 b2 d = b1 ∷ b2 ∷ p.own.0 ∷ p.group.0 ∷ d

-- eight bytes
abbrev pub eight_of : ℕ → ℕ → ℕ → ℕ → ℕ → ℕ → ℕ → ℕ → List ℕ
eight_of d0 d1 d2 d3 d4 d5 d6 d7 = d0 ∷ d1 ∷ d2 ∷ d3 ∷ d4 ∷ d5 ∷ d6 ∷ d7 ∷ []

-- 0x030 with D0 to D7: "Legal: staged, D0 to D7 echoed."
abbrev pub Stages : Node → List ℕ → Staged → List ℕ → List ℕ → Type 0
Stages n d c flash eeprom =
    can_step n (with_own n.plate 0x03 0x00 d) flash eeprom
    ≡ replies_with (with_own n.plate 0x03 0x01 d) (with_mode (tidied n) (Programming c)) flash eeprom

-- the eight cells from a on
abbrev pub eight_at : List ℕ → ℕ → List ℕ
eight_at m a =
    eight_of (get_or m a 0) (get_or m (a + 1) 0) (get_or m (a + 2) 0) (get_or m (a + 3) 0) (get_or m (a + 4) 0) (get_or m (a + 5) 0)
    (get_or m (a + 6) 0) (get_or m (a + 7) 0)

-- "in each cell the old bits and the new bits combined by "and""
abbrev pub eight_and : List ℕ → ℕ → ℕ → ℕ → ℕ → ℕ → ℕ → ℕ → ℕ → ℕ → List ℕ
eight_and m a d0 d1 d2 d3 d4 d5 d6 d7 =
    eight_of (bit_and (get_or m a 0) d0) (bit_and (get_or m (a + 1) 0) d1) (bit_and (get_or m (a + 2) 0) d2) (bit_and (get_or m (a + 3) 0) d3)
    (bit_and (get_or m (a + 4) 0) d4) (bit_and (get_or m (a + 5) 0) d5) (bit_and (get_or m (a + 6) 0) d6) (bit_and (get_or m (a + 7) 0) d7)

-- ""Group" means D2 is 0x00 and D3 is 0x00 or the own group; "node" means D2, D3 are the own numbers."
abbrev pub ToGroup : Plate → ℕ → ℕ → Type 0
ToGroup p d2 d3 = (d2 ≡ 0x00) × ((d3 ≡ 0x00) ⊎ (d3 ≡ p.group.0))

abbrev pub ToNode : Plate → ℕ → ℕ → Type 0
ToNode p d2 d3 = (d2 ≡ p.own.0) × (d3 ≡ p.group.0)

-- no number of a list is t
abbrev pub NoneIs : List ℕ → ℕ → Type 0
NoneIs [] t = Unit {0}
NoneIs (x ∷ xs) t = (x ≡ t → ⊥) × NoneIs xs t

-- 11: what stays held of fifteen bytes, in each way. The new way: the first byte is dropped, and so are those behind it that are not 0xAA;
-- what stays starts with 0xAA, or is nothing. The old way: nothing.
abbrev pub StaysOf : Noise → List ℕ → List ℕ → Type 0
StaysOf KeepFromNext fifteen held =
    (first : ℕ) × (passed : List ℕ) × (fifteen ≡ first ∷ passed ++ held) × NoStart passed × ((held ≡ []) ⊎ (get_or held 0 0 ≡ 0xAA))
StaysOf DropAll fifteen held = held ≡ []
