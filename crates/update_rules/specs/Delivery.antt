-- A delivery: frames handed to a node one by one, each as a CAN frame, with nothing else in between.
use Rattle.std.specs.Prelude.{ℕ, ◌≡◌, List, ◌∷◌, ◌++◌, map, take}
use Rattle.node_rules.specs.declared.Node.{Node}
use Rattle.node_rules.specs.Numbered.{Answer}
use Rattle.node_rules.specs.Step.{Step}
use Rattle.node_rules.specs.Runs.{State, state, end_of, behind_frame, frames_in}

-- what is told of an answer, 14 bytes: the number, how many replies, and the 12 bytes of the first (0 where there is none)
abbrev pub told : Answer → List ℕ
told a = a.number ∷ a.count ∷ take 12 a.replies

abbrev pub told_all : List Step → List (List ℕ)
told_all steps = map (λ (s : Step). told s.answer) steps

-- all that a delivery leaves: what was told of each answer, in the frames' order, the node, and the two memories
pub record Delivery : Type 0 where
  pub answers : List (List ℕ)
  pub node : Node
  pub flash : List ℕ
  pub eeprom : List ℕ

abbrev pub delivery : List (List ℕ) → State → Delivery
delivery answers s = record { answers = answers; node = s.node; flash = s.flash; eeprom = s.eeprom }

-- what stands behind the last of some frames
abbrev pub behind_frames : List (List ℕ) → State → State
behind_frames frames s = end_of behind_frame s (frames_in frames s)

-- "Deliver the translated frames in order"
unfoldable pub delivered : List (List ℕ) → Node → List ℕ → List ℕ → Delivery
delivered frames n flash eeprom =
    delivery (told_all (frames_in frames (state n flash eeprom))) (behind_frames frames (state n flash eeprom))

-- THE RELATION: frames handed to what stands before give these told answers, and leave what stands after
abbrev pub Delivers : List (List ℕ) → State → List (List ℕ) → State → Type 0
Delivers frames before answers after = delivered frames before.node before.flash before.eeprom ≡ delivery answers after
