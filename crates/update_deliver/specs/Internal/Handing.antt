-- What the hand-over of frames leaves.
use Rattle.std.specs.Prelude.{ℕ, ◌*◌, List, ◌++◌, drop}
use Rattle.node_rules.specs.declared.Node.{Node}
use Rattle.recipe.specs.Frames.{joined}
use Rattle.recipe.specs.Translation.{Frames}
use Rattle.update_rules.specs.Delivery.{Delivery, delivered}
use Rattle.update_deliver.specs.Taken.{first_frames}
use Rattle.update_deliver.specs.Delivering.{Left, left}

-- the node, the memories and the answers after frames were handed over
pub record Handed : Type 0 where
  pub node : Node
  pub flash : List ℕ
  pub eeprom : List ℕ
  pub answers : List ℕ

abbrev pub handed : Node → List ℕ → List ℕ → List ℕ → Handed
handed n flash eeprom answers = record { node = n; flash = flash; eeprom = eeprom; answers = answers }

-- what is told of each answer, 14 bytes each, one behind the other; bytes behind the last stay
abbrev pub handed_by : Delivery → ℕ → List ℕ → Handed
handed_by d count answers = handed d.node d.flash d.eeprom (joined d.answers ++ drop (14 * count) answers)

-- the first `count` frames of a buffer handed over
unfoldable pub handed_over : ℕ → List ℕ → Node → List ℕ → List ℕ → List ℕ → Handed
handed_over count frames n flash eeprom answers = handed_by (delivered (first_frames count frames) n flash eeprom) count answers

-- after the hand-over of `count` frames, which stand in `frames`
abbrev pub after_hand_over : ℕ → List ℕ → Handed → Left
after_hand_over count frames h =
    left (record { translated = Frames count; node = h.node; count = count }) h.flash h.eeprom frames h.answers
