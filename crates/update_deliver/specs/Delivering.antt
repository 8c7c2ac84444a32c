-- What `deliver` leaves: the translation, and then the delivery of the frames that it wrote.
use Rattle.std.specs.Prelude.{ℕ, ◌*◌, ◌/◌, cond, List, ◌++◌, ltb, length, drop}
use Rattle.node_rules.specs.declared.Node.{Node}
use Rattle.recipe.specs.Frames.{joined}
use Rattle.recipe.specs.Translation.{Translated, Frames, Refused, in_numbers, translated, output_by}
use Rattle.update_deliver.specs.declared.Delivered.{Delivered as Answered}
use Rattle.update_rules.specs.Delivery.{Delivery, delivered}
use Rattle.update_deliver.specs.Taken.{first_frames}

-- the room for frames: no more than are lent, and no more than the answers have room for, 14 bytes a frame
unfoldable pub room_for : ℕ → ℕ → ℕ
room_for frames answers = cond (ltb (12 * (answers / 14)) frames) (12 * (answers / 14)) frames

-- what a delivery answers: the translator's answer, the node afterwards, and how many answers were told
pub record Delivered : Type 0 where
  pub translated : Translated
  pub node : Node
  pub count : ℕ

-- for each frame an answer is told
abbrev pub told_count : Translated → ℕ
told_count (Refused number place) = 0
told_count (Frames count) = count

-- what the code answers, in document 01's numbers
abbrev pub delivered_in_numbers : Answered → Delivered
delivered_in_numbers d = record {
  translated = in_numbers d.translated;
  node = d.node;
  count = told_count (in_numbers d.translated);
}

-- all that a call leaves
pub record Left : Type 0 where
  pub result : Delivered
  pub flash : List ℕ
  pub eeprom : List ℕ
  pub frames : List ℕ
  pub answers : List ℕ

abbrev pub left : Delivered → List ℕ → List ℕ → List ℕ → List ℕ → Left
left r flash eeprom frames answers = record { result = r; flash = flash; eeprom = eeprom; frames = frames; answers = answers }

-- after the delivery d of the `count` frames that stand in `frames`: what is told of each answer, 14 bytes, one behind the other; bytes
-- behind the last stay
abbrev pub left_by : ℕ → List ℕ → Delivery → List ℕ → Left
left_by count frames d answers =
    left (record { translated = Frames count; node = d.node; count = count }) d.flash d.eeprom frames
    (joined d.answers ++ drop (14 * count) answers)

-- a refused recipe touches nothing, and the node comes back as it was handed in; else the frames are written, and handed over
abbrev pub deliver_by : Translated → List ℕ → Node → List ℕ → List ℕ → List ℕ → List ℕ → Left
deliver_by (Refused number place) recipe n flash eeprom frames answers =
    left (record { translated = Refused number place; node = n; count = 0 }) flash eeprom frames answers
deliver_by (Frames count) recipe n flash eeprom frames answers =
    let written = output_by (Frames count) recipe frames in
    left_by count written (delivered (first_frames count written) n flash eeprom) answers

unfoldable pub deliver_step : List ℕ → Node → List ℕ → List ℕ → List ℕ → List ℕ → Left
deliver_step recipe n flash eeprom frames answers =
    deliver_by (translated recipe (room_for (length frames) (length answers))) recipe n flash eeprom frames answers
