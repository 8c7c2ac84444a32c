-- What calls leave when a legal recipe arrives whole, and when a recipe is refused.
use Rattle.std.specs.Prelude.{ℕ, ◌*◌, ◌≡◌, List, ◌++◌, map, drop}
use Rattle.node_rules.specs.declared.Mode.TheVariants.{Waiting}
use Rattle.node_rules.specs.declared.Node.{Node}
use Rattle.node_rules.specs.Record.{with_mode, tidied}
use Rattle.node_rules.specs.Runs.{State}
use Rattle.recipe.specs.Items.{Recipe}
use Rattle.recipe.specs.Frames.{frames_of, joined, frame_count}
use Rattle.recipe.specs.Plain.{Memories, plainly}
use Rattle.recipe.specs.Translation.{Frames, Refused}
use Rattle.update_rules.specs.Mirror.{answers_of}
use Rattle.update_rules.specs.Serial.{serially, wrapped_told}
use Rattle.update_rules.specs.Updated.{Arrived}
use Rattle.update_deliver.specs.Delivering.{Left, left}

-- on UART: what is told of the bytes is what is told of the frames, each frame's last byte alone completing it; and the recipe has arrived
pub record ArrivedOnUart (r : Recipe) (n : Node) (m : Memories) (told : List (List ℕ)) (after : State) : Type 0 where
  pub each_byte : told ≡ serially (answers_of r)
  pub whole : Arrived r n m (answers_of r) after

-- on UART in pieces: of the outcomes other than 10 there is one a frame, and what is told of it is what is told of the frame, its reply
-- wrapped; and the recipe has arrived
pub record ArrivedInPieces (r : Recipe) (n : Node) (m : Memories) (told : List (List ℕ)) (after : State) : Type 0 where
  pub each_frame : told ≡ map wrapped_told (answers_of r)
  pub whole : Arrived r n m (answers_of r) after

-- after a call of `deliver`: the frames stand in the lent frames, and what is told of their answers in the lent answers
abbrev pub wholly : Recipe → Node → Memories → List ℕ → List ℕ → Left
wholly r n m frames answers =
    left (record { translated = Frames (frame_count r); node = with_mode (tidied n) Waiting; count = frame_count r })
    (plainly r m).flash (plainly r m).eeprom
    (joined (frames_of r) ++ drop (12 * frame_count r) frames)
    (joined (answers_of r) ++ drop (14 * frame_count r) answers)

-- refused: the number and the place, and nothing is touched; the node comes back as it was handed in
abbrev pub untouched : ℕ → ℕ → Node → Memories → List ℕ → List ℕ → Left
untouched number place n m frames answers =
    left (record { translated = Refused number place; node = n; count = 0 }) m.flash m.eeprom frames answers
