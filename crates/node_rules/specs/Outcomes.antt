-- "Numbered outcomes": a list of (number, condition). The first that holds gives the number and what is left; where none holds, 0, and
-- what the frame asks is done.
use Rattle.std.specs.Prelude.{ℕ, Bool, true, false, ◌||◌, not, cond, List, [], ◌∷◌, eqb, length, Option, Some, None}
use Rattle.memory_address.specs.Rule.{is_legal}
use Rattle.frame_rules.specs.Frame.{type_of, flag_of, upper_flags}
use Rattle.node_rules.specs.declared.Staged.{Staged}
use Rattle.node_rules.specs.declared.Staged.TheVariants.{Nothing, Read, Write, Erase}
use Rattle.node_rules.specs.declared.Mode.{Mode}
use Rattle.node_rules.specs.declared.Mode.TheVariants.{Normal, Programming, Error, Waiting}
use Rattle.node_rules.specs.declared.Request.{Request}
use Rattle.node_rules.specs.declared.Request.TheVariants.{EnterProgramming, WaitForRestart, HardwareType, FirmwareType, Description, DeviceId, LeaveProgramming, AddressFrame, DataFrame}
use Rattle.node_rules.specs.declared.Node.{Node}
use Rattle.node_rules.specs.declared.Memory.TheVariants.{Kept}
use Rattle.node_rules.specs.declared.Next.{Next}
use Rattle.node_rules.specs.declared.Next.TheVariants.{Stays, Programs}
use Rattle.node_rules.specs.declared.Reply.TheVariants.{Silent}
use Rattle.node_rules.specs.Numbered.{Effect}
use Rattle.node_rules.specs.Requests.{found, is_for, handled_here, ruled_in, staged_in, asked_by}
use Rattle.node_rules.specs.declared.Kind.{Kind}

-- "No" and "When"
pub record Outcome : Type 0 where
  pub number : ℕ
  pub when : Bool

abbrev pub outcome : ℕ → Bool → Outcome
outcome k b = record { number = k; when = b }

-- "Afterwards": 8 is "nothing staged", every other number of a frame "unchanged"
abbrev pub afterwards : ℕ → Next
afterwards number = cond (eqb number 8) (Programs Nothing) Stays

-- "No number but 0 carries a reply or changes a memory."
abbrev pub refused : ℕ → Effect
refused number = record { number = number; reply = Silent; memory = Kept; next = afterwards number }

-- "Checked in this order"
abbrev pub first_that : List Outcome → ℕ
first_that [] = 0
first_that (o ∷ os) = cond o.when o.number (first_that os)

abbrev pub unless : List Outcome → Effect → Effect
unless [] asked = asked
unless (o ∷ os) asked = cond o.when (refused o.number) (unless os asked)

-- 3: "error mode or waiting for restart"
abbrev pub is_deaf : Mode → Bool
is_deaf (Normal started) = false
is_deaf (Programming s) = false
is_deaf Error = true
is_deaf Waiting = true

-- 4: "not 12 bytes, an upper flag set" (what else it names belongs to the conversions)
abbrev pub misshapen : List ℕ → Bool
misshapen f = not (eqb (length f) 12) || upper_flags f

-- 5: "response flag set"
abbrev pub is_response : List ℕ → Bool
is_response f = eqb (flag_of f) 1

abbrev pub is_nothing : Staged → Bool
is_nothing Nothing = true
is_nothing (Read a) = false
is_nothing (Write a) = false
is_nothing (Erase a) = false

-- 8: "0x030 with illegal address or command"; 9: "0x040 with nothing staged"
abbrev pub request_outcomes : Request → Mode → List ℕ → List Outcome
request_outcomes EnterProgramming m f = []
request_outcomes WaitForRestart m f = []
request_outcomes HardwareType m f = []
request_outcomes FirmwareType m f = []
request_outcomes Description m f = []
request_outcomes DeviceId m f = []
request_outcomes LeaveProgramming m f = []
request_outcomes AddressFrame m f = outcome 8 (not (is_legal (ruled_in f))) ∷ []
request_outcomes DataFrame m f = outcome 9 (is_nothing (staged_in m)) ∷ []

-- 6: "type not handled in this mode"; 7: "not for this node"; then 8 and 9
abbrev pub type_outcomes : Option Kind → Node → List ℕ → List Outcome
type_outcomes None n f = outcome 6 true ∷ []
type_outcomes (Some k) n f =
    outcome 6 (not (handled_here k.handled n.mode)) ∷
    outcome 7 (not (is_for k.addressing n.plate f)) ∷
    request_outcomes k.request n.mode f

-- 4 to 9, for a frame and a tidied node
abbrev pub frame_outcomes : Node → List ℕ → List Outcome
frame_outcomes n f =
    outcome 4 (misshapen f) ∷
    outcome 5 (is_response f) ∷
    type_outcomes (found (type_of f)) n f

-- the whole table for a CAN frame, over memories that are full (both of their size) or not
abbrev pub can_outcomes : Node → Bool → List ℕ → List Outcome
can_outcomes n full f =
    outcome 1 (not full) ∷
    outcome 3 (is_deaf n.mode) ∷
    frame_outcomes n f

-- what a frame asks of a node
abbrev pub asked_of : Node → List ℕ → Effect
asked_of n f = asked_by (found (type_of f)) n.mode f

-- what a CAN frame comes to
unfoldable pub decided : Node → Bool → List ℕ → Effect
decided n full f = unless (can_outcomes n full f) (asked_of n f)
