-- What the port answers about a call and about fifteen bytes.
use Rattle.std.specs.Prelude.{ℕ, Bool, not, cond, List, Option, Some, None, Result, Ok, Err}
use Rattle.frame_rules.specs.Wrapping.{inner_of, rightly_wrapped}
use Rattle.node_rules.specs.declared.Choices.{Choices}
use Rattle.node_rules.specs.declared.Receiver.{Receiver}
use Rattle.node_rules.specs.declared.Node.{Node}
use Rattle.node_rules.specs.declared.Refusal.{Refusal}
use Rattle.node_rules.specs.declared.Refusal.TheVariants.{WrongLength, ClosedPort, TakesNoFrame}
use Rattle.node_rules.specs.Outcomes.{is_deaf}
use Rattle.node_rules.specs.Record.{receiving}
use Rattle.node_rules.specs.Uart.{is_closed, held_after_bad}

-- 1, 2 or 3, the first that is met; whether both memories are full is known
abbrev pub listens : Bool → Node → Result (Unit {0}) Refusal
listens full n =
    cond (not full) (Err WrongLength)
    (cond (is_closed n.choices.pin) (Err ClosedPort)
    (cond (is_deaf n.mode) (Err TakesNoFrame)
    (Ok tt)))

-- the frame in these bytes; none where they aren't fifteen, or their start, sum or stop is wrong
abbrev pub frame_in : List ℕ → Option (List ℕ)
frame_in w = cond (rightly_wrapped w) (Some (inner_of w)) None

-- the frame in fifteen bytes, or what stays held of them where their sum or stop is wrong
abbrev pub judged : Choices → List ℕ → Result (List ℕ) Receiver
judged c fifteen = cond (rightly_wrapped fifteen) (Ok (inner_of fifteen)) (Err (receiving (held_after_bad c fifteen)))
