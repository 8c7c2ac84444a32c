-- What the code answers, told in document 01's numbers: a refusal is its number, with no reply; what isn't refused is 0.
use Rattle.std.specs.Prelude.{ℕ, Result, Ok, Err}
use Rattle.node_rules.specs.declared.Refusal.{Refusal}
use Rattle.node_rules.specs.declared.Refusal.TheVariants.{WrongLength, ClosedPort, TakesNoFrame, Misshapen, IsResponse, NotHandled, NotForNode, IllegalAddress, NothingStaged, Incomplete, BadFrame}
use Rattle.node_rules.specs.declared.Node.{Node}
use Rattle.node_rules.specs.declared.Replies.{Replies}
use Rattle.node_rules.specs.declared.Answer.{Answer as Handed}
use Rattle.node_rules.specs.declared.Restarted.{Restarted as Restart}
use Rattle.node_rules.specs.Numbered.{Answer, UartAnswer, Restarted}
use Rattle.node_rules.specs.Step.{answering, silent_answer}
use Rattle.node_rules.specs.Uart.{silent_on_uart}

-- "No", of each refusal
abbrev pub refusal_number : Refusal → ℕ
refusal_number WrongLength = 1
refusal_number ClosedPort = 2
refusal_number TakesNoFrame = 3
refusal_number Misshapen = 4
refusal_number IsResponse = 5
refusal_number NotHandled = 6
refusal_number NotForNode = 7
refusal_number IllegalAddress = 8
refusal_number NothingStaged = 9
refusal_number Incomplete = 10
refusal_number BadFrame = 11

-- the answer to a CAN frame
abbrev pub outcome_in_numbers : Result (Replies 24) Refusal → Node → Answer
outcome_in_numbers (Ok r) n = answering 0 r n
outcome_in_numbers (Err r) n = silent_answer (refusal_number r) n

abbrev pub answer_in_numbers : Handed 24 → Answer
answer_in_numbers a = outcome_in_numbers a.outcome a.node

-- the answer to a UART byte
abbrev pub uart_outcome_in_numbers : Result (Replies 30) Refusal → Node → UartAnswer
uart_outcome_in_numbers (Ok r) n = record { number = 0; count = r.count; replies = r.bytes; node = n }
uart_outcome_in_numbers (Err r) n = silent_on_uart (refusal_number r) n

abbrev pub uart_in_numbers : Handed 30 → UartAnswer
uart_in_numbers a = uart_outcome_in_numbers a.outcome a.node

-- the answer to a restart
abbrev pub outcome_number : {A : Type 0} → Result A Refusal → ℕ
outcome_number (Ok done) = 0
outcome_number (Err r) = refusal_number r

abbrev pub restarted_in_numbers : Restart → Restarted
restarted_in_numbers a = record { number = outcome_number a.outcome; node = a.node }
