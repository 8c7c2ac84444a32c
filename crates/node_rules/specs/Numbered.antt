-- What a frame comes to and what a call answers, as document 01 tells it: by a number. The code has these as `Effect` and `Numbered`, which
-- take any number. specs/InNumbers.antt says what the code's other answers are in these.
use Rattle.std.specs.Prelude.{ℕ}
use Rattle.node_rules.specs.declared.Effect.{Effect as Made}
use Rattle.node_rules.specs.declared.Numbered.{Numbered}
use Rattle.node_rules.specs.declared.Node.{Node}

-- what a frame comes to: its number, the reply, and what becomes of memories and mode
abbrev pub Effect : Type 0
Effect = Made

-- the answer to a CAN frame: the number, how many replies of 12 bytes and their bytes, and the node
abbrev pub Answer : Type 0
Answer = Numbered 24

-- the answer to a UART byte: the same, with replies of 15 wrapped bytes
abbrev pub UartAnswer : Type 0
UartAnswer = Numbered 30

-- the answer to a restart
pub record Restarted : Type 0 where
  pub number : ℕ
  pub node : Node
