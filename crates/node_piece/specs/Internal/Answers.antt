-- What `uart_piece` answers with no reply, in numbers, and the record that it hands back then.
use Rattle.std.specs.Prelude.{ℕ}
use Rattle.node_rules.specs.declared.Receiver.{Receiver}
use Rattle.node_rules.specs.declared.Node.{Node}
use Rattle.node_rules.specs.Record.{tidied}
use Rattle.node_rules.specs.Uart.{silent_on_uart}
use Rattle.node_piece_rules.specs.Piece.{PieceAnswer}

-- so many bytes taken, and no reply
abbrev pub silent_piece : ℕ → ℕ → Node → PieceAnswer
silent_piece taken number n = record { taken = taken; answer = silent_on_uart number n }

-- the tidied record with this in its receiver
abbrev pub receives : Node → Receiver → Node
receives n r = record { choices = (tidied n).choices; plate = (tidied n).plate; receiver = r; mode = (tidied n).mode }
