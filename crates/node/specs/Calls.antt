-- A call of each function, witnessed by its real contract: what it is handed, the answer in document 01's numbers, and what stands in the
-- memories afterwards. The contracts are the generated `Reads`: nothing is said of a body. And calls one after the other.
use Rattle.std.specs.Prelude.{Bool, List, [], ◌∷◌, ℕ, take, drop}
use contract.Lifetimes.{Lfts}
use borrow.Fn.World.{ArgsD, ResD}
use denote.Triple.Clauses.{AtExit}
use borrow.Fn.Kinds.{ended_of}
use Rattle.node_rules.specs.declared.Pin.{Pin}
use Rattle.node_rules.specs.declared.Choices.{Choices}
use Rattle.node_rules.specs.declared.Node.{Node}
use Rattle.node_rules.specs.Numbered.{Answer, UartAnswer, Restarted}
use Rattle.node_rules.specs.InNumbers.{answer_in_numbers, uart_in_numbers, restarted_in_numbers}
use Rattle.node_rules.specs.Step.{Step, after}
use Rattle.node_rules.specs.Uart.{UartStep, uart_after}
use Rattle.node_rules.specs.Runs.{State, state}
use Rattle.node_piece_rules.specs.Piece.{PieceAnswer, PieceStep, piece_after, piece_in_numbers}
use Rattle.node_restart.specs.contracts.fresh as fresh
use Rattle.node_restart.proofs.fresh.Kinds as fresh-kinds
use Rattle.node_restart.proofs.fresh.Reads as fresh-reads
use Rattle.node_restart.specs.contracts.restart as restart
use Rattle.node_restart.proofs.restart.Kinds as restart-kinds
use Rattle.node_restart.proofs.restart.Reads as restart-reads
use Rattle.node_restart.specs.contracts.restart_with as restart-with
use Rattle.node_restart.proofs.restart_with.Kinds as restart-with-kinds
use Rattle.node_restart.proofs.restart_with.Reads as restart-with-reads
use Rattle.node_can.specs.contracts.can_frame as can-frame
use Rattle.node_can.proofs.can_frame.Kinds as can-frame-kinds
use Rattle.node_can.proofs.can_frame.Reads as can-frame-reads
use Rattle.node_uart.specs.contracts.uart_byte as uart-byte
use Rattle.node_uart.proofs.uart_byte.Kinds as uart-byte-kinds
use Rattle.node_uart.proofs.uart_byte.Reads as uart-byte-reads
use Rattle.node_piece.specs.contracts.uart_piece as uart-piece
use Rattle.node_piece.proofs.uart_piece.Kinds as uart-piece-kinds
use Rattle.node_piece.proofs.uart_piece.Reads as uart-piece-reads

-- `fresh(six)` may give n
pub data Fresh : List ℕ → Node → Type 1 where
  call : (κs : Lfts 0) (a : ArgsD fresh.signature κs) (r : ResD fresh.signature κs) (s : AtExit (ended_of 0 fresh-kinds.ps fresh-kinds.r) κs)
      → fresh-reads.Post κs a r s → Fresh a.0 r

-- `restart(n, pin, passed, flash, eeprom)` may give r; both memories are lent to be read alone
pub data Restart : Node → Pin → Bool → List ℕ → List ℕ → Restarted → Type 1 where
  call : (κs : Lfts 2) (a : ArgsD restart.signature κs) (r : ResD restart.signature κs)
      (s : AtExit (ended_of 2 restart-kinds.ps restart-kinds.r) κs) → restart-reads.Post κs a r s
      → Restart a.0 a.1.0 a.1.1.0 a.1.1.1.0.now a.1.1.1.1.0.now (restarted_in_numbers r)

-- `restart_with(n, choices, passed, flash, eeprom)` may give r
pub data RestartWith : Node → Choices → Bool → List ℕ → List ℕ → Restarted → Type 1 where
  call : (κs : Lfts 2) (a : ArgsD restart-with.signature κs) (r : ResD restart-with.signature κs)
      (s : AtExit (ended_of 2 restart-with-kinds.ps restart-with-kinds.r) κs) → restart-with-reads.Post κs a r s
      → RestartWith a.0 a.1.0 a.1.1.0 a.1.1.1.0.now a.1.1.1.1.0.now (restarted_in_numbers r)

-- `can_frame(n, f, flash, eeprom)` may give r and leave flash' and eeprom'
pub data CanFrame : Node → List ℕ → List ℕ → List ℕ → Answer → List ℕ → List ℕ → Type 1 where
  call : (κs : Lfts 3) (a : ArgsD can-frame.signature κs) (r : ResD can-frame.signature κs)
      (s : AtExit (ended_of 3 can-frame-kinds.ps can-frame-kinds.r) κs) → can-frame-reads.Post κs a r s
      → CanFrame a.0 a.1.0.now a.1.1.0.now a.1.1.1.0.now (answer_in_numbers r) s.1.1.0.now s.1.1.1.0.now

-- `uart_byte(n, b, flash, eeprom)` may give r and leave flash' and eeprom'
pub data UartByte : Node → ℕ → List ℕ → List ℕ → UartAnswer → List ℕ → List ℕ → Type 1 where
  call : (κs : Lfts 2) (a : ArgsD uart-byte.signature κs) (r : ResD uart-byte.signature κs)
      (s : AtExit (ended_of 2 uart-byte-kinds.ps uart-byte-kinds.r) κs) → uart-byte-reads.Post κs a r s
      → UartByte a.0 a.1.0 a.1.1.0.now a.1.1.1.0.now (uart_in_numbers r) s.1.1.0.now s.1.1.1.0.now

-- `uart_piece(n, p, flash, eeprom)` may give r and leave flash' and eeprom'
pub data UartPiece : Node → List ℕ → List ℕ → List ℕ → PieceAnswer → List ℕ → List ℕ → Type 1 where
  call : (κs : Lfts 3) (a : ArgsD uart-piece.signature κs) (r : ResD uart-piece.signature κs)
      (s : AtExit (ended_of 3 uart-piece-kinds.ps uart-piece-kinds.r) κs) → uart-piece-reads.Post κs a r s
      → UartPiece a.0 a.1.0.now a.1.1.0.now a.1.1.1.0.now (piece_in_numbers r) s.1.1.0.now s.1.1.1.0.now

-- ---- calls one after the other, each to the node and the memories that the one before left: all that each leaves, and what stands behind
-- the last

-- calls of `can_frame`, one a frame
pub data CanFrames : List (List ℕ) → State → List Step → State → Type 1 where
  none : {s : State} → CanFrames [] s [] s
  more : {f flash eeprom flash' eeprom' : List ℕ} {n : Node} {r : Answer} {fs : List (List ℕ)} {steps : List Step} {end : State}
      → CanFrame n f flash eeprom r flash' eeprom' → CanFrames fs (state r.node flash' eeprom') steps end
      → CanFrames (f ∷ fs) (state n flash eeprom) (after r flash' eeprom' ∷ steps) end

-- calls of `uart_byte`, one a byte
pub data UartBytes : List ℕ → State → List UartStep → State → Type 1 where
  none : {s : State} → UartBytes [] s [] s
  more : {b : ℕ} {bs flash eeprom flash' eeprom' : List ℕ} {n : Node} {r : UartAnswer} {steps : List UartStep} {end : State}
      → UartByte n b flash eeprom r flash' eeprom' → UartBytes bs (state r.node flash' eeprom') steps end
      → UartBytes (b ∷ bs) (state n flash eeprom) (uart_after r flash' eeprom' ∷ steps) end

-- calls of `uart_piece`: what each is handed, the bytes that are to come, what stands before; and all that each leaves, the bytes that are
-- left, what stands behind the last. A call is handed the first so many bytes of those that are left, however many, and what it says it
-- took is gone: so leftovers are handed in again, with what came since or without, or no byte at all.
pub data UartPieces : List (List ℕ) → List ℕ → State → List PieceStep → List ℕ → State → Type 1 where
  none : {rs : List ℕ} {s : State} → UartPieces [] rs s [] rs s
  more : {rs flash eeprom flash' eeprom' left : List ℕ} {n : Node} {r : PieceAnswer} {ps : List (List ℕ)} {steps : List PieceStep}
      {end : State} (k : ℕ) → UartPiece n (take k rs) flash eeprom r flash' eeprom'
      → UartPieces ps (drop r.taken rs) (state r.answer.node flash' eeprom') steps left end
      → UartPieces (take k rs ∷ ps) rs (state n flash eeprom) (piece_after r flash' eeprom' ∷ steps) left end

-- ---- one call of any kind, with any arguments: what the two memories hold before and after it. A restart is lent both to be read alone.
pub data OneCall : List ℕ → List ℕ → List ℕ → List ℕ → Type 1 where
  restarted : {n : Node} {pin : Pin} {passed : Bool} {flash eeprom : List ℕ} {r : Restarted} → Restart n pin passed flash eeprom r
      → OneCall flash eeprom flash eeprom
  restarted_with : {n : Node} {choices : Choices} {passed : Bool} {flash eeprom : List ℕ} {r : Restarted}
      → RestartWith n choices passed flash eeprom r → OneCall flash eeprom flash eeprom
  framed : {n : Node} {f flash eeprom flash' eeprom' : List ℕ} {r : Answer} → CanFrame n f flash eeprom r flash' eeprom'
      → OneCall flash eeprom flash' eeprom'
  heard : {n : Node} {b : ℕ} {flash eeprom flash' eeprom' : List ℕ} {r : UartAnswer} → UartByte n b flash eeprom r flash' eeprom'
      → OneCall flash eeprom flash' eeprom'
  pieced : {n : Node} {p flash eeprom flash' eeprom' : List ℕ} {r : PieceAnswer} → UartPiece n p flash eeprom r flash' eeprom'
      → OneCall flash eeprom flash' eeprom'

-- ---- frames, bytes and pieces in any order, each to the node and the memories that the one before left: what stands before and after
pub data NoRestart : Node → List ℕ → List ℕ → Node → List ℕ → List ℕ → Type 1 where
  none : {n : Node} {flash eeprom : List ℕ} → NoRestart n flash eeprom n flash eeprom
  framed : {n n' : Node} {f flash eeprom flash₁ eeprom₁ flash' eeprom' : List ℕ} {r : Answer} → CanFrame n f flash eeprom r flash₁ eeprom₁
      → NoRestart r.node flash₁ eeprom₁ n' flash' eeprom' → NoRestart n flash eeprom n' flash' eeprom'
  heard : {n n' : Node} {b : ℕ} {flash eeprom flash₁ eeprom₁ flash' eeprom' : List ℕ} {r : UartAnswer}
      → UartByte n b flash eeprom r flash₁ eeprom₁ → NoRestart r.node flash₁ eeprom₁ n' flash' eeprom'
      → NoRestart n flash eeprom n' flash' eeprom'
  pieced : {n n' : Node} {p flash eeprom flash₁ eeprom₁ flash' eeprom' : List ℕ} {r : PieceAnswer}
      → UartPiece n p flash eeprom r flash₁ eeprom₁ → NoRestart r.answer.node flash₁ eeprom₁ n' flash' eeprom'
      → NoRestart n flash eeprom n' flash' eeprom'
