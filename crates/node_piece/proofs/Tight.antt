-- Any two outcomes that a contract allows for one input are equal: the whole answer, and both memories.
-- The contract is the generated `Reads`: nothing is said of a body.
use mathlib.Core.Path.{◌≡◌, ◌∙◌, sym, ap}
use contract.Lifetimes.{Lfts}
use borrow.Fn.World.{ArgsD, ResD}
use denote.Triple.Clauses.{AtExit}
use borrow.Fn.Kinds.{ended_of}
use Rattle.node_piece_rules.specs.Piece.{PieceStep}
use Rattle.node_piece_rules.proofs.InNumbers.{same_piece_answer}
use Rattle.node_piece.specs.contracts.uart_piece.{signature as uart-piece-signature}
use Rattle.node_piece.proofs.uart_piece.Kinds as uart-piece-kinds
use Rattle.node_piece.proofs.uart_piece.Reads as uart-piece-reads

pub uart_piece_tight : (κs : Lfts 3) (a : ArgsD uart-piece-signature κs) (r r' : ResD uart-piece-signature κs)
    (s s' : AtExit (ended_of 3 uart-piece-kinds.ps uart-piece-kinds.r) κs)
    → uart-piece-reads.Post κs a r s → uart-piece-reads.Post κs a r' s'
    → (r ≡ r') × (s.1.1.0.now ≡ s'.1.1.0.now) × (s.1.1.1.0.now ≡ s'.1.1.1.0.now)
uart_piece_tight κs a r r' s s' p q =
    let e = p ∙ sym q in (
      same_piece_answer r r' (ap (λ (x : PieceStep). record { taken = x.taken; answer = x.last.answer }) e),
      ap (λ (x : PieceStep). x.last.flash) e,
      ap (λ (x : PieceStep). x.last.eeprom) e,
    )
