-- Nothing is lost in the numbers of a piece's answer either.
-- Assumes nothing.
use Rattle.std.proofs.Common.{ℕ, ◌≡◌, ap, ◌∙◌}
use Rattle.node_rules.specs.declared.Answer.{Answer as Handed}
use Rattle.node_rules.proofs.InNumbers.{same_uart_answer}
use Rattle.node_piece_rules.specs.declared.PieceAnswer.{PieceAnswer as PieceHanded}
use Rattle.node_piece_rules.specs.Piece.{PieceAnswer, piece_in_numbers}

abbrev handed : ℕ → Handed 30 → PieceHanded
handed taken answer = record { taken = taken; answer = answer }

pub same_piece_answer : (a a' : PieceHanded) → piece_in_numbers a ≡ piece_in_numbers a' → a ≡ a'
same_piece_answer a a' e =
    ap (λ (taken : ℕ). handed taken a.answer) (ap (λ (x : PieceAnswer). x.taken) e)
    ∙ ap (handed a'.taken) (same_uart_answer a.answer a'.answer (ap (λ (x : PieceAnswer). x.answer) e))
