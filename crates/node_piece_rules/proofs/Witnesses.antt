-- The premises of the laws of a piece can be met: the laws at a node, S3's bytes and memories of full size with any content, by computing.
-- Assumes nothing.
use mathlib.Core.Path.{◌≡◌, ◌∙◌, refl, sym, ap}
use mathlib.Core.Bool.{true, false, false≢true}
use mathlib.Core.List.{List, [], ◌∷◌, ◌++◌}
use mathlib.Core.Logic.{⊎_elim}
use Prim.Native.Nat.{ℕ}
use lib.Dec.{eqb}
use lib.ListN.{length, take, drop, replicate}
use Rattle.frame_rules.specs.Wrapping.{wrapped_of}
use Rattle.node_rules.specs.declared.Mode.TheVariants.{Normal, Waiting}
use Rattle.node_rules.specs.declared.Node.{Node}
use Rattle.node_rules.specs.Record.{holding, held_in, tidied}
use Rattle.node_rules.specs.Step.{Step, can_step}
use Rattle.node_rules.specs.Uart.{UartStep, via_uart, silent}
use Rattle.node_rules.specs.Runs.{state, bytes_in, collected, behind_frame}
use Rattle.node_rules.proofs.RequestTable.{request_100}
use Rattle.node_rules.proofs.Agreement.{wrapped_frame, agreement_held}
use Rattle.node_rules.proofs.Witnesses.{node_in, asks}
use Rattle.node_piece_rules.specs.Piece.{PieceStep, takes_none, taken_of, no_byte, last_taken, piece_step}
use Rattle.node_piece_rules.proofs.Stopping.{stops_behind}
use Rattle.node_piece_rules.proofs.Opening.{opens, refused_or_open}
use Rattle.node_piece_rules.proofs.Answering.{refused_takes_none, open_empty}

abbrev normal : Node
normal = node_in (Normal true)

-- S3, and its first fourteen bytes
abbrev S3 : List ℕ
S3 = wrapped_of asks

abbrev unstopped : List ℕ
unstopped = 0xAA ∷ asks ++ (0xF9 ∷ [])

module _ (F E : List ℕ) (fl : length F ≡ 65536) (el : length E ≡ 1024) where
  -- S3's frame on CAN, and that it is done
  abbrev on_can : Step
  on_can = can_step normal asks F E

  is_done : on_can.answer.number ≡ 0
  unfolding node_in tidied asks
  is_done =
      ap (λ (s : Step). s.answer.number)
      (request_100 normal F E fl el true refl 0xF0 0xF0 0xFF 0xFF 0x05 0x0A 0xFF 0xFF 0xFF 0xFF (refl, refl))

  -- S3 with bytes behind it: fifteen are taken, whatever follows
  pub stops_behind_S3 : (zs : List ℕ) → piece_step normal (S3 ++ zs) F E ≡ record { taken = 15; last = via_uart on_can }
  unfolding piece_step node_in tidied held_in asks
  stops_behind_S3 zs =
      ap (λ (ss : List UartStep). last_taken (no_byte normal F E) (taken_of ss)) (wrapped_frame normal F E fl el refl refl refl asks zs refl)
      ∙ ap (λ (ts : List UartStep). last_taken (no_byte normal F E) (collected (tidied normal) [] unstopped F E ++ ts))
      (stops_behind (via_uart on_can) (bytes_in zs (behind_frame on_can)) (ap takes_none is_done) (ap (λ (k : ℕ). eqb k 10) is_done))

  -- no byte: 10, and the record as it was
  pub empty_S3 : piece_step normal [] F E ≡ record { taken = 0; last = silent 10 (tidied normal) F E }
  unfolding node_in
  empty_S3 = open_empty normal F E (opens normal F E fl el refl refl)

  -- S3 to a node that waits for restart: 3, and none is taken
  pub waiting_S3 : piece_step (node_in Waiting) S3 F E ≡ record { taken = 0; last = no_byte (node_in Waiting) F E }
  unfolding node_in tidied
  waiting_S3 =
      ⊎_elim (λ r. refused_takes_none (node_in Waiting) S3 F E r) (λ o. absurd (false≢true (sym o.2)))
      (refused_or_open (node_in Waiting) F E)
