-- The premises of the agreement of UART and CAN can be met: the theorems at a node, a frame and memories, by computing. What stays held
-- after a wrong stop is not looked into.
-- Assumes nothing.
use mathlib.Core.Path.{◌≡◌, refl, ap}
use mathlib.Core.Bool.{true}
use mathlib.Core.List.{List, [], ◌∷◌, ◌++◌}
use mathlib.Core.Logic.{inr}
use Prim.Native.Nat.{ℕ}
use native.Mathlib.Omega.{arith}
use lib.ListN.{length, replicate}
use Rattle.frame_rules.specs.Wrapping.{wrapped_of}
use Rattle.node_rules.specs.declared.Mode.TheVariants.{Normal}
use Rattle.node_rules.specs.declared.Node.{Node}
use Rattle.node_rules.specs.Record.{holding, held_in, tidied}
use Rattle.node_rules.specs.Step.{Step, can_step}
use Rattle.node_rules.specs.Uart.{held_after_bad, via_uart, silent}
use Rattle.node_rules.specs.Runs.{state, bytes_in, collected}
use Rattle.node_rules.proofs.RequestTable.{request_100}
use Rattle.node_rules.proofs.Agreement.{agreement, wrong_sum_or_stop, skipped}
use Rattle.node_rules.proofs.Witnesses.{node_in, asks}

-- S3 and S4
pub S3 : List ℕ
S3 = 0xAA ∷ 0x10 ∷ 0x00 ∷ 0xF0 ∷ 0xF0 ∷ 0xFF ∷ 0xFF ∷ 0x05 ∷ 0x0A ∷ 0xFF ∷ 0xFF ∷ 0xFF ∷ 0xFF ∷ 0xF9 ∷ 0xA5 ∷ []

pub S4 : List ℕ
S4 = 0xAA ∷ 0x10 ∷ 0x01 ∷ 0x05 ∷ 0x0A ∷ 0xFF ∷ 0xFF ∷ 0x03 ∷ 0x04 ∷ 0xFF ∷ 0xFF ∷ 0xFF ∷ 0xFF ∷ 0x21 ∷ 0xA5 ∷ []

abbrev normal : Node
normal = node_in (Normal true)

-- the first fourteen bytes of S3
abbrev unstopped : List ℕ
unstopped = 0xAA ∷ asks ++ (0xF9 ∷ [])

module _ (F E : List ℕ) (fl : length F ≡ 65536) (el : length E ≡ 1024) where
  -- S3 byte by byte: fourteen times 10, and then a step whose one reply is S4
  pub agreement_met : bytes_in S3 (state normal F E)
      ≡ collected (tidied normal) [] unstopped F E ++ (via_uart (can_step normal asks F E) ∷ [])
  unfolding node_in tidied held_in wrapped_of S3 asks
  agreement_met = agreement normal F E fl el refl refl refl asks refl

  pub S3_S4 : (via_uart (can_step normal asks F E)).answer.replies ≡ S4 ++ replicate 15 0
  unfolding node_in tidied wrapped_of S4 asks
  S3_S4 =
      ap (λ (s : Step). (via_uart s).answer.replies)
      (request_100 normal F E fl el true refl 0xF0 0xF0 0xFF 0xFF 0x05 0x0A 0xFF 0xFF 0xFF 0xFF (refl, refl))

  -- a wrong stop, and bytes before the first 0xAA
  pub noise_met :
      (bytes_in (unstopped ++ (0xA6 ∷ [])) (state normal F E)
      ≡ collected (tidied normal) [] unstopped F E
      ++ (silent 11 (holding (tidied normal) (held_after_bad normal.choices (unstopped ++ (0xA6 ∷ [])))) F E ∷ []))
      × (bytes_in (0x00 ∷ 0xA5 ∷ []) (state normal F E) ≡ silent 10 (tidied normal) F E ∷ silent 10 (tidied normal) F E ∷ [])
  unfolding node_in tidied held_in asks
  noise_met = (
    wrong_sum_or_stop normal F E fl el refl refl unstopped 0xA6 (unstopped ++ (0xA6 ∷ [])) refl refl refl
        (inr (λ e. let z : ◌≡◌ {A = ℕ} 0xA6 0xA5 = e in omega arith)),
    skipped normal F E fl el refl refl refl 0x00 (0xA5 ∷ []) []
        ((λ e. let z : ◌≡◌ {A = ℕ} 0x00 0xAA = e in omega arith), ((λ e. let z : ◌≡◌ {A = ℕ} 0xA5 0xAA = e in omega arith), tt)),
  )
