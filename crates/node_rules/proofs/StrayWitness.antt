-- S3 behind a stray 0xAA, in each way, by computing: the new way obeys it, the old way loses it. So the premises of `nothing_lost` can be
-- met, and its choice of the way is needed.
-- Assumes nothing.
use mathlib.Core.Path.{◌≡◌, ◌∙◌, refl, ap}
use mathlib.Core.List.{List, [], ◌∷◌, ◌++◌}
use mathlib.Core.Logic.{inr}
use Prim.Native.Nat.{ℕ}
use native.Mathlib.Omega.{arith}
use lib.ListN.{length}
use Rattle.frame_rules.specs.Wrapping.{wrapped_of, rightly_wrapped}
use Rattle.node_rules.specs.declared.Noise.TheVariants.{KeepFromNext, DropAll}
use Rattle.node_rules.specs.Record.{held_in, tidied}
use Rattle.node_rules.specs.Step.{can_step}
use Rattle.node_rules.specs.Uart.{UartStep, held_after_bad, via_uart, uart_step, silent}
use Rattle.node_rules.specs.Runs.{State, state, end_of, behind_byte, bytes_in, collected, TensAndElevens}
use Rattle.node_rules.specs.Examples.{noisy, asking, stray_s3}
use Rattle.node_rules.proofs.Running.{steps_append}
use Rattle.node_rules.proofs.Agreement.{wrong_sum_or_stop, skipped}
use Rattle.node_rules.proofs.Stray.{nothing_lost}

module _ (F E : List ℕ) (fl : length F ≡ 65536) (el : length E ≡ 1024) where
  -- the new way: 10s and 11s, and then what 0x100 gives
  pub stray_obeyed : (before : List UartStep)
      × (bytes_in stray_s3 (state (noisy KeepFromNext []) F E)
      ≡ before ++ (via_uart (can_step (noisy KeepFromNext []) (asking 0x10 0x00 0x05 0x0A) F E) ∷ []))
      × TensAndElevens F E before
  unfolding held_in wrapped_of rightly_wrapped
  stray_obeyed = nothing_lost (noisy KeepFromNext []) F E fl el refl refl refl refl (0xAA ∷ []) (asking 0x10 0x00 0x05 0x0A) refl ((λ _. refl), tt)

  -- the old way: fourteen times 10, 11, and once more 10; the node is as it was, and so are both memories
  pub stray_lost : bytes_in stray_s3 (state (noisy DropAll []) F E)
      ≡ collected (noisy DropAll []) [] (0xAA ∷ 0xAA ∷ asking 0x10 0x00 0x05 0x0A) F E
      ++ (silent 11 (noisy DropAll []) F E ∷ silent 10 (noisy DropAll []) F E ∷ [])
  unfolding held_in tidied held_after_bad
  stray_lost =
      let n = noisy DropAll [] in
      let s = state n F E in
      let front : List ℕ = 0xAA ∷ 0xAA ∷ asking 0x10 0x00 0x05 0x0A in
      let step : ℕ → State → UartStep = λ b t. uart_step t.node b t.flash t.eeprom in
      let eleven : bytes_in (front ++ (0xF9 ∷ [])) s ≡ collected n [] front F E ++ (silent 11 n F E ∷ []) =
      wrong_sum_or_stop n F E fl el refl refl front 0xF9 (front ++ (0xF9 ∷ [])) refl refl refl
      (inr (λ e. let z : ◌≡◌ {A = ℕ} 0xF9 0xA5 = e in omega arith)) in
      let last : bytes_in (0xA5 ∷ []) s ≡ silent 10 n F E ∷ [] =
      skipped n F E fl el refl refl refl 0xA5 [] [] ((λ e. let z : ◌≡◌ {A = ℕ} 0xA5 0xAA = e in omega arith), tt) in
      steps_append step behind_byte (front ++ (0xF9 ∷ [])) (0xA5 ∷ []) s
      ∙ ap (λ (ts : List UartStep). ts ++ bytes_in (0xA5 ∷ []) (end_of behind_byte s ts)) eleven
      ∙ ap (λ (ts : List UartStep). (collected n [] front F E ++ (silent 11 n F E ∷ [])) ++ ts) last
