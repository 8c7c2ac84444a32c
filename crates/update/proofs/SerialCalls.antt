-- Demand 3 on UART over the real contracts: calls of `uart_byte`, one a byte, whatever outcome its contract allows, over what calls of
-- `translate` and of `wrap` wrote. The bytes are fed one by one, so demand 3 of the wrapped frames applies.
-- Assumes nothing.
use mathlib.Core.Path.{◌≡◌, ◌∙◌, refl, sym, ap, ap₂, subst}
use mathlib.Core.List.{List, [], ◌∷◌, map}
use Prim.Native.Nat.{ℕ, ◌*◌, ◌≤◌}
use lib.ListN.{length}
use Rattle.frame_rules.specs.Wrapping.{wrapped_of}
use Rattle.frame_uart.proofs.Calls.{wrap_gives}
use Rattle.node_rules.specs.declared.Node.{Node}
use Rattle.node_rules.specs.Uart.{UartStep}
use Rattle.node_rules.specs.Runs.{State, state, end_of, behind_byte}
use Rattle.node.specs.Calls.{UartBytes}
use Rattle.node.proofs.Calls.{bytes_said}
use Rattle.recipe.specs.Items.{Recipe, Legal, printed}
use Rattle.recipe.specs.Frames.{frames_of, joined, frame_count, Twelve}
use Rattle.recipe.specs.Plain.{Memories}
use Rattle.recipe.specs.Translation.{Translated, Frames}
use Rattle.recipe.proofs.Framing.{frames_twelve}
use Rattle.update_rules.specs.Delivery.{Delivery, delivery}
use Rattle.update_rules.specs.Serial.{told_all_on_uart, fed, wrapped_all, OpenPort}
use Rattle.update_rules.specs.Updated.{Ready, over}
use Rattle.update_rules.proofs.Serially.{demand_three_serial}
use Rattle.update_deliver.specs.Taken.{first_frames}
use Rattle.update.specs.Calls.{Translate, Wraps, none, more}
use Rattle.update.specs.Whole.{ArrivedOnUart}
use Rattle.update.proofs.Calls.{translated_frames}
use Rattle.update.proofs.Translating.{translate_takes}

-- calls of `uart_byte` one after the other feed the bytes
pub calls_feed : {bytes : List ℕ} {steps : List UartStep} {before after : State} → UartBytes bytes before steps after
    → fed bytes before.node before.flash before.eeprom ≡ delivery (told_all_on_uart steps) after
unfolding fed
calls_feed {before = before} calls =
    let h = bytes_said calls in
    ap₂ delivery (ap told_all_on_uart (sym h.0)) (ap (end_of behind_byte before) (sym h.0) ∙ sym h.1)

-- calls over the wrapped frames of a legal recipe
pub demand_three_bytes : (r : Recipe) (n : Node) (m : Memories) (steps : List UartStep) (after : State) → Legal r → Ready n r
    → OpenPort n m.flash m.eeprom → UartBytes (wrapped_all (frames_of r)) (over n m) steps after
    → ArrivedOnUart r n m (told_all_on_uart steps) after
demand_three_bytes r n m steps after legal ready o calls =
    let e = sym (calls_feed calls) ∙ demand_three_serial r n m legal ready o in
    record {
      each_byte = ap (λ (d : Delivery). d.answers) e;
      whole = record { answered = refl; stands = ap (λ (d : Delivery). state d.node d.flash d.eeprom) e };
    }

-- calls of `wrap` over frames of twelve bytes give the wrapped frames
pub wraps_all : {fs ws : List (List ℕ)} → Wraps fs ws → Twelve fs → ws ≡ map wrapped_of fs
wraps_all none h = refl
wraps_all (more c held rest) h =
    ap₂ (λ (w : List ℕ) (ws : List (List ℕ)). w ∷ ws) (wrap_gives c held h.0).1 (wraps_all rest h.1)

-- from end to end: a call of the translator on a legal recipe's bytes, with room, calls of `wrap` over the frames in its output, and calls
-- of `uart_byte` over what those left
pub demand_three_serial_calls : {input output output' : List ℕ} {t : Translated} → Translate input output t output'
    → (q : Recipe) → Legal q → input ≡ printed q → 12 * frame_count q ≤ length output
    → (ws : List (List ℕ)) → Wraps (first_frames (frame_count q) output') ws
    → (n : Node) (m : Memories) (steps : List UartStep) (after : State) → Ready n q → OpenPort n m.flash m.eeprom
    → UartBytes (joined ws) (over n m) steps after
    → (t ≡ Frames (frame_count q)) × ArrivedOnUart q n m (told_all_on_uart steps) after
demand_three_serial_calls translates q legal e room ws wraps n m steps after ready o calls =
    let same = translated_frames translates q legal e room in
    let wrapped = wraps_all (subst (λ (fs : List (List ℕ)). Wraps fs ws) same wraps) (frames_twelve q legal) in (
      (translate_takes translates q legal e room).0,
      demand_three_bytes q n m steps after legal ready o
          (subst (λ (bs : List ℕ). UartBytes bs (over n m) steps after) (ap joined wrapped) calls),
    )
