-- Whatever is delivered on CAN with number 0 each is delivered on UART to the same end: a wrapped frame byte by byte is the frame
-- (node_rules, Agreement), and what comes after a frame is an open port with nothing held again.
-- Assumes nothing.
use mathlib.Core.Path.{◌≡◌, ◌∙◌, refl, sym, ap, ap₂, subst}
use mathlib.Core.Bool.{Bool, true, false, cond}
use mathlib.Core.List.{List, [], ◌∷◌, ◌++◌, map}
use Prim.Native.Nat.{ℕ, ◌%◌, ◌≤◌}
use native.Mathlib.Omega.{arith}
use lib.Dec.{eqb, lit≤}
use lib.ListN.{length, take, replicate, length-append}
use lib.Seq.{take_at}
use Rattle.base.specs.Parts.{listed, sum_of}
use Rattle.base.proofs.Choice.{by_cond}
use Rattle.base.proofs.Listed.{listed_part}
use Rattle.memory_address.specs.Places.{full}
use Rattle.memory_address.specs.declared.Address.TheVariants.{Flash, Eeprom}
use Rattle.frame_rules.specs.Frame.{type_of}
use Rattle.frame_rules.specs.Wrapping.{wrapped_of}
use Rattle.frame_rules.proofs.Wrapped.{wrapped_length}
use Rattle.node_rules.specs.declared.Node.{Node}
use Rattle.node_rules.specs.Numbered.{Answer}
use Rattle.node_rules.specs.declared.Reply.{Reply}
use Rattle.node_rules.specs.declared.Reply.TheVariants.{Silent, Entered, Hardware, Firmware, Described, Device, Echoed, Cells}
use Rattle.node_rules.specs.declared.Next.{Next}
use Rattle.node_rules.specs.declared.Next.TheVariants.{Stays, Programs, Waits}
use Rattle.node_rules.specs.Record.{held_of, tidied}
use Rattle.node_rules.specs.Requests.{data_in}
use Rattle.node_rules.specs.Outcomes.{is_deaf, can_outcomes, first_that, decided}
use Rattle.node_rules.specs.Replies.{reply_of, firmware_data, firmware_error_data, is_firmware_error, replying}
use Rattle.node_rules.specs.Step.{flash_after, eeprom_after, node_after, done, can_step}
use Rattle.node_rules.specs.Uart.{UartStep, on_uart, via_uart}
use Rattle.node_rules.specs.Runs.{State, state, end_of, behind_frame, behind_byte, bytes_in, collected}
use Rattle.node_rules.proofs.Modes.{tidy_deaf}
use Rattle.node_rules.proofs.Numbers.{can_number}
use Rattle.node_rules.proofs.Ruling.{sizes_full}
use Rattle.node_rules.proofs.Tidying.{tidy_held}
use Rattle.node_rules.proofs.Agreement.{wrapped_frame}
use Rattle.recipe.specs.Items.{Recipe, Legal}
use Rattle.recipe.specs.Frames.{items_frames, frames_of, joined, Twelve}
use Rattle.recipe.specs.Plain.{Memories}
use Rattle.recipe.proofs.Framing.{frames_twelve}
use Rattle.update_rules.specs.Delivery.{Delivery, told, delivered}
use Rattle.update_rules.specs.Serial.{told_on_uart, delivery_on_uart, fed, wrapped_all, incomplete_told, wrapped_told, on_serial, OpenPort, AllDone}
use Rattle.update_rules.specs.Mirror.{mirrored, nothing_told, answers_of}
use Rattle.update_rules.specs.Updated.{Ready, updated}
use Rattle.update_rules.proofs.Deliveries.{step_at, frame_keeps, behind}
use Rattle.update_rules.proofs.DemandThree.{demand_three}

-- ---- what is told on UART of an answer, from what is told of it on CAN

-- a first reply, or the room for it, has 12 bytes
replies_room : (x : Reply) (n : Node) (f flash eeprom : List ℕ) → 12 ≤ length (replying x n f flash eeprom).bytes
replies_room Silent n f flash eeprom = lit≤ tt
replies_room Entered n f flash eeprom = lit≤ tt
replies_room Hardware n f flash eeprom = lit≤ tt
replies_room Firmware n f flash eeprom =
    by_cond (λ (r : List ℕ). 12 ≤ length (r ++ replicate 12 0)) (is_firmware_error (type_of f) n.mode)
    (reply_of n.plate 0x1F1 (firmware_error_data flash)) (reply_of n.plate (type_of f) (firmware_data flash)) (λ _. lit≤ tt) (λ _. lit≤ tt)
replies_room Described n f flash eeprom = lit≤ tt
replies_room Device n f flash eeprom = lit≤ tt
replies_room Echoed n f flash eeprom = lit≤ tt
replies_room (Cells (Flash a)) n f flash eeprom = lit≤ tt
replies_room (Cells (Eeprom p)) n f flash eeprom = lit≤ tt

told_wrapped : (a : Answer) → 12 ≤ length a.replies → told_on_uart (on_uart a) ≡ wrapped_told (told a)
told_wrapped a l =
    ap (λ (x : List ℕ). a.number ∷ a.count ∷ x)
    (go (wrapped_of (listed a.replies 0 12)) (wrapped_length (listed a.replies 0 12) refl) (eqb a.count 0) (eqb a.count 1)
    ∙ ap (λ (x : List ℕ). cond (eqb a.count 0) (replicate 15 0) (wrapped_of x)) (listed_part a.replies 0 12 l))
  where
    go : (w : List ℕ) → length w ≡ 15 → (b c : Bool)
        → take 15 (cond b (replicate 30 0) (cond c (w ++ replicate 15 0) (w ++ wrapped_of (listed a.replies 12 12))))
        ≡ cond b (replicate 15 0) w
    go w k true c = refl
    go w k false true = take_at w (replicate 15 0) 15 k
    go w k false false = take_at w (wrapped_of (listed a.replies 12 12)) 15 k

-- ---- what comes after a frame

module _ (s : State) (f : List ℕ) where
  room_for_one : 12 ≤ length (step_at s f).answer.replies
  unfolding can_step done
  room_for_one =
      let t = tidied s.node in
      let e = decided t (full s.flash s.eeprom) f in
      replies_room e.reply t f (flash_after e.memory (data_in f) s.flash) (eeprom_after e.memory (data_in f) s.eeprom)

  held_after_lem : (x : Next) (n : Node) → held_of (node_after x n) ≡ held_of n
  held_after_lem Stays n = refl
  held_after_lem (Programs c) n = refl
  held_after_lem Waits n = refl

  frame_holds : held_of (step_at s f).answer.node ≡ held_of s.node
  unfolding can_step done
  frame_holds = held_after_lem (decided (tidied s.node) (full s.flash s.eeprom) f).next (tidied s.node) ∙ tidy_held s.node

  -- it is open again
  stays_open : OpenPort s.node s.flash s.eeprom
      → OpenPort (step_at s f).answer.node (step_at s f).flash (step_at s f).eeprom
  stays_open o =
      let k = frame_keeps s f in
      record {
        both_ports = ap (λ c. c.pin) k.same_choices ∙ o.both_ports;
        none_held = frame_holds ∙ o.none_held;
        flash_full = k.flash_length ∙ o.flash_full;
        eeprom_full = k.eeprom_length ∙ o.eeprom_full;
      }

  -- a frame with number 0 was heard
  heard : OpenPort s.node s.flash s.eeprom → (step_at s f).answer.number ≡ 0 → is_deaf s.node.mode ≡ false
  unfolding tidied
  heard o z = go (is_deaf s.node.mode) refl
    where
      go : (b : Bool) → is_deaf s.node.mode ≡ b → b ≡ false
      go true e =
          let three : first_that (can_outcomes (tidied s.node) (full s.flash s.eeprom) f) ≡ 3 =
          simp (sizes_full s.flash s.eeprom o.flash_full o.eeprom_full, tidy_deaf s.node.mode ∙ e) in
          let no : ◌≡◌ {A = ℕ} 0 3 = sym z ∙ can_number s.node f s.flash s.eeprom ∙ three in
          absurd (omega arith)
      go false e = refl

-- ---- frames one behind another

-- what is told of bytes that are held: 10, and no reply
collected_told : (n : Node) (xs bs flash eeprom : List ℕ) (rest : List UartStep) (before : State)
    → delivery_on_uart before (collected n xs bs flash eeprom ++ rest)
    ≡ behind (replicate (length bs) incomplete_told) (delivery_on_uart (end_of behind_byte before (collected n xs bs flash eeprom)) rest)
collected_told n xs [] flash eeprom rest before = refl
collected_told n xs (b ∷ bs) flash eeprom rest before =
    ap (behind (incomplete_told ∷ [])) (collected_told n (xs ++ (b ∷ [])) bs flash eeprom rest _)

-- whatever is delivered on CAN with number 0 each is delivered on UART to the same end
pub serial : (frames : List (List ℕ)) → Twelve frames → (n : Node) (flash eeprom : List ℕ) → OpenPort n flash eeprom
    → AllDone (delivered frames n flash eeprom).answers
    → fed (wrapped_all frames) n flash eeprom ≡ on_serial (delivered frames n flash eeprom)
unfolding delivered fed joined
serial [] h n flash eeprom o zero = refl
serial (f ∷ fs) h n flash eeprom o zero =
    let before = state n flash eeprom in
    let s = can_step n f flash eeprom in
    let next = stays_open before f o in
    let front = 0xAA ∷ f ++ (sum_of f % 256 ∷ []) in
    let last = told_on_uart (on_uart s.answer) in
    let others = fed (wrapped_all fs) s.answer.node s.flash s.eeprom in
    let long : length front ≡ 14 = omega (arith, length-append f (sum_of f % 256 ∷ []), h.0) in
    ap (delivery_on_uart before)
    (wrapped_frame n flash eeprom o.flash_full o.eeprom_full o.both_ports (heard before f o zero.0) o.none_held f (wrapped_all fs)
    h.0)
    ∙ collected_told (tidied n) [] front flash eeprom (via_uart s ∷ bytes_in (wrapped_all fs) (behind_frame s)) before
    ∙ ap (λ (k : ℕ). behind (replicate k incomplete_told) (behind (last ∷ []) others)) long
    ∙ ap₂ (λ (t : List ℕ) (d : Delivery). behind (replicate 14 incomplete_told) (behind (t ∷ []) d))
    (told_wrapped s.answer (room_for_one before f))
    (serial fs h.1 s.answer.node s.flash s.eeprom next zero.1)

-- ---- demand 3 on UART

mirrors_zero : (fs : List (List ℕ)) → AllDone (map mirrored fs ++ (nothing_told ∷ []))
mirrors_zero [] = (refl, tt)
mirrors_zero (f ∷ fs) = (refl, mirrors_zero fs)

pub answers_zero : (r : Recipe) → AllDone (answers_of r)
unfolding answers_of
answers_zero r = mirrors_zero (items_frames r.module_number r.group_number r.items)

-- the wrapped frames of a legal recipe, byte by byte, on an open port with no frame half received
pub demand_three_serial : (r : Recipe) (n : Node) (m : Memories) → Legal r → Ready n r → OpenPort n m.flash m.eeprom
    → fed (wrapped_all (frames_of r)) n m.flash m.eeprom ≡ on_serial (updated r n m)
demand_three_serial r n m legal ready o =
    let e = demand_three r n m legal ready o.flash_full o.eeprom_full in
    serial (frames_of r) (frames_twelve r legal) n m.flash m.eeprom o
    (subst AllDone (sym (ap (λ (d : Delivery). d.answers) e)) (answers_zero r))
    ∙ ap on_serial e
