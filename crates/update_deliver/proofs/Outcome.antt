-- What `deliver` leaves, from what the translator answered in the room that it was lent: a refusal touches nothing, and accepted frames fit
-- into the frames, and their answers into the answers.
-- Assumes nothing.
use mathlib.Core.Path.{◌≡◌, ◌∙◌, refl, sym, ap}
use mathlib.Core.Bool.{Bool, true, false, cond}
use mathlib.Core.List.{List, ◌++◌, append_assoc}
use Prim.Native.Nat.{ℕ, ◌*◌, ◌/◌, ◌≤◌}
use native.Mathlib.Omega.{arith}
use lib.Dec.{ltb}
use lib.ListN.{length, take, drop, length-append, take-append-drop}
use lib.Seq.{length-take-le, drop-append-le}
use borrow.Author.Tests.{ltb-true, ltb-false}
use Rattle.base.proofs.Choice.{by_cond}
use Rattle.node_rules.specs.declared.Node.{Node}
use Rattle.recipe.specs.Frames.{frames_of, joined}
use Rattle.recipe.specs.Reading.{recipe_of}
use Rattle.recipe.specs.Translation.{Translated, Frames, Refused, unless_short, checked, translated, output_by, translated_output}
use Rattle.update_deliver.specs.Delivering.{told_count, room_for, left, deliver_by, deliver_step}
use Rattle.update_deliver.specs.Internal.Handing.{handed, handed_over, after_hand_over}

-- the room lies within the frames, and within the answers at 14 bytes a frame
pub room_within : (f a : ℕ) → (room_for f a ≤ f) × (room_for f a ≤ 12 * (a / 14))
unfolding room_for
room_within f a =
    by_cond (λ (r : ℕ). (r ≤ f) × (r ≤ 12 * (a / 14))) (ltb (12 * (a / 14)) f) _ _
    (λ t. let h = ltb-true (12 * (a / 14)) f t in (omega arith, omega arith))
    (λ t. let h = ltb-false (12 * (a / 14)) f t in (omega arith, omega arith))

-- accepted frames have room
pub accepted_fits : (input : List ℕ) (room count : ℕ) → translated input room ≡ Frames count → 12 * count ≤ room
unfolding translated
accepted_fits input room count = go (checked input)
  where
    short : (k : ℕ) (b : Bool) → ltb room (12 * k) ≡ b → cond b (Refused 26 0) (Frames k) ≡ Frames count → 12 * count ≤ room
    short k true e h = let z : ◌≡◌ {A = ℕ} 0 1 = cc in absurd (omega arith)
    short k false e h = let same : k ≡ count = cc in let l = ltb-false room (12 * k) e in omega arith

    go : (t : Translated) → unless_short t room ≡ Frames count → 12 * count ≤ room
    go (Refused number place) h = let z : ◌≡◌ {A = ℕ} 0 1 = cc in absurd (omega arith)
    go (Frames k) h = short k (ltb room (12 * k)) refl h

module _ (input : List ℕ) (n : Node) (flash eeprom frames answers : List ℕ) where
  -- the frames after the translator wrote into their first `room` bytes
  frames_after : (room : ℕ) → room ≤ length frames → (t : Translated) → translated input room ≡ t
      → translated_output input (take room frames) ++ drop room frames ≡ output_by t input frames
  unfolding translated_output
  frames_after room h t e =
      let l = length-take-le room frames h in
      ap (λ (k : ℕ). output_by (translated input k) input (take room frames) ++ drop room frames) l
      ∙ ap (λ (x : Translated). output_by x input (take room frames) ++ drop room frames) e
      ∙ go t e
    where
      go : (x : Translated) → translated input room ≡ x → output_by x input
          (take room frames) ++ drop room frames ≡ output_by x input frames
      go (Refused number place) q = take-append-drop room frames
      go (Frames count) q =
          let written = joined (frames_of (recipe_of input)) in
          let fits = accepted_fits input room count q in
          append_assoc written (drop (12 * count) (take room frames)) (drop room frames)
          ∙ ap (λ (x : List ℕ). written ++ x)
          (sym (drop-append-le (12 * count) (take room frames) (drop room frames) (rw (length-take-le room frames h) fits))
          ∙ ap (drop (12 * count)) (take-append-drop room frames))

  -- the room that the translator was lent, its answer, and its output
  module _ (room : ℕ) (t : Translated) (output : List ℕ) (r : room ≡ room_for (length frames) (length answers))
      (e : t ≡ translated input (length (take room frames))) (o : output ≡ translated_output input (take room frames)) where
    inside : room ≤ length frames
    inside = rw r (room_within (length frames) (length answers)).0

    lent : length (take room frames) ≡ room
    lent = length-take-le room frames inside

    is_answer : translated input room ≡ t
    is_answer = ap (translated input) (sym lent) ∙ sym e

    is_step : translated input (room_for (length frames) (length answers)) ≡ t
    is_step = ap (translated input) (sym r) ∙ is_answer

    frames_are : output ++ drop room frames ≡ output_by t input frames
    frames_are =
        ap (λ (x : List ℕ). x ++ drop room frames) o
        ∙ frames_after room inside t is_answer

    pub step_refused : (number place : ℕ) → t ≡ Refused number place
        → left (record { translated = t; node = n; count = told_count t }) flash eeprom (output ++ drop room frames) answers
        ≡ deliver_step input n flash eeprom frames answers
    unfolding deliver_step
    step_refused number place h =
        ap (λ (x : Translated).
        left (record { translated = x; node = n; count = told_count x }) flash eeprom (output ++ drop room frames) answers) h
        ∙ ap (λ (fs : List ℕ). left (record { translated = Refused number place; node = n; count = 0 }) flash eeprom fs answers)
        (frames_are ∙ ap (λ (x : Translated). output_by x input frames) h)
        ∙ ap (λ (x : Translated). deliver_by x input n flash eeprom frames answers) (sym (is_step ∙ h))

    module _ (count : ℕ) (h : t ≡ Frames count) where
      pub step_fits : length output ≡ length (take room frames)
          → (12 * count ≤ length (output ++ drop room frames)) × (14 * count ≤ length answers)
      step_fits l =
          let fits = accepted_fits input room count (is_answer ∙ h) in
          let most = (room_within (length frames) (length answers)).1 in
          (simp length-append (omega (arith, l, lent)), omega arith)

      pub step_done : (n' : Node) (flash' eeprom' answers' : List ℕ)
          → handed n' flash' eeprom' answers' ≡ handed_over count (output ++ drop room frames) n flash eeprom answers
          → left (record { translated = Frames count; node = n'; count = count }) flash' eeprom' (output ++ drop room frames) answers'
          ≡ deliver_step input n flash eeprom frames answers
      unfolding deliver_step handed_over
      step_done n' flash' eeprom' answers' k =
          let same : output ++ drop room frames ≡ output_by (Frames count) input frames =
          frames_are ∙ ap (λ (x : Translated). output_by x input frames) h in
          ap (after_hand_over count (output ++ drop room frames)) k
          ∙ ap (λ (fs : List ℕ). after_hand_over count fs (handed_over count fs n flash eeprom answers)) same
          ∙ ap (λ (x : Translated). deliver_by x input n flash eeprom frames answers) (sym (is_step ∙ h))
