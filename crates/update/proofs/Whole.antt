-- What the real contract of `deliver` says, whatever outcome it allows: demand 3, what is refused, and that a refusal touches nothing. The
-- contract is the definition's step, and the step is the translation and then a delivery.
-- Assumes nothing.
use mathlib.Core.Path.{◌≡◌, ◌∙◌, refl, sym, ap}
use mathlib.Core.List.{List, ◌++◌}
use mathlib.Core.Logic.{◌⊎◌, ⊎_elim}
use Prim.Native.Nat.{ℕ, ◌*◌, ◌/◌, ◌≤◌, ◌<◌}
use native.Mathlib.Omega.{arith}
use lib.Dec.{ltb}
use lib.ListN.{length, drop}
use Rattle.base.proofs.Choice.{by_cond}
use Rattle.node_rules.specs.declared.Node.{Node}
use Rattle.node_rules.specs.Runs.{state}
use Rattle.recipe.specs.Items.{Recipe, Legal, printed}
use Rattle.recipe.specs.Frames.{frames_of, joined, frame_count}
use Rattle.recipe.specs.Plain.{Memories}
use Rattle.recipe.specs.Translation.{Translated, Frames, Refused, checked, translated}
use Rattle.recipe.proofs.Accepts.{accepts_legal, output_legal, short_output}
use Rattle.recipe.proofs.Answers.{refusal_first}
use Rattle.update_rules.specs.Delivery.{Delivery, delivered}
use Rattle.update_rules.specs.Mirror.{answers_of}
use Rattle.update_deliver.specs.Delivering.{Left, room_for, left, left_by, deliver_by, deliver_step}
use Rattle.update_deliver.specs.Taken.{first_frames}
use Rattle.update_rules.specs.Updated.{Ready, Full, Arrived}
use Rattle.update.specs.Whole.{wholly, untouched}
use Rattle.update_rules.proofs.DemandThree.{demand_three}
use Rattle.update_deliver.proofs.Outcome.{room_within}
use Rattle.update.specs.Calls.{Deliver}
use Rattle.update.proofs.Delivering.{deliver_said}
use Rattle.update.proofs.Taking.{recipe_taken}

-- ---- over the definitions

-- where both have room for so many frames, the translator is lent it
room_enough : (f a count : ℕ) → 12 * count ≤ f → 14 * count ≤ a → 12 * count ≤ room_for f a
unfolding room_for
room_enough f a count h k =
    by_cond (λ (r : ℕ). 12 * count ≤ r) (ltb (12 * (a / 14)) f) (12 * (a / 14)) f (λ _. omega arith) (λ _. h)

room_short : (f a count : ℕ) → (f < 12 * count) ⊎ (a < 14 * count) → room_for f a < 12 * count
room_short f a count o =
    let w = room_within f a in
    ⊎_elim (λ h. omega arith) (λ h. omega arith) o

module _ (q : Recipe) (legal : Legal q) (n : Node) (frames answers : List ℕ) where
  step_legal : (m : Memories) → Ready n q → Full m
      → 12 * frame_count q ≤ length frames → 14 * frame_count q ≤ length answers
      → deliver_step (printed q) n m.flash m.eeprom frames answers ≡ wholly q n m frames answers
  unfolding deliver_step
  step_legal m ready full h j =
      let room = room_enough (length frames) (length answers) (frame_count q) h j in
      let output = joined (frames_of q) ++ drop (12 * frame_count q) frames in
      ap (λ (t : Translated). deliver_by t (printed q) n m.flash m.eeprom frames answers)
      (accepts_legal q legal (room_for (length frames) (length answers)) room)
      ∙ ap (λ (fs : List ℕ). left_by (frame_count q) fs (delivered (first_frames (frame_count q) fs) n m.flash m.eeprom) answers)
      (output_legal q legal frames)
      ∙ ap (λ (d : Delivery). left_by (frame_count q) output d answers)
      (ap (λ (fs : List (List ℕ)). delivered fs n m.flash m.eeprom) (recipe_taken q (drop (12 * frame_count q) frames) legal)
      ∙ demand_three q n m legal ready full.0 full.1)

-- ---- over the contract

module _ {recipe frames answers : List ℕ} {n : Node} {m : Memories} {l : Left}
    (delivers : Deliver recipe n m.flash m.eeprom frames answers l) where
  -- demand 3: a legal recipe's bytes, a node that is programming and bears its numbers, memories of full size with any content, and room
  -- for the frames and the answers
  pub deliver_demand_three : (q : Recipe) → Legal q → recipe ≡ printed q → Ready n q → Full m
      → 12 * frame_count q ≤ length frames → 14 * frame_count q ≤ length answers → l ≡ wholly q n m frames answers
  deliver_demand_three q legal e ready full h j =
      deliver_said delivers
      ∙ ap (λ (x : List ℕ). deliver_step x n m.flash m.eeprom frames answers) e
      ∙ step_legal q legal n frames answers m ready full h j

  -- so it has arrived whole
  pub deliver_arrives : (q : Recipe) → Legal q → recipe ≡ printed q → Ready n q → Full m
      → 12 * frame_count q ≤ length frames → 14 * frame_count q ≤ length answers
      → Arrived q n m (answers_of q) (state l.result.node l.flash l.eeprom)
  deliver_arrives q legal e ready full h j =
      record {
        answered = refl;
        stands = ap (λ (x : Left). state x.result.node x.flash x.eeprom) (deliver_demand_three q legal e ready full h j);
      }

  -- a fault that the reading finds is the answer, whatever is lent, and nothing is touched
  pub deliver_refuses : (number place : ℕ) → checked recipe ≡ Refused number place → l ≡ untouched number place n m frames answers
  unfolding deliver_step
  deliver_refuses number place e =
      deliver_said delivers
      ∙ ap (λ (t : Translated). deliver_by t recipe n m.flash m.eeprom frames answers)
      (refusal_first recipe number place e (room_for (length frames) (length answers)))

  -- frames or answers too short for a legal recipe: 26 at place 0, and nothing is touched
  pub deliver_short : (q : Recipe) → Legal q → recipe ≡ printed q
      → (length frames < 12 * frame_count q) ⊎ (length answers < 14 * frame_count q) → l ≡ untouched 26 0 n m frames answers
  unfolding deliver_step
  deliver_short q legal e o =
      deliver_said delivers
      ∙ ap (λ (x : List ℕ). deliver_step x n m.flash m.eeprom frames answers) e
      ∙ ap (λ (t : Translated). deliver_by t (printed q) n m.flash m.eeprom frames answers)
      (short_output q legal (room_for (length frames) (length answers))
      (room_short (length frames) (length answers) (frame_count q) o))

  -- whatever was refused, nothing is touched
  pub refused_untouched : (number place : ℕ) → l.result.translated ≡ Refused number place → l ≡ untouched number place n m frames answers
  unfolding deliver_step
  refused_untouched number place e =
      let said = deliver_said delivers in
      said ∙ go (translated recipe (room_for (length frames) (length answers))) (ap (λ (x : Left). x.result.translated) said)
    where
      go : (t : Translated)
          → l.result.translated ≡ (deliver_by t recipe n m.flash m.eeprom frames answers).result.translated
          → deliver_by t recipe n m.flash m.eeprom frames answers
          ≡ left (record { translated = Refused number place; node = n; count = 0 }) m.flash m.eeprom frames answers
      go (Refused x y) h =
          let same : Refused x y ≡ Refused number place = sym h ∙ e in
          ap (λ (t : Translated). left (record { translated = t; node = n; count = 0 }) m.flash m.eeprom frames answers) same
      go (Frames count) h = let z : ◌≡◌ {A = ℕ} 0 1 = cc in absurd (omega arith)
