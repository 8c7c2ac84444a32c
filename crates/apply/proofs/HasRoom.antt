-- The program's room does for every recipe that it takes: of the recipe's refusals only 20 to 24 can be printed, never 25 or 26. At most
-- 1,083 frames come of 4,096 bytes (FewFrames): 12,996 bytes, and 15,162 told of them; and 2,049 items need more bytes (FewItems).
-- Assumes nothing.
use mathlib.Core.Path.{◌≡◌, refl, sym, ap, ◌∙◌}
use mathlib.Core.Bool.{Bool, true, false, cond}
use mathlib.Core.List.{List}
use Prim.Native.Nat.{ℕ, ◌*◌, ◌/◌, ◌≤◌}
use native.Mathlib.Omega.{arith}
use lib.Dec.{ltb}
use lib.ListN.{length}
use borrow.Author.Tests.{le-ltb}
use contract.Lifetimes.{Lfts}
use borrow.Fn.World.{ArgsD, ResD}
use denote.Triple.Clauses.{AtExit}
use borrow.Fn.Kinds.{ended_of}
use Rattle.base.proofs.Choice.{by_cond}
use Rattle.node_rules.specs.declared.Node.{Node}
use Rattle.recipe.specs.Frames.{frame_count}
use Rattle.recipe.specs.Reading.{Stop, at_end, fault, read_from, reading, recipe_of}
use Rattle.recipe.specs.Translation.{Translated, Frames, Refused, in_numbers, answer_at, unless_short, checked, translated}
use Rattle.update_deliver.specs.Delivering.{Left, room_for, deliver_by, deliver_step}
use Rattle.update_deliver.proofs.Outcome.{room_within, accepted_fits}
use Rattle.update_deliver.specs.contracts.deliver.{signature}
use Rattle.update_deliver.proofs.deliver.Kinds as kinds
use Rattle.update_deliver.proofs.deliver.Reads as reads
use Rattle.apply.proofs.FewFrames.{frames_few}
use Rattle.apply.proofs.FewItems.{stops_few}

-- what is refused where there is room for 1,083 frames
refused_few : (input : List ℕ) (room number place : ℕ) → length input ≤ 4096 → 12996 ≤ room → translated input room ≡ Refused number place
    → (20 ≤ number) × (number ≤ 24)
unfolding translated checked reading
refused_few input room number place few enough = go (read_from 2049 input 0 1 false).stop refl
  where
    same : {m p : ℕ} → Refused m p ≡ Refused number place → m ≡ number
    same e = cc

    go : (s : Stop) → (read_from 2049 input 0 1 false).stop ≡ s
        → unless_short (answer_at s (length input) (frame_count (recipe_of input))) room ≡ Refused number place
        → (20 ≤ number) × (number ≤ 24)
    go (fault m p) q e =
        let w = stops_few input m p few q in
        let i = same e in
        (omega (arith, w.0, i), omega (arith, w.1, i))
    go (at_end false) q e = let i = same e in (omega (arith, i), omega (arith, i))
    go (at_end true) q e =
        let f = le-ltb room (12 * frame_count (recipe_of input)) (omega (arith, frames_few input few, enough)) in
        let d = sym (ap (λ (b : Bool). cond b (Refused 26 0) (Frames (frame_count (recipe_of input)))) f) ∙ e in
        absurd (let z : ◌≡◌ {A = ℕ} 0 1 = cc in omega arith)

-- so much the translator is lent
room_enough : (frames answers : ℕ) → 12996 ≤ frames → 15162 ≤ answers → 12996 ≤ room_for frames answers
unfolding room_for
room_enough frames answers h k =
    by_cond (λ (r : ℕ). 12996 ≤ r) (ltb (12 * (answers / 14)) frames) (12 * (answers / 14)) frames (λ _. omega arith) (λ _. h)

-- the translator's answer is in what is left
answer_left : (t : Translated) (recipe : List ℕ) (n : Node) (flash eeprom frames answers : List ℕ)
    → (deliver_by t recipe n flash eeprom frames answers).result.translated ≡ t
answer_left (Refused number place) recipe n flash eeprom frames answers = refl
answer_left (Frames count) recipe n flash eeprom frames answers = refl

-- what `deliver` leaves by its definition, whatever the node and the memories
module _ (recipe : List ℕ) (n : Node) (flash eeprom frames answers : List ℕ) {l : Left}
    (said : l ≡ deliver_step recipe n flash eeprom frames answers) where
  answered : l.result.translated ≡ translated recipe (room_for (length frames) (length answers))
  unfolding deliver_step
  answered =
      ap (λ (x : Left). x.result.translated) said
      ∙ answer_left (translated recipe (room_for (length frames) (length answers))) recipe n flash eeprom frames answers

  -- a file of at most 4,096 bytes that is refused is refused with 20 to 24
  pub step_has_room : length recipe ≤ 4096 → 12996 ≤ length frames → 15162 ≤ length answers
      → (number place : ℕ) → l.result.translated ≡ Refused number place → (20 ≤ number) × (number ≤ 24)
  step_has_room file h k number place e =
      refused_few recipe (room_for (length frames) (length answers)) number place file
      (room_enough (length frames) (length answers) h k) (sym answered ∙ e)

  -- and of one that is accepted all answers are told, 14 bytes each
  pub step_tells_all : (count : ℕ) → l.result.translated ≡ Frames count → 14 * count ≤ length answers
  step_tells_all count e =
      let fits = accepted_fits recipe (room_for (length frames) (length answers)) count (sym answered ∙ e) in
      omega (arith, fits, (room_within (length frames) (length answers)).1)

-- the same of any call of `deliver`, over its real contract: what is handed to it, and what it answers
pub apply_has_room : (κs : Lfts 5) (a : ArgsD signature κs) (r : ResD signature κs) (s : AtExit (ended_of 5 kinds.ps kinds.r) κs)
    → reads.Post κs a r s
    → length a.0.now ≤ 4096 → 12996 ≤ length a.1.1.1.1.0.now → 15162 ≤ length a.1.1.1.1.1.0.now
    → (number place : ℕ) → in_numbers r.translated ≡ Refused number place → (20 ≤ number) × (number ≤ 24)
apply_has_room κs a r s p =
    step_has_room a.0.now a.1.0 a.1.1.0.now a.1.1.1.0.now a.1.1.1.1.0.now
    a.1.1.1.1.1.0.now p
