-- Demand 3 over the real contracts: a call of the translator, and then calls of `node::can_frame` one after the other, whatever outcome
-- their contracts allow. Such calls are a delivery, since the contract of each is one step of it.
-- Assumes nothing.
use mathlib.Core.Path.{◌≡◌, ◌∙◌, sym, refl, ap, ap₂, subst}
use mathlib.Core.Bool.{Bool, true, false}
use mathlib.Core.List.{List}
use Prim.Native.Nat.{ℕ, ◌*◌, ◌≤◌}
use native.Mathlib.Omega.{arith}
use lib.Dec.{ltb}
use lib.ListN.{length, drop}
use borrow.Author.Tests.{ltb-true, ltb-false}
use Rattle.node_rules.specs.declared.Node.{Node}
use Rattle.node_rules.specs.Step.{Step}
use Rattle.node_rules.specs.Runs.{State, end_of, behind_frame}
use Rattle.node.specs.Calls.{CanFrames}
use Rattle.node.proofs.Calls.{frames_said}
use Rattle.recipe.specs.Items.{Recipe, Legal, printed}
use Rattle.recipe.specs.Frames.{frames_of, frame_count}
use Rattle.recipe.specs.Reading.{recipe_of}
use Rattle.recipe.specs.Plain.{Memories}
use Rattle.recipe.specs.Translation.{Translated, Frames, Refused}
use Rattle.update_rules.specs.Delivery.{told_all, delivery, delivered, Delivers}
use Rattle.update_rules.specs.Updated.{Ready, over, Full, Arrived}
use Rattle.update_rules.proofs.DemandThree.{delivery_arrives}
use Rattle.update_deliver.specs.Taken.{first_frames}
use Rattle.update.specs.Calls.{Translate}
use Rattle.update.proofs.Translating.{translate_takes, translate_takes_only, translate_short}
use Rattle.update.proofs.Taking.{recipe_taken}

-- calls of `can_frame` one after the other are a delivery
pub calls_deliver : {frames : List (List ℕ)} {steps : List Step} {before after : State} → CanFrames frames before steps after
    → Delivers frames before (told_all steps) after
unfolding delivered
calls_deliver {before = before} calls =
    let h = frames_said calls in
    ap₂ delivery (ap told_all (sym h.0)) (ap (end_of behind_frame before) (sym h.0) ∙ sym h.1)

-- calls over the frames of a legal recipe
pub demand_three_frames : (q : Recipe) (n : Node) (m : Memories) (steps : List Step) (after : State) → Legal q → Ready n q → Full m
    → CanFrames (frames_of q) (over n m) steps after → Arrived q n m (told_all steps) after
demand_three_frames q n m steps after legal ready full calls =
    delivery_arrives q n m (told_all steps) after legal ready full (calls_deliver calls)

module _ {input output output' : List ℕ} {t : Translated} (translates : Translate input output t output') where
  -- the frames that stand in its output are the recipe's
  pub translated_frames : (q : Recipe) → Legal q → input ≡ printed q → 12 * frame_count q ≤ length output
      → first_frames (frame_count q) output' ≡ frames_of q
  translated_frames q legal e room =
      ap (first_frames (frame_count q)) (translate_takes translates q legal e room).1
      ∙ recipe_taken q (drop (12 * frame_count q) output) legal

  -- a call of the translator on a legal recipe's bytes, with room, and then calls over the frames in its output
  pub demand_three_calls : (q : Recipe) → Legal q → input ≡ printed q → 12 * frame_count q ≤ length output
      → (n : Node) (m : Memories) (steps : List Step) (after : State) → Ready n q → Full m
      → CanFrames (first_frames (frame_count q) output') (over n m) steps after
      → (t ≡ Frames (frame_count q)) × Arrived q n m (told_all steps) after
  demand_three_calls q legal e room n m steps after ready full calls = (
    (translate_takes translates q legal e room).0,
    demand_three_frames q n m steps after legal ready full
        (subst (λ (fs : List (List ℕ)). CanFrames fs (over n m) steps after) (translated_frames q legal e room) calls),
  )

  -- a translator's answer with frames had room for them
  had_room : (q : Recipe) → Legal q → input ≡ printed q → (count : ℕ) → t ≡ Frames count → 12 * frame_count q ≤ length output
  had_room q legal e count f = go (ltb (length output) (12 * frame_count q)) refl
    where
      go : (b : Bool) → ltb (length output) (12 * frame_count q) ≡ b → 12 * frame_count q ≤ length output
      go true h =
          let short = (translate_short translates q legal e (ltb-true _ _ h)).2 in
          let z : ◌≡◌ {A = ℕ} 0 1 = cc in
          absurd (omega arith)
      go false h = ltb-false _ _ h

  -- whatever bytes the translator accepted, and then calls over the frames in its output
  pub demand_three_accepted : (count : ℕ) → t ≡ Frames count
      → (n : Node) (m : Memories) (steps : List Step) (after : State) → Ready n (recipe_of input) → Full m
      → CanFrames (first_frames count output') (over n m) steps after
      → Legal (recipe_of input) × (input ≡ printed (recipe_of input)) × Arrived (recipe_of input) n m (told_all steps) after
  demand_three_accepted count f n m steps after ready full calls =
      let o = translate_takes_only translates count f in
      let q = recipe_of input in
      let room = had_room q o.0 o.1 count f in (
        o.0,
        o.1,
        (demand_three_calls q o.0 o.1 room n m steps after ready full
            (subst (λ (c : ℕ). CanFrames (first_frames c output') (over n m) steps after) o.3 calls)).1,
      )
