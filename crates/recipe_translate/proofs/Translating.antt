-- What the translator's real contract says of recipes: the generated `Reads`, whatever outcome it allows. Each is the law over definitions,
-- of the crate recipe, carried over.
-- Assumes nothing.
use mathlib.Core.Path.{◌≡◌, sym, ap, subst, ◌∙◌}
use mathlib.Core.List.{List, ◌++◌}
use Prim.Native.Nat.{ℕ, ◌*◌, ◌≤◌, ◌<◌}
use native.Mathlib.Omega.{arith}
use contract.Lifetimes.{Lfts}
use borrow.Fn.World.{ArgsD, ResD}
use denote.Triple.Clauses.{AtExit}
use borrow.Fn.Kinds.{ended_of}
use lib.ListN.{length, drop}
use Rattle.recipe.specs.Items.{Recipe, Legal, printed}
use Rattle.recipe.specs.Frames.{frames_of, joined, frame_count}
use Rattle.recipe.specs.Reading.{recipe_of}
use Rattle.recipe.specs.Translation.{Translated, Frames, Refused, checked, in_numbers, translated, output_by, translated_output}
use Rattle.recipe.proofs.Accepts.{accepts_legal, output_legal, short_output, printed_once}
use Rattle.recipe.proofs.OnlyLegal.{accepts_only}
use Rattle.recipe.proofs.Framing.{most_frames}
use Rattle.recipe.proofs.Answers.{refusal_first}
use Rattle.recipe_translate.specs.Taken.{BytesIfTaken}
use Rattle.recipe_translate.specs.contracts.translate.{signature}
use Rattle.recipe_translate.proofs.translate.Kinds as kinds
use Rattle.recipe_translate.proofs.translate.Reads as reads

-- a call of the translator, and an outcome that its contract allows: the input, the output before and after, and the answer
module _ (κs : Lfts 2) (a : ArgsD signature κs) (r : ResD signature κs) (s : AtExit (ended_of 2 kinds.ps kinds.r) κs)
    (p : reads.Post κs a r s) where
  abbrev input : List ℕ
  input = a.0.now

  abbrev before : List ℕ
  before = a.1.0.now

  abbrev after : List ℕ
  after = s.1.0.now

  -- the translator accepts the bytes of every legal recipe, where the output has room: the count is the sum over the kinds, the output
  -- holds the recipe's frames, and the bytes behind them stay
  pub accepts_every_legal : (q : Recipe) → Legal q → input ≡ printed q → 12 * frame_count q ≤ length before
      → (in_numbers r ≡ Frames (frame_count q)) × (after ≡ joined (frames_of q) ++ drop (12 * frame_count q) before)
  unfolding translated_output
  accepts_every_legal q legal e room =
      let t : translated input (length before) ≡ Frames (frame_count q) =
      ap (λ (x : List ℕ). translated x (length before)) e ∙ accepts_legal q legal (length before) room in (
        p.0 ∙ t,
        p.1
            ∙ ap (λ (x : Translated). output_by x input before) t
            ∙ ap (λ (x : List ℕ). output_by (Frames (frame_count q)) x before) e
            ∙ output_legal q legal before,
      )

  -- where the output is shorter than needed: 26 at place 0, and it is untouched
  pub refuses_short_output : (q : Recipe) → Legal q → input ≡ printed q → length before < 12 * frame_count q
      → (in_numbers r ≡ Refused 26 0) × (after ≡ before)
  unfolding translated_output
  refuses_short_output q legal e short =
      let t : translated input (length before) ≡ Refused 26 0 =
      ap (λ (x : List ℕ). translated x (length before)) e ∙ short_output q legal (length before) short in
      (p.0 ∙ t, p.1 ∙ ap (λ (x : Translated). output_by x input before) t)

  -- whatever bytes it accepts are those of a legal recipe, and of no other; the count is that recipe's, and at most 36,829
  pub accepts_only_legal : (count : ℕ) → in_numbers r ≡ Frames count
      → Legal (recipe_of input) × (input ≡ printed (recipe_of input)) × ((q : Recipe) → Legal q → input ≡ printed q → q ≡ recipe_of input)
      × (count ≡ frame_count (recipe_of input)) × (count ≤ 36829)
  accepts_only_legal count e =
      let bytes = subst (λ (t : Translated). BytesIfTaken t input) e p.2 in
      let o = accepts_only input (length before) count bytes (sym p.0 ∙ e) in (
        o.0,
        o.1,
        (λ q legal h. printed_once q (recipe_of input) legal o.0 (sym h ∙ o.1)),
        o.2,
        omega (arith, o.2, most_frames (recipe_of input) o.0),
      )

  -- no refusal touches the output
  pub refusal_keeps_output : (number place : ℕ) → in_numbers r ≡ Refused number place → after ≡ before
  unfolding translated_output
  refusal_keeps_output number place e = p.1 ∙ ap (λ (x : Translated). output_by x input before) (sym p.0 ∙ e)

  -- a fault that the reading finds is the answer, whatever the output (which fault, and where: the crate recipe's laws, Refusals)
  pub refuses_fault : (number place : ℕ) → checked input ≡ Refused number place → (in_numbers r ≡ Refused number place) × (after ≡ before)
  refuses_fault number place e =
      let t = p.0 ∙ refusal_first input number place e (length before) in
      (t, refusal_keeps_output number place t)
