-- The translator's answers and the output after each, from what the check found.
-- Assumes nothing.
use mathlib.Core.Path.{◌≡◌, refl, sym, ap, ◌∙◌}
use mathlib.Core.Bool.{true, false}
use mathlib.Core.List.{List, ◌++◌}
use Prim.Native.Nat.{ℕ, ◌*◌, ◌/◌, ◌≤◌, ◌<◌}
use native.Mathlib.Omega.{arith}
use lib.ListN.{length, drop}
use Rattle.recipe.proofs.Answers.{refusal_first, with_room, too_short}
use Rattle.recipe.specs.Frames.{frames_of, joined, frame_count}
use Rattle.recipe.specs.Reading.{Stop, at_end, fault, reading, recipe_of}
use Rattle.recipe.specs.Translation.{Translated, Frames, Refused, answer_at, checked, translated, output_by, translated_output}

module _ (s : List ℕ) where
  counted : (t : Stop) (k n : ℕ) → answer_at t (length s) k ≡ Frames n → k ≡ n
  counted (at_end true) k n e = cc
  counted (at_end false) k n e = cc
  counted (fault a b) k n e = cc

  -- the count that the check found is the recipe's
  pub count_found : (n : ℕ) → checked s ≡ Frames n → frame_count (recipe_of s) ≡ n
  unfolding checked
  count_found n e = counted (reading s).stop (frame_count (recipe_of s)) n e

  accepted : (t : Stop) (k n : ℕ) → answer_at t (length s) k ≡ Frames n → t ≡ at_end true
  accepted (at_end true) k n e = refl
  accepted (at_end false) k n e = cc
  accepted (fault a b) k n e = cc

  -- and the reading went to the end, where Leave had come
  pub read_through : (n : ℕ) → checked s ≡ Frames n → (reading s).stop ≡ at_end true
  unfolding checked
  read_through n e = accepted (reading s).stop (frame_count (recipe_of s)) n e

  -- an answer, with the output after it
  abbrev Answered : List ℕ → Translated → List ℕ → Type 0
  Answered o r o₁ = (r ≡ translated s (length o)) × (o₁ ≡ translated_output s o)

  module _ (o : List ℕ) where
    after : (r : Translated) → translated s (length o) ≡ r → output_by r s o ≡ translated_output s o
    unfolding translated_output
    after r e = ap (λ (x : Translated). output_by x s o) (sym e)

    pub answer_refused : (k p : ℕ) → Refused k p ≡ checked s → Answered o (Refused k p) o
    answer_refused k p c =
        let t = refusal_first s k p (sym c) (length o) in
        (sym t, after (Refused k p) t)

    module _ (n : ℕ) (c : Frames n ≡ checked s) where
      pub answer_short : length o / 12 < n → Answered o (Refused 26 0) o
      answer_short h =
          let t = too_short s n (sym c) (length o) (omega arith) in
          (sym t, after (Refused 26 0) t)

      pub enough : n ≤ length o / 12 → ((reading s).stop ≡ at_end true) × (12 * frame_count (recipe_of s) ≤ length o)
      enough h = (read_through n (sym c), omega (arith, count_found n (sym c)))

      pub answer_done : n ≤ length o / 12 → (o₁ : List ℕ)
          → o₁ ≡ joined (frames_of (recipe_of s)) ++ drop (12 * frame_count (recipe_of s)) o → Answered o (Frames n) o₁
      answer_done h o₁ q =
          let t = with_room s n (sym c) (length o) (omega arith) in (
            sym t,
            q
                ∙ ap (λ (k : ℕ). joined (frames_of (recipe_of s)) ++ drop (12 * k) o) (count_found n (sym c))
                ∙ after (Frames n) t,
          )
