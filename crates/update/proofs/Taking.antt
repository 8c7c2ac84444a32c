-- The frames taken from an output are the frames that were put there: each has twelve bytes.
-- Assumes nothing.
use mathlib.Core.Path.{◌≡◌, ◌∙◌, refl, sym, ap, ap₂}
use mathlib.Core.List.{List, [], ◌∷◌, ◌++◌, append_assoc}
use Prim.Native.Nat.{ℕ}
use lib.ListN.{length, take, drop}
use lib.Seq.{take_at, drop_at}
use Rattle.recipe.specs.Items.{Recipe, Legal}
use Rattle.recipe.specs.Frames.{frames_of, joined, frame_count, Twelve}
use Rattle.recipe.proofs.Framing.{frames_twelve, count_frames}
use Rattle.update_deliver.specs.Taken.{first_frames}

taken_back : (frames : List (List ℕ)) (rest : List ℕ) → Twelve frames → first_frames (length frames) (joined frames ++ rest) ≡ frames
unfolding first_frames joined
taken_back [] rest h = refl
taken_back (f ∷ fs) rest h =
    ap (λ (o : List ℕ). take 12 o ∷ first_frames (length fs) (drop 12 o)) (append_assoc f (joined fs) rest)
    ∙ ap₂ (λ (x : List ℕ) (xs : List (List ℕ)). x ∷ xs) (take_at f (joined fs ++ rest) 12 h.0)
    (ap (first_frames (length fs)) (drop_at f (joined fs ++ rest) 12 h.0) ∙ taken_back fs rest h.1)

-- the output that holds a legal recipe's frames, and anything behind them
pub recipe_taken : (r : Recipe) (rest : List ℕ) → Legal r → first_frames (frame_count r) (joined (frames_of r) ++ rest) ≡ frames_of r
recipe_taken r rest h =
    ap (λ (k : ℕ). first_frames k (joined (frames_of r) ++ rest)) (sym (count_frames r)) ∙ taken_back (frames_of r) rest (frames_twelve r h)
