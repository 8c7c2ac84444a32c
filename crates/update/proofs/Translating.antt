-- What the translator's real contract says of recipes, by the parts of a call: which bytes it takes, what it then writes, and what it
-- refuses. Each is the law of crate recipe_translate at that call.
-- Assumes nothing.
use mathlib.Core.Path.{◌≡◌, ◌∙◌, ap}
use mathlib.Core.List.{List, ◌++◌}
use Prim.Native.Nat.{ℕ, ◌*◌, ◌≤◌, ◌<◌}
use lib.ListN.{length, drop}
use Rattle.recipe.specs.Items.{Recipe, Legal, printed}
use Rattle.recipe.specs.Frames.{frames_of, joined, frame_count}
use Rattle.recipe.specs.Reading.{recipe_of}
use Rattle.recipe.specs.Translation.{Translated, Frames, Refused, translated_number, translated_value, checked}
use Rattle.recipe_translate.proofs.Translating.{accepts_every_legal, refuses_short_output, accepts_only_legal, refuses_fault}
use Rattle.update.specs.Calls.{Translate, call}

-- it takes the bytes of every legal recipe, where the output has room: the count is the sum over the kinds, the output holds the frames,
-- and the bytes behind them stay
pub translate_takes : {input output output' : List ℕ} {t : Translated} → Translate input output t output' → (q : Recipe) → Legal q
    → input ≡ printed q → 12 * frame_count q ≤ length output
    → (t ≡ Frames (frame_count q)) × (output' ≡ joined (frames_of q) ++ drop (12 * frame_count q) output)
    × (translated_number t ≡ 0) × (translated_value t ≡ frame_count q)
translate_takes (call κs a r s p) q legal e room =
    let h = accepts_every_legal κs a r s p q legal e room in
    (h.0, h.1, ap translated_number h.0, ap translated_value h.0)

-- whatever it takes are the bytes of a legal recipe, and of no other; the count is that recipe's, and at most 36,829
pub translate_takes_only : {input output output' : List ℕ} {t : Translated} → Translate input output t output' → (count : ℕ)
    → t ≡ Frames count
    → Legal (recipe_of input) × (input ≡ printed (recipe_of input)) × ((q : Recipe) → Legal q → input ≡ printed q → q ≡ recipe_of input)
    × (count ≡ frame_count (recipe_of input)) × (count ≤ 36829)
translate_takes_only (call κs a r s p) count e = accepts_only_legal κs a r s p count e

-- a fault that the reading finds is the answer, with its number and place, whatever the output, which is untouched
pub translate_refuses : {input output output' : List ℕ} {t : Translated} → Translate input output t output' → (number place : ℕ)
    → checked input ≡ Refused number place
    → (translated_number t ≡ number) × (translated_value t ≡ place) × (t ≡ Refused number place) × (output' ≡ output)
translate_refuses (call κs a r s p) number place e =
    let h = refuses_fault κs a r s p number place e in
    (ap translated_number h.0, ap translated_value h.0, h.0, h.1)

-- "Last: 26 output shorter than needed, place 0"
pub translate_short : {input output output' : List ℕ} {t : Translated} → Translate input output t output' → (q : Recipe) → Legal q
    → input ≡ printed q → length output < 12 * frame_count q
    → (translated_number t ≡ 26) × (translated_value t ≡ 0) × (t ≡ Refused 26 0) × (output' ≡ output)
translate_short (call κs a r s p) q legal e short =
    let h = refuses_short_output κs a r s p q legal e short in
    (ap translated_number h.0, ap translated_value h.0, h.0, h.1)
