-- The program's room does for every recipe: of the refusals only 20 to 25 and 36 can come, never 26, for the shorter recipe is never longer
-- than the whole one; and one that was made stands in the room whole, is no longer than the whole one, and has no more Blocks than bytes.
-- Assumes nothing.
use mathlib.Core.Path.{◌≡◌, refl, sym, ap, ◌∙◌}
use mathlib.Core.Bool.{Bool, true, false, cond}
use mathlib.Core.List.{List}
use mathlib.Core.Logic.{◌⊎◌, inl, inr, ⊎_elim}
use Prim.Native.Nat.{ℕ, ◌≤◌}
use native.Mathlib.Omega.{arith}
use lib.Dec.{ltb, eqb}
use lib.ListN.{length}
use borrow.Author.Tests.{le-ltb, ltb-false}
use contract.Lifetimes.{Lfts}
use borrow.Fn.World.{ArgsD, ResD}
use denote.Triple.Clauses.{AtExit}
use borrow.Fn.Kinds.{ended_of}
use Rattle.memory_address.specs.Places.{flash_cells}
use Rattle.recipe.specs.Items.{Recipe, printed}
use Rattle.recipe.specs.Frames.{frame_count}
use Rattle.recipe.specs.Reading.{Stop, at_end, fault, reading, recipe_of}
use Rattle.recipe.specs.Translation.{answer_at, checked}
use Rattle.differs_rules.specs.Differences.{Differences, Kept, Refused, in_numbers}
use Rattle.differs_rules.specs.Keeping.{block_count}
use Rattle.differs_rules.specs.Writing.{kept_of, unless_refused, answered, differences}
use Rattle.differs_write.specs.contracts.differences.{signature}
use Rattle.differs_write.proofs.differences.Kinds as kinds
use Rattle.differs_write.proofs.differences.Reads as reads
use Rattle.differs_rules.proofs.KeptLegal.{kept_shorter}
use Rattle.differences.proofs.Within.{blocks_within, recipe_within, stops_numbered}

-- the numbers of the program's refusals
abbrev Said : ℕ → Type 0
Said n = ((20 ≤ n) × (n ≤ 25)) ⊎ (n ≡ 36)

-- what is kept of a recipe whose bytes are read to their end takes no more of them
kept_of_within : (recipe image : List ℕ) → (reading recipe).stop ≡ at_end true → length (printed (kept_of recipe image)) ≤ length recipe
unfolding kept_of
kept_of_within recipe image s = omega (arith, kept_shorter (recipe_of recipe) image, recipe_within recipe s)

-- where the recipe has no fault and the room does
unless_said : (kept : Recipe) (cells room number place : ℕ) → length (printed kept) ≤ room
    → unless_refused kept cells room ≡ Refused number place → Said number
unless_said kept cells room number place enough = go (eqb cells flash_cells)
  where
    go : (b : Bool)
        → cond b (cond (ltb room (length (printed kept))) (Refused 26 0) (Kept (block_count kept.items) (length (printed kept))))
        (Refused 36 0)
        ≡ Refused number place → Said number
    go false e = inr cc
    go true e =
        let f = le-ltb room (length (printed kept)) (omega (arith, enough)) in
        let x = sym (ap (λ (b : Bool). cond b (Refused 26 0) (Kept (block_count kept.items) (length (printed kept)))) f) ∙ e in
        absurd cc

-- a shorter recipe that is made: it has room
unless_kept : (kept : Recipe) (cells room erases size : ℕ) → unless_refused kept cells room ≡ Kept erases size
    → (erases ≡ block_count kept.items) × (size ≡ length (printed kept)) × (size ≤ room)
unless_kept kept cells room erases size = go (eqb cells flash_cells) (ltb room (length (printed kept))) refl
  where
    go : (b f : Bool) → ltb room (length (printed kept)) ≡ f
        → cond b (cond f (Refused 26 0) (Kept (block_count kept.items) (length (printed kept)))) (Refused 36 0) ≡ Kept erases size
        → (erases ≡ block_count kept.items) × (size ≡ length (printed kept)) × (size ≤ room)
    go false f t e = absurd cc
    go true true t e = absurd cc
    go true false t e =
        let s : length (printed kept) ≡ size = cc in
        let m : block_count kept.items ≡ erases = cc in
        (sym m, sym s, omega (arith, ltb-false room (length (printed kept)) t, s))

-- what is answered of a recipe and an image by the definition
module _ (recipe image : List ℕ) (room : ℕ) {answer : Differences} (said : answer ≡ differences recipe image room) where
  -- a refusal in a room that holds the whole recipe is 20 to 25, or 36
  pub answer_refused : length recipe ≤ room → (number place : ℕ) → answer ≡ Refused number place
      → ((20 ≤ number) × (number ≤ 25)) ⊎ (number ≡ 36)
  unfolding differences checked reading
  answer_refused enough number place q = go (reading recipe).stop refl (sym said ∙ q)
    where
      go : (s : Stop) → (reading recipe).stop ≡ s
          → answered (answer_at s (length recipe) (frame_count (recipe_of recipe))) (kept_of recipe image) (length image) room
          ≡ Refused number place → Said number
      go (fault m p) t e =
          let w = stops_numbered 2049 recipe 0 1 false m p t in
          let i : m ≡ number = cc in
          inl (omega (arith, w.0, i), omega (arith, w.1, i))
      go (at_end false) t e = let i : 20 ≡ number = cc in inl (omega (arith, i), omega (arith, i))
      go (at_end true) t e =
          unless_said (kept_of recipe image) (length image) room number place
          (omega (arith, kept_of_within recipe image t, enough)) e

  -- so it is not 26
  pub answer_not_short : length recipe ≤ room → (number place : ℕ) → answer ≡ Refused number place → number ≡ 26 → ⊥
  answer_not_short enough number place q n =
      ⊎_elim (λ (w : (20 ≤ number) × (number ≤ 25)). omega (arith, w.1, n)) (λ (e : number ≡ 36). omega (arith, e, n))
      (answer_refused enough number place q)

  -- a shorter recipe is no longer than the room and the whole one, and its Blocks are no more than its bytes
  pub answer_fits : (erases size : ℕ) → answer ≡ Kept erases size → (size ≤ room) × (size ≤ length recipe) × (erases ≤ size)
  unfolding differences checked
  answer_fits erases size q = go (reading recipe).stop refl (sym said ∙ q)
    where
      go : (s : Stop) → (reading recipe).stop ≡ s
          → answered (answer_at s (length recipe) (frame_count (recipe_of recipe))) (kept_of recipe image) (length image) room
          ≡ Kept erases size → (size ≤ room) × (size ≤ length recipe) × (erases ≤ size)
      go (fault m p) t e = absurd cc
      go (at_end false) t e = absurd cc
      go (at_end true) t e =
          let k = unless_kept (kept_of recipe image) (length image) room erases size e in (
            k.2,
            omega (arith, k.1, kept_of_within recipe image t),
            omega (arith, k.0, k.1, blocks_within (kept_of recipe image)),
          )

-- the same of any call of `differences`, over its real contract: what is handed to it, and what it answers
pub differences_has_room : (κs : Lfts 3) (a : ArgsD signature κs) (r : ResD signature κs) (s : AtExit (ended_of 3 kinds.ps kinds.r) κs)
    → reads.Post κs a r s → length a.0.now ≤ length a.1.1.0.now
    → (number place : ℕ) → in_numbers r ≡ Refused number place → ((20 ≤ number) × (number ≤ 25)) ⊎ (number ≡ 36)
differences_has_room κs a r s p =
    answer_refused a.0.now a.1.0.now (length a.1.1.0.now) p.0
