-- What the real contract of `differences` says, whatever outcome it allows: which number and place, in which order, that a refusal leaves
-- the output as it was, and what is written. Each is the law over definitions, of the crate differs_rules, carried over.
-- Assumes nothing.
use mathlib.Core.Path.{◌≡◌, ◌∙◌, refl, sym, ap, subst}
use mathlib.Core.Bool.{true, false}
use mathlib.Core.List.{List, ◌++◌}
use mathlib.Core.Logic.{◌⊎◌, ⊎_elim}
use Prim.Native.Nat.{ℕ, ◌≤◌, ◌<◌}
use native.Mathlib.Omega.{arith}
use lib.Dec.{eqb, ltb}
use lib.ListN.{length, take, drop}
use lib.Seq.{take-append_seam, drop-append_seam}
use borrow.Author.Tests.{eqb-true, eqb-false, ltb-true, ltb-false}
use Rattle.base.specs.Parts.{Bytes}
use Rattle.base.proofs.Choice.{true_or_false}
use Rattle.memory_address.specs.Places.{flash_cells}
use Rattle.recipe.specs.Translation.{Frames, Refused as Fault, answer_at, checked}
use Rattle.recipe.specs.Items.{Recipe, Legal, printed}
use Rattle.recipe.specs.Frames.{frame_count}
use Rattle.recipe.specs.Reading.{Stop, at_end, fault, reading, recipe_of}
use Rattle.recipe.proofs.Accepts.{recipe_printed, checked_printed}
use Rattle.recipe.proofs.OnlyLegal.{only_printed}
use Rattle.differs_rules.specs.Differences.{Differences, Kept, Refused}
use Rattle.differs_rules.specs.Keeping.{kept_recipe, block_count}
use Rattle.differs_rules.specs.Writing.{kept_of, differences, differences_output}
use Rattle.differs_rules.proofs.KeptLegal.{kept_legal}
use Rattle.differs_rules.proofs.Answering.{fault_first, image_then, room_last, else_kept, refusal_untouched, output_kept}
use Rattle.differs_write.specs.Taken.{BytesIfKept}
use Rattle.differs_update.specs.Calls.{Differ, call}
use Rattle.differs_update.specs.Given.{Shortened}

-- the definition's answer and output
pub differ_said : {recipe image before after : List ℕ} {d : Differences} → Differ recipe image before d after
    → (d ≡ differences recipe image (length before)) × (after ≡ differences_output recipe image before) × BytesIfKept d recipe
differ_said (call κs a r s p) = p

module _ {recipe image before after : List ℕ} {d : Differences} (differs : Differ recipe image before d after) where
  -- whatever was refused, the output stays as it was
  pub differ_refusal_untouched : (number place : ℕ) → d ≡ Refused number place → after ≡ before
  differ_refusal_untouched number place e =
      let said = differ_said differs in
      said.1 ∙ refusal_untouched recipe image before number place (sym said.0 ∙ e)

  refuses : (number place : ℕ) → differences recipe image (length before) ≡ Refused number place
      → (d ≡ Refused number place) × (after ≡ before)
  refuses number place e =
      let r = (differ_said differs).0 ∙ e in
      (r, differ_refusal_untouched number place r)

  -- "the recipe's own faults" first: number and place are what the translator's reading finds, whatever the image and the output
  pub differ_fault : (number place : ℕ) → checked recipe ≡ Fault number place → (d ≡ Refused number place) × (after ≡ before)
  differ_fault number place e = refuses number place (fault_first recipe image (length before) number place e)

  -- a legal recipe
  module _ (q : Recipe) (legal : Legal q) (e : recipe ≡ printed q) where
    accepted : checked recipe ≡ Frames (frame_count q)
    accepted = ap checked e ∙ checked_printed q legal

    kept : kept_of recipe image ≡ kept_recipe q image
    unfolding kept_of
    kept = ap (λ (r : Recipe). kept_recipe r image) (ap recipe_of e ∙ recipe_printed q legal)

    -- "A FLASH image of another length than 65,536": 36 at place 0, whatever the output
    pub differ_image : (length image ≡ flash_cells → ⊥) → (d ≡ Refused 36 0) × (after ≡ before)
    differ_image n = refuses 36 0 (image_then recipe image (length before) (frame_count q) accepted n)

    module _ (right : length image ≡ flash_cells) where
      -- no room for the kept items: 26 at place 0
      pub differ_short : length before < length (printed (kept_recipe q image)) → (d ≡ Refused 26 0) × (after ≡ before)
      differ_short h =
          refuses 26 0
          (room_last recipe image (length before) (frame_count q) accepted right
          (subst (λ (r : Recipe). length before < length (printed r)) (sym kept) h))

      -- and where there is room: their recipe, and what is behind it stays; the erase count is the number of Blocks kept
      pub differ_keeps : length (printed (kept_recipe q image)) ≤ length before
          → (d ≡ Kept (block_count (kept_recipe q image).items) (length (printed (kept_recipe q image))))
          × (after ≡ printed (kept_recipe q image) ++ drop (length (printed (kept_recipe q image))) before)
      differ_keeps h =
          let said = differ_said differs in
          let given : differences recipe image (length before)
          ≡ Kept (block_count (kept_recipe q image).items) (length (printed (kept_recipe q image)))
          = else_kept recipe image (length before) (frame_count q) accepted right
          (subst (λ (r : Recipe). length (printed r) ≤ length before) (sym kept) h)
          ∙ ap (λ (r : Recipe). Kept (block_count r.items) (length (printed r))) kept in (
            said.0 ∙ given,
            said.1
                ∙ output_kept recipe image before _ _ given
                ∙ ap (λ (r : Recipe). printed r ++ drop (length (printed (kept_recipe q image))) before) kept,
          )

  -- where it was written, the bytes handed in were a legal recipe's, and the image had its length
  pub differ_shortened : (erases size : ℕ) → d ≡ Kept erases size → Shortened recipe image before erases size after
  unfolding checked
  differ_shortened erases size e = by_stop (reading recipe).stop refl
    where
      no : (number place : ℕ) → d ≡ Refused number place → ⊥
      no number place f = cc

      answer : (t : Stop) → (reading recipe).stop ≡ t → checked recipe ≡ answer_at t (length recipe) (frame_count (recipe_of recipe))
      answer t s = ap (λ (x : Stop). answer_at x (length recipe) (frame_count (recipe_of recipe))) s

      bytes : Bytes recipe
      bytes = subst (λ (x : Differences). BytesIfKept x recipe) e (differ_said differs).2

      made : (q : Recipe) (legal : Legal q) (f : recipe ≡ printed q) → length image ≡ flash_cells
          → length (printed (kept_recipe q image)) ≤ length before → Shortened recipe image before erases size after
      made q legal f right h =
          let k = kept_recipe q image in
          let b = differ_keeps q legal f right h in
          let same : Kept erases size ≡ Kept (block_count k.items) (length (printed k)) = sym e ∙ b.0 in
          let n : size ≡ length (printed k) = cc in
          let m : erases ≡ block_count k.items = cc in
          record {
            full = q;
            full_bytes = f;
            full_legal = legal;
            cells = right;
            bytes =
                ap (λ (i : ℕ). take i after) n
                ∙ ap (take (length (printed k))) b.1
                ∙ take-append_seam (printed k) (drop (length (printed k)) before);
            legal = kept_legal q image legal;
            long = n;
            room = omega (arith, n, h);
            stays =
                ap (λ (i : ℕ). drop i after) n
                ∙ ap (drop (length (printed k))) b.1
                ∙ drop-append_seam (printed k) (drop (length (printed k)) before)
                ∙ ap (λ (i : ℕ). drop i before) (sym n);
            blocks = m;
          }

      by_stop : (t : Stop) → (reading recipe).stop ≡ t → Shortened recipe image before erases size after
      by_stop (fault number place) s = absurd (no number place (differ_fault number place (answer (fault number place) s)).0)
      by_stop (at_end false) s = absurd (no 20 (length recipe) (differ_fault 20 (length recipe) (answer (at_end false) s)).0)
      by_stop (at_end true) s =
          let p = only_printed recipe bytes s in
          let q = recipe_of recipe in
          ⊎_elim
          (λ (t : eqb (length image) flash_cells ≡ true).
          let right = eqb-true (length image) flash_cells t in
          ⊎_elim
          (λ (u : ltb (length before) (length (printed (kept_recipe q image))) ≡ true).
          absurd (no 26 0 (differ_short q p.1 p.0 right (ltb-true (length before) (length (printed (kept_recipe q image))) u)).0))
          (λ (u : ltb (length before) (length (printed (kept_recipe q image))) ≡ false).
          made q p.1 p.0 right (ltb-false (length before) (length (printed (kept_recipe q image))) u))
          (true_or_false (ltb (length before) (length (printed (kept_recipe q image))))))
          (λ (t : eqb (length image) flash_cells ≡ false).
          absurd (no 36 0 (differ_image q p.1 p.0 (eqb-false (length image) flash_cells t)).0))
          (true_or_false (eqb (length image) flash_cells))
