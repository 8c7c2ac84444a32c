-- The loop that hands frames over, and what is true at each turn: what was told so far, and then the delivery of the frames that are left,
-- is the whole delivery; and what was told stands in the answers, which are as before behind it.
-- Assumes nothing.
use mathlib.Core.Path.{◌≡◌, ◌∙◌, refl, sym, ap, ap₂}
use mathlib.Core.List.{List, [], ◌∷◌, ◌++◌, append_assoc, append-nil}
use Prim.Native.Nat.{ℕ, suc, ◌+◌, ◌-◌, ◌*◌, ◌<◌}
use native.Mathlib.Omega.{arith}
use native.Mathlib.Nat.{sub-zero}
use lib.ListN.{length, drop, length-append}
use lib.Seq.{take_at, drop-append-add, drop-drop}
use Rattle.base.specs.Parts.{part, patch}
use Rattle.node_rules.specs.declared.Node.{Node}
use Rattle.std.specs.Prelude.{Result, Ok, Err}
use Rattle.node_rules.specs.declared.Refusal.{Refusal}
use Rattle.node_rules.specs.declared.Replies.{Replies}
use Rattle.node_rules.specs.declared.Answer.{Answer as Handed}
use Rattle.node_rules.specs.Numbered.{Answer}
use Rattle.node_rules.specs.InNumbers.{answer_in_numbers, outcome_in_numbers}
use Rattle.node_rules.specs.Step.{Step, after, can_step}
use Rattle.node_rules.specs.Runs.{state}
use Rattle.recipe.specs.Frames.{joined}
use Rattle.recipe.proofs.Framing.{joined_append}
use Rattle.update_rules.specs.Delivery.{Delivery, told, delivered}
use Rattle.update_rules.proofs.Deliveries.{frame_first, behind}
use Rattle.update_deliver.specs.Taken.{first_frames}
use Rattle.update_deliver.specs.Internal.Handing.{handed, handed_by, handed_over}

-- a piece put behind what is written
put_behind : (w o t : List ℕ) (to : ℕ) → length w ≡ to → length t ≡ 14 → patch (w ++ drop to o) to t ≡ (w ++ t) ++ drop (to + 14) o
unfolding patch
put_behind w o t to e l =
    let far : to + length t ≡ length w + 14 = omega arith in
    ap₂ (λ (x y : List ℕ). x ++ (t ++ y)) (take_at w (drop to o) to e)
    (ap (λ (k : ℕ). drop k (w ++ drop to o)) far ∙ drop-append-add w (drop to o) 14 ∙ drop-drop 14 to o)
    ∙ sym (append_assoc w t (drop (to + 14) o))

-- the node of an answer, and of what is told of it in numbers
pub node_told : (a : Handed 24) → (answer_in_numbers a).node ≡ a.node
node_told a = go a.outcome a.node
  where
    go : (o : Result (Replies 24) Refusal) (n : Node) → (outcome_in_numbers o n).node ≡ n
    go (Ok r) n = refl
    go (Err r) n = refl

module _ (frames : List ℕ) (count : ℕ) (flash₀ eeprom₀ answers₀ : List ℕ) (n₀ : Node) where
  -- after i turns: the other frames are still to be handed over
  pub record Handing (flash eeprom answers : List ℕ) (n : Node) (i : ℕ) : Type 0 where
    pub done : List (List ℕ)
    pub goes_on : behind done (delivered (first_frames (count - i) (drop (12 * i) frames)) n flash eeprom)
        ≡ delivered (first_frames count frames) n₀ flash₀ eeprom₀
    pub written : answers ≡ joined done ++ drop (14 * i) answers₀
    pub long : length (joined done) ≡ 14 * i

  pub handing_start : Handing flash₀ eeprom₀ answers₀ n₀ 0
  unfolding joined
  handing_start =
      record {
        done = [];
        goes_on = ap (λ (k : ℕ). delivered (first_frames k frames) n₀ flash₀ eeprom₀) (sub-zero count);
        written = refl;
        long = refl;
      }

  module _ (flash eeprom answers : List ℕ) (n : Node) (i : ℕ) (h : Handing flash eeprom answers n i) where
    others : List (List ℕ)
    others = first_frames (count - (i + 1)) (drop (12 * (i + 1)) frames)

    -- the next frame, and the others
    next_frame : i < count → first_frames (count - i) (drop (12 * i) frames) ≡ part frames (12 * i) 12 ∷ others
    unfolding first_frames others
    next_frame some =
        let one : count - i ≡ suc (count - (i + 1)) = omega arith in
        let further : 12 * i + 12 ≡ 12 * (i + 1) = omega arith in
        rw one
        (ap (λ (o : List ℕ). part frames (12 * i) 12 ∷ first_frames (count - (i + 1)) o)
        (drop-drop 12 (12 * i) frames ∙ ap (λ (k : ℕ). drop k frames) further))

    -- a turn: the node takes the frame, and what is told of its answer is put behind what was told
    pub handing_next : i < count → (a : Answer) (flash' eeprom' answers' t : List ℕ)
        → after a flash' eeprom' ≡ can_step n (part frames (12 * i) 12) flash eeprom
        → t ≡ told a → length t ≡ 14 → answers' ≡ patch answers (14 * i) t
        → Handing flash' eeprom' answers' a.node (i + 1)
    unfolding joined others
    handing_next some a flash' eeprom' answers' t e q l p =
        let put : joined (h.done ++ (t ∷ [])) ≡ joined h.done ++ t =
        joined_append h.done (t ∷ []) ∙ ap (λ (x : List ℕ). joined h.done ++ x) (append-nil t) in
        let rest = delivered others in
        let more = rest a.node flash' eeprom' in
        let further : 14 * i + 14 ≡ 14 * (i + 1) = omega arith in
        record {
          done = h.done ++ (t ∷ []);
          goes_on =
              ap (λ (xs : List (List ℕ)). record { answers = xs; node = more.node; flash = more.flash; eeprom = more.eeprom })
              (append_assoc h.done (t ∷ []) more.answers)
              ∙ ap (λ (x : List ℕ). behind h.done (behind (x ∷ []) more)) q
              ∙ ap (λ (s : Step). behind h.done (behind (told s.answer ∷ []) (rest s.answer.node s.flash s.eeprom))) e
              ∙ ap (behind h.done) (sym (frame_first (state n flash eeprom) (part frames (12 * i) 12) others))
              ∙ ap (λ (fs : List (List ℕ)). behind h.done (delivered fs n flash eeprom)) (sym (next_frame some))
              ∙ h.goes_on;
          written =
              p
              ∙ ap (λ (x : List ℕ). patch x (14 * i) t) h.written
              ∙ put_behind (joined h.done) answers₀ t (14 * i) h.long l
              ∙ ap₂ (λ (x : List ℕ) (k : ℕ). x ++ drop k answers₀) (sym put) further;
          long = ap length put ∙ length-append (joined h.done) t ∙ omega (arith, h.long);
        }

    -- at the end all are handed over
    pub handing_end : i ≡ count → handed n flash eeprom answers ≡ handed_over count frames n₀ flash₀ eeprom₀ answers₀
    unfolding handed_over first_frames delivered
    handing_end e =
        let all : 14 * i ≡ 14 * count = omega arith in
        let none : count - i ≡ 0 = omega arith in
        ap (handed n flash eeprom)
        (h.written ∙ ap₂ (λ (xs : List (List ℕ)) (k : ℕ). joined xs ++ drop k answers₀) (sym (append-nil h.done)) all)
        ∙ ap (λ (d : Delivery). handed_by d count answers₀)
        (ap (λ (k : ℕ). behind h.done (delivered (first_frames k (drop (12 * i) frames)) n flash eeprom)) (sym none) ∙ h.goes_on)
