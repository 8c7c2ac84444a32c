-- The laws of any delivery, whatever the frames: nothing, one frame, one list behind another, and each list taken apart anywhere. A
-- delivery is one fold over the frames, so each law is that of the fold. And what none changes, frame by frame.
-- Assumes nothing.
use mathlib.Core.Path.{◌≡◌, ◌∙◌, refl, sym, ap}
use mathlib.Core.Bool.{true}
use mathlib.Core.List.{List, [], ◌∷◌, ◌++◌}
use Prim.Native.Nat.{ℕ, suc}
use lib.ListN.{length, get_or, take, drop}
use lib.Seq.{take_at, drop_at}
use Rattle.node_rules.specs.Step.{Step, can_step}
use Rattle.node_rules.specs.Runs.{State, state, behind_frame}
use Rattle.node_rules.proofs.Spoiling.{can_lengths, can_protected}
use Rattle.node_rules.proofs.Staying.{can_stays}
use Rattle.memory_address.specs.Rule.{protected}
use Rattle.update_rules.specs.Delivery.{told, Delivery, delivery, behind_frames, delivered, Delivers}

-- a frame handed to what stands
abbrev pub step_at : State → List ℕ → Step
step_at s f = can_step s.node f s.flash s.eeprom

abbrev pub delivered_at : List (List ℕ) → State → Delivery
delivered_at frames s = delivered frames s.node s.flash s.eeprom

-- a delivery with answers before its own
abbrev pub behind : List (List ℕ) → Delivery → Delivery
behind answers d = record { answers = answers ++ d.answers; node = d.node; flash = d.flash; eeprom = d.eeprom }

-- a delivery taken apart: what stands between the first frames and the others
pub record Parted (first others : List (List ℕ)) (before : State) (answers : List (List ℕ)) (after : State) : Type 0 where
  pub between : State
  pub firstly : Delivers first before (take (length first) answers) between
  pub then : Delivers others between (drop (length first) answers) after

-- what no delivery changes: the plate with the own numbers and the fixed bytes, what was chosen, and the memories' lengths
pub record Lasting (before after : State) : Type 0 where
  pub same_plate : after.node.plate ≡ before.node.plate
  pub same_choices : after.node.choices ≡ before.node.choices
  pub flash_length : length after.flash ≡ length before.flash
  pub eeprom_length : length after.eeprom ≡ length before.eeprom

-- nothing delivered
pub nothing : (s : State) → Delivers [] s [] s
unfolding delivered
nothing s = refl

-- one frame
pub one : (s : State) (f : List ℕ) (t : Step) → step_at s f ≡ t → Delivers (f ∷ []) s (told t.answer ∷ []) (behind_frame t)
unfolding delivered
one s f t e = ap (λ (x : Step). delivery (told x.answer ∷ []) (behind_frame x)) e

-- a frame, and then the others
pub frame_first : (s : State) (f : List ℕ) (fs : List (List ℕ))
    → delivered_at (f ∷ fs) s ≡ behind (told (step_at s f).answer ∷ []) (delivered_at fs (behind_frame (step_at s f)))
unfolding delivered
frame_first s f fs = refl

-- one list behind another
appended : (fs gs : List (List ℕ)) (s : State)
    → delivered_at (fs ++ gs) s ≡ behind (delivered_at fs s).answers (delivered_at gs (behind_frames fs s))
unfolding delivered
appended [] gs s = refl
appended (f ∷ fs) gs s = ap (behind (told (step_at s f).answer ∷ [])) (appended fs gs (behind_frame (step_at s f)))

-- what stands after a delivery, and what was told
pub stands_after : (fs : List (List ℕ)) (before : State) (answers : List (List ℕ)) (after : State) → Delivers fs before answers after
    → behind_frames fs before ≡ after
unfolding delivered
stands_after fs before answers after e = ap (λ (d : Delivery). state d.node d.flash d.eeprom) e

pub all_delivered : (fs : List (List ℕ)) (before : State) → Delivers fs before (delivered_at fs before).answers (behind_frames fs before)
unfolding delivered
all_delivered fs before = refl

pub as_many : (fs : List (List ℕ)) (before : State) → length (delivered_at fs before).answers ≡ length fs
unfolding delivered
as_many [] before = refl
as_many (f ∷ fs) before = ap suc (as_many fs (behind_frame (step_at before f)))

pub one_behind_another : (fs gs : List (List ℕ)) (a b c : State) (xs ys : List (List ℕ)) → Delivers fs a xs b → Delivers gs b ys c
    → Delivers (fs ++ gs) a (xs ++ ys) c
one_behind_another fs gs a b c xs ys p q =
    appended fs gs a
    ∙ ap (λ (d : Delivery). behind d.answers (delivered_at gs (behind_frames fs a))) p
    ∙ ap (λ (s : State). behind xs (delivered_at gs s)) (stands_after fs a xs b p)
    ∙ ap (behind xs) q

-- "every prefix of a delivery is a delivery": taken apart anywhere
pub parted : (fs gs : List (List ℕ)) (a c : State) (xs : List (List ℕ)) → Delivers (fs ++ gs) a xs c → Parted fs gs a xs c
parted fs gs a c xs p =
    let b = behind_frames fs a in
    let first = (delivered_at fs a).answers in
    let others = (delivered_at gs b).answers in
    let long : length first ≡ length fs = as_many fs a in
    let whole : delivery xs c ≡ behind first (delivered_at gs b) = sym p ∙ appended fs gs a in
    let told-both : xs ≡ first ++ others = ap (λ (d : Delivery). d.answers) whole in
    let taken : take (length fs) xs ≡ first = ap (take (length fs)) told-both ∙ take_at first others (length fs) long in
    let dropped : drop (length fs) xs ≡ others = ap (drop (length fs)) told-both ∙ drop_at first others (length fs) long in
    record {
      between = b;
      firstly = all_delivered fs a ∙ ap (λ (ts : List (List ℕ)). delivery ts b) (sym taken);
      then =
          ap (λ (s : State). delivery others s) (sym (ap (λ (d : Delivery). state d.node d.flash d.eeprom) whole))
          ∙ ap (λ (ts : List (List ℕ)). delivery ts c) (sym dropped);
    }

-- ---- what no frame changes

pub frame_keeps : (s : State) (f : List ℕ) → Lasting s (behind_frame (step_at s f))
frame_keeps s f =
    let same = can_stays s.node f s.flash s.eeprom in
    let lengths = can_lengths s.node f s.flash s.eeprom in
    record {
      same_plate = same.0;
      same_choices = same.1;
      flash_length = lengths.0;
      eeprom_length = lengths.1;
    }

kept_by_lem : (fs : List (List ℕ)) (s : State) → Lasting s (behind_frames fs s)
kept_by_lem [] s = record { same_plate = refl; same_choices = refl; flash_length = refl; eeprom_length = refl }
kept_by_lem (f ∷ fs) s =
    let one = frame_keeps s f in
    let rest = kept_by_lem fs (behind_frame (step_at s f)) in
    record {
      same_plate = rest.same_plate ∙ one.same_plate;
      same_choices = rest.same_choices ∙ one.same_choices;
      flash_length = rest.flash_length ∙ one.flash_length;
      eeprom_length = rest.eeprom_length ∙ one.eeprom_length;
    }

-- any frames at all: the own numbers, the fixed bytes, what was chosen and the lengths stay
pub delivery_keeps : (fs : List (List ℕ)) (before : State) (answers : List (List ℕ)) (after : State) → Delivers fs before answers after
    → Lasting before after
delivery_keeps fs before answers after p = rw (stands_after fs before answers after p) at (kept_by_lem fs before)

-- nor a protected cell of FLASH
spared_by : (fs : List (List ℕ)) (s : State) (i : ℕ) → protected i ≡ true → get_or (behind_frames fs s).flash i 0 ≡ get_or s.flash i 0
spared_by [] s i p = refl
spared_by (f ∷ fs) s i p =
    spared_by fs (behind_frame (step_at s f)) i p ∙ can_protected s.node f s.flash s.eeprom i p

pub delivery_spares : (fs : List (List ℕ)) (before : State) (answers : List (List ℕ)) (after : State) → Delivers fs before answers after
    → (i : ℕ) → protected i ≡ true → get_or after.flash i 0 ≡ get_or before.flash i 0
delivery_spares fs before answers after c i p = rw (stands_after fs before answers after c) at (spared_by fs before i p)
