-- Demand 3, over the definitions: how we know that a module holds what the update file said. Any legal recipe, delivered in order with
-- nothing else in between to a node in programming mode that bears its numbers, leaves what it says when it is read plainly. The items'
-- frames carry the node there, and Leave comes behind them.
-- Assumes nothing.
use mathlib.Core.Path.{◌≡◌, ◌∙◌, sym, ap, ap₂, subst}
use mathlib.Core.Bool.{true}
use mathlib.Core.List.{List, [], ◌∷◌, map}
use Prim.Native.Nat.{ℕ, ◌<◌}
use native.Mathlib.Omega.{arith}
use lib.ListN.{length}
use Rattle.memory_address.specs.Places.{flash_cells, eeprom_cells}
use Rattle.node_rules.specs.declared.Staged.{Staged}
use Rattle.node_rules.specs.declared.Mode.TheVariants.{Programming, Waiting}
use Rattle.node_rules.specs.declared.Node.{Node}
use Rattle.node_rules.specs.Record.{with_mode, tidied, legal_staged}
use Rattle.node_rules.specs.Step.{Step}
use Rattle.node_rules.specs.Runs.{State, state, behind_frame}
use Rattle.node_rules.proofs.TidiedOnce.{programming, tidied_legal}
use Rattle.node_rules.proofs.Pairs.{tidied_first, leaves_programming}
use Rattle.recipe.specs.Items.{Item, Recipe, Legal, LegalItems}
use Rattle.recipe.specs.Frames.{leave_frame, items_frames, frames_of, frame_count}
use Rattle.recipe.specs.Plain.{Memories, plain_items, plain_leave, plainly}
use Rattle.recipe.proofs.Framing.{count_frames}
use Rattle.recipe.proofs.Plainly.{plain_items_sizes}
use Rattle.update_rules.specs.Delivery.{told, Delivery, delivered, Delivers}
use Rattle.update_rules.specs.Mirror.{mirrored, nothing_told, answers_of}
use Rattle.update_rules.specs.Updated.{Ready, over, Full, left_whole, updated, Arrived}
use Rattle.update_rules.proofs.Deliveries.{delivered_at, frame_first, one, one_behind_another, behind}
use Rattle.update_rules.proofs.Items.{items_carry}

-- the same frames, from the record as it was handed in: the first call tidies
tidied_delivered : (n : Node) (s : Staged) (m : Memories) → (tidied n).mode ≡ Programming s → Full m → (frames : List (List ℕ))
    → 0 < length frames → delivered_at frames (over n m) ≡ delivered_at frames (over (programming n s) m)
tidied_delivered n s m e full [] some = absurd (omega arith)
tidied_delivered n s m e full (frame ∷ frames) some =
    frame_first (over n m) frame frames
    ∙ ap (λ (t : Step). behind (told t.answer ∷ []) (delivered_at frames (behind_frame t)))
    (tidied_first n m.flash m.eeprom full.0 full.1 s e frame)
    ∙ sym (frame_first (over (programming n s) m) frame frames)

-- "Leave: one 0x020"
pub leave_delivered : (n : Node) (m : Memories) → Full m → (s : Staged) → legal_staged s ≡ true
    → Delivers (leave_frame n.plate.own.0 n.plate.group.0 ∷ []) (over (programming n s) m) (nothing_told ∷ [])
    (over (with_mode (tidied n) Waiting) (plain_leave m))
leave_delivered n m full s h =
    one (over (programming n s) m) (leave_frame n.plate.own.0 n.plate.group.0) _
    (leaves_programming n m.flash m.eeprom full.0 full.1 s h)

own_numbers : (n : Node) (items : List Item) (s : Staged) (m : Memories) → LegalItems items → legal_staged s ≡ true → Full m
    → let r : Recipe = record { module_number = n.plate.own.0; group_number = n.plate.group.0; items = items } in
    delivered_at (frames_of r) (over (programming n s) m) ≡ updated r n m
unfolding frames_of answers_of plainly
own_numbers n items s m each h full =
    let sizes = plain_items_sizes items m in
    let first = items_carry n items m each full s h in
    let leave = leave_frame n.plate.own.0 n.plate.group.0 in
    let fs = items_frames n.plate.own.0 n.plate.group.0 items in
    one_behind_another fs (leave ∷ []) (over (programming n s) m) (over (programming n first.staged) (plain_items items m))
    (over (with_mode (tidied n) Waiting) (plain_leave (plain_items items m))) (map mirrored fs) (nothing_told ∷ []) first.delivers
    (leave_delivered n (plain_items items m) (sizes.0 ∙ full.0, sizes.1 ∙ full.1) first.staged first.is_legal)

-- the whole update
pub demand_three : (r : Recipe) (n : Node) (m : Memories) → Legal r → Ready n r
    → length m.flash ≡ flash_cells → length m.eeprom ≡ eeprom_cells
    → delivered (frames_of r) n m.flash m.eeprom ≡ updated r n m
unfolding frame_count
demand_three r n m legal ready l k =
    let s = ready.staged in
    let own : record { module_number = n.plate.own.0; group_number = n.plate.group.0; items = r.items } ≡ r =
    ap₂ (λ (x y : ℕ). record { module_number = x; group_number = y; items = r.items }) ready.same_module ready.same_group in
    tidied_delivered n s m ready.is_programming (l, k) (frames_of r) (omega (arith, count_frames r))
    ∙ subst (λ (q : Recipe). delivered_at (frames_of q) (over (programming n s) m) ≡ updated q n m) own
    (own_numbers n r.items s m legal.each (tidied_legal n s ready.is_programming) (l, k))

-- the same as a delivery from one state to another
pub whole_delivery : (r : Recipe) (n : Node) (m : Memories) → Legal r → Ready n r → Full m
    → Delivers (frames_of r) (over n m) (answers_of r) (left_whole r n m)
whole_delivery r n m legal ready full = demand_three r n m legal ready full.0 full.1

-- so whatever is told and left, it has arrived whole
pub delivery_arrives : (r : Recipe) (n : Node) (m : Memories) (answers : List (List ℕ)) (after : State) → Legal r → Ready n r → Full m
    → Delivers (frames_of r) (over n m) answers after → Arrived r n m answers after
delivery_arrives r n m answers after legal ready full came =
    let e = sym came ∙ whole_delivery r n m legal ready full in
    record {
      answered = ap (λ (d : Delivery). d.answers) e;
      stands = ap (λ (d : Delivery). state d.node d.flash d.eeprom) e;
    }
