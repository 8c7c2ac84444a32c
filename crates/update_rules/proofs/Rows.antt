-- A pair of frames to a programming node, then the eight writes of a Block over its erased cells: each pair is answered by itself with
-- the flag set, whatever was staged before, and leaves the node programming. A pair is the laws of its two frames, and rows are pairs one
-- behind another, FLASH taken in three parts.
-- Assumes nothing.
use Rattle.std.specs.Prelude.{Some}
use mathlib.Core.Path.{◌≡◌, ◌∙◌, refl, sym, ap, subst}
use mathlib.Core.Bool.{true}
use mathlib.Core.List.{List, [], ◌∷◌, ◌++◌, map, map-append, append_assoc}
use Prim.Native.Nat.{ℕ, zero, suc, ◌+◌, ◌*◌, ◌<◌}
use native.Mathlib.Omega.{arith}
use lib.ListN.{length, take, drop, replicate, length-append, length-take, length-drop, take-append-drop}
use lib.Seq.{take_at, drop_at, take-append_seam, drop-append-add}
use Rattle.base.specs.Parts.{part, patch, Bytes}
use Rattle.base.proofs.Bytes.{bytes_take, bytes_drop}
use Rattle.memory_address.specs.Rule.{ruled, legal_flash}
use Rattle.memory_address.specs.declared.Address.{Address}
use Rattle.memory_address.specs.declared.Address.TheVariants.{Flash}
use Rattle.memory_address.proofs.Laws.{flash_ruled, flash_within}
use Rattle.memory_leaves.specs.Leaves.{combined}
use Rattle.memory_cells.specs.Memory.{flash_written}
use Rattle.memory_cells.proofs.Laws.{written_done}
use Rattle.memory_leaves.proofs.Combined.{over_blank}
use Rattle.node_rules.specs.declared.Staged.{Staged}
use Rattle.node_rules.specs.declared.Node.{Node}
use Rattle.node_rules.specs.Record.{legal_staged}
use Rattle.node_rules.specs.Requests.{command_at}
use Rattle.node_rules.specs.Step.{can_step}
use Rattle.node_rules.proofs.TidiedOnce.{programming}
use Rattle.node_rules.proofs.Pairs.{address_to, data_to, show_of, write_flash, answered, stages, writes_flash}
use Rattle.recipe.specs.Frames.{writes}
use Rattle.recipe.specs.Plain.{Memories}
use Rattle.update_rules.specs.Delivery.{delivery, Delivers}
use Rattle.update_rules.specs.Mirror.{mirrored}
use Rattle.update_rules.specs.Updated.{over}
use Rattle.update_rules.proofs.Deliveries.{nothing, one, one_behind_another}

-- two memories
abbrev pub both : List ℕ → List ℕ → Memories
both flash eeprom = record { flash = flash; eeprom = eeprom }

-- frames that a programming node with s staged answers each by itself with the flag set, and that leave it programming, with some legal
-- command staged, over the memories m'
pub record Carries (n : Node) (frames : List (List ℕ)) (s : Staged) (m m' : Memories) : Type 0 where
  pub staged : Staged
  pub is_legal : legal_staged staged ≡ true
  pub delivers : Delivers frames (over (programming n s) m) (map mirrored frames) (over (programming n staged) m')

module _ (n : Node) where
  -- nothing, and one list of such frames behind another
  pub carries_nothing : (s : Staged) (m : Memories) → legal_staged s ≡ true → Carries n [] s m m
  carries_nothing s m h = record { staged = s; is_legal = h; delivers = nothing (over (programming n s) m) }

  pub carries_behind : (fs gs : List (List ℕ)) (s : Staged) (a b c : Memories) → Carries n fs s a b
      → ((t : Staged) → legal_staged t ≡ true → Carries n gs t b c) → Carries n (fs ++ gs) s a c
  carries_behind fs gs s a b c first others =
      let t = first.staged in
      let second = others t first.is_legal in
      record {
        staged = second.staged;
        is_legal = second.is_legal;
        delivers =
            one_behind_another fs gs (over (programming n s) a) (over (programming n t) b) (over (programming n second.staged) c)
            (map mirrored fs) (map mirrored gs) first.delivers second.delivers
            ∙ ap (λ (ts : List (List ℕ)). delivery ts (over (programming n second.staged) c)) (sym (map-append mirrored fs gs));
      }

  -- a pair: the command is staged and done
  pub pair : (command a : ℕ) (x : Address) (d flash eeprom flash' eeprom' : List ℕ) → length flash ≡ 65536 → length eeprom ≡ 1024
      → a < 0x1000000 → length d ≡ 8 → ruled a command ≡ Some x → legal_staged (command_at command x) ≡ true
      → can_step (programming n (command_at command x)) (data_to n.plate.own.0 n.plate.group.0 d) flash eeprom
      ≡ answered n (command_at command x) (show_of n.plate.own.0 n.plate.group.0 d) flash' eeprom'
      → (s : Staged) → legal_staged s ≡ true
      → Carries n
      (address_to n.plate.own.0 n.plate.group.0 command a ∷ data_to n.plate.own.0 n.plate.group.0 d ∷ []) s
      (both flash eeprom) (both flash' eeprom')
  pair command a x d flash eeprom flash' eeprom' l k b eight r legal does s h =
      let m = n.plate.own.0 in
      let g = n.plate.group.0 in
      let c = command_at command x in
      let before = over (programming n s) (both flash eeprom) in
      let between = over (programming n c) (both flash eeprom) in
      let after = over (programming n c) (both flash' eeprom') in
      record {
        staged = c;
        is_legal = legal;
        delivers =
            one_behind_another (address_to m g command a ∷ []) (data_to m g d ∷ []) before between after
            (mirrored (address_to m g command a) ∷ []) ((0 ∷ 1 ∷ show_of m g (take 8 (d ++ replicate 12 0))) ∷ [])
            (one before (address_to m g command a) _ (stages n flash eeprom l k s h command a x b r))
            (one between (data_to m g d) _ does)
            ∙ ap
            (λ (cells : List ℕ). delivery (mirrored (address_to m g command a) ∷ (0 ∷ 1 ∷ show_of m g cells) ∷ []) after)
            (take_at d (replicate 12 0) 8 eight);
      }

-- ---- a row over blank cells, FLASH taken in three parts

part_mid : (p q t : List ℕ) (a k : ℕ) → length p ≡ a → length q ≡ k → part (p ++ (q ++ t)) a k ≡ q
part_mid p q t a k e l = rw (drop_at p (q ++ t) a e, take_at q t k l)

patch_mid : (p q t new : List ℕ) (a : ℕ) → length p ≡ a → length q ≡ length new → patch (p ++ (q ++ t)) a new ≡ p ++ (new ++ t)
unfolding patch
patch_mid p q t new a e l = rw (← e, take-append_seam, drop-append-add, ← l, drop_at q t (length q) refl)

written_blank : (p d t : List ℕ) (a : ℕ) → length (p ++ (replicate 8 0xFF ++ t)) ≡ 65536 → length p ≡ a → legal_flash a 0x02 ≡ true
    → length d ≡ 8 → Bytes d → flash_written (p ++ (replicate 8 0xFF ++ t)) a d ≡ p ++ (d ++ t)
written_blank p d t a l e h eight bytes =
    let m = p ++ (replicate 8 0xFF ++ t) in
    written_done m a d l h eight
    ∙ ap (λ (cells : List ℕ). patch m a (combined cells d)) (part_mid p (replicate 8 0xFF) t a 8 e refl)
    ∙ ap (patch m a) (over_blank 8 d eight bytes)
    ∙ patch_mid p (replicate 8 0xFF) t d a e (sym eight)

-- k blank rows
abbrev pub blank : ℕ → List ℕ
blank zero = []
blank (suc k) = replicate 8 0xFF ++ blank k

module _ (n : Node) (eeprom t : List ℕ) (sized : length eeprom ≡ 1024) where
  -- "then 8 writes upward": k rows from a on, over blank cells
  pub rows : (k a : ℕ) (p d : List ℕ) → length (p ++ (blank k ++ t)) ≡ 65536 → length p ≡ a
      → ((i : ℕ) → i < k → legal_flash (a + 8 * i) 0x02 ≡ true) → length d ≡ 8 * k → Bytes d
      → (s : Staged) → legal_staged s ≡ true
      → Carries n (writes n.plate.own.0 n.plate.group.0 k a d) s (both (p ++ (blank k ++ t)) eeprom) (both (p ++ (d ++ t)) eeprom)
  unfolding writes
  rows zero a p [] l e h long bytes s legal = carries_nothing n s (both (p ++ t) eeprom) legal
  rows zero a p (x ∷ d) l e h long bytes s legal = absurd (omega arith)
  rows (suc k) a p d l e h long bytes s staged =
      let m = n.plate.own.0 in
      let g = n.plate.group.0 in
      let here : a + 8 * 0 ≡ a = omega arith in
      let legal : legal_flash a 0x02 ≡ true = rw here at (h 0 (omega arith)) in
      let w = flash_within a 0x02 legal in
      let eight : length (take 8 d) ≡ 8 = simp length-take (omega arith) in
      let row = written_blank p (take 8 d) (blank k ++ t) a l e legal eight (bytes_take 8 d bytes) in
      let flash = p ++ (replicate 8 0xFF ++ (blank k ++ t)) in
      let flash' = p ++ (take 8 d ++ (blank k ++ t)) in
      let grouped : (p ++ take 8 d) ++ (blank k ++ t) ≡ flash' = append_assoc p (take 8 d) (blank k ++ t) in
      let regrouped : (p ++ take 8 d) ++ (drop 8 d ++ t) ≡ p ++ (d ++ t) =
      append_assoc p (take 8 d) (drop 8 d ++ t)
      ∙ ap (λ (x : List ℕ). p ++ x) (sym (append_assoc (take 8 d) (drop 8 d) t) ∙ ap (λ (x : List ℕ). x ++ t) (take-append-drop 8 d)) in
      let does : can_step (programming n (write_flash a)) (data_to m g (take 8 d)) flash eeprom
      ≡ answered n (write_flash a) (show_of m g (take 8 d)) flash' eeprom =
      writes_flash n flash eeprom l sized a (take 8 d) eight legal
      ∙ ap (λ (f : List ℕ). answered n (write_flash a) (show_of m g (part f a 8)) f eeprom) row
      ∙ ap (λ (cells : List ℕ). answered n (write_flash a) (show_of m g cells) flash' eeprom)
      (part_mid p (take 8 d) (blank k ++ t) a 8 e eight) in
      carries_behind n (address_to m g 0x02 a ∷ data_to m g (take 8 d) ∷ []) (writes m g k (a + 8) (drop 8 d)) s (both flash eeprom)
      (both flash' eeprom) (both (p ++ (d ++ t)) eeprom)
      (pair n 0x02 a (Flash (record { 0 = a })) (take 8 d) flash eeprom flash' eeprom l sized (omega arith) eight
      (flash_ruled a 0x02 legal) legal does s staged)
      (λ c lawful.
      subst (λ (f : List ℕ). Carries n (writes m g k (a + 8) (drop 8 d)) c (both flash' eeprom) (both f eeprom)) regrouped
      (subst
      (λ (f : List ℕ). Carries n (writes m g k (a + 8) (drop 8 d)) c (both f eeprom) (both ((p ++ take 8 d) ++ (drop 8 d ++ t)) eeprom))
      grouped
      (rows k (a + 8) (p ++ take 8 d) (drop 8 d)
      (ap length grouped ∙ simp length-append (omega (arith, simp length-append at l)))
      (simp length-append (omega arith))
      (λ i lt.
      let next : a + 8 * suc i ≡ a + 8 + 8 * i = omega arith in
      rw next at (h (suc i) (omega arith)))
      (simp length-drop (omega arith)) (bytes_drop 8 d bytes) c lawful)))
