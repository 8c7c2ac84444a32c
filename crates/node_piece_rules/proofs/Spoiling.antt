-- Answer one of a piece, and the modes: what holds of each byte holds of a piece, since a piece leaves what its last byte leaves, and the
-- bytes before that leave both memories, and of the record all but what is held.
-- Assumes nothing.
use mathlib.Core.Path.{◌≡◌, ◌∙◌, refl, sym, ap, subst}
use mathlib.Core.Bool.{Bool, true, false, false≢true}
use mathlib.Core.List.{List}
use mathlib.Core.Logic.{⊎_elim}
use Prim.Native.Nat.{ℕ, suc}
use lib.ListN.{length, get_or, replicate}
use Rattle.memory_address.specs.Rule.{protected}
use Rattle.frame_rules.specs.Frame.{type_of}
use Rattle.frame_rules.specs.Wrapping.{inner_of}
use Rattle.node_rules.specs.declared.Mode.TheVariants.{Normal}
use Rattle.node_rules.specs.declared.Node.{Node}
use Rattle.node_rules.specs.Record.{held_of, tidied, tidy_mode}
use Rattle.node_rules.specs.Requests.{is_programming}
use Rattle.node_rules.specs.Outcomes.{is_deaf}
use Rattle.node_rules.specs.Uart.{UartStep, held_with, uart_step}
use Rattle.node_rules.specs.Others.{ButBootfl, ForOthers, LeftByOthersOnUart, emptied}
use Rattle.node_rules.proofs.Numbers.{uart_number, uart_refused}
use Rattle.node_rules.proofs.Spoiling.{uart_protected, uart_lengths, uart_normal_spares}
use Rattle.node_rules.proofs.StaysTidy.{uart_tidy}
use Rattle.node_rules.proofs.Staying.{SameNumbers, uart_stays}
use Rattle.node_rules.proofs.Modes.{uart_deaf, uart_normal, uart_programming, tidy_deaf, tidy_normal, tidy_programming}
use Rattle.node_rules.proofs.ForOthers.{uart_others}
use Rattle.node_rules.proofs.Tidying.{tidy_twice}
use Rattle.node_piece_rules.specs.Piece.{PieceStep, piece_step, node_before, frame_at}
use Rattle.node_piece_rules.proofs.Opening.{refused_or_open}
use Rattle.node_piece_rules.proofs.Answering.{piece_some, piece_by, refused_takes_none}

-- a number but 0: no reply, both memories as they were
abbrev pub Silent : List ℕ → List ℕ → UartStep → Type 0
Silent flash eeprom s =
    (s.answer.count ≡ 0) × (s.answer.replies ≡ replicate 30 0) × (s.flash ≡ flash) × (s.eeprom ≡ eeprom)

module _ (n : Node) (bs flash eeprom : List ℕ) where
  abbrev left : UartStep
  left = (piece_step n bs flash eeprom).last

  pub piece_silent : (left.answer.number ≡ 0 → ⊥) → Silent flash eeprom left
  piece_silent =
      piece_by n bs flash eeprom (λ (x : UartStep). (x.answer.number ≡ 0 → ⊥) → Silent flash eeprom x) (λ _. (refl, refl, refl, refl))
      (λ m b _ _ h.
      let e = uart_refused m b flash eeprom (λ z. h (uart_number m b flash eeprom ∙ z)) in
      subst (Silent flash eeprom) (sym e) (refl, refl, refl, refl))

  pub piece_protected : (i : ℕ) → protected i ≡ true → get_or left.flash i 0 ≡ get_or flash i 0
  piece_protected i p =
      piece_by n bs flash eeprom (λ (x : UartStep). get_or x.flash i 0 ≡ get_or flash i 0) refl
      (λ m b _ _. uart_protected m b flash eeprom i p)

  pub piece_lengths : (length left.flash ≡ length flash) × (length left.eeprom ≡ length eeprom)
  piece_lengths =
      piece_by n bs flash eeprom (λ (x : UartStep). (length x.flash ≡ length flash) × (length x.eeprom ≡ length eeprom))
      (refl, refl) (λ m b _ _. uart_lengths m b flash eeprom)

  pub piece_tidy : tidied left.answer.node ≡ left.answer.node
  piece_tidy =
      piece_by n bs flash eeprom (λ (x : UartStep). tidied x.answer.node ≡ x.answer.node) (tidy_twice n)
      (λ m b _ _. uart_tidy m b flash eeprom)

  -- own numbers, fixed bytes and choices
  pub piece_stays : SameNumbers n left.answer.node
  unfolding tidied
  piece_stays =
      piece_by n bs flash eeprom (λ (x : UartStep). SameNumbers n x.answer.node) (refl, refl)
      (λ m b e _.
      let s = uart_stays m b flash eeprom in
      (s.0 ∙ ap (λ (x : Node). x.plate) e, s.1 ∙ ap (λ (x : Node). x.choices) e))

  -- in normal mode FLASH stays, and EEPROM but for BOOTFL
  pub piece_normal_spares : (started : Bool) → n.mode ≡ Normal started → ButBootfl flash eeprom left.flash left.eeprom
  unfolding tidied
  piece_normal_spares started s =
      piece_by n bs flash eeprom (λ (x : UartStep). ButBootfl flash eeprom x.flash x.eeprom) (refl, λ i _. refl)
      (λ m b e _. uart_normal_spares m started b flash eeprom (ap (λ (x : Node). x.mode) e ∙ ap tidy_mode s))

  -- error mode and waiting stay
  pub piece_deaf : is_deaf n.mode ≡ true → left.answer.node ≡ tidied n
  unfolding tidied
  piece_deaf d =
      ⊎_elim
      (λ r. ap (λ (p : PieceStep). p.last.answer.node) (refused_takes_none n bs flash eeprom r))
      (λ o. absurd (false≢true (sym o.2 ∙ tidy_deaf n.mode ∙ d)))
      (refused_or_open n flash eeprom)

  -- normal afterwards: normal before, with the same mark
  pub piece_normal : (c : Bool) → left.answer.node.mode ≡ Normal c → n.mode ≡ Normal c
  unfolding tidied
  piece_normal c =
      piece_by n bs flash eeprom (λ (x : UartStep). x.answer.node.mode ≡ Normal c → n.mode ≡ Normal c) (tidy_normal n.mode c)
      (λ m b e _ h. tidy_normal n.mode c (sym (ap (λ (x : Node). x.mode) e) ∙ uart_normal m b flash eeprom c h))

  -- ---- the frame that the byte with j bytes in front of it completes, or would complete

  -- programming afterwards and not before: 0x100
  pub piece_programming : (j : ℕ) → (piece_step n bs flash eeprom).taken ≡ suc j → is_programming n.mode ≡ false
      → is_programming left.answer.node.mode ≡ true → type_of (frame_at n bs flash eeprom j) ≡ 0x100
  unfolding tidied
  piece_programming j t p q =
      let h = piece_some n bs flash eeprom j t in
      let m = node_before n bs flash eeprom j in
      uart_programming m (get_or bs j 0) flash eeprom
      (sym (tidy_programming m.mode) ∙ ap (λ (x : Node). is_programming x.mode) h.1 ∙ tidy_programming n.mode ∙ p)
      (sym (ap (λ (x : UartStep). is_programming x.answer.node.mode) h.0) ∙ q)

  -- one that is for others
  pub piece_others : (j : ℕ) → (piece_step n bs flash eeprom).taken ≡ suc j → ForOthers n (frame_at n bs flash eeprom j)
      → LeftByOthersOnUart (tidied n) (frame_at n bs flash eeprom j) flash eeprom left
  unfolding tidied
  piece_others j t o =
      let h = piece_some n bs flash eeprom j t in
      let m = node_before n bs flash eeprom j in
      let f = frame_at n bs flash eeprom j in
      subst (LeftByOthersOnUart (tidied n) f flash eeprom) (sym h.0)
      (subst (λ (x : Node). LeftByOthersOnUart x f flash eeprom (uart_step m (get_or bs j 0) flash eeprom)) h.1
      (uart_others m (get_or bs j 0) flash eeprom (subst (λ (x : Node). ForOthers x f) (sym h.1) o)))
