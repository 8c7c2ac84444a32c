-- 11, in each way. It comes only with a fifteenth byte, and what then stays held is what the way that was chosen says: the first byte of the
-- fifteen is dropped and what stays starts at the next 0xAA, or nothing stays.
-- Assumes nothing.
use mathlib.Core.Path.{◌≡◌, ◌∙◌, refl, sym, ap, subst}
use mathlib.Core.Bool.{Bool, true, false, cond, false≢true}
use mathlib.Core.List.{List, [], ◌∷◌, ◌++◌}
use mathlib.Core.Logic.{◌⊎◌, inl, inr}
use Prim.Native.Nat.{ℕ}
use native.Mathlib.Omega.{arith}
use lib.Dec.{eqb}
use lib.ListN.{length, get_or, length-append}
use lib.Seq.{take_all}
use borrow.Author.Tests.{eqb-true, eqb-false, ltb-false}
use Rattle.memory_address.specs.Places.{full}
use Rattle.node_rules.specs.declared.Noise.{Noise}
use Rattle.node_rules.specs.declared.Noise.TheVariants.{KeepFromNext, DropAll}
use Rattle.node_rules.specs.declared.Choices.{Choices}
use Rattle.node_rules.specs.declared.Node.{Node}
use Rattle.node_rules.specs.Record.{holding, held_of, tidied, Holdable}
use Rattle.node_rules.specs.Step.{done}
use Rattle.node_rules.specs.Uart.{held_with, incomplete, from_start, kept_by, held_after_bad, uart_step, silent}
use Rattle.node_rules.specs.Others.{left_on_uart}
use Rattle.node_rules.specs.Runs.{NoStart}
use Rattle.node_rules.specs.Reading.{StaysOf}
use Rattle.node_rules.proofs.Tidying.{held_holdable, tidy_held}
use Rattle.node_rules.proofs.StaysTidy.{only_eleven}
use Rattle.node_rules.proofs.Numbers.{uart_refused, uart_number}

-- ---- what stays, by the way

-- bytes of which none is 0xAA, and then those that start with one, or nothing
start_says : (bs : List ℕ)
    → (passed : List ℕ) × (bs ≡ passed ++ from_start bs) × NoStart passed × ((from_start bs ≡ []) ⊎ (get_or (from_start bs) 0 0 ≡ 0xAA))
start_says [] = ([], refl, tt, inl refl)
start_says (b ∷ bs) = go (eqb b 0xAA) refl (start_says bs)
  where
    go : (t : Bool) → eqb b 0xAA ≡ t
        → ((passed : List ℕ) × (bs ≡ passed ++ from_start bs) × NoStart passed × ((from_start bs ≡ []) ⊎ (get_or (from_start bs) 0 0 ≡ 0xAA)))
        → let held = cond t (b ∷ bs) (from_start bs) in
        (passed : List ℕ) × (b ∷ bs ≡ passed ++ held) × NoStart passed × ((held ≡ []) ⊎ (get_or held 0 0 ≡ 0xAA))
    go true q r = ([], refl, tt, inr (eqb-true b 0xAA q))
    go false q r = (b ∷ r.0, ap (λ (xs : List ℕ). b ∷ xs) r.1, (eqb-false b 0xAA q, r.2), r.3)

kept_says : (way : Noise) (first : ℕ) (others : List ℕ) → length others ≡ 14 → StaysOf way (first ∷ others) (kept_by way (first ∷ others))
kept_says DropAll first others l = refl
kept_says KeepFromNext first others l =
    let r = start_says others in
    let kept : kept_by KeepFromNext (first ∷ others) ≡ from_start others = ap from_start (take_all 14 others (omega arith)) in
    subst (StaysOf KeepFromNext (first ∷ others)) (sym kept) (first, r.0, ap (λ (xs : List ℕ). first ∷ xs) r.1, r.2, r.3)

-- of any fifteen bytes
pub bad_says : (c : Choices) (fifteen : List ℕ) → length fifteen ≡ 15 → StaysOf c.noise fifteen (held_after_bad c fifteen)
unfolding held_after_bad
bad_says c [] l = let z : ⊥ = omega arith in absurd z
bad_says c (first ∷ others) l = kept_says c.noise first others (omega arith)

-- ---- a byte that gives 11

-- fourteen are held, and what is held with the byte are these and the byte
fifteen_held : (xs : List ℕ) (b : ℕ) → Holdable xs → incomplete (held_with xs b) ≡ false
    → (held_with xs b ≡ xs ++ (b ∷ [])) × (length (xs ++ (b ∷ [])) ≡ 15)
fifteen_held [] b h i = absurd (go (eqb b 0xAA) i)
  where
    go : (t : Bool) → incomplete (cond t (b ∷ []) []) ≡ false → ⊥
    go true e = false≢true (sym e)
    go false e = false≢true (sym e)
fifteen_held (x ∷ xs) b h i =
    (refl, omega (arith, h.1, length-append xs (b ∷ []), ltb-false (length (x ∷ xs ++ (b ∷ []))) 15 i))

module _ (n : Node) (b : ℕ) (flash eeprom : List ℕ) (e : (uart_step n b flash eeprom).answer.number ≡ 11) where
  -- the fifteen bytes
  abbrev fifteen : List ℕ
  fifteen = held_of n ++ (b ∷ [])

  all_held : (held_with (held_of n) b ≡ fifteen) × (length fifteen ≡ 15)
  unfolding uart_step done
  all_held =
      fifteen_held (held_of n) b (held_holdable n.receiver)
      (ap (λ (xs : List ℕ). incomplete (held_with xs b)) (sym (tidy_held n))
      ∙ (only_eleven (tidied n) (full flash eeprom) (held_with (held_of (tidied n)) b) e).0)

  same_choices_lem : (tidied n).choices ≡ n.choices
  unfolding tidied
  same_choices_lem = refl

  -- THE LAW: no reply, memories untouched, and the record as it was but for what is held
  pub eleven_leaves : uart_step n b flash eeprom
      ≡ silent 11 (holding (tidied n) (held_after_bad n.choices fifteen)) flash eeprom
  eleven_leaves =
      let number = sym (uart_number n b flash eeprom) ∙ e in
      uart_refused n b flash eeprom (λ z. let w : ◌≡◌ {A = ℕ} 11 0 = sym number ∙ z in omega arith)
      ∙ ap (λ (k : ℕ). silent k (left_on_uart k (tidied n) b) flash eeprom) number
      ∙ ap (λ (c : Choices). silent 11 (holding (tidied n) (held_after_bad c (held_with (held_of (tidied n)) b))) flash eeprom) same_choices_lem
      ∙ ap (λ (xs : List ℕ). silent 11 (holding (tidied n) (held_after_bad n.choices xs)) flash eeprom)
      (ap (λ (xs : List ℕ). held_with xs b) (tidy_held n) ∙ all_held.0)

  -- and what is held is what the way says of the fifteen
  pub eleven_stays : StaysOf n.choices.noise fifteen (held_after_bad n.choices fifteen)
  eleven_stays = bad_says n.choices fifteen all_held.1
