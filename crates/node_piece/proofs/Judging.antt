-- A piece at an open, running node: each byte that is gathered gives 10, but the one with which fifteen are held, which is judged. By
-- recursion on the bytes, with the law of one byte (`with_byte_lem`); what 11 leaves is not looked at.
-- Assumes nothing.
use mathlib.Core.Path.{◌≡◌, ◌∙◌, refl, sym, ap}
use mathlib.Core.Bool.{false, cond, false≢true}
use mathlib.Core.List.{List, [], ◌∷◌}
use mathlib.Core.Logic.{⊎_elim}
use Prim.Native.Nat.{ℕ, suc}
use native.Mathlib.Omega.{arith}
use lib.Dec.{eqb}
use lib.ListN.{length}
use borrow.Author.Tests.{eqb-true, lt-ltb}
use Rattle.base.proofs.Choice.{by_cond, cond_true, true_or_false}
use Rattle.memory_address.specs.Places.{full}
use Rattle.frame_rules.specs.Wrapping.{inner_of, rightly_wrapped}
use Rattle.node_rules.specs.declared.Node.{Node}
use Rattle.node_rules.specs.Record.{holding, held_of, tidied, Holdable}
use Rattle.node_rules.specs.Step.{done, can_step}
use Rattle.node_rules.specs.Uart.{UartStep, held_with, incomplete, held_after_bad, via_uart, uart_step, silent}
use Rattle.node_rules.specs.Others.{emptied}
use Rattle.node_rules.specs.Runs.{state, behind_byte, bytes_in}
use Rattle.node_rules.proofs.Tidying.{held_held, holdable_few, holding_tidy, tidied_mode, held_holdable}
use Rattle.node_rules.proofs.StaysTidy.{with_holdable, only_ten}
use Rattle.node_rules.proofs.Agreement.{with_byte_lem}
use Rattle.node_uart.proofs.Listening.{open_pin}
use Rattle.node_piece_rules.specs.Piece.{PieceStep, takes_none, taken_of, last_taken, piece_step}
use Rattle.node_piece_rules.proofs.Stopping.{stops_behind}
use Rattle.node_piece_rules.proofs.Opening.{Opened, open_waits, open_hears, still_open}
use Rattle.node_piece_rules.proofs.Cutting.{from_tidied}
use Rattle.node_gather.specs.Internal.Gathered.{Gathered, gathered_none, gathered}

module _ (n : Node) (flash eeprom : List ℕ) (o : Opened n flash eeprom) where
  -- the record with these bytes held
  abbrev with : List ℕ → Node
  with xs = holding (tidied n) xs

  with_tidy : (xs : List ℕ) → Holdable xs → tidied (with xs) ≡ with xs
  with_tidy xs h = holding_tidy (tidied n) xs h (tidied_mode n)

  -- what fifteen bytes give
  abbrev pub complete : List ℕ → UartStep
  complete w =
      cond (rightly_wrapped w) (via_uart (can_step (with []) (inner_of w) flash eeprom))
      (silent 11 (with (held_after_bad (tidied n).choices w)) flash eeprom)

  abbrev judged : List ℕ → UartStep
  judged ys = cond (incomplete ys) (silent 10 (with ys) flash eeprom) (complete ys)

  one_byte : (xs : List ℕ) (b : ℕ) → Holdable xs → uart_step (with xs) b flash eeprom ≡ judged (held_with xs b)
  one_byte xs b h =
      with_byte_lem (tidied n) flash eeprom o.0 (open_pin (tidied n).choices.pin o.1) o.2 (tidied_mode n) xs b h
      (held_with xs b) refl

  -- no number but 10 comes with a frame that is incomplete, and none of 1, 2 and 3
  not_ten : (xs : List ℕ) (b : ℕ) → Holdable xs → incomplete (held_with xs b) ≡ false
      → eqb (uart_step (with xs) b flash eeprom).answer.number 10 ≡ false
  unfolding uart_step done
  not_ten xs b h l =
      let m = with xs in
      let held : held_of (tidied m) ≡ xs = ap held_of (with_tidy xs h) ∙ held_held xs h in
      let more : incomplete (held_with (held_of (tidied m)) b) ≡ false = ap (λ (zs : List ℕ). incomplete (held_with zs b)) held ∙ l in
      ⊎_elim
      (λ e.
      absurd (false≢true (sym more
      ∙ only_ten (tidied m) (full flash eeprom) (held_with (held_of (tidied m)) b)
      (eqb-true (uart_step m b flash eeprom).answer.number 10 e))))
      (λ e. e)
      (true_or_false (eqb (uart_step m b flash eeprom).answer.number 10))

  heard : (xs : List ℕ) (b : ℕ) → Holdable xs → takes_none (uart_step (with xs) b flash eeprom).answer.number ≡ false
  heard xs b h = open_hears (with xs) flash eeprom (still_open n (with xs) flash eeprom (ap emptied (with_tidy xs h)) o) b

  gathers : (bs xs : List ℕ) → Holdable xs
      → last_taken (silent 10 (with xs) flash eeprom) (taken_of (bytes_in bs (state (with xs) flash eeprom)))
      ≡ record { taken = (gathered xs bs).taken; last = judged (gathered xs bs).held }
  unfolding gathered
  gathers [] xs h =
      ap (λ (x : UartStep). last_taken x [])
      (sym
      (cond_true (incomplete xs) (silent 10 (with xs) flash eeprom) (complete xs)
      (lt-ltb (length xs) 15 (omega (arith, holdable_few xs h)))))
  gathers (b ∷ bs) xs h =
      let ys = held_with xs b in
      let x = uart_step (with xs) b flash eeprom in
      let s₀ = silent 10 (with xs) flash eeprom in
      by_cond
      (λ (g : Gathered). last_taken s₀ (taken_of (bytes_in (b ∷ bs) (state (with xs) flash eeprom)))
      ≡ record { taken = suc g.taken; last = judged g.held })
      (incomplete ys) (gathered ys bs) (gathered_none ys)
      (λ t.
      ap (λ (y : UartStep). last_taken s₀ (taken_of (y ∷ bytes_in bs (behind_byte y))))
      (one_byte xs b h ∙ cond_true (incomplete ys) (silent 10 (with ys) flash eeprom) (complete ys) t)
      ∙ ap (λ (p : PieceStep). record { taken = suc p.taken; last = p.last }) (gathers bs ys (with_holdable xs b h t)))
      (λ f.
      ap (last_taken s₀) (stops_behind x (bytes_in bs (behind_byte x)) (heard xs b h) (not_ten xs b h f))
      ∙ ap (λ (y : UartStep). last_taken y (y ∷ [])) (one_byte xs b h))

  -- ---- a piece

  whole : with (held_of n) ≡ tidied n
  unfolding tidied
  whole = refl

  -- THE LAW: the bytes that are gathered are taken, and what is then held is judged
  pub piece_gathered : (bs : List ℕ)
      → piece_step n bs flash eeprom
      ≡ record {
        taken = (gathered (held_of n) bs).taken;
        last = cond (incomplete (gathered (held_of n) bs).held)
            (silent 10 (holding (tidied n) (gathered (held_of n) bs).held) flash eeprom)
            (complete (gathered (held_of n) bs).held);
      }
  unfolding piece_step
  piece_gathered bs =
      ap (λ (x : UartStep). last_taken x (taken_of (bytes_in bs (state n flash eeprom))))
      (open_waits n flash eeprom o ∙ ap (λ (m : Node). silent 10 m flash eeprom) (sym whole))
      ∙ ap (λ (ss : List UartStep). last_taken (silent 10 (with (held_of n)) flash eeprom) (taken_of ss))
      (sym (from_tidied bs (state n flash eeprom)) ∙ ap (λ (m : Node). bytes_in bs (state m flash eeprom)) (sym whole))
      ∙ gathers bs (held_of n) (held_holdable n.receiver)
