-- The program's room does for every text: of the refusals only 30 to 35 can come, never 26, for no recipe has more than 71,172 bytes; and
-- a recipe that was made stands in the room whole. Assumes nothing.
use mathlib.Core.Path.{◌≡◌, refl, sym, ap, ◌∙◌}
use mathlib.Core.Bool.{Bool, true, false, ◌||◌, cond}
use mathlib.Core.List.{List, [], ◌∷◌}
use Prim.Native.Nat.{ℕ, zero, suc, ◌≤◌}
use native.Mathlib.Omega.{arith}
use lib.Dec.{ltb}
use lib.ListN.{length}
use borrow.Author.Tests.{le-ltb, ltb-false}
use contract.Lifetimes.{Lfts}
use borrow.Fn.World.{ArgsD, ResD}
use denote.Triple.Clauses.{AtExit}
use borrow.Fn.Kinds.{ended_of}
use Rattle.hex_rules.specs.Refusing.{Converted, Made, Refused, in_numbers}
use Rattle.hex_rules.specs.Record.{record_of, bad_digit, bad_length, bad_sum, other_type}
use Rattle.hex_rules.specs.Cells.{Cell, some_outside, some_twice}
use Rattle.hex_rules.specs.Checks.{Given, Read, gives, refused, cells_of, rules_at, fault_at, with_record, lines_read}
use Rattle.hex_rules.specs.Converting.{text_read, bytes_of, answered, converted}
use Rattle.hex_rules.proofs.Reading.{read_on, read_fault, read_end}
use Rattle.hex_rules.proofs.MadeLegal.{printed_size, items_size}
use Rattle.hex_read.specs.contracts.convert.{signature}
use Rattle.hex_read.proofs.convert.Kinds as kinds
use Rattle.hex_read.proofs.convert.Reads as reads

-- the numbers of a text's refusals
abbrev Numbered : ℕ → Type 0
Numbered n = (30 ≤ n) × (n ≤ 35)

-- the number by the six conditions
abbrev from_six : Bool → Bool → Bool → Bool → Bool → Bool → ℕ
from_six a b c d e f = cond a 30 (cond b 31 (cond c 32 (cond d 33 (cond e 34 (cond f 35 0)))))

six_numbered : (a b c d e f : Bool) → (from_six a b c d e f ≡ 0 → ⊥) → Numbered (from_six a b c d e f)
six_numbered true b c d e f h = (omega arith, omega arith)
six_numbered false true c d e f h = (omega arith, omega arith)
six_numbered false false true d e f h = (omega arith, omega arith)
six_numbered false false false true e f h = (omega arith, omega arith)
six_numbered false false false false true f h = (omega arith, omega arith)
six_numbered false false false false false true h = (omega arith, omega arith)
six_numbered false false false false false false h = absurd (h refl)

-- a line's fault
fault_numbered : (g : Given) (line : List ℕ) → (fault_at g line ≡ 0 → ⊥) → Numbered (fault_at g line)
unfolding fault_at rules_at
fault_numbered g line =
    six_numbered (bad_digit line || bad_length line) (bad_sum (record_of line)) (other_type (record_of line))
    (some_outside (cells_of g (record_of line))) (some_twice g.cells (cells_of g (record_of line))) g.ended

-- the number and the line of a refusal
same_number : {m l n k : ℕ} → refused m l ≡ refused n k → m ≡ n
same_number e = cc

-- cells are no refusal
not_refused : {cells : List Cell} {n k : ℕ} → gives cells ≡ refused n k → ⊥
not_refused e = let z : ◌≡◌ {A = ℕ} 0 1 = cc in omega arith

-- behind the last line
end_numbered : (b : Bool) (cells : List Cell) (line n k : ℕ) → cond b (gives cells) (refused 35 line) ≡ refused n k → Numbered n
end_numbered true cells line n k e = absurd (not_refused e)
end_numbered false cells line n k e = let i = same_number e in (omega (arith, i), omega (arith, i))

-- lines from any one on
lines_numbered : (lines : List (List ℕ)) (line : ℕ) (g : Given) (n k : ℕ) → lines_read lines line g ≡ refused n k → Numbered n
lines_numbered [] line g n k e = end_numbered g.ended g.cells line n k (sym (read_end line g) ∙ e)
lines_numbered (l ∷ ls) line g n k e = go (lines_numbered ls) (fault_at g l) refl
  where
    go : ((line : ℕ) (g : Given) (n k : ℕ) → lines_read ls line g ≡ refused n k → Numbered n)
        → (m : ℕ) → fault_at g l ≡ m → Numbered n
    go ih zero z = ih (suc line) (with_record g (record_of l)) n k (sym (read_on g l ls line z) ∙ e)
    go ih (suc m) z =
        let some : fault_at g l ≡ 0 → ⊥ = λ w. omega (arith, w, z) in
        let i = same_number (sym (read_fault g l ls line some) ∙ e) in
        let w = fault_numbered g l some in
        (omega (arith, w.0, i), omega (arith, w.1, i))

-- no recipe has more bytes than the room
few_bytes : (m g : ℕ) (cells : List Cell) → length (bytes_of m g cells) ≤ 71172
few_bytes m g cells = omega (arith, printed_size m g cells, items_size cells)

-- what is answered of a text and its numbers by the definition
module _ (text : List ℕ) (m g room : ℕ) {answer : Converted} (said : answer ≡ converted text m g room) where
  -- a refusal in a room that does is 30 to 35
  pub answer_refused : 71172 ≤ room → (number line : ℕ) → answer ≡ Refused number line → (30 ≤ number) × (number ≤ 35)
  unfolding converted text_read
  answer_refused enough number line q = go (text_read text) refl (sym said ∙ q)
    where
      same : {n k : ℕ} → Refused n k ≡ Refused number line → n ≡ number
      same e = cc

      go : (r : Read) → text_read text ≡ r → answered r m g room ≡ Refused number line → Numbered number
      go (refused n k) t e =
          let w = lines_numbered _ _ _ n k t in
          let i = same e in
          (omega (arith, w.0, i), omega (arith, w.1, i))
      go (gives cells) t e =
          let f = le-ltb room (length (bytes_of m g cells)) (omega (arith, few_bytes m g cells, enough)) in
          let d = sym (ap (λ (b : Bool). cond b (Refused 26 0) (Made (length (bytes_of m g cells)))) f) ∙ e in
          absurd (let z : ◌≡◌ {A = ℕ} 0 1 = cc in omega arith)

  -- a recipe that was made is no longer than the room
  pub answer_fits : (size : ℕ) → answer ≡ Made size → size ≤ room
  unfolding converted
  answer_fits size q = go (text_read text) (sym said ∙ q)
    where
      none : {n k : ℕ} → Refused n k ≡ Made size → ⊥
      none e = let z : ◌≡◌ {A = ℕ} 0 1 = cc in omega arith

      same : {n : ℕ} → Made n ≡ Made size → n ≡ size
      same e = cc

      long : (b : Bool) (n : ℕ) → ltb room n ≡ b → cond b (Refused 26 0) (Made n) ≡ Made size → size ≤ room
      long true n t e = absurd (none e)
      long false n t e = omega (arith, ltb-false room n t, same e)

      go : (r : Read) → answered r m g room ≡ Made size → size ≤ room
      go (refused n k) e = absurd (none e)
      go (gives cells) e = long (ltb room (length (bytes_of m g cells))) (length (bytes_of m g cells)) refl e

-- the same of any call of `convert`, over its real contract: what is handed to it, and what it answers
pub hex_has_room : (κs : Lfts 2) (a : ArgsD signature κs) (r : ResD signature κs) (s : AtExit (ended_of 2 kinds.ps kinds.r) κs)
    → reads.Post κs a r s → 71172 ≤ length a.1.1.0.now
    → (number line : ℕ) → in_numbers r ≡ Refused number line → (30 ≤ number) × (number ≤ 35)
hex_has_room κs a r s p = answer_refused a.0.now _ _ (length a.1.1.0.now) p.0
