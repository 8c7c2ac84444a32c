-- The answer and the output by what reading and putting came to: a refusal of the text, no room, or the recipe.
-- Assumes nothing.
use mathlib.Core.Path.{◌≡◌, ◌∙◌, sym, ap, ap₂}
use mathlib.Core.Bool.{Bool, true, false, ◌&&◌, cond}
use mathlib.Core.List.{List, ◌++◌}
use mathlib.Core.Logic.{◌⊎◌, inl, inr, ⊎_elim}
use Prim.Native.Nat.{ℕ, ◌≤◌, ◌<◌}
use lib.Dec.{eqb, leb, ltb}
use lib.ListN.{length, drop}
use borrow.Author.Tests.{eq-eqb, le-leb, lt-leb, lt-ltb, le-ltb, leb-true, leb-false}
use Rattle.std.specs.Prelude.{Option, Some, None}
use Rattle.std.specs.Option.{ok_or}
use Rattle.base.proofs.Choice.{cond_true, cond_false, true_or_false, true_both}
use Rattle.hex_rules.specs.declared.Fault.TheVariants.{NoRoom}
use Rattle.hex_rules.specs.Refusing.{Converted, Made, Refused, in_numbers}
use Rattle.hex_rules.specs.Cells.{Cell}
use Rattle.hex_rules.specs.Checks.{Read, gives, refused}
use Rattle.hex_rules.specs.Converting.{text_read, bytes_of, answered, converted, output_by, converted_output}
use Rattle.hex_put.specs.Internal.Table.{table_bytes, put_length, put_output}
use Rattle.hex_read.specs.Internal.Reads.{Marked}
use Rattle.hex_read.proofs.Emitting.{bytes_emitted}

module _ (text : List ℕ) (m g : ℕ) (output : List ℕ) where
  -- the answer and the output of a text that is read so
  by_read : (r : Read) → text_read text ≡ r
      → (converted text m g (length output) ≡ answered r m g (length output))
      × (converted_output text m g output ≡ output_by (answered r m g (length output)) r m g output)
  unfolding converted converted_output
  by_read r e =
      (ap (λ (x : Read). answered x m g (length output)) e, ap (λ (x : Read). output_by (answered x m g (length output)) x m g output) e)

  -- a text that is refused
  pub text_refused : (number line : ℕ) → text_read text ≡ refused number line
      → (Refused number line ≡ converted text m g (length output)) × (output ≡ converted_output text m g output)
  text_refused number line e = let b = by_read (refused number line) e in (sym b.0, sym b.1)

  module _ (cells : List Cell) (e : text_read text ≡ gives cells) where
    -- no room
    no_room : length output < length (bytes_of m g cells)
        → (Refused 26 0 ≡ converted text m g (length output)) × (output ≡ converted_output text m g output)
    no_room l =
        let b = by_read (gives cells) e in
        let a : answered (gives cells) m g (length output) ≡ Refused 26 0 =
        cond_true (ltb (length output) (length (bytes_of m g cells))) _ _ (lt-ltb (length output) (length (bytes_of m g cells)) l) in
        (sym (b.0 ∙ a), sym (b.1 ∙ ap (λ (c : Converted). output_by c (gives cells) m g output) a))

    -- the recipe
    made : length (bytes_of m g cells) ≤ length output
        → (Made (length (bytes_of m g cells)) ≡ converted text m g (length output))
        × (bytes_of m g cells ++ drop (length (bytes_of m g cells)) output ≡ converted_output text m g output)
    made l =
        let b = by_read (gives cells) e in
        let a : answered (gives cells) m g (length output) ≡ Made (length (bytes_of m g cells)) =
        cond_false (ltb (length output) (length (bytes_of m g cells))) _ _ (le-ltb (length output) (length (bytes_of m g cells)) l) in
        (sym (b.0 ∙ a), sym (b.1 ∙ ap (λ (c : Converted). output_by c (gives cells) m g output) a))

  -- what is put of a table that marks a text's cells
  module _ (table : List ℕ) (k : Marked text table) (size : Option ℕ) (o : List ℕ)
      (q : size ≡ put_length (table_bytes m g table) (length table) (length output))
      (p : o ≡ put_output (table_bytes m g table) (length table) output) where
    abbrev bytes : List ℕ
    bytes = bytes_of m g k.cells

    same : table_bytes m g table ≡ bytes
    same = bytes_emitted k.cells table k.marks m g

    fits : Bool
    fits = eqb (length table) 66560 && leb (length bytes) (length output)

    put_size : size ≡ cond fits (Some (length bytes)) None
    unfolding fits
    put_size = q ∙ ap (λ (l : List ℕ). put_length l (length table) (length output)) same

    put_out : o ≡ cond fits (bytes ++ drop (length bytes) output) output
    unfolding fits
    put_out = p ∙ ap (λ (l : List ℕ). put_output l (length table) output) same

    fits_if : length bytes ≤ length output → fits ≡ true
    unfolding fits
    fits_if l = true_both _ _ (eq-eqb (length table) 66560 k.marks.size) (le-leb (length bytes) (length output) l)

    fits_not : length output < length bytes → fits ≡ false
    unfolding fits
    fits_not l = ap₂ ◌&&◌ (eq-eqb (length table) 66560 k.marks.size) (lt-leb (length bytes) (length output) l)

    room_or_not : (length bytes ≤ length output) ⊎ (length output < length bytes)
    room_or_not =
        ⊎_elim (λ (t : leb (length bytes) (length output) ≡ true). inl (leb-true (length bytes) (length output) t))
        (λ (f : leb (length bytes) (length output) ≡ false). inr (leb-false (length bytes) (length output) f))
        (true_or_false (leb (length bytes) (length output)))

    -- the answer, and the output after it
    pub put_answer : (in_numbers (ok_or size (record { fault = NoRoom; line = 0 })) ≡ converted text m g (length output))
        × (o ≡ converted_output text m g output)
    put_answer =
        ⊎_elim
        (λ (l : length bytes ≤ length output).
        let r = made k.cells k.read l in
        let x : size ≡ Some (length bytes) = put_size ∙ cond_true fits (Some (length bytes)) None (fits_if l) in
        (ap (λ (s : Option ℕ). in_numbers (ok_or s (record { fault = NoRoom; line = 0 }))) x ∙ r.0, put_out ∙ cond_true fits _ output (fits_if l) ∙ r.1))
        (λ (l : length output < length bytes).
        let r = no_room k.cells k.read l in
        let x : size ≡ None = put_size ∙ cond_false fits (Some (length bytes)) None (fits_not l) in
        (ap (λ (s : Option ℕ). in_numbers (ok_or s (record { fault = NoRoom; line = 0 }))) x ∙ r.0, put_out ∙ cond_false fits _ output (fits_not l) ∙ r.1))
        room_or_not
