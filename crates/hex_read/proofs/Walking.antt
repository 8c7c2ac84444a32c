-- What the loop over a text's lines keeps: the text is read as the lines from here on behind what is given, which the table marks.
-- Assumes nothing.
use mathlib.Core.Path.{◌≡◌, ◌∙◌, refl, sym, ap, subst}
use mathlib.Core.Bool.{Bool, true, false, cond}
use mathlib.Core.List.{List, [], ◌∷◌}
use Prim.Native.Nat.{ℕ, suc, ◌+◌, ◌-◌, ◌≤◌, ◌<◌}
use native.Mathlib.Omega.{arith}
use lib.Dec.{eqb}
use lib.ListN.{length, get_or, drop, replicate, drop_of_length-le}
use Rattle.std.specs.Prelude.{Some, None}
use Rattle.hex_rules.specs.Text.{lines_of}
use Rattle.hex_rules.specs.Record.{record_of, type_of}
use Rattle.hex_rules.specs.Checks.{Given, nothing, gives, refused, fault_at, with_record, at_the_end, lines_read}
use Rattle.hex_rules.specs.Converting.{text_read}
use Rattle.hex_rules.proofs.Reading.{read_on, read_fault, read_end, fault_30}
use Rattle.hex_line.specs.declared.Line.{Line}
use Rattle.hex_line.specs.Internal.Lines.{line_at}
use Rattle.hex_line.proofs.Lines.{GoodLine, line_bad, line_good}
use Rattle.hex_read.specs.Internal.Marks.{Marks}
use Rattle.hex_read.specs.Internal.Judging.{upper_behind, record_fault, record_table}
use Rattle.hex_read.specs.Internal.Reads.{Marked}
use Rattle.hex_read.proofs.Marking.{marks_none}
use Rattle.hex_read.proofs.Judged.{judged, marks_behind, upper_behind_lem, ended_behind}

pub record Kept (text table : List ℕ) (at number upper : ℕ) (ended : Bool) : Type 0 where
  pub given : Given
  pub rest : text_read text ≡ lines_read (lines_of (drop at text)) number given
  pub half : upper ≡ given.upper
  pub end : ended ≡ given.ended
  pub marks : Marks given.cells table
  pub within : at ≤ length text
  pub few : number ≤ at + 1

pub kept_start : (text table : List ℕ) → table ≡ replicate 66560 255 → Kept text table 0 1 0 false
unfolding text_read
kept_start text table e = record {
  given = nothing;
  rest = refl;
  half = refl;
  end = refl;
  marks = subst (Marks []) (sym e) marks_none;
  within = omega arith;
  few = omega arith;
}

module _ (text table : List ℕ) (at number upper : ℕ) (ended : Bool) (k : Kept text table at number upper ended) where
  -- behind the last line
  last : length text ≤ at → text_read text ≡ at_the_end number k.given
  unfolding lines_of
  last h =
      k.rest
      ∙ ap (λ (t : List ℕ). lines_read (lines_of t) number k.given) (drop_of_length-le text {i = at} h)
      ∙ read_end number k.given

  pub kept_done : length text ≤ at → ended ≡ true → Marked text table
  kept_done h e = record {
    cells = k.given.cells;
    read = last h ∙ ap (λ (b : Bool). cond b (gives k.given.cells) (refused 35 number)) (sym k.end ∙ e);
    marks = k.marks;
  }

  pub kept_open : length text ≤ at → ended ≡ false → text_read text ≡ refused 35 number
  kept_open h e = last h ∙ ap (λ (b : Bool). cond b (gives k.given.cells) (refused 35 number)) (sym k.end ∙ e)

  module _ (h : at < length text) where
    -- a line that is no record in form
    pub kept_bad : line_at text at ≡ None → text_read text ≡ refused 30 number
    kept_bad e =
        let b = line_bad text at h e in
        let n = fault_30 k.given b.line b.bad in
        k.rest
        ∙ ap (λ (ls : List (List ℕ)). lines_read ls number k.given) b.lines
        ∙ read_fault k.given b.line b.others number (λ z. absurd (let q : ◌≡◌ {A = ℕ} 30 0 = sym n ∙ z in omega arith))
        ∙ ap (λ (x : ℕ). refused x number) n

    module _ (line : Line) (e : line_at text at ≡ Some line) where
      abbrev good : GoodLine text at line
      good = line_good text at h line e

      abbrev fill : ℕ
      fill = 260 - length (record_of good.line)

      -- the number is that of the line
      number_right : (n : ℕ) → n ≡ record_fault line.bytes upper ended table → n ≡ fault_at k.given good.line
      number_right n q =
          q
          ∙ ap (λ (b : List ℕ). record_fault b upper ended table) good.bytes
          ∙ judged k.given good.line table good.formed good.size good.few good.each k.marks fill upper ended k.half
          k.end

      here : text_read text ≡ lines_read (good.line ∷ lines_of (drop line.next text)) number k.given
      here = k.rest ∙ ap (λ (ls : List (List ℕ)). lines_read ls number k.given) good.lines

      pub kept_fault : (n : ℕ) → n ≡ record_fault line.bytes upper ended table → (n ≡ 0 → ⊥) → text_read text ≡ refused n number
      kept_fault n q z =
          here
          ∙ read_fault k.given good.line (lines_of (drop line.next text)) number (λ x. z (number_right n q ∙ x))
          ∙ ap (λ (x : ℕ). refused x number) (sym (number_right n q))

      pub kept_next : (n : ℕ) → n ≡ record_fault line.bytes upper ended table → n ≡ 0
          → (t : List ℕ) → t ≡ record_table line.bytes upper table
          → (u : ℕ) → u ≡ upper_behind upper line.bytes
          → (b : Bool) → b ≡ eqb (get_or line.bytes 3 0) 0x01
          → Kept text t line.next (number + 1) u b
      kept_next n q z t p u v b w =
          let ok : fault_at k.given good.line ≡ 0 = sym (number_right n q) ∙ z in
          record {
            given = with_record k.given (record_of good.line);
            rest =
                here
                ∙ read_on k.given good.line (lines_of (drop line.next text)) number ok
                ∙ ap (λ (x : ℕ).
                lines_read (lines_of (drop line.next text)) x (with_record k.given (record_of good.line)))
                (let more : suc number ≡ number + 1 = omega arith in more);
            half =
                v
                ∙ ap (upper_behind upper) good.bytes
                ∙ upper_behind_lem k.given good.line table good.formed good.size good.few good.each k.marks ok fill
                upper k.half;
            end =
                w
                ∙ ap (λ (x : List ℕ). eqb (type_of x) 0x01) good.bytes
                ∙ ended_behind k.given good.line table good.formed good.size good.few good.each k.marks ok fill;
            marks =
                subst (Marks _)
                (sym (p ∙ ap (λ (x : List ℕ). record_table x upper table) good.bytes))
                (marks_behind k.given good.line table good.formed good.size good.few good.each k.marks ok fill upper
                k.half);
            within = good.within;
            few = omega (arith, k.few, good.further);
          }

      -- each line comes nearer to the end
      pub nearer : length text - line.next < length text - at
      nearer = omega (arith, good.further, good.within)
