-- What a line that was read says of the text: where there is none the first line is bad in form, and else its bytes are
-- those of the first line, and the other lines start behind its ending.
-- Assumes nothing.
use mathlib.Core.Path.{◌≡◌, ◌∙◌, refl, sym, ap}
use mathlib.Core.Bool.{true, false, ◌||◌}
use mathlib.Core.List.{List, [], ◌∷◌, ◌++◌}
use mathlib.Core.Logic.{◌⊎◌, inl, inr}
use Prim.Native.Nat.{ℕ, zero, suc, ◌+◌, ◌-◌, ◌*◌, ◌≤◌, ◌<◌}
use native.Mathlib.Omega.{arith}
use lib.ListN.{length, drop, replicate, length-append, length-drop}
use lib.Seq.{drop_at, drop-drop}
use Rattle.std.specs.Prelude.{Some, None}
use Rattle.base.specs.Parts.{Bytes}
use Rattle.base.proofs.Bytes.{byte_of}
use Rattle.base.proofs.Choice.{cond_true, cond_false, true_or_false}
use Rattle.hex_rules.specs.Text.{lines_of}
use Rattle.hex_rules.specs.Record.{pairs_of, record_of, count_of, bad_digit, bad_length}
use Rattle.hex_rules.proofs.Once.{pairs_bytes}
use Rattle.hex_line.specs.declared.Line.{Line}
use Rattle.hex_line.specs.Internal.Lines.{ending, good_line, line_by, line_at}
use Rattle.hex_line.proofs.Choosing.{none_some, some_same}
use Rattle.hex_line.proofs.Splitting.{Split, split_first, ending_length}
use Rattle.hex_line.proofs.Formed.{Formed, formed}

-- the first of lines, by its form
pub line_is_bad : (at : ℕ) (t l : List ℕ) (ls : List (List ℕ)) → (bad_digit l || bad_length l) ≡ true → line_by at t (l ∷ ls) ≡ None
line_is_bad at t l ls e = cond_true (bad_digit l || bad_length l) None (Some (good_line at t l)) e

pub line_is_good : (at : ℕ) (t l : List ℕ) (ls : List (List ℕ)) → (bad_digit l || bad_length l) ≡ false
    → line_by at t (l ∷ ls) ≡ Some (good_line at t l)
line_is_good at t l ls e = cond_false (bad_digit l || bad_length l) None (Some (good_line at t l)) e

-- a first line that is bad in form
pub record BadLine (t : List ℕ) : Type 0 where
  pub line : List ℕ
  pub others : List (List ℕ)
  pub lines : lines_of t ≡ line ∷ others
  pub bad : (bad_digit line || bad_length line) ≡ true

bad_by : (at b : ℕ) (bs l : List ℕ) (ls : List (List ℕ)) → lines_of (b ∷ bs) ≡ l ∷ ls
    → (((bad_digit l || bad_length l) ≡ true) ⊎ ((bad_digit l || bad_length l) ≡ false))
    → line_by at (b ∷ bs) (lines_of (b ∷ bs)) ≡ None → BadLine (b ∷ bs)
bad_by at b bs l ls e (inl f) h = record { line = l; others = ls; lines = e; bad = f }
bad_by at b bs l ls e (inr f) h =
    absurd (none_some (sym h ∙ ap (line_by at (b ∷ bs)) e ∙ line_is_good at (b ∷ bs) l ls f))

bad_first : (at : ℕ) (t : List ℕ) → 0 < length t → line_by at t (lines_of t) ≡ None → BadLine t
bad_first at [] k h = absurd (omega arith)
bad_first at (b ∷ bs) k h =
    let s = split_first b bs in
    bad_by at b bs s.line (lines_of s.rest) s.lines (true_or_false (bad_digit s.line || bad_length s.line)) h

pub line_bad : (text : List ℕ) (at : ℕ) → at < length text → line_at text at ≡ None → BadLine (drop at text)
unfolding line_at
line_bad text at k h = bad_first at (drop at text) (simp length-drop (omega arith)) h

-- two digits a byte
pub pairs_length : (n : ℕ) (cs : List ℕ) → length cs ≡ 2 * n → length (pairs_of cs) ≡ n
pairs_length zero [] e = refl
pairs_length zero (c ∷ cs) e = absurd (omega arith)
pairs_length (suc n) [] e = absurd (omega arith)
pairs_length (suc n) (c ∷ []) e = absurd (omega arith)
pairs_length (suc n) (c ∷ (d ∷ cs)) e = ap suc (pairs_length n cs (omega arith))

-- a good line: the first of the text, its bytes, and the place behind its ending
pub record GoodLine (text : List ℕ) (at : ℕ) (found : Line) : Type 0 where
  pub line : List ℕ
  pub lines : lines_of (drop at text) ≡ line ∷ lines_of (drop found.next text)
  pub formed : (bad_digit line || bad_length line) ≡ false
  pub bytes : found.bytes ≡ record_of line ++ replicate (260 - length (record_of line)) 0
  pub size : length (record_of line) ≡ 5 + count_of (record_of line)
  pub few : count_of (record_of line) ≤ 255
  pub each : Bytes (record_of line)
  pub further : at < found.next
  pub within : found.next ≤ length text

record_length : (l : List ℕ) → Formed l → length (record_of l) ≡ 5 + count_of (record_of l)
record_length l f = pairs_length (5 + count_of (record_of l)) (drop 1 l) (omega (arith, f.size, length-drop 1 l))

good_by : (text : List ℕ) (at : ℕ) → at < length text → (s : Split (drop at text)) → (bad_digit s.line || bad_length s.line) ≡ false
    → (found : Line) → found ≡ good_line at (drop at text) s.line → GoodLine text at found
good_by text at k s g found is =
    let f = formed s.line g in
    let each = pairs_bytes (drop 1 s.line) f.digits in
    let behind : drop (length s.line) (drop at text) ≡ s.end ++ s.rest =
    ap (drop (length s.line)) s.whole ∙ drop_at s.line (s.end ++ s.rest) (length s.line) refl in
    let next : found.next ≡ at + (length s.line + length s.end) =
    ap (λ (x : Line). x.next) is
    ∙ ap (λ (n : ℕ). at + (length s.line + n)) (ap ending behind ∙ ending_length s.end s.rest s.ends) in
    let rest : drop found.next text ≡ s.rest =
    ap (λ (n : ℕ). drop n text) next
    ∙ sym (drop-drop (length s.line + length s.end) at text)
    ∙ sym (drop-drop (length s.end) (length s.line) (drop at text))
    ∙ ap (drop (length s.end)) behind
    ∙ drop_at s.end s.rest (length s.end) refl in
    let whole : length (drop at text) ≡ length s.line + (length s.end + length s.rest) =
    ap length s.whole
    ∙ length-append s.line (s.end ++ s.rest)
    ∙ ap (λ (n : ℕ). length s.line + n) (length-append s.end s.rest) in record {
      line = s.line;
      lines = s.lines ∙ ap (λ (t : List ℕ). s.line ∷ lines_of t) (sym rest);
      formed = g;
      bytes = ap (λ (x : Line). x.bytes) is;
      size = record_length s.line f;
      few = let b = byte_of (record_of s.line) 0 each in omega arith;
      each = each;
      further = omega (arith, next, f.size);
      within = omega (arith, next, whole, length-drop at text);
    }

pub split_some : (t : List ℕ) → 0 < length t → Split t
split_some [] k = absurd (omega arith)
split_some (b ∷ bs) k = split_first b bs

-- where a line was found, it is the first, in form
good_at : (text : List ℕ) (at : ℕ) → at < length text → (s : Split (drop at text))
    → (((bad_digit s.line || bad_length s.line) ≡ true) ⊎ ((bad_digit s.line || bad_length s.line) ≡ false))
    → (found : Line) → line_at text at ≡ Some found → GoodLine text at found
unfolding line_at
good_at text at k s (inr g) found h =
    good_by text at k s g found
    (some_same (sym h ∙ ap (line_by at (drop at text)) s.lines ∙ line_is_good at (drop at text) s.line (lines_of s.rest) g))
good_at text at k s (inl g) found h =
    absurd (none_some (sym (line_is_bad at (drop at text) s.line (lines_of s.rest) g)
    ∙ sym (ap (line_by at (drop at text)) s.lines)
    ∙ h))

pub line_good : (text : List ℕ) (at : ℕ) → at < length text → (found : Line) → line_at text at ≡ Some found → GoodLine text at found
line_good text at k found h =
    let s = split_some (drop at text) (simp length-drop (omega arith)) in
    good_at text at k s (true_or_false (bad_digit s.line || bad_length s.line)) found h
