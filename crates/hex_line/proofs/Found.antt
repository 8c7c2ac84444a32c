-- The line that the reading answers with: none where a test fails, and else the characters that were read, with the place behind them.
-- Assumes nothing.
use mathlib.Core.Path.{◌≡◌, ◌∙◌, refl, sym, ap, ap₂}
use mathlib.Core.Bool.{Bool, true, false, ◌||◌, false≢true}
use mathlib.Core.List.{List, [], ◌∷◌, ◌++◌}
use mathlib.Core.Logic.{◌⊎◌, inl, inr}
use Prim.Native.Nat.{ℕ, zero, suc, ◌+◌, ◌-◌, ◌*◌, ◌≤◌, ◌<◌}
use native.Mathlib.Omega.{arith}
use lib.ListN.{length, get_or, take, drop, replicate, length-drop, drop_of_length-le}
use Rattle.std.proofs.Math.Seq.{take_all}
use Rattle.std.specs.Prelude.{Some, None}
use Rattle.base.proofs.Choice.{true_or_false}
use Rattle.hex_rules.specs.Text.{lines_of}
use Rattle.hex_rules.specs.Record.{all_digits, pairs_of, record_of, count_of, bad_digit, bad_length, bad_count}
use Rattle.hex_line.specs.Internal.Lines.{ending as endingOf, filled, line_by, line_at}
use Rattle.hex_line.specs.Internal.Reading.{pairs_read, count_at, ending_at}
use Rattle.hex_line.proofs.Choosing.{chosen, not_chosen, none_some, some_same}
use Rattle.hex_line.proofs.Splitting.{Split, split_first}
use Rattle.hex_line.proofs.Formed.{Passed, passes, formed, in_form, size_of, digits_at, read_at, first_line}
use Rattle.hex_line.proofs.Lines.{line_is_bad, line_is_good}

bad_first : (at : ℕ) (t : List ℕ) (s : Split t)
    → (((bad_digit s.line || bad_length s.line) ≡ true) ⊎ ((bad_digit s.line || bad_length s.line) ≡ false))
    → ((n e : ℕ) → Passed t n e → ⊥) → line_by at t (lines_of t) ≡ None
bad_first at t s (inl g) h = ap (line_by at t) s.lines ∙ line_is_bad at t s.line (lines_of s.rest) g
bad_first at t s (inr g) h =
    absurd (h (count_of (record_of s.line)) (length s.end) (rw s.whole (passes s.line s.end s.rest (formed s.line g) s.ends)))

bad_text : (at : ℕ) (t : List ℕ) → ((n e : ℕ) → Passed t n e → ⊥) → line_by at t (lines_of t) ≡ None
unfolding lines_of
bad_text at [] h = refl
bad_text at (b ∷ bs) h =
    let s = split_first b bs in bad_first at (b ∷ bs) s (true_or_false (bad_digit s.line || bad_length s.line)) h

-- bytes filled up with 0 have the same parts: behind the end there is 0
zeros : (n i : ℕ) → get_or {A = ℕ} (replicate n 0) i 0 ≡ 0
zeros zero i = refl
zeros (suc n) zero = refl
zeros (suc n) (suc i) = zeros n i

same_part : (bytes : List ℕ) (n i : ℕ) → get_or (bytes ++ replicate n 0) i 0 ≡ get_or bytes i 0
same_part [] n i = zeros n i
same_part (x ∷ bytes) n zero = refl
same_part (x ∷ bytes) n (suc i) = same_part bytes n i

count_filled : (r : List ℕ) → bad_count (filled r) ≡ bad_count r
count_filled r = simp (same_part r (260 - length r) 3, same_part r (260 - length r) 0)

-- what pairs that were read say of the digits, and none
pairs_found : (d bytes : List ℕ) → pairs_read d ≡ Some bytes → (all_digits d ≡ true) × (filled (pairs_of d) ≡ bytes)
unfolding pairs_read
pairs_found d bytes e = chosen (all_digits d) (filled (pairs_of d)) bytes e

pairs_missing : (d : List ℕ) → pairs_read d ≡ None → all_digits d ≡ false
unfolding pairs_read
pairs_missing d e = not_chosen (all_digits d) (filled (pairs_of d)) e

-- the place is behind the text
pub no_rest : (text : List ℕ) (at : ℕ) → length text ≤ at → None ≡ line_at text at
unfolding line_at lines_of
no_rest text at h = rw (drop_of_length-le text {i = at} h)

-- what is lent from a place on, to the end, and what the digits are
pub lent_rest : (s : List ℕ) (k : ℕ) → take (length s - k) (drop k s) ≡ drop k s
lent_rest s k = take_all (length s - k) (drop k s) (simp length-drop (omega arith))

lent_digits : (s : List ℕ) (n : ℕ) → take (11 + 2 * n - 1) (drop 1 s) ≡ digits_at s n
lent_digits s n = let ten : 11 + 2 * n - 1 ≡ 10 + 2 * n = omega arith in ap (λ (m : ℕ). take m (drop 1 s)) ten

-- what the code finds in the rest, one after the other: the count, the digits, the ending, and whether the type wants another count
module _ (text : List ℕ) (at : ℕ) (rest : List ℕ) (is : rest ≡ take (length text - at) (drop at text)) where
  here : rest ≡ drop at text
  here = is ∙ lent_rest text at

  none_passed : ((n e : ℕ) → Passed rest n e → ⊥) → None ≡ line_at text at
  unfolding line_at
  none_passed h = rw (← here) (sym (bad_text at rest h))

  pub no_count : None ≡ count_at rest → None ≡ line_at text at
  no_count e = none_passed (λ n k p. none_some (e ∙ p.counted))

  module _ (n : ℕ) (counted : Some n ≡ count_at rest) where
    same : (m e : ℕ) → Passed rest m e → m ≡ n
    same m e p = some_same (sym p.counted ∙ sym counted)

    pub short : length rest < size_of n → None ≡ line_at text at
    short h = none_passed (λ m e p. omega (arith, p.long, same m e p))

    pub no_ending : None ≡ ending_at (take (length rest - size_of n) (drop (size_of n) rest)) → None ≡ line_at text at
    no_ending h =
        none_passed (λ m e p.
        none_some (h
        ∙ ap ending_at (lent_rest rest (size_of n))
        ∙ ap (λ (k : ℕ). ending_at (drop (size_of k) rest)) (sym (same m e p))
        ∙ p.ends))

    module _ (digits : List ℕ) (lent : digits ≡ take (size_of n - 1) (drop 1 rest)) where
      those : digits ≡ digits_at rest n
      those = lent ∙ lent_digits rest n

      pub no_digits : None ≡ pairs_read digits → None ≡ line_at text at
      no_digits h =
          none_passed (λ m e p.
          false≢true (sym (pairs_missing digits (sym h))
          ∙ ap all_digits those
          ∙ ap (λ (k : ℕ). all_digits (digits_at rest k)) (sym (same m e p))
          ∙ p.digits))

      module _ (bytes : List ℕ) (read : Some bytes ≡ pairs_read digits) (bad : Bool) (tested : bad ≡ bad_count bytes) where
        pairs : filled (pairs_of (digits_at rest n)) ≡ bytes
        pairs = rw (← those) (pairs_found digits bytes (sym read)).1

        wanted : bad ≡ bad_count (pairs_of (digits_at rest n))
        wanted = tested ∙ ap bad_count (sym pairs) ∙ count_filled (pairs_of (digits_at rest n))

        pub other_count : bad ≡ true → None ≡ line_at text at
        other_count h =
            none_passed (λ m e p.
            false≢true (sym p.count ∙ ap (λ (k : ℕ). bad_count (pairs_of (digits_at rest k))) (same m e p) ∙ sym wanted ∙ h))

        module _ (e : ℕ) (long : size_of n ≤ length rest)
            (ends : Some e ≡ ending_at (take (length rest - size_of n) (drop (size_of n) rest))) (h : bad ≡ false) where
          passed : Passed rest n e
          passed =
              record {
                counted = sym counted;
                long = long;
                ends = sym (ends ∙ ap ending_at (lent_rest rest (size_of n)));
                digits = ap all_digits (sym those) ∙ (pairs_found digits bytes (sym read)).0;
                count = sym wanted ∙ h;
              }

          pub next_fits : at + size_of n + e ≤ length text
          next_fits = let f = first_line rest n e passed in omega (arith, f.within, ap length here, length-drop at text)

          pub found : Some (record { next = at + size_of n + e; bytes = bytes }) ≡ line_at text at
          unfolding line_at
          found =
              let f = first_line rest n e passed in
              let next : at + size_of n + e ≡ at + (length (read_at rest n) + endingOf (drop (length (read_at rest n)) rest)) =
              omega (arith, f.size, f.ending) in
              rw (← here)
              (ap₂ (λ (m : ℕ) (x : List ℕ). Some (record { next = m; bytes = x })) next (sym pairs ∙ ap filled (sym f.bytes))
              ∙ sym (line_is_good at rest (read_at rest n) (lines_of f.rest) (in_form (read_at rest n) f.formed))
              ∙ sym (ap (line_by at rest) f.lines))
