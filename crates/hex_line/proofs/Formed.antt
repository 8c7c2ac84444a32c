-- A text's first line is a record in form just where every test of the reading passes: its characters are those that are read.
-- Assumes nothing.
use mathlib.Core.Path.{◌≡◌, ◌∙◌, refl, sym, ap, subst}
use mathlib.Core.Bool.{Bool, true, false, not, ◌&&◌, ◌||◌}
use mathlib.Core.List.{List, [], ◌∷◌, ◌++◌}
use Prim.Native.Nat.{ℕ, zero, suc, ◌+◌, ◌*◌, ◌≤◌}
use native.Mathlib.Omega.{arith}
use borrow.Author.Tests.{eqb-true, ltb-true, ltb-false, eq-eqb, ne_eqb, le-ltb, not-false}
use lib.Dec.{eqb, ltb}
use lib.ListN.{length, get_or, take, drop, length-append, take-append-drop}
use lib.Seq.{take_at, drop_at, length-take-le}
use Rattle.base.specs.Parts.{part}
use Rattle.std.specs.Prelude.{Option, Some, None}
use Rattle.base.proofs.Choice.{by_cond, both_true}
use Rattle.hex_rules.specs.Text.{lf, cr, lines_of}
use Rattle.hex_rules.specs.Record.{colon, digit_of, is_digit, all_digits, pairs_of, record_of, count_of, bad_digit, bad_length, bad_count}
use Rattle.hex_line.specs.Internal.Lines.{ending}
use Rattle.hex_line.specs.Internal.Reading.{byte_of, count_at, ending_at}
use Rattle.hex_line.proofs.Choosing.{none_some, some_same, byte_of_digits, byte_found}
use Rattle.hex_line.proofs.Splitting.{Ending, Plain, lines_plain, ending_length, ending_at_length, ends_of}

-- a line without a bad digit or a bad length
pub record Formed (l : List ℕ) : Type 0 where
  pub digits : all_digits (drop 1 l) ≡ true
  pub starts : get_or l 0 0 ≡ colon
  pub size : length l ≡ 1 + 2 * (5 + count_of (record_of l))
  pub count : bad_count (record_of l) ≡ false

either_false : (x y : Bool) → (x || y) ≡ false → (x ≡ false) × (y ≡ false)
either_false true y e = absurd (let z : ◌≡◌ {A = ℕ} 0 1 = cc in omega arith)
either_false false y e = (refl, e)

pub formed : (l : List ℕ) → (bad_digit l || bad_length l) ≡ false → Formed l
unfolding bad_digit bad_length
formed l e =
    let both = either_false (bad_digit l) (bad_length l) e in
    let parts = either_false (not (eqb (get_or l 0 0) colon) || not (eqb (length l) (1 + 2 * (5 + count_of (record_of l)))))
    (bad_count (record_of l)) both.1 in
    let two = either_false (not (eqb (get_or l 0 0) colon)) (not (eqb (length l) (1 + 2 * (5 + count_of (record_of l))))) parts.0 in record {
      digits = not-false (all_digits (drop 1 l)) both.0;
      starts = eqb-true (get_or l 0 0) colon (not-false (eqb (get_or l 0 0) colon) two.0);
      size =
          eqb-true (length l) (1 + 2 * (5 + count_of (record_of l)))
          (not-false (eqb (length l) (1 + 2 * (5 + count_of (record_of l)))) two.1);
      count = parts.1;
    }

none_bad : (d s z c : Bool) → d ≡ true → s ≡ true → z ≡ true → c ≡ false → (not d || ((not s || not z) || c)) ≡ false
none_bad d s z c e f g h = rw (e, f, g, h)

pub in_form : (l : List ℕ) → Formed l → (bad_digit l || bad_length l) ≡ false
unfolding bad_digit bad_length
in_form l f =
    none_bad (all_digits (drop 1 l)) (eqb (get_or l 0 0) colon) (eqb (length l) (1 + 2 * (5 + count_of (record_of l)))) (bad_count (record_of l))
    f.digits (eq-eqb (get_or l 0 0) colon f.starts) (eq-eqb (length l) (1 + 2 * (5 + count_of (record_of l))) f.size) f.count

-- what the reading tests of a text: the count, the length, the ending, the digits, and the count by the type
abbrev pub size_of : ℕ → ℕ
size_of n = 11 + 2 * n

abbrev pub digits_at : List ℕ → ℕ → List ℕ
digits_at t n = part t 1 (10 + 2 * n)

pub record Passed (t : List ℕ) (n e : ℕ) : Type 0 where
  pub counted : count_at t ≡ Some n
  pub long : size_of n ≤ length t
  pub ends : ending_at (drop (size_of n) t) ≡ Some e
  pub digits : all_digits (digits_at t n) ≡ true
  pub count : bad_count (pairs_of (digits_at t n)) ≡ false

-- a line in form has the count that the reading finds
count_of_line : (l behind : List ℕ) → Formed l → (count_at (l ++ behind) ≡ Some (count_of (record_of l))) × (count_of (record_of l) ≤ 255)
unfolding count_at
count_of_line [] behind f = absurd (omega (arith, f.size))
count_of_line (x ∷ []) behind f = absurd (omega (arith, f.size))
count_of_line (x ∷ (y ∷ [])) behind f = absurd (omega (arith, f.size))
count_of_line (x ∷ (y ∷ (z ∷ l))) behind f =
    let two = both_true (is_digit y) (is_digit z && all_digits l) f.digits in
    let b = byte_of_digits y z two.0 (both_true (is_digit z) (all_digits l) two.1).0 in
    let long : 11 ≤ suc (suc (suc (length (l ++ behind)))) = omega (arith, f.size, length-append l behind) in
    (simp (le-ltb (suc (suc (suc (length (l ++ behind))))) 11 long, eq-eqb x colon f.starts) b.0, b.1)

tail_part : (l behind : List ℕ) (n : ℕ) → length l ≡ suc n → part (l ++ behind) 1 n ≡ drop 1 l
tail_part [] behind n e = absurd (omega arith)
tail_part (x ∷ l) behind n e = take_at l behind n (omega arith)

-- so every test passes
pub passes : (l end rest : List ℕ) → Formed l → Ending end rest → Passed (l ++ (end ++ rest)) (count_of (record_of l)) (length end)
passes l end rest f s =
    let c = count_of_line l (end ++ rest) f in
    let n : length l ≡ size_of (count_of (record_of l)) = omega (arith, f.size) in
    let d : digits_at (l ++ (end ++ rest)) (count_of (record_of l)) ≡ drop 1 l =
    tail_part l (end ++ rest) (10 + 2 * count_of (record_of l)) (omega arith) in
    let behind : drop (size_of (count_of (record_of l))) (l ++ (end ++ rest)) ≡ end ++ rest = drop_at l (end ++ rest) _ n in record {
      counted = c.0;
      long = omega (arith, n, length-append l (end ++ rest));
      ends = ap ending_at behind ∙ ending_at_length end rest s;
      digits = ap all_digits d ∙ f.digits;
      count = ap (λ (t : List ℕ). bad_count (pairs_of t)) d ∙ f.count;
    }

-- the other way: what a count says of the text
pub record Said (t : List ℕ) (n : ℕ) : Type 0 where
  pub long : 11 ≤ length t
  pub starts : get_or t 0 0 ≡ colon
  pub value : n ≡ 16 * digit_of (get_or t 1 0) + digit_of (get_or t 2 0)
  pub few : n ≤ 255

pub count_said : (t : List ℕ) (n : ℕ) → count_at t ≡ Some n → Said t n
unfolding count_at
count_said t n = by_cond (λ (v : Option ℕ). v ≡ Some n → Said t n) (ltb (length t) 11) None _ (λ _ h. absurd (none_some h))
    (λ l.
    by_cond (λ (v : Option ℕ). v ≡ Some n → Said t n) (eqb (get_or t 0 0) colon) (byte_of (get_or t 1 0) (get_or t 2 0)) None
    (λ e h.
    let b = byte_found (get_or t 1 0) (get_or t 2 0) n h in record {
      long = ltb-false (length t) 11 l;
      starts = eqb-true (get_or t 0 0) colon e;
      value = b.2;
      few = b.3;
    })
    (λ _ h. absurd (none_some h)))

-- the characters that are read: the first line, if every test passes
abbrev pub read_at : List ℕ → ℕ → List ℕ
read_at t n = take (size_of n) t

read_form : (x y z : ℕ) (t : List ℕ) (n : ℕ) → all_digits (y ∷ (z ∷ take n t)) ≡ true → bad_count (pairs_of (y ∷ (z ∷ take n t))) ≡ false
    → x ≡ colon → n ≡ 8 + 2 * (16 * digit_of y + digit_of z) → n ≤ length t → Formed (x ∷ (y ∷ (z ∷ take n t)))
read_form x y z t n d c e k l = record {
  digits = d;
  starts = e;
  size = omega (arith, length-take-le n t l);
  count = c;
}

pub read_formed : (t : List ℕ) (n e : ℕ) → Passed t n e → Formed (read_at t n)
read_formed [] n e p = absurd (omega (arith, p.long))
read_formed (x ∷ []) n e p = absurd (omega (arith, p.long))
read_formed (x ∷ (y ∷ [])) n e p = absurd (omega (arith, p.long))
read_formed (x ∷ (y ∷ (z ∷ t))) n e p =
    let c = count_said (x ∷ (y ∷ (z ∷ t))) n p.counted in
    let m = 8 + 2 * n in
    let ten : 10 + 2 * n ≡ suc (suc m) = omega arith in
    let eleven : size_of n ≡ suc (suc (suc m)) = omega arith in
    let two : digits_at (x ∷ (y ∷ (z ∷ t))) n ≡ y ∷ (z ∷ take m t) = ap (λ (k : ℕ). take k (y ∷ (z ∷ t))) ten in
    subst Formed (ap (λ (k : ℕ). take k (x ∷ (y ∷ (z ∷ t)))) (sym eleven))
    (read_form x y z t m (ap all_digits (sym two) ∙ p.digits) (ap (λ (s : List ℕ). bad_count (pairs_of s)) (sym two) ∙ p.count) c.starts
    (omega (arith, c.value)) (omega (arith, p.long)))

-- what is read is neither LF nor CR
not_digit : (c k : ℕ) → digit_of k ≡ 16 → is_digit c ≡ true → eqb c k ≡ false
not_digit c k h t = ne_eqb c k (λ e. omega (arith, ltb-true (digit_of c) 16 t, ap digit_of e ∙ h))

lf_none : digit_of lf ≡ 16
unfolding digit_of
lf_none = refl

cr_none : digit_of cr ≡ 16
unfolding digit_of
cr_none = refl

digits_plain : (cs : List ℕ) → all_digits cs ≡ true → Plain cs
digits_plain [] e = tt
digits_plain (c ∷ cs) e =
    let two = both_true (is_digit c) (all_digits cs) e in
    ((not_digit c lf lf_none two.0, not_digit c cr cr_none two.0), digits_plain cs two.1)

line_lines : (l end rest : List ℕ) → Formed l → Ending end rest → lines_of (l ++ (end ++ rest)) ≡ l ∷ lines_of rest
line_lines [] end rest f s = absurd (omega (arith, f.size))
line_lines (x ∷ l) end rest f s =
    lines_plain x l end rest
    ((ne_eqb x lf (λ e. omega (arith, f.starts)), ne_eqb x cr (λ e. omega (arith, f.starts))), digits_plain l f.digits) s

-- so it is the first line, and what ends it is found
pub record FirstLine (t : List ℕ) (n e : ℕ) : Type 0 where
  pub rest : List ℕ
  pub lines : lines_of t ≡ read_at t n ∷ lines_of rest
  pub formed : Formed (read_at t n)
  pub size : length (read_at t n) ≡ size_of n
  pub ending : ending (drop (length (read_at t n)) t) ≡ e
  pub within : size_of n + e ≤ length t
  pub bytes : record_of (read_at t n) ≡ pairs_of (digits_at t n)

tail_read : (t : List ℕ) (n : ℕ) → drop 1 (take (suc n) t) ≡ part t 1 n
tail_read [] zero = refl
tail_read [] (suc n) = refl
tail_read (x ∷ t) n = refl

pub first_line : (t : List ℕ) (n e : ℕ) → Passed t n e → FirstLine t n e
first_line t n e p =
    let f = read_formed t n e p in
    let long : length (read_at t n) ≡ size_of n = length-take-le (size_of n) t p.long in
    let s = ends_of (drop (size_of n) t) e p.ends in
    let whole : t ≡ read_at t n ++ (s.end ++ s.rest) =
    sym (take-append-drop (size_of n) t) ∙ ap (λ (b : List ℕ). read_at t n ++ b) s.whole in
    let eleven : size_of n ≡ suc (10 + 2 * n) = omega arith in
    let end : length s.end ≡ e = some_same (sym (ending_at_length s.end s.rest s.ends) ∙ ap ending_at (sym s.whole) ∙ p.ends) in record {
      rest = s.rest;
      lines = ap lines_of whole ∙ line_lines (read_at t n) s.end s.rest f s.ends;
      formed = f;
      size = long;
      ending =
          ap (λ (m : ℕ). ending (drop m t)) long ∙ ap ending s.whole ∙ ending_length s.end s.rest s.ends ∙ end;
      within = omega (arith, long, end, ap length whole, length-append (read_at t n) (s.end ++ s.rest), length-append s.end s.rest);
      bytes =
          ap (λ (m : ℕ). pairs_of (drop 1 (take m t))) eleven ∙ ap pairs_of (tail_read t (10 + 2 * n));
    }
