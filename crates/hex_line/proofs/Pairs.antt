-- Pairs of digits read one after the other: before each turn the bytes read so far, with those of the digits that are left, are the bytes
-- of all; what is not written yet is 0; and all are digits where those left are.
-- Assumes nothing.
use mathlib.Core.Path.{◌≡◌, ◌∙◌, refl, sym, ap, ap₂}
use mathlib.Core.Bool.{Bool, true, false, ◌&&◌}
use mathlib.Core.List.{List, [], ◌∷◌, ◌++◌, append_assoc, append-nil}
use Prim.Native.Nat.{ℕ, suc, ◌+◌, ◌-◌, ◌*◌, ◌%◌, ◌≤◌, ◌<◌}
use native.Mathlib.Numerals.{add-one}
use native.Mathlib.Omega.{arith}
use lib.ListN.{length, get_or, set, take, drop, replicate, length-replicate, length-set, take-append-drop, drop_of_length-le}
use lib.Seq.{drop-cons, drop-drop, drop-set-lt, take-suc-set, length-take-le}
use Rattle.std.specs.Prelude.{Some, None}
use Rattle.base.proofs.Choice.{cond_true, cond_false}
use Rattle.hex_rules.specs.Record.{digit_of, is_digit, all_digits, pairs_of}
use Rattle.hex_line.specs.Internal.Lines.{filled}
use Rattle.hex_line.specs.Internal.Reading.{byte_of, pairs_read}
use Rattle.hex_line.proofs.Choosing.{byte_found, byte_missing}

-- where the reading of digits stands after i turns
pub record Done (digits bytes : List ℕ) (i : ℕ) : Type 0 where
  pub within : 2 * i ≤ length digits
  pub size : length bytes ≡ 260
  pub read : take i bytes ++ pairs_of (drop (2 * i) digits) ≡ pairs_of digits
  pub rest : drop i bytes ≡ replicate (260 - i) 0
  pub good : all_digits (drop (2 * i) digits) ≡ all_digits digits

pub done_start : (digits : List ℕ) → Done digits (replicate 260 0) 0
done_start digits = record {
  within = omega arith;
  size = length-replicate {A = ℕ} 260 0;
  read = refl;
  rest = refl;
  good = refl;
}

-- the next two characters, and those behind
next_two : (s : List ℕ) (k : ℕ) → k + 1 < length s → drop k s ≡ get_or s k 0 ∷ (get_or s (k + 1) 0 ∷ drop (k + 1 + 1) s)
next_two s k h =
    drop-cons s k 0 (omega arith)
    ∙ ap (λ (t : List ℕ). get_or s k 0 ∷ t) (rw (add-one k, add-one (suc k)) (drop-cons s (suc k) 0 (omega arith)))

-- all of them digits, or one of them not
all_good : (digits : List ℕ) → all_digits digits ≡ true → Some (filled (pairs_of digits)) ≡ pairs_read digits
unfolding pairs_read
all_good digits e = sym (cond_true (all_digits digits) _ _ e)

not_good : (digits : List ℕ) → all_digits digits ≡ false → None ≡ pairs_read digits
unfolding pairs_read
not_good digits e = sym (cond_false (all_digits digits) _ _ e)

-- one zero fewer
less : (n m : ℕ) → n ≡ suc m → drop {A = ℕ} 1 (replicate n 0) ≡ replicate m 0
less n m e = rw e

one_bad : (x y z : Bool) → (x && y) ≡ false → (x && (y && z)) ≡ false
one_bad true y z e = ap (λ (b : Bool). b && z) e
one_bad false y z e = refl

two_good : (x y z : Bool) → x ≡ true → y ≡ true → (x && (y && z)) ≡ z
two_good x y z e f = rw (e, f)

-- the two characters of a turn, and those behind them
abbrev pub high_at : List ℕ → ℕ → ℕ
high_at digits i = get_or digits (2 * i) 0

abbrev pub low_at : List ℕ → ℕ → ℕ
low_at digits i = get_or digits (2 * i + 1) 0

abbrev behind : List ℕ → ℕ → List ℕ
behind digits i = drop (2 * i + 1 + 1) digits

-- a turn: each of the two may be no digit, and where both are their byte is stored
module _ (digits bytes : List ℕ) (i : ℕ) (d : Done digits bytes i) (even : length digits % 2 ≡ 0) (few : length digits ≤ 520)
    (more : 2 * i < length digits) where
  two : drop (2 * i) digits ≡ high_at digits i ∷ (low_at digits i ∷ behind digits i)
  two = next_two digits (2 * i) (omega arith)

  all : all_digits digits ≡ (is_digit (high_at digits i) && (is_digit (low_at digits i) && all_digits (behind digits i)))
  all = sym d.good ∙ ap all_digits two

  pub bad_pair : byte_of (high_at digits i) (low_at digits i) ≡ None → None ≡ pairs_read digits
  bad_pair e =
      not_good digits
      (all ∙ one_bad (is_digit (high_at digits i)) (is_digit (low_at digits i)) (all_digits (behind digits i)) (byte_missing _ _ e))

  pub turn : (b : ℕ) → byte_of (high_at digits i) (low_at digits i) ≡ Some b → Done digits (set bytes i b) (i + 1)
  turn b e =
      let f = byte_found (high_at digits i) (low_at digits i) b e in
      let n : 2 * (i + 1) ≡ 2 * i + 1 + 1 = omega arith in
      let v : b ≡ 16 * digit_of (high_at digits i) + digit_of (low_at digits i) = f.2 in
      let k : i < length bytes = omega (arith, d.size) in record {
        within = omega arith;
        size = length-set bytes i b ∙ d.size;
        read =
            ap₂ (λ (x y : List ℕ). x ++ pairs_of y)
            (ap (λ (m : ℕ). take m (set bytes i b)) (add-one i) ∙ take-suc-set bytes i b k)
            (ap (λ (m : ℕ). drop m digits) n)
            ∙ append_assoc (take i bytes) (b ∷ []) (pairs_of (behind digits i))
            ∙ ap (λ (m : ℕ). take i bytes ++ (m ∷ pairs_of (behind digits i))) v
            ∙ ap (λ (t : List ℕ). take i bytes ++ pairs_of t) (sym two)
            ∙ d.read;
        rest =
            drop-set-lt (i + 1) bytes i b (omega arith)
            ∙ sym (drop-drop 1 i bytes)
            ∙ ap (λ (t : List ℕ). drop 1 t) d.rest
            ∙ less (260 - i) (260 - (i + 1)) (omega arith);
        good =
            ap (λ (m : ℕ). all_digits (drop m digits)) n
            ∙ sym (two_good (is_digit (high_at digits i)) (is_digit (low_at digits i)) (all_digits (behind digits i)) f.0 f.1)
            ∙ sym all;
      }

-- behind the last turn all are read
module _ (digits bytes : List ℕ) (i : ℕ) (d : Done digits bytes i) (few : length digits ≤ 520) (over : length digits ≤ 2 * i) where
  none_left : drop (2 * i) digits ≡ []
  none_left = drop_of_length-le digits {i = 2 * i} over

  first_read : take i bytes ≡ pairs_of digits
  first_read =
      sym (append-nil (take i bytes)) ∙ ap (λ (t : List ℕ). take i bytes ++ pairs_of t) (sym none_left) ∙ d.read

  count_read : length (pairs_of digits) ≡ i
  count_read = ap length (sym first_read) ∙ length-take-le i bytes (omega (arith, d.size, d.within))

  filled_up : bytes ≡ filled (pairs_of digits)
  filled_up =
      sym (take-append-drop i bytes)
      ∙ ap₂ ◌++◌ first_read (d.rest ∙ ap (λ (m : ℕ). replicate (260 - m) 0) (sym count_read))

  pub all_read : Some bytes ≡ pairs_read digits
  all_read = ap Some filled_up ∙ all_good digits (sym d.good ∙ ap all_digits none_left)
