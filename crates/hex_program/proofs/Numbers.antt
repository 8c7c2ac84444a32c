-- Laws of the numbers that arguments write: what a character stands for, by the tests that are made of it, and digits read one by one.
-- Assumes nothing.
use mathlib.Core.Path.{◌≡◌, refl, sym, ap, subst, ◌∙◌}
use mathlib.Core.Bool.{Bool, true, false, ◌&&◌, ◌||◌, cond, false≢true}
use lib.Pointwise.{pointwise}
use mathlib.Core.List.{List, [], ◌∷◌}
use Prim.Native.Nat.{ℕ, zero, suc, ◌+◌, ◌*◌, ◌≤◌, ◌<◌}
use native.Mathlib.Omega.{arith}
use native.Mathlib.Numerals.{add-one}
use native.Mathlib.Nat.{mul-le-mul_right}
use lib.Dec.{eqb, ltb}
use lib.ListN.{length, get_or, take, drop, drop_of_length-le}
use lib.Seq.{drop-cons}
use mathlib.Core.Logic.{⊎_elim}
use borrow.Author.Tests.{lt-ltb, le-ltb, eq-eqb, ne_eqb, eqb-true, eqb-false}
use Rattle.base.proofs.Choice.{by_cond, cond_true, both_true, true_or_false}
use Rattle.hex_rules.specs.Record.{digit_of}
use Rattle.hex_program.specs.Internal.Numbers.{digits_read, value_of, number_of}
use Rattle.std.specs.Prelude.{Option, Some, None}
use Rattle.std.specs.Char.{digit_value}

-- the digit that std finds is the definition's: one test that is computed over the 256 characters
abbrev agrees : ℕ → Bool
agrees c = eqb (digit_of c) (cond (ltb (digit_value c) 16) (digit_value c) 16)

abbrev agree_below : ℕ → Bool
agree_below zero = true
agree_below (suc n) = agrees n && agree_below n

all_agree : agree_below 256 ≡ true
unfolding digit_of
all_agree = refl

agree_at : (n c : ℕ) → agree_below n ≡ true → c < n → agrees c ≡ true
agree_at zero c t h = absurd (omega arith)
agree_at (suc n) c t h =
    let two = both_true (agrees n) (agree_below n) t in
    ⊎_elim (λ (e : eqb c n ≡ true). ap agrees (eqb-true c n e) ∙ two.0)
    (λ (f : eqb c n ≡ false). let other = eqb-false c n f in agree_at n c two.1 (omega arith))
    (true_or_false (eqb c n))

pub digit_found : (c d base : ℕ) → c < 256 → base ≤ 16 → digit_value c ≡ d → d < base → d ≡ digit_of c
digit_found c d base h b e l =
    sym (eqb-true (digit_of c) _ (agree_at 256 c all_agree h) ∙ cond_true (ltb (digit_value c) 16) _ _ (lt-ltb (digit_value c) 16 (omega arith)) ∙ e)

pub digit_missing : (c base : ℕ) → c < 256 → base ≤ 16 → base ≤ digit_value c → base ≤ digit_of c
digit_missing c base h b l =
    let e = eqb-true (digit_of c) _ (agree_at 256 c all_agree h) in
    subst (λ (d : ℕ). base ≤ d) (sym e)
    (by_cond (λ (d : ℕ). base ≤ d) (ltb (digit_value c) 16) (digit_value c) 16 (λ _. l) (λ _. b))

-- a value above 255 stays so with a digit more
more : (base value d : ℕ) → 1 ≤ base → 255 < value → 255 < base * value + d
more zero value d b h = absurd (omega arith)
more (suc base) value d b h = omega arith

-- and whatever digits follow
large_stays : (base value : ℕ) (cs : List ℕ) → 1 ≤ base → 255 < value → 255 < digits_read base value cs
unfolding digits_read
large_stays base value [] b h = h
large_stays base value (c ∷ cs) b h =
    by_cond (λ (n : ℕ). 255 < n) (ltb (digit_of c) base) (digits_read base (base * value + digit_of c) cs) 256
    (λ _. large_stays base (base * value + digit_of c) cs b (more base value (digit_of c) b h)) (λ _. omega arith)

-- one digit, of the base or not
with_digit : (base value c : ℕ) (cs : List ℕ) → digit_of c < base
    → digits_read base value (c ∷ cs) ≡ digits_read base (base * value + digit_of c) cs
unfolding digits_read
with_digit base value c cs h = simp (lt-ltb (digit_of c) base h)

without_digit : (base value c : ℕ) (cs : List ℕ) → base ≤ digit_of c → digits_read base value (c ∷ cs) ≡ 256
unfolding digits_read
without_digit base value c cs h = simp (le-ltb (digit_of c) base h)

-- no digits write no number
pub no_digits : (base : ℕ) (word : List ℕ) → length word ≡ 0 → None ≡ value_of base word
unfolding value_of
no_digits base word e = sym (simp (eq-eqb (length word) 0 e))

-- what is above 255 is no number, and what is not is one
large_wrong : (base : ℕ) (word : List ℕ) → 255 < digits_read base 0 word → None ≡ value_of base word
unfolding value_of
large_wrong base word h = sym (go (eqb (length word) 0))
  where
    go : (b : Bool) → cond (b || ltb 255 (digits_read base 0 word)) None (Some (digits_read base 0 word)) ≡ None
    go true = refl
    go false = simp (lt-ltb 255 (digits_read base 0 word) h)

small_byte : (base : ℕ) (word : List ℕ) (n : ℕ) → (length word ≡ 0 → ⊥) → n ≤ 255 → digits_read base 0 word ≡ n → Some n ≡ value_of base word
unfolding value_of
small_byte base word n some h e = sym (simp (ne_eqb (length word) 0 some, e) (simp (le-ltb 255 n h)))

-- the product of a base and a value so far
pub small_product : (base value : ℕ) → base ≤ 16 → value ≤ 255 → base * value ≤ 4080
small_product base value h k = omega (arith, mul-le-mul_right value h)

-- a word whose digits before i give a value, with those from i on behind it
module _ (base value : ℕ) (word : List ℕ) (i : ℕ) (so : digits_read base 0 word ≡ digits_read base value (drop i word)) where
  -- the character there, and what it stands for
  module _ (there : i < length word) (d : ℕ) (stands : d ≡ digit_of (get_or word i 0)) where
    next : drop i word ≡ get_or word i 0 ∷ drop (i + 1) word
    next = rw (add-one i) (drop-cons word i 0 there)

    -- it is a digit of the base: it is read
    pub one_more_lem : d < base → digits_read base 0 word ≡ digits_read base (base * value + d) (drop (i + 1) word)
    one_more_lem h =
        so
        ∙ ap (digits_read base value) next
        ∙ with_digit base value (get_or word i 0) (drop (i + 1) word) (omega (arith, stands))
        ∙ ap (λ (n : ℕ). digits_read base (base * value + n) (drop (i + 1) word)) (sym stands)

    -- and brings the value above 255
    pub too_large : 1 ≤ base → d < base → 255 < base * value + d → None ≡ value_of base word
    too_large b h l =
        large_wrong base word
        (subst (λ (m : ℕ). 255 < m) (sym (one_more_lem h)) (large_stays base (base * value + d) (drop (i + 1) word) b l))

    -- it is none
    pub wrong_digit : base ≤ d → None ≡ value_of base word
    wrong_digit h =
        let e =
        so
        ∙ ap (digits_read base value) next
        ∙ without_digit base value (get_or word i 0) (drop (i + 1) word) (omega (arith, stands)) in
        large_wrong base word (omega (arith, e))

  -- nothing is left of it
  pub all_read : (length word ≡ 0 → ⊥) → value ≤ 255 → length word ≤ i → Some value ≡ value_of base word
  unfolding digits_read
  all_read some small end = small_byte base word value some small (so ∙ ap (digits_read base value) (drop_of_length-le word end))

-- a word that starts with 0x, and one that doesn't
abbrev starts : List ℕ → Bool
starts word = pointwise eqb (take 2 word) (0x30 ∷ 0x78 ∷ [])

chosen : (a b : Bool) (x y : Option ℕ) → (a && (b && true)) ≡ true → x ≡ cond (a && b) x y
chosen true true x y e = refl
chosen true false x y e = absurd (false≢true e)
chosen false b x y e = absurd (false≢true e)

not_chosen : (a b : Bool) (x y : Option ℕ) → (a && (b && true)) ≡ false → y ≡ cond (a && b) x y
not_chosen true true x y e = absurd (false≢true (sym e))
not_chosen true false x y e = refl
not_chosen false b x y e = refl

one_only : (a : Bool) (x y : Option ℕ) → y ≡ cond (a && false) x y
one_only true x y = refl
one_only false x y = refl

pub hexadecimal : (word : List ℕ) → starts word ≡ true → value_of 16 (drop 2 word) ≡ number_of word
unfolding number_of
hexadecimal [] e = absurd (false≢true e)
hexadecimal (x ∷ []) e = absurd (false≢true (both_true (eqb x 0x30) false e).1)
hexadecimal (x ∷ (y ∷ word)) e = chosen (eqb x 0x30) (eqb y 0x78) (value_of 16 word) (value_of 10 (x ∷ (y ∷ word))) e

pub decimal : (word : List ℕ) → starts word ≡ false → value_of 10 word ≡ number_of word
unfolding number_of
decimal [] e = refl
decimal (x ∷ []) e = one_only (eqb x 0x30) (value_of 16 []) (value_of 10 (x ∷ []))
decimal (x ∷ (y ∷ word)) e = not_chosen (eqb x 0x30) (eqb y 0x78) (value_of 16 word) (value_of 10 (x ∷ (y ∷ word))) e
