-- What a value that may be none says of the test that chose it.
-- Assumes nothing.
use mathlib.Core.Path.{◌≡◌, refl}
use mathlib.Core.Bool.{Bool, true, false, ◌&&◌, cond}
use Prim.Native.Nat.{ℕ, ◌+◌, ◌*◌, ◌≤◌, ◌<◌}
use native.Mathlib.Omega.{arith}
use borrow.Author.Tests.{ltb-true}
use Rattle.std.specs.Prelude.{Option, Some, None}
use Rattle.base.proofs.Choice.{both_true}
use Rattle.hex_rules.specs.Record.{digit_of, is_digit}
use Rattle.hex_line.specs.Internal.Reading.{digit, byte_of}

pub chosen : {A : Type 0} (b : Bool) (v w : A) → cond b (Some v) None ≡ Some w → (b ≡ true) × (v ≡ w)
chosen true v w e = (refl, cc)
chosen false v w e = absurd (let z : ◌≡◌ {A = ℕ} 0 1 = cc in omega arith)

pub not_chosen : {A : Type 0} (b : Bool) (v : A) → cond b (Some v) None ≡ None → b ≡ false
not_chosen true v e = absurd (let z : ◌≡◌ {A = ℕ} 0 1 = cc in omega arith)
not_chosen false v e = refl

-- none is no value
pub none_some : {A : Type 0} {v : A} → None ≡ Some v → ⊥
none_some e = let z : ◌≡◌ {A = ℕ} 0 1 = cc in omega arith

pub some_same : {A : Type 0} {v w : A} → Some v ≡ Some w → v ≡ w
some_same e = cc

-- a digit that was found is below 16
pub digit_found : (c d : ℕ) → digit c ≡ Some d → (is_digit c ≡ true) × (digit_of c ≡ d) × (d < 16)
unfolding digit
digit_found c d e =
    let k = chosen (is_digit c) (digit_of c) d e in
    (k.0, k.1, omega (arith, k.1, ltb-true (digit_of c) 16 k.0))

pub digit_missing : (c : ℕ) → digit c ≡ None → is_digit c ≡ false
unfolding digit
digit_missing c e = not_chosen (is_digit c) (digit_of c) e

-- the byte of two characters
pub high_missing : (x y : ℕ) → digit x ≡ None → None ≡ byte_of x y
unfolding byte_of
high_missing x y e = let f = digit_missing x e in rw f

pub low_missing : (x y : ℕ) → digit y ≡ None → None ≡ byte_of x y
unfolding byte_of
low_missing x y e = let f = digit_missing y e in go (is_digit x) f
  where
    go : (b : Bool) → is_digit y ≡ false → ◌≡◌ {A = Option ℕ} None (cond (b && is_digit y) (Some (16 * digit_of x + digit_of y)) None)
    go true f = rw f
    go false f = refl

pub both_found : (x y d e : ℕ) → digit x ≡ Some d → digit y ≡ Some e → Some (16 * d + e) ≡ byte_of x y
unfolding byte_of
both_found x y d e p q =
    go (digit_found x d p) (digit_found y e q)
  where
    go : (is_digit x ≡ true) × (digit_of x ≡ d) × (d < 16) → (is_digit y ≡ true) × (digit_of y ≡ e) × (e < 16)
        → Some (16 * d + e) ≡ cond (is_digit x && is_digit y) (Some (16 * digit_of x + digit_of y)) None
    go (a, b, c) (f, g, h) = rw (a, f, b, g)

-- and what it says
pub byte_found : (x y b : ℕ) → byte_of x y ≡ Some b
    → (is_digit x ≡ true) × (is_digit y ≡ true) × (b ≡ 16 * digit_of x + digit_of y) × (b ≤ 255)
unfolding byte_of
byte_found x y b e =
    let k = chosen (is_digit x && is_digit y) (16 * digit_of x + digit_of y) b e in
    let two = both_true (is_digit x) (is_digit y) k.0 in
    (two.0, two.1, omega (arith, k.1), omega (arith, k.1, ltb-true (digit_of x) 16 two.0, ltb-true (digit_of y) 16 two.1))

pub byte_missing : (x y : ℕ) → byte_of x y ≡ None → (is_digit x && is_digit y) ≡ false
unfolding byte_of
byte_missing x y e = not_chosen (is_digit x && is_digit y) _ e

pub byte_of_digits : (y z : ℕ) → is_digit y ≡ true → is_digit z ≡ true
    → (byte_of y z ≡ Some (16 * digit_of y + digit_of z)) × (16 * digit_of y + digit_of z ≤ 255)
unfolding byte_of
byte_of_digits y z e f = (simp (e, f), omega (arith, ltb-true (digit_of y) 16 e, ltb-true (digit_of z) 16 f))
