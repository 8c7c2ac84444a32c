-- A digest may be taken modulo 4,294,967,291 first.
-- Assumes nothing.
use mathlib.Core.Path.{◌≡◌, ◌∙◌, sym, ap}
use Prim.Native.Nat.{ℕ, ◌+◌, ◌*◌, ◌/◌, ◌%◌}
use native.Mathlib.Nat.{mul-add-mod_self_right}
use native.Mathlib.Omega.{arith}
use Rattle.run_digest.specs.Internal.Digest.{one_more}

-- a digest may be taken modulo 4,294,967,291 before it is multiplied
pub low_first : (d b : ℕ) → (d % 4294967291 * 31 + b + 1) % 4294967291 ≡ one_more d b
unfolding one_more
low_first d b =
    let e : d * 31 + b + 1 ≡ d / 4294967291 * 31 * 4294967291 + (d % 4294967291 * 31 + b + 1) = omega arith in
    sym (ap (λ (x : ℕ). x % 4294967291) e ∙ mul-add-mod_self_right (d / 4294967291 * 31) 4294967291 (d % 4294967291 * 31 + b + 1))
