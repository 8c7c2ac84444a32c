-- What the contract of each call says, by the parts of a call (specs/Calls.antt).
-- Assumes nothing.
use mathlib.Core.Path.{◌≡◌, ◌∙◌, refl, sym}
use mathlib.Core.Bool.{true}
use mathlib.Core.List.{List}
use Prim.Native.Nat.{ℕ}
use lib.ListN.{length}
use Rattle.frame_rules.specs.Wrapping.{inner_of, wrapped_of, rightly_wrapped}
use Rattle.frame_rules.specs.Numbers.{wrap_number, unwrap_number}
use Rattle.frame_rules.proofs.Done.{wrap_done, done_wrap, unwrap_done, done_unwrap}
use Rattle.frame_uart.specs.Calls.{Wrap, Unwrap, call}

-- what each contract says of such a call, as far as 0 goes
wrap_said : {n : ℕ} {f held w : List ℕ} → Wrap f held n w → (n ≡ wrap_number f (length held)) × (n ≡ 0 → w ≡ wrapped_of f)
wrap_said (call κs a r s p) = (p.0, λ z. rw z at p.1)

unwrap_said : {n : ℕ} {w held f : List ℕ} → Unwrap w held n f → (n ≡ unwrap_number w (length held)) × (n ≡ 0 → f ≡ inner_of w)
unwrap_said (call κs a r s p) = (p.0, λ z. rw z at p.1)

-- what a call that gave 0 was handed, and what it left
pub wrap_gave : {f held w : List ℕ} → Wrap f held 0 w → (length held ≡ 15) × (length f ≡ 12) × (w ≡ wrapped_of f)
wrap_gave {f} {held} c = let h = wrap_done f (length held) (sym (wrap_said c).0) in (h.0, h.1, (wrap_said c).1 refl)

pub unwrap_gave : {w held f : List ℕ} → Unwrap w held 0 f
    → (length held ≡ 12) × (length w ≡ 15) × (rightly_wrapped w ≡ true) × (f ≡ inner_of w)
unwrap_gave {w} {held} c = let h = unwrap_done w (length held) (sym (unwrap_said c).0) in (h.0, h.1, h.2, (unwrap_said c).1 refl)

-- where a call gives 0, and what it then leaves
pub wrap_gives : {n : ℕ} {f held w : List ℕ} → Wrap f held n w → length held ≡ 15 → length f ≡ 12 → (n ≡ 0) × (w ≡ wrapped_of f)
wrap_gives {n} {f} {held} c h l = let z = (wrap_said c).0 ∙ done_wrap f (length held) h l in (z, (wrap_said c).1 z)

pub unwrap_gives : {n : ℕ} {w held f : List ℕ} → Unwrap w held n f → length held ≡ 12 → length w ≡ 15 → rightly_wrapped w ≡ true
    → (n ≡ 0) × (f ≡ inner_of w)
unwrap_gives {n} {w} {held} c h l t = let z = (unwrap_said c).0 ∙ done_unwrap w (length held) h l t in (z, (unwrap_said c).1 z)
