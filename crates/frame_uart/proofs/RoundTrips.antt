-- One call after another, each whatever its function's real contract allows (`Calls`): wrapping and unwrapping take all that is right and
-- lose nothing, each way round, and no two inputs share an outcome. The same of the definitions is in `Wrapped` of `frame_rules`.
-- Assumes nothing.
use mathlib.Core.Path.{◌≡◌, ◌∙◌, sym, ap}
use mathlib.Core.Bool.{true}
use mathlib.Core.List.{List}
use Prim.Native.Nat.{ℕ}
use lib.ListN.{length}
use Rattle.frame_rules.specs.Wrapping.{inner_of, wrapped_of, rightly_wrapped}
use Rattle.frame_rules.proofs.Wrapped.{wrapped_length, wrapped_inner, wrapped_right, wrapped_injective}
use Rattle.frame_rules.proofs.Wrapped.{right_says, right_inner_length, right_wrapped, inner_injective}
use Rattle.frame_uart.specs.Calls.{Wrap, Unwrap}
use Rattle.frame_uart.proofs.Calls.{wrap_gave, unwrap_gave, wrap_gives, unwrap_gives}

-- every twelve bytes, wrapped and unwrapped: both calls give 0, and the second the same frame
pub wrap_unwrap : {n k : ℕ} {f held w room f' : List ℕ} → length f ≡ 12 → length held ≡ 15 → length room ≡ 12
    → Wrap f held n w → Unwrap w room k f' → (n ≡ 0) × (k ≡ 0) × (f' ≡ f)
wrap_unwrap {n} {k} {f} l h h' c t =
    let g = wrap_gives c h l in
    let q = g.1 in
    let u = unwrap_gives t h' (ap length q ∙ wrapped_length f l) (ap rightly_wrapped q ∙ wrapped_right f l) in
    (g.0, u.0, u.1 ∙ ap inner_of q ∙ wrapped_inner f l)

-- every fifteen bytes that are rightly wrapped, unwrapped and wrapped: both calls give 0, and the second the same bytes
pub unwrap_wrap : {n k : ℕ} {w held f room w' : List ℕ} → rightly_wrapped w ≡ true → length held ≡ 12 → length room ≡ 15
    → Unwrap w held n f → Wrap f room k w' → (n ≡ 0) × (k ≡ 0) × (w' ≡ w)
unwrap_wrap {n} {k} {w} right h h' c t =
    let g = unwrap_gives c h (right_says w right).0 right in
    let v = wrap_gives t h' (ap length g.1 ∙ right_inner_length w right) in
    (g.0, v.0, v.1 ∙ ap wrapped_of g.1 ∙ right_wrapped w right)

-- two frames never share a wrapping
pub wrap_injective : {f g held held' w : List ℕ} → Wrap f held 0 w → Wrap g held' 0 w → f ≡ g
wrap_injective {f} {g} c t = wrapped_injective f g (sym (wrap_gave c).2 ∙ (wrap_gave t).2)

-- no two runs of bytes are unwrapped to one frame
pub unwrap_injective : {v w held held' f : List ℕ} → Unwrap v held 0 f → Unwrap w held' 0 f → v ≡ w
unwrap_injective {v} {w} c t =
    inner_injective v w (unwrap_gave c).2 (unwrap_gave t).2 (sym (unwrap_gave c).3 ∙ (unwrap_gave t).3)
