-- The answers to a delivery on UART, byte by byte: of the fifteen bytes of each frame the first fourteen are told 10 with no reply, and the
-- last what the frame was told on CAN, its reply wrapped. By recursion on the frames.
-- Assumes nothing.
use mathlib.Core.Path.{◌≡◌, ◌∙◌, ap}
use mathlib.Core.List.{List, [], ◌∷◌, ◌++◌}
use Prim.Native.Nat.{ℕ, zero, suc, ◌+◌, ◌*◌, ◌<◌}
use native.Mathlib.Omega.{arith}
use lib.ListN.{length, get_or, replicate, get_or-replicate, get_or-append}
use lib.Seq.{get_or-append-add}
use Rattle.update_rules.specs.Serial.{incomplete_told, wrapped_told, serially}

-- one frame's fifteen, and the others behind them
first_fourteen : (j : ℕ) (rest : List (List ℕ)) → j < 14 → get_or (replicate 14 incomplete_told ++ rest) j [] ≡ incomplete_told
first_fourteen j rest h =
    get_or-append (replicate 14 incomplete_told) rest [] j h ∙ get_or-replicate 14 j incomplete_told [] h

behind_fifteen : (t : List ℕ) (rest : List (List ℕ)) (i k : ℕ) → i ≡ 15 + k
    → get_or (replicate 14 incomplete_told ++ (t ∷ rest)) i [] ≡ get_or rest k []
behind_fifteen t rest i k e =
    let far : i ≡ 14 + suc k = omega arith in
    ap (λ (x : ℕ). get_or (replicate 14 incomplete_told ++ (t ∷ rest)) x []) far
    ∙ get_or-append-add (replicate 14 incomplete_told) (t ∷ rest) (suc k) []

-- byte j of frame i, but for its last
pub byte_incomplete : (ts : List (List ℕ)) (i j : ℕ) → i < length ts → j < 14 → get_or (serially ts) (15 * i + j) [] ≡ incomplete_told
byte_incomplete [] i j h k = absurd (omega arith)
byte_incomplete (t ∷ ts) zero j h k =
    let e : 15 * zero + j ≡ j = omega arith in
    ap (λ (x : ℕ). get_or (serially (t ∷ ts)) x []) e ∙ first_fourteen j (wrapped_told t ∷ serially ts) k
byte_incomplete (t ∷ ts) (suc i) j h k =
    behind_fifteen (wrapped_told t) (serially ts) (15 * suc i + j) (15 * i + j) (omega arith) ∙ byte_incomplete ts i j (omega arith) k

-- the last byte of frame i
pub byte_completes : (ts : List (List ℕ)) (i : ℕ) → i < length ts → get_or (serially ts) (15 * i + 14) [] ≡ wrapped_told (get_or ts i [])
byte_completes [] i h = absurd (omega arith)
byte_completes (t ∷ ts) zero h = get_or-append-add (replicate 14 incomplete_told) (wrapped_told t ∷ serially ts) zero []
byte_completes (t ∷ ts) (suc i) h =
    behind_fifteen (wrapped_told t) (serially ts) (15 * suc i + 14) (15 * i + 14) (omega arith) ∙ byte_completes ts i (omega arith)
