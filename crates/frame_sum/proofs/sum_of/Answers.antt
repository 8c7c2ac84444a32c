-- `frame_sum::sum_of` meets its contract: a sum that is taken modulo 256 at each byte is the whole sum modulo 256.
-- Assumes nothing.
use Rattle.std.proofs.Common.{◌≡◌, ℕ, ◌+◌, ◌%◌, ◌<◌, List, [], ◌∷◌, arith, rules}
use Rattle.std.specs.List.{fold}
use Rattle.base.specs.Parts.{sum_of}
use Rattle.frame_sum.proofs.sum_of.Goals as goal

folded : (n : ℕ) (xs : List ℕ) → n < 256 → fold (λ s b. (s + b) % 256) n xs ≡ (n + sum_of xs) % 256
folded n [] h = omega arith
folded n (x ∷ xs) h = omega (arith, folded ((n + x) % 256) xs (omega arith))

pub returns : goal.returns
returns c =
    let e : c.fold.result ≡ fold (λ s b. (s + b) % 256) 0 c.args.bytes.now = search rules in
    omega (arith, e, folded 0 c.args.bytes.now (omega arith))
