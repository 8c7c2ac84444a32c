-- A cell more is the next of what is to come.
use Rattle.std.proofs.Common.{rules, ◌≡◌, ℕ, suc, ◌+◌, ◌-◌, ◌<◌, List, [], ◌∷◌, ◌++◌, arith, length, take, slice_set, length-set, append_assoc, sym, ap, ◌∙◌}
use Rattle.std.proofs.lemmas.List.{take_more_set}
use Rattle.run_stream.specs.Internal.Filling.{next_cell, filled}
use Rattle.run_stream.proofs.fill.Goals as goal

-- the first of the cells that are left, and those behind it
filled_next : (n i v step more : ℕ) → i < n
    → filled (n - i) i v step more ≡ v ∷ filled (n - (i + 1)) (i + 1) (next_cell v (i + 1) step more) step more
filled_next n i v step more h =
    let left : n - i ≡ suc (n - (i + 1)) = omega arith in
    ap (λ k. filled k i v step more) left

-- one cell stored
one_more : (xs : List ℕ) (i v step more : ℕ) → i < length xs
    → take (i + 1) (slice_set xs i v) ++ filled (length xs - (i + 1)) (i + 1) (next_cell v (i + 1) step more) step more
    ≡ take i xs ++ filled (length xs - i) i v step more
one_more xs i v step more h =
    let behind = filled (length xs - (i + 1)) (i + 1) (next_cell v (i + 1) step more) step more in
    ap (λ t. t ++ behind) (take_more_set xs i v h)
    ∙ append_assoc (take i xs) (v ∷ []) behind
    ∙ ap (λ t. take i xs ++ t) (sym (filled_next (length xs) i v step more h))

pub loop-i-preserved : goal.loop-i-preserved
loop-i-preserved c =
    let at = c.loop-i in
    let h : at.i < length at.cells = search rules in
    let more = one_more at.cells at.i at.value c.args.step c.args.more h in
    simp (length-set at.cells at.i at.value, c.next-value.ensures) (at.invariant.0, more ∙ at.invariant.1)
