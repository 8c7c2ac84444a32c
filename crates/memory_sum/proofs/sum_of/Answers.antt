-- `memory_sum::sum_of` meets its contract: before each turn the sum and the cells still to be added come to the whole, and these are the
-- last of the list, so that after the last turn they are the remainder.
-- Assumes nothing.
use mathlib.Core.Path.{◌≡◌, ◌∙◌, ap, sym, refl}
use mathlib.Core.List.{List, [], ◌∷◌, ◌++◌}
use Prim.Native.Nat.{ℕ, ◌≤◌, ◌+◌, ◌-◌, ◌<◌, ◌%◌}
use lib.ListN.{length, drop, length-append}
use lib.Seq.{drop-drop, drop-append_seam}
use Rattle.base.specs.Parts.{sum_of}
use native.Mathlib.Omega.{arith}
use Rattle.memory_sum.proofs.sum_of.Goals as goal

-- a sum is that of the first numbers and that of the others
sum-append : (xs ys : List ℕ) → sum_of (xs ++ ys) ≡ sum_of xs + sum_of ys
sum-append [] ys = omega arith
sum-append (x ∷ xs) ys = omega (arith, sum-append xs ys)

-- what is left of the last numbers behind the first of them are the last numbers
last-left : (s rest eight left : List ℕ) → rest ≡ drop (length s - length rest) s → rest ≡ eight ++ left → length rest ≤ length s
    → left ≡ drop (length s - length left) s
last-left s rest eight left e a l =
    let n : length rest ≡ length eight + length left = ap length a ∙ length-append eight left in
    let k : (length s - length rest) + length eight ≡ length s - length left = omega arith in
    sym (drop-append_seam eight left)
    ∙ ap (λ (xs : List ℕ). drop (length eight) xs) (sym a ∙ e)
    ∙ drop-drop (length eight) (length s - length rest) s
    ∙ ap (λ (i : ℕ). drop i s) k

pub loop-eight-init : goal.loop-eight-init
loop-eight-init c =
    let s = c.args.s.now in
    let eights = c.chunks_exact-eights.ensures in
    let none : 0 ≡ length s - length s = omega arith in
    rw (c.into_iter-eight-iterator.ensures.into_iter_gives, eights.rest)
    (eights.size, omega arith, refl, ap (λ (i : ℕ). drop i s) none, omega arith, omega arith)

pub added_singly-sum-requires : goal.added_singly-sum-requires
added_singly-sum-requires c =
    let cut = c.in-Some.ensures.steps.1 in
    omega (arith, c.loop-eight.invariant.5, ap length cut.0, length-append c.in-Some.eight.now c.next.new.self.rest.now)

pub loop-eight-preserved : goal.loop-eight-preserved
loop-eight-preserved c =
    let s = c.args.s.now in
    let at = c.loop-eight.invariant in
    let eight = c.in-Some.eight.now in
    let left = c.next.new.self.rest.now in
    let steps = c.in-Some.ensures.steps in
    let cut = steps.1 in
    let size : length eight ≡ 8 = cut.1 ∙ at.0 in
    let n : length c.loop-eight.eight-iterator.rest.now ≡ length eight + length left = ap length cut.0 ∙ length-append eight left in
    let added = c.added_singly-sum.ensures in (
      steps.0 ∙ at.0,
      omega arith,
      omega (arith, at.2),
      last-left s _ eight left at.3 cut.0 at.1,
      omega (arith, at.4, added.0, ap sum_of cut.0, sum-append eight left),
      omega (arith, at.5, added.1),
    )

pub added_singly-requires : goal.added_singly-requires
added_singly-requires c =
    let eights = c.chunks_exact-eights.ensures in
    omega (arith, c.loop-eight.invariant.5, ap length c.remainder-remainder.ensures, eights.remainder_len)

pub returns : goal.returns
returns c =
    let s = c.args.s.now in
    let at = c.loop-eight.invariant in
    let rest = c.loop-eight.eight-iterator.rest.now in
    let few : length rest < 8 = rw at.0 at c.in-None.ensures.steps.1.0 in
    let k : length s - length s % 8 ≡ length s - length rest = omega (arith, at.2, few) in
    let left : c.remainder-remainder.result.now ≡ rest =
    c.remainder-remainder.ensures ∙ c.chunks_exact-eights.ensures.remainder ∙ ap (λ (i : ℕ). drop i s) k ∙ sym at.3 in
    let added = c.added_singly.ensures in
    (omega (arith, added.0, at.4, ap sum_of left), omega (arith, added.1, at.5, ap length left))
