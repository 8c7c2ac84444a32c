-- Each read puts what it took behind what stands there.
use Rattle.std.proofs.Common.{◌≡◌, ℕ, ◌+◌, ◌-◌, ◌≤◌, List, ◌++◌, arith, rules, length, take, drop, sym, ap, ◌∙◌, subst, le_refl, drop_at, length-take-le}
use Rattle.std.proofs.lemmas.Slice.{take-put_mid_below}
use Rattle.std.specs.Io.KnownBytes.{Consumes}
use Rattle.std.proofs.KnownBytes.{Consumes-nil, Consumes-trans}
use borrow.Rule.Slice.PartMut.{put_mid, post_of}
use lib.Seq.{take-add, take-append-le}
use Rattle.run_stream.proofs.read_full.Goals as goal

-- what stands in front up to a + n, where a part that begins at a was written: what stood before a, and the part's first n
take-put_mid_part : (a k n : ℕ) (xs ys : List ℕ) → a ≤ length xs → n ≤ length ys
    → take a xs ++ take n ys ≡ take (a + n) (put_mid a k xs ys)
take-put_mid_part a k n xs ys within fits =
    let after = post_of a k xs in
    let behind = drop_at (take a xs) (ys ++ after) a (length-take-le a xs within) in
    sym
    (take-add a n (put_mid a k xs ys)
    ∙ ap (λ l. l ++ take n (drop a (put_mid a k xs ys))) (take-put_mid_below a k xs ys a (le_refl a) within)
    ∙ ap (λ l. take a xs ++ take n l) behind
    ∙ ap (λ l. take a xs ++ l) (take-append-le n ys after fits))

pub loop-done-init : goal.loop-done-init
loop-done-init g c = (omega arith, Consumes-nil _)

pub loop-done-preserved : goal.loop-done-preserved
loop-done-preserved g c =
    let at = c.loop-done.done in
    let room = length c.loop-done.bytes - at in
    let within = c.loop-done.invariant.0 in
    let joined = take-put_mid_part at room c.in_ok-more.more c.loop-done.bytes c.read.new.buf within c.in_ok-more.ensures.bound.0 in
    (search rules, subst (Consumes _ _) joined (Consumes-trans _ _ _ _ _ c.loop-done.invariant.1 c.in_ok-more.ensures.bytes.0))

pub returns-then-more-eq0-clause-read : goal.returns-then-more-eq0-clause-read
returns-then-more-eq0-clause-read g c =
    let at = c.loop-done.done in
    let room = length c.loop-done.bytes - at in
    let within = c.loop-done.invariant.0 in
    let now = put_mid at room c.loop-done.bytes c.read.new.buf in
    let joined = take-put_mid_part at room c.in_ok-more.more c.loop-done.bytes c.read.new.buf within c.in_ok-more.ensures.bound.0 in
    let same : at + c.in_ok-more.more ≡ at = omega arith in
    subst (Consumes _ _) (joined ∙ ap (λ n. take n now) same)
    (Consumes-trans _ _ _ _ _ c.loop-done.invariant.1 c.in_ok-more.ensures.bytes.0)
