-- A turn more is behind those before it, and the last piece behind all.
use Rattle.std.proofs.Common.{arith, refl, ◌≡◌, ℕ, ◌+◌, ◌<◌, ◌≤◌, List, Option, Result, sym, ◌∙◌, subst, add-one, inl, inr, length, take, length-take-le, Bor, MutBor}
use denote.Param.Always.{mut_next}
use Rattle.std.specs.Fn.{Mut}
use Rattle.std.specs.Io.KnownBytes.{Consumes, IsAtEnd}
use Rattle.run_stream.specs.Internal.Pieces.{Piece, Turn, Turns}
use Rattle.run_stream.proofs.each_piece.Goals as goal
use Rattle.run_stream.proofs.each_piece.Goals.{else-loop-test, then-loop-test+in_ok-n+then-n-fewest}

-- one turn more
one_more : {F S E : Type 0} (g : Mut F (MutBor S × (Bor (List ℕ) × Unit {0})) (Result (Unit {0}) E × (MutBor S × Unit {0})))
    (known : S → Option (List ℕ)) (room n : ℕ) (f : F) (s : S) (h : F) (t : S) (f' : F) (s' : S)
    → Turns g known room n f s h t → Turn g known room h t f' s' → Turns g known room (n + 1) f s f' s'
one_more g known room n f s h t f' s' before turn =
    subst (λ k. Turns g known room k f s f' s') (sym (add-one n)) (h, t, before, turn)

-- what one reading promises is a piece
module _ {S : Type 0} (known : S → Option (List ℕ)) (room n : ℕ) (s s' : S) (bytes : List ℕ) (fills : length bytes ≡ room)
    (within : n ≤ length bytes) where
  one_piece : Consumes (known s) (known s') (take n bytes) → (n < length bytes → IsAtEnd (known s')) → Piece known room s (take n bytes) s'
  one_piece read end =
      let long = length-take-le n bytes within in
      record { read = read; fits = omega (arith, long, fills, within); ends = λ h. end (omega (arith, long, fills, h)) }

pub loop-init : goal.loop-init
loop-init g c = (λ z. z, (refl, refl))

pub loop-preserved : goal.loop-preserved
loop-preserved g c =
    let fills = c.read_full.auto.bytes ∙ c.loop.auto.piece in
    let within = c.in_ok-n.ensures.within.0 in
    let long = length-take-le c.in_ok-n.n c.read_full.new.bytes within in (
      λ z. mut_next g.F.FnMut _ _ _ _ _ c.handle.ensures refl (c.loop.invariant.0 z),
      one_more g.F.FnMut g.R.Read.remaining _ _ _ _ _ _ _ _ c.loop.invariant.1
          (record {
            between = c.read_full.new.input;
            shown = _;
            piece = one_piece g.R.Read.remaining _ _ _ _ _ fills within c.in_ok-n.ensures.read c.in_ok-n.ensures.end;
            enough = omega (arith, long, c.if-n-fewest.false, c.fewest-fewest.ensures);
            handled = record { shown = _; shows = refl; left = _; called = c.in_ok-handle.ensures; leaves = refl };
          }),
    )

pub returns : goal.returns
returns g c =
    elim c.loop-test.branch [
      | else-loop-test w ↦ record {
        turns = c.loop.counter;
        last = c.loop.handle;
        t = c.loop.input;
        handled = c.loop.invariant.1;
        end = inr (omega (arith, w.loop-test.false, c.loop.auto.counter-end), sym w.input-is);
      }
      | then-loop-test+in_ok-n+then-n-fewest w ↦
          let fills = w.read_full.auto.bytes ∙ c.loop.auto.piece in
          let within = w.in_ok-n.ensures.within.0 in
          let long = length-take-le w.in_ok-n.n w.read_full.new.bytes within in
          let read = one_piece g.R.Read.remaining _ _ _ _ _ fills within w.in_ok-n.ensures.read w.in_ok-n.ensures.end in
          record {
            turns = c.loop.counter;
            last = c.loop.handle;
            t = c.loop.input;
            handled = c.loop.invariant.1;
            end = inl (_, subst (Piece _ _ _ _) (sym w.input-is) read, omega (arith, long, w.if-n-fewest.true, c.fewest-fewest.ensures));
          }
    ]
