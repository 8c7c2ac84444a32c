-- What the loop that copies keeps: what stands before the last place is put, and what stands behind it is left.
-- Assumes nothing.
use mathlib.Core.Path.{◌≡◌, ◌∙◌, refl, sym, ap, subst}
use mathlib.Core.List.{List, [], ◌∷◌, ◌++◌, append-nil}
use Prim.Native.Nat.{ℕ, suc, ◌+◌, ◌-◌, ◌≤◌, ◌<◌, zero-le}
use native.Mathlib.Omega.{arith}
use native.Mathlib.Numerals.{add-one}
use lib.ListN.{length, get_or, take, drop, length-append, length-drop, drop_of_length-le}
use lib.Seq.{take_all, drop-cons}
use Rattle.base.specs.Parts.{part, patch}
use Rattle.base.specs.Internal.Putting.{put_at}
use Rattle.base.proofs.Patched.{part_length, put_fits}
use Rattle.recipe_item.proofs.Putting.{Sent, sent_start, sent_more, sent_end, sent_long}
use Rattle.differs_write.specs.Internal.Cutting.{cut_out, Upward}
use Rattle.differs_write.proofs.Cutting.{upward_below}

pub record Copied (r ps o o₁ : List ℕ) (from at i : ℕ) : Type 0 where
  pub sent : Sent o o₁ 0 at (cut_out r 0 ps) (cut_out r from (drop i ps))
  pub upward : Upward from (drop i ps) (length r)
  pub inside : i ≤ length ps
  pub room : length (cut_out r 0 ps) ≤ length o

pub copied_start : (r ps o : List ℕ) → Upward 0 ps (length r) → length (cut_out r 0 ps) ≤ length o → Copied r ps o o 0 0 0
copied_start r ps o u fits = record {
  sent = sent_start o 0 (cut_out r 0 ps) zero-le;
  upward = u;
  inside = zero-le;
  room = fits;
}

module _ {r ps o o₁ : List ℕ} {from at i : ℕ} (k : Copied r ps o o₁ from at i) where
  copied_long : length o₁ ≡ length o
  copied_long = sent_long o 0 _ o₁ at _ k.sent

  -- what is left fits
  fits : at + length (cut_out r from (drop i ps)) ≤ length o
  fits =
      let s = k.sent in
      omega (arith, s.here, ap length s.split ∙ length-append s.done (cut_out r from (drop i ps)), k.room)

  from_inside : from ≤ length r
  from_inside = upward_below from (drop i ps) (length r) k.upward

  -- the next place
  next_place : i < length ps → drop i ps ≡ get_or ps i 0 ∷ drop (suc i) ps
  next_place h = drop-cons ps i 0 h

  next_upward : i < length ps → (from ≤ get_or ps i 0) × Upward (get_or ps i 0 + 68) (drop (suc i) ps) (length r)
  next_upward h = subst (λ (l : List ℕ). Upward from l (length r)) (next_place h) k.upward

  pub place_inside : i < length ps → (from ≤ get_or ps i 0) × (get_or ps i 0 + 68 ≤ length r)
  place_inside h =
      let u = next_upward h in
      (u.0, upward_below (get_or ps i 0 + 68) (drop (suc i) ps) (length r) u.1)

  -- the part before it, and that it fits
  part_fits : (h : i < length ps) → at + (get_or ps i 0 - from) ≤ length o
  unfolding cut_out
  part_fits h =
      let p = get_or ps i 0 in
      let w = place_inside h in
      let rest : cut_out r from (drop i ps) ≡ part r from (p - from) ++ cut_out r (p + 68) (drop (suc i) ps) =
      ap (cut_out r from) (next_place h) in
      omega (
        arith,
        fits,
        ap length rest ∙ length-append (part r from (p - from)) (cut_out r (p + 68) (drop (suc i) ps)),
        part_length r from (p - from) (omega (arith, w.0, w.1)),
      )

  pub copied_next : (h : i < length ps) (o₂ : List ℕ) → o₂ ≡ put_at o₁ at (take (get_or ps i 0 - from) (drop from r))
      → Copied r ps o o₂ (get_or ps i 0 + 68) (at + (get_or ps i 0 - from)) (i + 1)
  unfolding cut_out
  copied_next h o₂ e =
      let p = get_or ps i 0 in
      let w = place_inside h in
      let rest : cut_out r from (drop i ps) ≡ part r from (p - from) ++ cut_out r (p + 68) (drop (suc i) ps) =
      ap (cut_out r from) (next_place h) in
      let long : length (part r from (p - from)) ≡ p - from = part_length r from (p - from) (omega (arith, w.0, w.1)) in
      let room₁ : at + length (part r from (p - from)) ≤ length o = omega (arith, part_fits h, long) in
      rw add-one
      (record {
        sent =
            sent_more o 0 (cut_out r 0 ps) o₁ at (cut_out r from (drop i ps)) k.sent (part r from (p - from))
            (cut_out r (p + 68) (drop (suc i) ps)) o₂ (at + (p - from)) rest
            (e ∙ put_fits o₁ at (part r from (p - from)) (omega (arith, room₁, copied_long)))
            (ap (λ (n : ℕ). at + n) (sym long)) (omega (arith, room₁, long));
        upward = (next_upward h).1;
        inside = h;
        room = k.room;
      })

  -- behind the last place
  pub copied_end : length ps ≤ i → (o₂ : List ℕ) → o₂ ≡ put_at o₁ at (take (length r - from) (drop from r))
      → o₂ ≡ patch o 0 (cut_out r 0 ps)
  unfolding cut_out
  copied_end h o₂ e =
      let all : take (length r - from) (drop from r) ≡ drop from r =
      take_all (length r - from) (drop from r) (simp length-drop (omega arith)) in
      let rest : cut_out r from (drop i ps) ≡ drop from r = ap (cut_out r from) (drop_of_length-le ps h) in
      let room₁ : at + length (drop from r) ≤ length o = omega (arith, fits, ap length rest) in
      let s = sent_more o 0 (cut_out r 0 ps) o₁ at (cut_out r from (drop i ps)) k.sent (drop from r) [] o₂ (at + length (drop from r))
      (rest ∙ sym (append-nil (drop from r)))
      (e ∙ ap (put_at o₁ at) all ∙ put_fits o₁ at (drop from r) (omega (arith, room₁, copied_long))) refl room₁ in
      (sent_end o 0 (cut_out r 0 ps) o₂ (at + length (drop from r)) [] s refl).0
