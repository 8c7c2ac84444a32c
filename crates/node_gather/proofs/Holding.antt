-- Bytes held behind those that are held, or taken straight from the piece: each law is one place of `hold` or `gather`.
-- Assumes nothing.
use mathlib.Core.Path.{◌≡◌, ◌∙◌, refl, sym, ap}
use mathlib.Core.Bool.{Bool, true, false, cond}
use mathlib.Core.List.{List, [], ◌++◌, append_assoc, append-nil}
use mathlib.Core.Logic.{◌⊎◌, ⊎_elim, inl, inr}
use Prim.Native.Nat.{ℕ, ◌+◌, ◌-◌, ◌≤◌, ◌<◌, min}
use native.Mathlib.Omega.{arith}
use lib.Dec.{eqb}
use lib.ListN.{length, take, drop, replicate, length-append, length-take, drop_of_length-le}
use lib.Seq.{length-take-le, take_at, drop_at}
use borrow.Author.Tests.{eqb-true, ne_eqb, lt-ltb, le-ltb}
use borrow.Rule.Slice.PartMut.{put_mid}
use Rattle.std.specs.Prelude.{Option, Some, None, Result, Ok, Err}
use Rattle.std.proofs.lemmas.List.{drop-replicate, length-drop, take_all}
use Rattle.std.proofs.lemmas.Bool.{cases_lt}
use Rattle.base.specs.Parts.{part}
use Rattle.base.proofs.Choice.{cond_true, cond_false, cond_same}
use Rattle.frame_rules.specs.Wrapping.{inner_of, rightly_wrapped}
use Rattle.node_rules.specs.declared.Choices.{Choices}
use Rattle.node_rules.specs.declared.Receiver.{Receiver}
use Rattle.node_rules.specs.declared.Refusal.TheVariants.{Incomplete}
use Rattle.node_rules.specs.Record.{padded, receiving, held_in}
use Rattle.node_rules.specs.Uart.{incomplete}
use Rattle.node_rules.proofs.Tidying.{held_holdable, holdable_few, held_held}
use Rattle.node_port.specs.Internal.Port.{frame_in}
use Rattle.node_port.proofs.Judging.{fifteen}
use Rattle.node_gather.specs.declared.Kept.{Kept}
use Rattle.node_gather.specs.declared.Gathering.{Gathering}
use Rattle.node_gather.specs.Internal.Gathered.{gathered, start_of, at_once, came_to, gathering_of, gathered_by}
use Rattle.node_gather.proofs.Filling.{AsMany, gathered_is}

-- at most fourteen bytes are held
few_held : (r : Receiver) → length (held_in r) ≤ 14
few_held r = holdable_few (held_in r) (held_holdable r)

-- ---- held one behind the other

-- more bytes in the room behind those that are held
stored : (xs ys : List ℕ) (k : ℕ) → length ys ≡ k → length xs + k ≤ 15 → put_mid (length xs) k (padded xs) ys ≡ padded (xs ++ ys)
stored xs ys k l m =
    let z : 15 - length xs - k ≡ 15 - length (xs ++ ys) = omega (arith, length-append xs ys, l) in
    simp (
      take_at xs (replicate (15 - length xs) 0) (length xs) refl,
      drop_at xs (replicate (15 - length xs) 0) (length xs) refl,
      drop-replicate {X = ℕ} k (15 - length xs) 0,
      z,
    ) (sym (append_assoc xs ys (replicate (15 - length (xs ++ ys)) 0)))

-- `rest` is the part of the piece that is left, and w the cells that k of its bytes are copied to
module _ (q : Receiver) (bs : List ℕ) (from k : ℕ) (w : List ℕ) (tidy : q ≡ receiving (held_in q)) (start : from ≡ start_of q.count bs)
    (few : from ≤ length bs) (most : k ≡ min (length (take (length bs - from) (drop from bs))) (15 - q.count))
    (copied : w ≡ take k (take (length bs - from) (drop from bs))) where
  abbrev rest : List ℕ
  rest = take (length bs - from) (drop from bs)

  abbrev bytes : List ℕ
  bytes = put_mid q.count ((q.count + k) - q.count) q.held w

  isRest : rest ≡ drop from bs
  isRest = take_all (length bs - from) (drop from bs) (omega (arith, length-drop from bs))

  abbrev xs : List ℕ
  xs = held_in q

  -- the bytes that are then held
  abbrev ys : List ℕ
  ys = xs ++ take k rest

  counts : q.count ≡ length xs
  counts = ap (λ (r : Receiver). r.count) tidy

  here : length (take k rest) ≡ k
  here = length-take-le k rest (omega arith)

  long : length ys ≡ q.count + k
  long = omega (arith, length-append xs (take k rest), counts, here)

  as_many : AsMany xs (drop from bs) k
  as_many =
      let n : length rest ≡ length (drop from bs) = ap length isRest in
      let f = few_held q in
      ⊎_elim
      (λ (l : length rest < 15 - q.count). inr (omega (arith, n, l, most), omega (arith, l, most, counts)))
      (λ (l : 15 - q.count ≤ length rest). inl (omega (arith, l, most, counts, f), omega (arith, n, l, most)))
      (cases_lt (length rest) (15 - q.count))

  gathers : gathered xs bs ≡ record { taken = from + k; held = ys }
  gathers =
      gathered_is xs bs from k (start ∙ ap (λ (j : ℕ). start_of j bs) counts) (few_held q) as_many
      ∙ ap (λ (zs : List ℕ). record { taken = from + k; held = xs ++ take k zs }) (sym isRest)

  holds : bytes ≡ padded ys
  holds =
      let room : (q.count + k) - q.count ≡ k = omega arith in
      ap (λ (x : List ℕ). put_mid q.count ((q.count + k) - q.count) q.held x) copied
      ∙ ap (λ (j : ℕ). put_mid q.count j q.held (take k rest)) room
      ∙ ap (λ (r : Receiver). put_mid r.count k r.held (take k rest)) tidy
      ∙ stored xs (take k rest) k here (omega (arith, counts, few_held q))

  -- fewer than fifteen
  pub ends : (c : Choices) → q.count + k < 15
      → record { taken = from + k; outcome = Err (record { refusal = Incomplete; receiver = record { held = bytes; count = q.count + k } }) }
      ≡ gathering_of c (gathered xs bs)
  ends c l =
      let t : incomplete ys ≡ true = lt-ltb (length ys) 15 (omega (arith, long, l)) in
      ap (λ (h : List ℕ). record {
        taken = from + k;
        outcome = Err (record { refusal = Incomplete; receiver = record { held = h; count = q.count + k } });
      }) holds
      ∙ ap (λ (j : ℕ). record {
        taken = from + k;
        outcome = Err (record { refusal = Incomplete; receiver = record { held = padded ys; count = j } });
      }) (sym long)
      ∙ sym
      (ap (gathering_of c) gathers
      ∙ ap (λ (o : Result (List ℕ) Kept). record { taken = from + k; outcome = o }) (cond_true (incomplete ys) _ _ t))

  -- fifteen
  pub completes : (c : Choices) (o : Result (List ℕ) Kept) → 15 ≤ q.count + k → o ≡ came_to c bytes
      → record { taken = from + k; outcome = o } ≡ gathering_of c (gathered xs bs)
  completes c o l e =
      let f = few_held q in
      let fifteen : length ys ≡ 15 = omega (arith, long, l, most, counts, f) in
      let none : 15 - length ys ≡ 0 = omega (arith, fifteen) in
      let same : bytes ≡ ys = holds ∙ ap (λ (j : ℕ). ys ++ replicate j 0) none ∙ append-nil ys in
      ap (λ (x : Result (List ℕ) Kept). record { taken = from + k; outcome = x }) (e ∙ ap (came_to c) same)
      ∙ sym (ap (gathering_of c) gathers)

-- ---- straight from the piece

-- something is held, or there are fewer bytes than fifteen
pub none_at_once : (count : ℕ) (w : List ℕ) → (count ≡ 0 → ⊥) ⊎ (length w ≡ 15 → ⊥) → None ≡ at_once count w
none_at_once count w (inl m) = sym (cond_false (eqb count 0) _ _ (ne_eqb count 0 m))
none_at_once count w (inr m) =
    sym (ap (λ (o : Option (List ℕ)). cond (eqb count 0) o None) (go (rightly_wrapped w) refl) ∙ cond_same (eqb count 0) None)
  where
    go : (t : Bool) → rightly_wrapped w ≡ t → frame_in w ≡ None
    go true h = absurd (m (fifteen w h))
    go false h = rw h refl

-- a receiver that was tidied is tidy, and holds the same
pub tidy_receiver : (r q : Receiver) → r ≡ receiving (held_in q) → (r ≡ receiving (held_in r)) × (held_in r ≡ held_in q)
tidy_receiver r q e =
    let same : held_in r ≡ held_in q = ap held_in e ∙ held_held (held_in q) (held_holdable q) in
    (e ∙ ap receiving (sym same), same)

-- a right frame
there : (count : ℕ) (w frame : List ℕ) → at_once count w ≡ Some frame
    → (count ≡ 0) × (length w ≡ 15) × (rightly_wrapped w ≡ true) × (frame ≡ inner_of w)
there count w frame e = go (eqb count 0) refl (rightly_wrapped w) refl e
  where
    go : (s : Bool) → eqb count 0 ≡ s → (t : Bool) → rightly_wrapped w ≡ t → cond s (cond t (Some (inner_of w)) None) None ≡ Some frame
        → (count ≡ 0) × (length w ≡ 15) × (rightly_wrapped w ≡ true) × (frame ≡ inner_of w)
    go true z true u h =
        let q : inner_of w ≡ frame = cc in
        (eqb-true count 0 z, fifteen w u, u, sym q)
    go true z false u h = cc
    go false z t u h = cc

module _ (q r : Receiver) (bs : List ℕ) (from : ℕ) (tidy : r ≡ receiving (held_in q)) (start : from ≡ start_of r.count bs) (c : Choices) where
  pub told_at_once : (frame : List ℕ) → at_once r.count (part bs from 15) ≡ Some frame
      → record { taken = from + 15; outcome = Ok frame } ≡ gathered_by c q bs
  told_at_once frame e =
      let w = part bs from 15 in
      let t = there r.count w frame e in
      let counts : r.count ≡ length (held_in q) = ap (λ (x : Receiver). x.count) tidy in
      let n = length-take 15 (drop from bs) in
      let none : held_in q ≡ [] = drop_of_length-le (held_in q) {i = 0} (omega (arith, t.0, counts)) in
      let g : gathered (held_in q) bs ≡ record { taken = from + 15; held = w } =
      gathered_is (held_in q) bs from 15 (start ∙ ap (λ (j : ℕ). start_of j bs) counts) (omega (arith, t.0, counts))
      (inl (omega (arith, t.0, counts), omega (arith, n, t.1)))
      ∙ ap (λ (ys : List ℕ). record { taken = from + 15; held = ys ++ w }) none in
      let gives : Ok frame ≡ came_to c w =
      ap (λ (f : List ℕ). Ok f) t.3
      ∙ sym
      (cond_false (incomplete w) _ _ (le-ltb (length w) 15 (omega (arith, t.1))) ∙ cond_true (rightly_wrapped w) (Ok (inner_of w)) _ t.2) in
      ap (λ (o : Result (List ℕ) Kept). record { taken = from + 15; outcome = o }) gives ∙ sym (ap (gathering_of c) g)

  pub told_by_one : (g : Gathering) → g ≡ gathering_of c (gathered (held_in r) bs) → g ≡ gathered_by c q bs
  told_by_one g e = e ∙ ap (λ (xs : List ℕ). gathering_of c (gathered xs bs)) (tidy_receiver r q tidy).1
