-- Bytes unwrap to their frame where they are fifteen with a right start, sum and stop, and else to none.
-- Assumes nothing.
use mathlib.Core.Path.{◌≡◌, ◌∙◌, refl, sym}
use mathlib.Core.Bool.{Bool, true, false}
use mathlib.Core.List.{List}
use Prim.Native.Nat.{ℕ}
use lib.ListN.{length}
use lib.Dec.{eqb}
use borrow.Author.Tests.{eqb-true}
use Rattle.std.specs.Prelude.{Some, None, Result, Ok, Err}
use Rattle.frame_rules.specs.declared.Refusal.{Refusal}
use Rattle.frame_rules.specs.declared.Refusal.TheVariants.{Misshapen, WronglyWrapped}
use Rattle.frame_rules.specs.Wrapping.{inner_of, rightly_wrapped}
use Rattle.frame_rules.specs.Numbers.{number_of, refusal_number, unwrap_number, output_after}
use Rattle.frame_rules.proofs.Done.{unwrap_done, done_unwrap}
use Rattle.node_rules.specs.declared.Choices.{Choices}
use Rattle.node_rules.specs.declared.Receiver.{Receiver}
use Rattle.node_rules.specs.Record.{receiving}
use Rattle.node_rules.specs.Uart.{held_after_bad}
use Rattle.node_port.specs.Internal.Port.{frame_in, judged}

no_zero : (e : Refusal) → refusal_number e ≡ 0 → ⊥
no_zero Misshapen h = cc
no_zero WronglyWrapped h = cc

-- bytes that are rightly wrapped are fifteen
pub fifteen : (w : List ℕ) → rightly_wrapped w ≡ true → length w ≡ 15
unfolding rightly_wrapped
fifteen w h = go (eqb (length w) 15) refl
  where
    go : (t : Bool) → eqb (length w) 15 ≡ t → length w ≡ 15
    go true e = eqb-true (length w) 15 e
    go false e = let q : false ≡ true = rw e at h in cc

module _ (w frame room : List ℕ) (k : length room ≡ 12) (r : Result (Unit {0}) Refusal)
    (e : number_of r ≡ unwrap_number w (length room)) (f : frame ≡ output_after (number_of r) (inner_of w) room) where
  pub right : (u : Unit {0}) → r ≡ Ok u → Some frame ≡ frame_in w
  right u is =
      let z : 0 ≡ unwrap_number w (length room) = rw is at e in
      let d = unwrap_done w (length room) (sym z) in
      let q : frame ≡ inner_of w = rw is at f in
      rw (d.2, q) refl

  pub wrong : (x : Refusal) → r ≡ Err x → None ≡ frame_in w
  wrong x is = go (rightly_wrapped w) refl
    where
      go : (t : Bool) → rightly_wrapped w ≡ t → None ≡ frame_in w
      go true h =
          let z : refusal_number x ≡ unwrap_number w (length room) = rw is at e in
          absurd (no_zero x (z ∙ done_unwrap w (length room) k (fifteen w h) h))
      go false h = rw h refl

-- and what is judged says which it was
module _ (c : Choices) (w : List ℕ) where
  pub judged_right : (frame : List ℕ) → judged c w ≡ Ok frame → (rightly_wrapped w ≡ true) × (frame ≡ inner_of w)
  judged_right frame e = go (rightly_wrapped w) refl
    where
      go : (t : Bool) → rightly_wrapped w ≡ t → (rightly_wrapped w ≡ true) × (frame ≡ inner_of w)
      go true h = let q : Ok (inner_of w) ≡ Ok frame = rw h at e in (h, cc)
      go false h = let q : Err (receiving (held_after_bad c w)) ≡ Ok frame = rw h at e in cc

  pub judged_wrong : (r : Receiver) → judged c w ≡ Err r → (rightly_wrapped w ≡ false) × (r ≡ receiving (held_after_bad c w))
  judged_wrong r e = go (rightly_wrapped w) refl
    where
      go : (t : Bool) → rightly_wrapped w ≡ t → (rightly_wrapped w ≡ false) × (r ≡ receiving (held_after_bad c w))
      go true h = let q : Ok (inner_of w) ≡ Err r = rw h at e in cc
      go false h = let q : Err (receiving (held_after_bad c w)) ≡ Err r = rw h at e in (h, cc)
