-- Frames put into an output one behind the other.
-- Assumes nothing.
use mathlib.Core.Path.{◌≡◌, refl, sym, ap, ap₂, ◌∙◌}
use mathlib.Core.List.{List, [], ◌++◌, append-nil, append_assoc}
use Prim.Native.Nat.{ℕ, ◌+◌, ◌≤◌}
use native.Mathlib.Omega.{arith}
use native.Mathlib.Nat.{add-zero}
use lib.ListN.{length, take, drop, length-append, length-take, take-append-drop}
use lib.Seq.{drop-append-add, drop-drop, take_at}
use Rattle.base.specs.Parts.{patch}
use Rattle.base.proofs.Patched.{length_patch}

-- a part behind a part
pub patch_patch : (o x y : List ℕ) (p q : ℕ) → p + length x ≤ length o → q ≡ p + length x → patch (patch o p x) q y ≡ patch o p (x ++ y)
unfolding patch
patch_patch o x y p q h e =
    let l : length (take p o ++ x) ≡ q = simp (length-append, length-take) (omega arith) in
    let whole : take p o ++ (x ++ drop (p + length x) o) ≡ (take p o ++ x) ++ drop (p + length x) o =
    sym (append_assoc (take p o) x (drop (p + length x) o)) in
    let m : p + length x + length y ≡ p + length (x ++ y) = omega (arith, length-append x y) in
    let n : q + length y ≡ length (take p o ++ x) + length y = ap (λ (k : ℕ). k + length y) (sym l) in
    ap₂ (λ (u v : List ℕ). u ++ (y ++ v))
    (ap (take q) whole ∙ take_at (take p o ++ x) _ q l)
    (ap (drop (q + length y)) whole
    ∙ ap (λ (k : ℕ). drop k ((take p o ++ x) ++ drop (p + length x) o)) n
    ∙ drop-append-add (take p o ++ x) (drop (p + length x) o) (length y)
    ∙ drop-drop (length y) (p + length x) o
    ∙ ap (λ (k : ℕ). drop k o) m)
    ∙ append_assoc (take p o) x (y ++ drop (p + length (x ++ y)) o)
    ∙ ap (λ (l : List ℕ). take p o ++ l) (sym (append_assoc x y (drop (p + length (x ++ y)) o)))

-- an output that is written piece by piece: of `whole`, which begins at `from` in o, what stands before pos is written in o₁, and
-- `rest` is not
pub record Sent (o o₁ : List ℕ) (from pos : ℕ) (whole rest : List ℕ) : Type 0 where
  pub done : List ℕ
  pub written : o₁ ≡ patch o from done
  pub split : whole ≡ done ++ rest
  pub here : pos ≡ from + length done
  pub room : pos ≤ length o

pub patch_none : (o : List ℕ) (from : ℕ) → patch o from [] ≡ o
unfolding patch
patch_none o from = ap (λ (k : ℕ). take from o ++ drop k o) (add-zero from) ∙ take-append-drop from o

module _ (o : List ℕ) (from : ℕ) (whole : List ℕ) where
  pub sent_start : from ≤ length o → Sent o o from from whole whole
  sent_start h = record { done = []; written = sym (patch_none o from); split = refl; here = sym (add-zero from); room = h }

  module _ (o₁ : List ℕ) (pos : ℕ) (rest : List ℕ) (k : Sent o o₁ from pos whole rest) where
    pub sent_long : length o₁ ≡ length o
    sent_long = ap length k.written ∙ length_patch o from k.done (omega arith)

    pub sent_more : (x rest₂ o₂ : List ℕ) (pos₂ : ℕ) → rest ≡ x ++ rest₂ → o₂ ≡ patch o₁ pos x → pos₂ ≡ pos + length x → pos₂ ≤ length o
        → Sent o o₂ from pos₂ whole rest₂
    sent_more x rest₂ o₂ pos₂ r e p h = record {
      done = k.done ++ x;
      written = e ∙ ap (λ (l : List ℕ). patch l pos x) k.written ∙ patch_patch o k.done x from pos (omega arith) k.here;
      split = k.split ∙ ap (λ (l : List ℕ). k.done ++ l) r ∙ sym (append_assoc k.done x rest₂);
      here = omega (arith, length-append k.done x);
      room = h;
    }

    -- where nothing is left, the whole is written, and ends at pos
    pub sent_end : rest ≡ [] → (o₁ ≡ patch o from whole) × (pos ≡ from + length whole)
    sent_end r =
        let all : whole ≡ k.done = k.split ∙ ap (λ (l : List ℕ). k.done ++ l) r ∙ append-nil k.done in
        (k.written ∙ ap (patch o from) (sym all), k.here ∙ ap (λ (l : List ℕ). from + length l) (sym all))
