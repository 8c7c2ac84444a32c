-- What the tests that the code makes at a place say of the rest of the input from there.
-- Assumes nothing.
use mathlib.Core.Path.{◌≡◌, sym, ap, ap₂, ◌∙◌}
use mathlib.Core.Bool.{Bool, true, false}
use mathlib.Core.List.{List}
use Prim.Native.Nat.{ℕ, ◌+◌, ◌-◌, ◌≤◌, ◌<◌}
use native.Mathlib.Nat.{add-zero}
use lib.ListN.{length, get_or, drop, length-drop, drop_of_length-le}
use lib.Seq.{get_or-drop}
use Rattle.std.specs.Prelude.{None}
use Rattle.recipe.specs.declared.Kind.{Kind}
use Rattle.recipe.specs.Internal.Kinds.{code, kind_named}
use Rattle.recipe.proofs.Naming.{unnamed, known_code}
use Rattle.recipe.specs.Faults.{kind_of, known, body_length, address_of, out_of_place, address_illegal, fault_at}
use Rattle.recipe.specs.Reading.{size_of}
use Rattle.recipe.proofs.Order.{item_2049, unknown_kind, out_of_place_lem, cut_short, address_illegal_lem, no_fault}

-- the kind of what stands at a place
pub kind_at : (s : List ℕ) (place : ℕ) → kind_of (drop place s) ≡ get_or s place 0
kind_at s place = get_or-drop place s 0 0 ∙ ap (λ (n : ℕ). get_or s n 0) (add-zero place)

-- the code's tests in their order, each with those before it: which number is given
module _ (s : List ℕ) (place number : ℕ) (ended : Bool) where
  pub many_there : number ≡ 2049 → 25 ≡ fault_at (drop place s) number ended
  many_there e = sym (item_2049 (drop place s) number ended e)

  module _ (few : number ≡ 2049 → ⊥) where
    pub behind_there : length s ≤ place → 21 ≡ fault_at (drop place s) number ended
    behind_there h = sym (unknown_kind (drop place s) number ended few (rw (drop_of_length-le s {i = place} h)))

    pub unknown_there : kind_named (get_or s place 0) ≡ None → 21 ≡ fault_at (drop place s) number ended
    unknown_there k = sym (unknown_kind (drop place s) number ended few (ap known (kind_at s place) ∙ unnamed (get_or s place 0) k))

    module _ (kind : Kind) (k : get_or s place 0 ≡ code kind) where
      is_known : known (kind_of (drop place s)) ≡ true
      is_known = ap known (kind_at s place ∙ k) ∙ known_code kind

      placed : (t : Bool) → out_of_place (code kind) number ended ≡ t → out_of_place (kind_of (drop place s)) number ended ≡ t
      placed t p = ap (λ (x : ℕ). out_of_place x number ended) (kind_at s place ∙ k) ∙ p

      pub misplaced_there : out_of_place (code kind) number ended ≡ true → 23 ≡ fault_at (drop place s) number ended
      misplaced_there p = sym (out_of_place_lem (drop place s) number ended few is_known (placed true p))

      module _ (p : out_of_place (code kind) number ended ≡ false) (size : ℕ) (b : size ≡ 1 + body_length (get_or s place 0)) where
        size_there : size_of (drop place s) ≡ size
        size_there = ap (λ (k : ℕ). 1 + body_length k) (kind_at s place) ∙ sym b

        pub short_there : length s - place < size → 22 ≡ fault_at (drop place s) number ended
        short_there l =
            sym (cut_short (drop place s) number ended few is_known (placed false p) (rw (size_there, length-drop place s) l))

        module _ (l : size ≤ length s - place) (a : ℕ) (e : a ≡ address_of (drop place s)) where
          illegal_same : (t : Bool) → address_illegal (code kind) a ≡ t → address_illegal (kind_of (drop place s)) (address_of
              (drop place s)) ≡ t
          illegal_same t h = ap₂ address_illegal (kind_at s place ∙ k) (sym e) ∙ h

          pub illegal_there : address_illegal (code kind) a ≡ true → 24 ≡ fault_at (drop place s) number ended
          illegal_there h =
              sym (address_illegal_lem (drop place s) number ended few is_known (placed false p)
              (rw (size_there, length-drop place s) l) (illegal_same true h))

          pub faultless_there : address_illegal (code kind) a ≡ false → 0 ≡ fault_at (drop place s) number ended
          faultless_there h =
              sym (no_fault (drop place s) number ended
              (record {
                few = few;
                kind = is_known;
                in_place = placed false p;
                whole = rw (size_there, length-drop place s) l;
                address = illegal_same false h;
              }))
