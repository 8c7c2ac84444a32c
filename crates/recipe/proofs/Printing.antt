-- What is printed is read back: Open, each legal item, Leave. So the bytes of a legal recipe are read as that recipe.
-- Assumes nothing.
use mathlib.Core.Path.{◌≡◌, refl, sym, ap, ◌∙◌}
use mathlib.Core.Bool.{true, false}
use mathlib.Core.List.{List, [], ◌∷◌, ◌++◌, append_assoc}
use Prim.Native.Nat.{ℕ, suc, ◌+◌, ◌-◌, ◌≤◌, ◌<◌}
use native.Mathlib.Omega.{arith}
use native.Mathlib.Nat.{suc-add, zero-add, add-zero}
use lib.Dec.{eqb}
use lib.ListN.{length, length-append}
use lib.Seq.{take_at, drop_at}
use borrow.Author.Tests.{ne_eqb}
use Rattle.recipe.specs.Items.{Item, block, row, Recipe, Legal, LegalItem, LegalItems, address_bytes, printed_item, printed_items, printed, opened}
use Rattle.recipe.specs.Faults.{address_of}
use Rattle.recipe.specs.Reading.{Reading, with_items, read_from, reading}
use Rattle.recipe.proofs.Inside.{address_24}
use Rattle.recipe.proofs.Order.{no_fault}
use Rattle.recipe.proofs.Steps.{read_on}

-- the three bytes of an address give it back
pub address_back : (a : ℕ) (rest : List ℕ) (kind : ℕ) → a < 0x1000000 → address_of (kind ∷ (address_bytes a ++ rest)) ≡ a
address_back a rest kind h = omega arith

-- items in two lists are printed one list behind the other
pub printed_both : (is js : List Item) → printed_items (is ++ js) ≡ printed_items is ++ printed_items js
unfolding printed_items
printed_both [] js = refl
printed_both (i ∷ is) js =
    ap (λ (t : List ℕ). printed_item i ++ t) (printed_both is js) ∙ sym (append_assoc (printed_item i) (printed_items is) (printed_items js))

pub printed_append : (is js : List Item) → length (printed_items (is ++ js)) ≡ length (printed_items is) + length (printed_items js)
printed_append is js = ap length (printed_both is js) ∙ length-append (printed_items is) (printed_items js)

-- behind the first item and before Leave, Block and Row and Leave are in place
inside : (number : ℕ) → 2 ≤ number → eqb number 1 ≡ false
inside number h = ne_eqb number 1 (λ e. omega arith)

module _ (looks place number : ℕ) (rest : List ℕ) where
  pub read_open : (m g : ℕ) → read_from (suc looks) (0x01 ∷ m ∷ g ∷ rest) place 1 false ≡ read_from looks rest (place + 3) 2 false
  read_open m g =
      read_on looks (0x01 ∷ m ∷ g ∷ rest) place 1 false (omega arith)
      (no_fault (0x01 ∷ m ∷ g ∷ rest) 1 false
      (record { few = λ e. omega arith; kind = refl; in_place = refl; whole = omega arith; address = refl }))

  module _ (more : 2 ≤ number) (few : number ≤ 2048) where
    pub read_leave : read_from (suc looks) (0x0F ∷ rest) place number false ≡ read_from looks rest (place + 1) (number + 1) true
    read_leave =
        read_on looks (0x0F ∷ rest) place number false (omega arith)
        (no_fault (0x0F ∷ rest) number false
        (record { few = λ e. omega arith; kind = refl; in_place = inside number more; whole = omega arith; address = refl }))

    pub read_item : (i : Item) → LegalItem i
        → read_from (suc looks) (printed_item i ++ rest) place number false
        ≡ with_items (i ∷ []) (read_from looks rest (place + length (printed_item i)) (number + 1) false)
    read_item (block a d) h =
        let input = printed_item (block a d) ++ rest in
        let same : address_of input ≡ a = address_back a (d ++ rest) 0x02 (address_24 (block a d) h) in
        read_on looks input place number false (omega arith)
        (no_fault input number false
        (record {
          few = λ e. omega arith;
          kind = refl;
          in_place = inside number more;
          whole = omega (arith, length-append d rest, h.1);
          address = rw (same, h.0);
        }))
        ∙ rw (same, take_at d rest 64 h.1, drop_at d rest 64 h.1, h.1)
    read_item (row a d) h =
        let input = printed_item (row a d) ++ rest in
        let same : address_of input ≡ a = address_back a (d ++ rest) 0x03 (address_24 (row a d) h) in
        read_on looks input place number false (omega arith)
        (no_fault input number false
        (record {
          few = λ e. omega arith;
          kind = refl;
          in_place = inside number more;
          whole = omega (arith, length-append d rest, h.1);
          address = rw (same, h.0);
        }))
        ∙ rw (same, take_at d rest 8 h.1, drop_at d rest 8 h.1, h.1)

behind_behind : (i : Item) (is : List Item) (r : Reading) → with_items (i ∷ []) (with_items is r) ≡ with_items (i ∷ is) r
behind_behind i is r = refl

-- legal items are read one by one, and then what stands behind them
pub read_items : (is : List Item) (looks : ℕ) (rest : List ℕ) (place number : ℕ) → LegalItems is → 2 ≤ number
    → number + length is ≤ 2049
    → read_from (length is + looks) (printed_items is ++ rest) place number false
    ≡ with_items is (read_from looks rest (place + length (printed_items is)) (number + length is) false)
unfolding printed_items
read_items [] looks rest place number h more few = rw (zero-add, add-zero place, add-zero number)
read_items (i ∷ is) looks rest place number h more few =
    let far : place + length (printed_item i) + length (printed_items is) ≡ place + length (printed_item i ++ printed_items is) =
    omega (arith, length-append (printed_item i) (printed_items is)) in
    let next : number + 1 + length is ≡ number + suc (length is) = omega arith in
    rw (suc-add, append_assoc)
    (read_item (length is + looks) place number (printed_items is ++ rest) more (omega arith) i h.0
    ∙ ap (with_items (i ∷ []))
    (read_items is looks rest (place + length (printed_item i)) (number + 1) h.1 (omega arith) (omega arith)
    ∙ rw (far, next)))

pub read_opened : (m g : ℕ) (is : List Item) (rest : List ℕ) → LegalItems is → length is ≤ 2047
    → reading (opened m g is ++ rest) ≡ with_items is (read_from (2048 - length is) rest (length (opened m g is)) (2 + length is) false)
unfolding reading
read_opened m g is rest h few =
    let looks : 2048 ≡ length is + (2048 - length is) = omega arith in
    let far : 3 + length (printed_items is) ≡ length (opened m g is) = omega arith in
    read_open 2048 0 1 (printed_items is ++ rest) m g
    ∙ ap (λ (n : ℕ). read_from n (printed_items is ++ rest) 3 2 false) looks
    ∙ read_items is (2048 - length is) rest 3 2 h (omega arith) (omega arith)
    ∙ rw far

-- a legal recipe's bytes are read to their end, Leave having come
pub read_printed : (r : Recipe) (rest : List ℕ) → Legal r
    → reading (printed r ++ rest)
    ≡ with_items r.items (read_from (2047 - length r.items) rest (length (printed r)) (3 + length r.items) true)
unfolding printed
read_printed r rest h =
    let is = r.items in
    let looks : 2048 - length is ≡ suc (2047 - length is) = omega (arith, h.few) in
    let far : length (opened r.module_number r.group_number is) + 1 ≡ length (printed r) =
    omega (arith, length-append (printed_items is) (0x0F ∷ [])) in
    let next : 2 + length is + 1 ≡ 3 + length is = omega arith in
    rw append_assoc
    (read_opened r.module_number r.group_number is (0x0F ∷ rest) h.each (omega (arith, h.few))
    ∙ ap (with_items is)
    (ap (λ (n : ℕ). read_from n (0x0F ∷ rest) (length (opened r.module_number r.group_number is)) (2 + length is) false) looks
    ∙ read_leave (2047 - length is) (length (opened r.module_number r.group_number is)) (2 + length is) rest (omega arith) (omega
    (arith, h.few))
    ∙ rw (far, next)))
