-- Laws of given cells, each of which goes through the list once: which places are given, which parts are touched, and that of cells given
-- once each has its own byte. A touched part has a given cell in it, and a given cell touches each part that it lies in.
-- Assumes nothing.
use mathlib.Core.Path.{◌≡◌, refl, sym, ◌∙◌}
use mathlib.Core.Bool.{true, false, ◌&&◌, ◌||◌, false≢true, or-true, or_assoc}
use mathlib.Core.List.{List, [], ◌∷◌, ◌++◌, append-nil, append_assoc}
use mathlib.Core.Logic.{⊎_elim}
use Prim.Native.Nat.{ℕ, ◌+◌, ◌≤◌, ◌<◌}
use lib.Dec.{eqb, leb, ltb, lit<}
use borrow.Author.Tests.{leb-true, ltb-true, eqb-true, le-leb, lt-ltb, eq-eqb}
use Rattle.base.proofs.Choice.{by_cond, both_true, either_true, neither}
use Rattle.hex_rules.specs.Cells.{Cell, legal_cell, given_at, byte_at, touched}
use Rattle.hex_rules.specs.Printing.{EachOnce}

-- a place is given by two lists if one of them gives it
pub given_append : (xs ys : List Cell) (a : ℕ) → given_at (xs ++ ys) a ≡ (given_at xs a || given_at ys a)
given_append [] ys a = refl
given_append (x ∷ xs) ys a = rw (given_append xs ys a) (sym (or_assoc (eqb x.place a) (given_at xs a) (given_at ys a)))

-- a given cell touches each part that it lies in
pub given_touched : (cells : List Cell) (k a size : ℕ) → given_at cells k ≡ true → a ≤ k → k < a + size → touched cells a size ≡ true
given_touched [] k a size e l h = e
given_touched (c ∷ cs) k a size e l h =
    ⊎_elim
    (λ here.
    let same : c.place ≡ k = eqb-true c.place k here in
    rw (same, le-leb a k l, lt-ltb k (a + size) h))
    (λ there. rw (given_touched cs k a size there l h) (or-true (leb a c.place && ltb c.place (a + size))))
    (either_true (eqb c.place k) (given_at cs k) e)

-- a touched part has a legal cell in it, where the cells are legal
pub touched_legal : (before cells : List Cell) (a size : ℕ) → EachOnce before cells → touched cells a size ≡ true
    → (k : ℕ) × (a ≤ k) × (k < a + size) × (legal_cell k ≡ true)
touched_legal before [] a size o e = absurd (false≢true e)
touched_legal before (c ∷ cs) a size o e =
    ⊎_elim
    (λ here.
    let i = both_true (leb a c.place) (ltb c.place (a + size)) here in
    (c.place, leb-true a c.place i.0, ltb-true c.place (a + size) i.1, o.0))
    (λ there. touched_legal (before ++ (c ∷ [])) cs a size o.3 there)
    (either_true (leb a c.place && ltb c.place (a + size)) (touched cs a size) e)

-- the byte at a place is a byte
pub byte_small : (before cells : List Cell) (a : ℕ) → EachOnce before cells → byte_at cells a < 256
byte_small before [] a o = lit< tt
byte_small before (c ∷ cs) a o =
    by_cond (λ (b : ℕ). b < 256) (eqb c.place a) _ _ (λ _. o.1) (λ _. byte_small (before ++ (c ∷ [])) cs a o.3)

-- a cell that is none of those before, and not x, where it is none of both
apart : (before : List Cell) (x : Cell) (a : ℕ) → given_at (before ++ (x ∷ [])) a ≡ false
    → (given_at before a ≡ false) × (eqb x.place a ≡ false)
apart before x a e =
    let p = neither (given_at before a) (given_at (x ∷ []) a) (sym (given_append before (x ∷ []) a) ∙ e) in
    (p.0, (neither (eqb x.place a) false p.1).0)

-- of cells given once, each is none of those before
pub new : (before xs : List Cell) (c : Cell) (ys : List Cell) → EachOnce before (xs ++ (c ∷ ys)) → given_at before c.place ≡ false
new before [] c ys o = o.2
new before (x ∷ xs) c ys o = (apart before x c.place (new (before ++ (x ∷ [])) xs c ys o.3)).0

-- and the byte at its place is its own
pub given_byte : (before xs : List Cell) (c : Cell) (ys : List Cell) → EachOnce before (xs ++ (c ∷ ys))
    → byte_at (xs ++ (c ∷ ys)) c.place ≡ c.byte
given_byte before [] c ys o = rw (eq-eqb c.place c.place refl)
given_byte before (x ∷ xs) c ys o =
    let behind = before ++ (x ∷ []) in
    rw (apart before x c.place (new behind xs c ys o.3)).1 (given_byte behind xs c ys o.3)

-- a cell's place is given
pub given_place : (xs : List Cell) (c : Cell) (ys : List Cell) → given_at (xs ++ (c ∷ ys)) c.place ≡ true
given_place xs c ys =
    given_append xs (c ∷ ys) c.place ∙ rw (eq-eqb c.place c.place refl) (or-true (given_at xs c.place))

-- and legal, where all are
pub given_legal : (before xs : List Cell) (c : Cell) (ys : List Cell) → EachOnce before (xs ++ (c ∷ ys)) → legal_cell c.place ≡ true
given_legal before [] c ys o = o.0
given_legal before (x ∷ xs) c ys o = given_legal (before ++ (x ∷ [])) xs c ys o.3

-- cells in two lists: each of the first once, and each of the second once behind them
pub once_append : (before xs ys : List Cell) → EachOnce before xs → EachOnce (before ++ xs) ys → EachOnce before (xs ++ ys)
once_append before [] ys o p = rw append-nil at p
once_append before (x ∷ xs) ys o p =
    (o.0, o.1, o.2, once_append (before ++ (x ∷ [])) xs ys o.3 (rw (append_assoc before (x ∷ []) xs) p))
