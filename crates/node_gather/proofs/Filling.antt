-- What is gathered, in one go: bytes before the first 0xAA are skipped where nothing is held, and then as many are held as there is room
-- for, or as there are.
-- Assumes nothing.
use mathlib.Core.Path.{◌≡◌, ◌∙◌, refl, sym, ap}
use mathlib.Core.Bool.{Bool, true, false, cond}
use mathlib.Core.List.{List, [], ◌∷◌, ◌++◌, append_assoc, append-nil}
use mathlib.Core.Logic.{◌⊎◌, ⊎_elim, inl, inr}
use Prim.Native.Nat.{ℕ, zero, suc, ◌+◌, ◌≤◌}
use native.Mathlib.Nat.{suc_inj, suc-ne-zero}
use native.Mathlib.Omega.{arith}
use lib.Dec.{eqb, ltb}
use lib.ListN.{length, get_or, take, drop, length-append, drop_of_length-le}
use lib.Seq.{get_or-drop}
use borrow.Author.Tests.{eqb-true, ne_eqb, ltb-true, ltb-false}
use Rattle.base.proofs.Choice.{by_cond, cond_false}
use Rattle.node_rules.specs.Uart.{incomplete}
use Rattle.node_port.proofs.Keeping.{held_behind}
use Rattle.std.specs.Prelude.{◌==◌, position}
use Rattle.std.specs.Option.{unwrap_or}
use Rattle.std.specs.List.{position_or_len}
use Rattle.node_gather.specs.Internal.Gathered.{Gathered, gathered_none, one_more, gathered, skip_count, start_of}

-- ---- bytes that are skipped

pub skip_few : (bs : List ℕ) → skip_count bs ≤ length bs
unfolding skip_count
skip_few [] = omega arith
skip_few (b ∷ bs) =
    let h = skip_few bs in
    by_cond (λ (k : ℕ). k ≤ suc (length bs)) (eqb b 0xAA) 0 (suc (skip_count bs)) (λ _. omega arith) (λ _. omega (arith, h))

-- so many more bytes in front
abbrev later : ℕ → Gathered → Gathered
later k g = record { taken = k + g.taken; held = g.held }

skips : (bs : List ℕ) → gathered [] bs ≡ later (skip_count bs) (gathered [] (drop (skip_count bs) bs))
unfolding gathered skip_count
skips [] = refl
skips (b ∷ bs) = go (eqb b 0xAA) refl (skips bs)
  where
    go : (t : Bool) → eqb b 0xAA ≡ t → gathered [] bs ≡ later (skip_count bs) (gathered [] (drop (skip_count bs) bs))
        → one_more (cond (incomplete (cond t (b ∷ []) [])) (gathered (cond t (b ∷ []) []) bs) (gathered_none (cond t (b ∷ []) [])))
        ≡ later (cond t 0 (suc (skip_count bs))) (gathered [] (drop (cond t 0 (suc (skip_count bs))) (b ∷ bs)))
    go true e h =
        let g = gathered (b ∷ []) bs in
        let k : suc g.taken ≡ 0 + suc g.taken = omega arith in
        rw e (ap (λ (j : ℕ). record { taken = j; held = g.held }) k)
    go false e h =
        let g = gathered [] (drop (skip_count bs) bs) in
        let k : suc (skip_count bs + g.taken) ≡ suc (skip_count bs) + g.taken = omega arith in
        ap one_more h ∙ ap (λ (j : ℕ). record { taken = j; held = g.held }) k

-- what is behind them is nothing, or starts with 0xAA
skip_finds : (bs : List ℕ) → (skip_count bs ≡ length bs) ⊎ (get_or bs (skip_count bs) 0 ≡ 0xAA)
unfolding skip_count
skip_finds [] = inl refl
skip_finds (b ∷ bs) =
    by_cond (λ (k : ℕ). (k ≡ suc (length bs)) ⊎ (get_or (b ∷ bs) k 0 ≡ 0xAA)) (eqb b 0xAA) 0 (suc (skip_count bs))
    (λ e. inr (eqb-true b 0xAA e)) (λ _. ⊎_elim (λ e. inl (ap suc e)) (λ e. inr e) (skip_finds bs))

-- so many stand before the place of the first 0xAA
abbrev is_start : ℕ → Bool
is_start b = b == 0xAA

skips_to : (bs : List ℕ) → skip_count bs ≡ position_or_len is_start bs
unfolding skip_count
skips_to [] = refl
skips_to (b ∷ bs) = go (eqb b 0xAA) refl (skips_to bs)
  where
    go : (t : Bool) → eqb b 0xAA ≡ t → skip_count bs ≡ position_or_len is_start bs
        → cond t 0 (suc (skip_count bs)) ≡ position_or_len is_start (b ∷ bs)
    go true e h = rw e refl
    go false e h = rw e (omega (arith, h))

-- or all of them where there is none
pub skips_found : (bs : List ℕ) → unwrap_or (position is_start bs) (length bs) ≡ skip_count bs
skips_found bs = go (ltb (position_or_len is_start bs) (length bs)) refl
  where
    go : (t : Bool) → ltb (position_or_len is_start bs) (length bs) ≡ t → unwrap_or (position is_start bs) (length bs) ≡ skip_count bs
    go true l = rw l (sym (skips_to bs))
    go false l =
        let few = skip_few bs in
        let many = ltb-false (position_or_len is_start bs) (length bs) l in
        let to = skips_to bs in
        rw l (omega (arith, few, many, to))

-- ---- bytes that are held

-- behind bytes that are held, or from 0xAA on
abbrev Begun : List ℕ → List ℕ → Type 0
Begun xs cs = (length xs ≡ 0 → ⊥) ⊎ ((cs ≡ []) ⊎ (get_or cs 0 0 ≡ 0xAA))

-- as many as there is room for, or as there are
abbrev pub AsMany : List ℕ → List ℕ → ℕ → Type 0
AsMany xs cs k = ((length xs + k ≡ 15) × (k ≤ length cs)) ⊎ ((k ≡ length cs) × (length xs + k ≤ 15))

fills : (cs xs : List ℕ) (k : ℕ) → length xs ≤ 14 → Begun xs cs → AsMany xs cs k
    → gathered xs cs ≡ record { taken = k; held = xs ++ take k cs }
unfolding gathered
fills [] xs k l b m =
    let z : k ≡ 0 = ⊎_elim (λ h. omega (arith, h.0, h.1, l)) (λ h. h.0) m in
    sym
    (ap (λ (j : ℕ). record { taken = j; held = xs ++ take j [] }) z
    ∙ ap (λ (ys : List ℕ). record { taken = 0; held = ys }) (append-nil xs))
fills (c ∷ cs) xs zero l b m =
    let z : ⊥ = ⊎_elim (λ h. omega (arith, h.0, l)) (λ h. omega (arith, h.0)) m in absurd z
fills (c ∷ cs) xs (suc k) l b m =
    let ys = xs ++ (c ∷ []) in
    let long : length ys ≡ length xs + 1 = length-append xs (c ∷ []) in
    let starts : (length xs ≡ 0 → ⊥) ⊎ (c ≡ 0xAA) =
    ⊎_elim (λ x. inl x) (λ x. ⊎_elim (λ e. absurd (suc-ne-zero (length cs) (ap length e))) (λ e. inr e) x) b in
    ap (λ (zs : List ℕ). one_more (cond (incomplete zs) (gathered zs cs) (gathered_none zs))) (held_behind xs c starts)
    ∙ by_cond (λ (g : Gathered). one_more g ≡ record { taken = suc k; held = xs ++ (c ∷ take k cs) }) (incomplete ys) (gathered ys cs)
    (gathered_none ys)
    (λ t.
    let few = ltb-true (length ys) 15 t in
    ap one_more
    (fills cs ys k (omega (arith, few)) (inl (λ e. let z : ⊥ = omega (arith, long, e) in z))
    (⊎_elim (λ h. inl (omega (arith, long, h.0), omega (arith, h.1))) (λ h. inr (suc_inj h.0, omega (arith, long, h.1))) m))
    ∙ ap (λ (zs : List ℕ). record { taken = suc k; held = zs }) (append_assoc xs (c ∷ []) (take k cs)))
    (λ f.
    let many = ltb-false (length ys) 15 f in
    let z : k ≡ 0 = ⊎_elim (λ h. omega (arith, long, many, h.0, l)) (λ h. omega (arith, long, many, h.1, l)) m in
    sym (ap (λ (j : ℕ). record { taken = suc j; held = xs ++ (c ∷ take j cs) }) z))

-- ---- where holding begins

begins : (xs bs : List ℕ) (from : ℕ) → from ≡ start_of (length xs) bs → Begun xs (drop from bs)
begins [] bs from e =
    inr
    (⊎_elim (λ f. inl (drop_of_length-le bs {i = from} (omega (arith, e, f))))
    (λ f. inr (get_or-drop from bs 0 0 ∙ ap (λ (i : ℕ). get_or bs i 0) (let z : from + 0 ≡ skip_count bs = omega (arith, e) in z) ∙ f))
    (skip_finds bs))
begins (x ∷ xs) bs from e = inl (suc-ne-zero (length xs))

-- behind bytes that are held nothing is skipped
skips_none : (x : ℕ) (xs bs : List ℕ) (from : ℕ) → from ≡ start_of (length (x ∷ xs)) bs → from ≡ 0
skips_none x xs bs from e =
    e ∙ cond_false (eqb (length (x ∷ xs)) 0) (skip_count bs) 0 (ne_eqb (length (x ∷ xs)) 0 (suc-ne-zero (length xs)))

pub start_few : (xs bs : List ℕ) (from : ℕ) → from ≡ start_of (length xs) bs → from ≤ length bs
start_few [] bs from e = let few = skip_few bs in omega (arith, e, few)
start_few (x ∷ xs) bs from e = let z = skips_none x xs bs from e in omega (arith, z)

gathers_behind : (xs bs : List ℕ) (from : ℕ) → from ≡ start_of (length xs) bs → gathered xs bs ≡ later from (gathered xs (drop from bs))
gathers_behind [] bs from e = skips bs ∙ ap (λ (k : ℕ). later k (gathered [] (drop k bs))) (sym e)
gathers_behind (x ∷ xs) bs from e =
    let g = gathered (x ∷ xs) bs in
    let z = skips_none x xs bs from e in
    let k : g.taken ≡ from + g.taken = omega (arith, z) in
    ap (λ (j : ℕ). record { taken = j; held = g.held }) k ∙ ap (λ (j : ℕ). later from (gathered (x ∷ xs) (drop j bs))) (sym z)

-- THE LAW: bytes are skipped, and as many are held behind them as there is room for, or as there are
pub gathered_is : (xs bs : List ℕ) (from k : ℕ) → from ≡ start_of (length xs) bs → length xs ≤ 14 → AsMany xs (drop from bs) k
    → gathered xs bs ≡ record { taken = from + k; held = xs ++ take k (drop from bs) }
gathered_is xs bs from k e l m = gathers_behind xs bs from e ∙ ap (later from) (fills (drop from bs) xs k l (begins xs bs from e) m)
