-- A text split into its first line, that line's ending and the rest. Each text that is not empty is split so; and what has no LF and no CR
-- in front of an ending is the first line.
-- Assumes nothing.
use mathlib.Core.Path.{◌≡◌, ◌∙◌, refl, sym, ap, ap₂}
use mathlib.Core.Bool.{Bool, true, false, ◌&&◌, cond}
use mathlib.Core.List.{List, [], ◌∷◌, ◌++◌}
use mathlib.Core.Logic.{◌⊎◌, inl, inr}
use Prim.Native.Nat.{ℕ, suc}
use native.Mathlib.Omega.{arith}
use borrow.Author.Tests.{eqb-true, ne_eqb}
use lib.Dec.{eqb}
use lib.ListN.{length}
use Rattle.std.specs.Prelude.{Some, None}
use Rattle.base.proofs.Choice.{cond_true, cond_false, true_or_false, both_true}
use Rattle.hex_rules.specs.Text.{lf, cr, in_ending, in_first, lines_of}
use Rattle.hex_line.specs.Internal.Lines.{ending}
use Rattle.hex_line.specs.Internal.Reading.{ending_at}

-- what ends a line, and what is behind it: LF or CR LF, or nothing at the end of the text
pub data Ending : List ℕ → List ℕ → Type 0 where
  of_lf : {rest : List ℕ} → Ending (lf ∷ []) rest
  of_cr_lf : {rest : List ℕ} → Ending (cr ∷ (lf ∷ [])) rest
  of_text : Ending [] []

-- a text as its first line, the ending and the rest
pub record Split (t : List ℕ) : Type 0 where
  pub line : List ℕ
  pub end : List ℕ
  pub rest : List ℕ
  pub ends : Ending end rest
  pub whole : t ≡ line ++ (end ++ rest)
  pub lines : lines_of t ≡ line ∷ lines_of rest

-- the three ways on from a character
lines_lf : (b : ℕ) (bs : List ℕ) → eqb b lf ≡ true → lines_of (b ∷ bs) ≡ [] ∷ lines_of bs
unfolding lines_of
lines_lf b bs e = cond_true (eqb b lf) ([] ∷ lines_of bs) (cond (in_ending b bs) (lines_of bs) (in_first b (lines_of bs))) e

lines_cr : (b : ℕ) (bs : List ℕ) → eqb b lf ≡ false → in_ending b bs ≡ true → lines_of (b ∷ bs) ≡ lines_of bs
unfolding lines_of
lines_cr b bs e f =
    cond_false (eqb b lf) ([] ∷ lines_of bs) (cond (in_ending b bs) (lines_of bs) (in_first b (lines_of bs))) e
    ∙ cond_true (in_ending b bs) (lines_of bs) (in_first b (lines_of bs)) f

lines_on : (b : ℕ) (bs : List ℕ) → eqb b lf ≡ false → in_ending b bs ≡ false → lines_of (b ∷ bs) ≡ in_first b (lines_of bs)
unfolding lines_of
lines_on b bs e f =
    cond_false (eqb b lf) ([] ∷ lines_of bs) (cond (in_ending b bs) (lines_of bs) (in_first b (lines_of bs))) e
    ∙ cond_false (in_ending b bs) (lines_of bs) (in_first b (lines_of bs)) f

none : lines_of [] ≡ []
unfolding lines_of
none = refl

-- an LF ends the line at once
split_lf : (b : ℕ) (bs : List ℕ) → eqb b lf ≡ true → Split (b ∷ bs)
split_lf b bs e = record {
  line = [];
  end = lf ∷ [];
  rest = bs;
  ends = of_lf;
  whole = ap (λ (x : ℕ). x ∷ bs) (eqb-true b lf e);
  lines = lines_lf b bs e;
}

-- a last character has no ending behind it
split_last : (b : ℕ) → eqb b lf ≡ false → in_ending b [] ≡ false → Split (b ∷ [])
split_last b e f = record {
  line = b ∷ [];
  end = [];
  rest = [];
  ends = of_text;
  whole = refl;
  lines = lines_on b [] e f ∙ ap (in_first b) none ∙ ap (λ (ls : List (List ℕ)). (b ∷ []) ∷ ls) (sym none);
}

-- CR LF
split_cr : (b d : ℕ) (bs : List ℕ) → eqb b lf ≡ false → in_ending b (d ∷ bs) ≡ true → Split (b ∷ (d ∷ bs))
split_cr b d bs e f =
    let two = both_true (eqb b cr) (eqb d lf) f in record {
      line = [];
      end = cr ∷ (lf ∷ []);
      rest = bs;
      ends = of_cr_lf;
      whole = ap₂ (λ (x y : ℕ). x ∷ (y ∷ bs)) (eqb-true b cr two.0) (eqb-true d lf two.1);
      lines = lines_cr b (d ∷ bs) e f ∙ lines_lf d bs two.1;
    }

-- any other character is in front of the first line
split_on : (b d : ℕ) (bs : List ℕ) → eqb b lf ≡ false → in_ending b (d ∷ bs) ≡ false → Split (d ∷ bs) → Split (b ∷ (d ∷ bs))
split_on b d bs e f s = record {
  line = b ∷ s.line;
  end = s.end;
  rest = s.rest;
  ends = s.ends;
  whole = ap (λ (t : List ℕ). b ∷ t) s.whole;
  lines = lines_on b (d ∷ bs) e f ∙ ap (in_first b) s.lines;
}

no_cr_last : (x : Bool) → (x && false) ≡ false
no_cr_last true = refl
no_cr_last false = refl

split_by : (b d : ℕ) (bs : List ℕ) → (eqb b lf ≡ true) ⊎ (eqb b lf ≡ false)
    → (in_ending b (d ∷ bs) ≡ true) ⊎ (in_ending b (d ∷ bs) ≡ false) → Split (d ∷ bs) → Split (b ∷ (d ∷ bs))
split_by b d bs (inl e) f s = split_lf b (d ∷ bs) e
split_by b d bs (inr e) (inl f) s = split_cr b d bs e f
split_by b d bs (inr e) (inr f) s = split_on b d bs e f s

split_one : (b : ℕ) → (eqb b lf ≡ true) ⊎ (eqb b lf ≡ false) → Split (b ∷ [])
split_one b (inl e) = split_lf b [] e
split_one b (inr e) = split_last b e (no_cr_last (eqb b cr))

-- a text that is not empty
pub split_first : (b : ℕ) (bs : List ℕ) → Split (b ∷ bs)
split_first b [] = split_one b (true_or_false (eqb b lf))
split_first b (d ∷ bs) = split_by b d bs (true_or_false (eqb b lf)) (true_or_false (in_ending b (d ∷ bs))) (split_first d bs)

-- neither LF nor CR
abbrev pub Plain : List ℕ → Type 0
Plain [] = Unit {0}
Plain (c ∷ cs) = ((eqb c lf ≡ false) × (eqb c cr ≡ false)) × Plain cs

cr_fails : (x y : Bool) → x ≡ false → (x && y) ≡ false
cr_fails x y e = rw e

lines_ended : (e rest : List ℕ) (b : ℕ) → Ending e rest → in_first b (lines_of (e ++ rest)) ≡ (b ∷ []) ∷ lines_of rest
unfolding lines_of
lines_ended _ _ b of_lf = refl
lines_ended _ _ b of_cr_lf = refl
lines_ended _ _ b of_text = refl

-- such characters in front of an ending are the first line
pub lines_plain : (b : ℕ) (l e rest : List ℕ) → Plain (b ∷ l) → Ending e rest → lines_of (b ∷ (l ++ (e ++ rest))) ≡ (b ∷ l) ∷ lines_of rest
lines_plain b [] e rest p s =
    lines_on b (e ++ rest) p.0.0 (cr_fails (eqb b cr) _ p.0.1) ∙ lines_ended e rest b s
lines_plain b (d ∷ l) e rest p s =
    lines_on b (d ∷ (l ++ (e ++ rest))) p.0.0 (cr_fails (eqb b cr) _ p.0.1) ∙ ap (in_first b) (lines_plain d l e rest p.1 s)

-- how many characters an ending has, by each of the two definitions
pub ending_length : (e rest : List ℕ) → Ending e rest → ending (e ++ rest) ≡ length e
ending_length _ rest of_lf = simp (ne_eqb (suc (length rest)) 0 (λ e. omega arith))
ending_length _ rest of_cr_lf = simp (ne_eqb (suc (suc (length rest))) 0 (λ e. omega arith))
ending_length _ _ of_text = refl

pub ending_at_length : (e rest : List ℕ) → Ending e rest → ending_at (e ++ rest) ≡ Some (length e)
unfolding ending_at
ending_at_length _ rest of_lf = simp (ne_eqb (suc (length rest)) 0 (λ e. omega arith))
ending_at_length _ rest of_cr_lf = simp (ne_eqb (suc (suc (length rest))) 0 (λ e. omega arith))
ending_at_length _ _ of_text = refl

-- what stands behind a line that ends here
pub record Ends (behind : List ℕ) : Type 0 where
  pub end : List ℕ
  pub rest : List ℕ
  pub ends : Ending end rest
  pub whole : behind ≡ end ++ rest

not_ended : (b : ℕ) (bs : List ℕ) → eqb b lf ≡ false → in_ending b bs ≡ false → ending_at (b ∷ bs) ≡ None
unfolding ending_at
not_ended b bs e f = simp (ne_eqb (suc (length bs)) 0 (λ k. omega arith), e, f)

-- a line that does not end has no ending's length
no_length : (behind : List ℕ) (n : ℕ) → ending_at behind ≡ None → ending_at behind ≡ Some n → ⊥
no_length behind n e f = let z : ◌≡◌ {A = ℕ} 0 1 = cc in omega arith

ends_one : (b : ℕ) → (eqb b lf ≡ true) ⊎ (eqb b lf ≡ false) → (n : ℕ) → ending_at (b ∷ []) ≡ Some n → Ends (b ∷ [])
ends_one b (inl e) n h = record { end = lf ∷ []; rest = []; ends = of_lf; whole = ap (λ (x : ℕ). x ∷ []) (eqb-true b lf e) }
ends_one b (inr e) n h = absurd (no_length _ n (not_ended b [] e (no_cr_last (eqb b cr))) h)

ends_by : (b d : ℕ) (bs : List ℕ) → (eqb b lf ≡ true) ⊎ (eqb b lf ≡ false)
    → (in_ending b (d ∷ bs) ≡ true) ⊎ (in_ending b (d ∷ bs) ≡ false) → (n : ℕ) → ending_at (b ∷ (d ∷ bs)) ≡ Some n
    → Ends (b ∷ (d ∷ bs))
ends_by b d bs (inl e) f n h = record {
  end = lf ∷ [];
  rest = d ∷ bs;
  ends = of_lf;
  whole = ap (λ (x : ℕ). x ∷ (d ∷ bs)) (eqb-true b lf e);
}
ends_by b d bs (inr e) (inl f) n h =
    let two = both_true (eqb b cr) (eqb d lf) f in record {
      end = cr ∷ (lf ∷ []);
      rest = bs;
      ends = of_cr_lf;
      whole = ap₂ (λ (x y : ℕ). x ∷ (y ∷ bs)) (eqb-true b cr two.0) (eqb-true d lf two.1);
    }
ends_by b d bs (inr e) (inr f) n h = absurd (no_length _ n (not_ended b (d ∷ bs) e f) h)

-- where a line ends there is an ending
pub ends_of : (behind : List ℕ) (n : ℕ) → ending_at behind ≡ Some n → Ends behind
ends_of [] n h = record { end = []; rest = []; ends = of_text; whole = refl }
ends_of (b ∷ []) n h = ends_one b (true_or_false (eqb b lf)) n h
ends_of (b ∷ (d ∷ bs)) n h = ends_by b d bs (true_or_false (eqb b lf)) (true_or_false (in_ending b (d ∷ bs))) n h
