-- Every text has a first bad line or none, and so the reading comes to what that says: by induction over the lines.
-- Assumes nothing.
use mathlib.Core.Path.{◌≡◌, ◌∙◌, refl, sym, ap}
use mathlib.Core.Bool.{true, false}
use mathlib.Core.List.{List, [], ◌∷◌, ◌++◌, append-nil}
use mathlib.Core.Logic.{◌⊎◌, inl, inr, ⊎_elim}
use Prim.Native.Nat.{ℕ, suc, ◌+◌}
use native.Mathlib.Omega.{arith}
use lib.Dec.{eqb}
use lib.ListN.{length}
use borrow.Author.Tests.{eqb-true, eqb-false}
use Rattle.base.proofs.Choice.{true_or_false}
use Rattle.hex_rules.specs.Text.{lines_of}
use Rattle.hex_rules.specs.Record.{record_of}
use Rattle.hex_rules.specs.Checks.{Given, nothing, fault_at, with_record, refused, at_the_end, lines_read}
use Rattle.hex_rules.specs.Converting.{text_read}
use Rattle.hex_rules.specs.Deciding.{Gave, FirstBad, NoneBad}
use Rattle.hex_rules.proofs.Reading.{read_on, read_fault, read_end}

-- lines without fault are passed, each with its number
passed : (ls rest : List (List ℕ)) (number : ℕ) (before after : Given) → Gave ls before after
    → lines_read (ls ++ rest) number before ≡ lines_read rest (length ls + number) after
passed [] rest number before after e =
    let z : number ≡ 0 + number = omega arith in
    ap (lines_read rest number) e ∙ ap (λ (n : ℕ). lines_read rest n after) z
passed (l ∷ ls) rest number before after k =
    let n : length ls + suc number ≡ suc (length ls) + number = omega arith in
    read_on before l (ls ++ rest) number k.0
    ∙ passed ls rest (suc number) (with_record before (record_of l)) after k.1
    ∙ ap (λ (x : ℕ). lines_read rest x after) n

-- the first bad line decides, with its number, counted from 1
pub first_bad_decides : (text : List ℕ) (before : List (List ℕ)) (line : List ℕ) (given : Given) → FirstBad text before line given
    → text_read text ≡ refused (fault_at given line) (length before + 1)
unfolding text_read
first_bad_decides text before line given k =
    ap (λ (ls : List (List ℕ)). lines_read ls 1 nothing) k.lines
    ∙ passed before (line ∷ k.behind) 1 nothing given k.gave
    ∙ read_fault given line k.behind (length before + 1) k.bad

-- where no line is bad, the end record decides: the cells, or 35 at the line after the last
pub none_bad_decides : (text : List ℕ) (given : Given) → NoneBad text given → text_read text ≡ at_the_end (length (lines_of text) + 1) given
unfolding text_read
none_bad_decides text given k =
    ap (λ (ls : List (List ℕ)). lines_read ls 1 nothing) (sym (append-nil (lines_of text)))
    ∙ passed (lines_of text) [] 1 nothing given k
    ∙ read_end (length (lines_of text) + 1) given

-- ---- every text is one or the other

-- lines with a first bad one, or none
pub record BadAmong (ls : List (List ℕ)) (given : Given) : Type 0 where
  pub before : List (List ℕ)
  pub line : List ℕ
  pub behind : List (List ℕ)
  pub after : Given
  pub lines : ls ≡ before ++ (line ∷ behind)
  pub gave : Gave before given after
  pub bad : fault_at after line ≡ 0 → ⊥

pub record GoodAmong (ls : List (List ℕ)) (given : Given) : Type 0 where
  pub after : Given
  pub gave : Gave ls given after

among : (ls : List (List ℕ)) (given : Given) → BadAmong ls given ⊎ GoodAmong ls given
among [] given = inr (record { after = given; gave = refl })
among (l ∷ ls) given = go (among ls (with_record given (record_of l))) (true_or_false (eqb (fault_at given l) 0))
  where
    go : BadAmong ls (with_record given (record_of l)) ⊎ GoodAmong ls (with_record given (record_of l))
        → (eqb (fault_at given l) 0 ≡ true) ⊎ (eqb (fault_at given l) 0 ≡ false) → BadAmong (l ∷ ls) given ⊎ GoodAmong (l ∷ ls) given
    go (inl b) (inl t) =
        inl (record {
          before = l ∷ b.before;
          line = b.line;
          behind = b.behind;
          after = b.after;
          lines = ap (λ (x : List (List ℕ)). l ∷ x) b.lines;
          gave = (eqb-true (fault_at given l) 0 t, b.gave);
          bad = b.bad;
        })
    go (inr g) (inl t) = inr (record { after = g.after; gave = (eqb-true (fault_at given l) 0 t, g.gave) })
    go a (inr f) =
        inl (record {
          before = [];
          line = l;
          behind = ls;
          after = given;
          lines = refl;
          gave = refl;
          bad = eqb-false (fault_at given l) 0 f;
        })

-- every text has a first bad line, or none
pub bad_or_none : (text : List ℕ)
    → ((before : List (List ℕ)) × (line : List ℕ) × (given : Given) × FirstBad text before line given)
    ⊎ ((given : Given) × NoneBad text given)
bad_or_none text =
    ⊎_elim
    (λ (b : BadAmong (lines_of text) nothing).
    inl (b.before, b.line, b.after, record { behind = b.behind; lines = b.lines; gave = b.gave; bad = b.bad }))
    (λ (g : GoodAmong (lines_of text) nothing). inr (g.after, g.gave))
    (among (lines_of text) nothing)
