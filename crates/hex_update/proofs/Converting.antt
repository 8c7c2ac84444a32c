-- What the real contract of `convert` says, whatever outcome it allows: which number and line for every text, that a refusal leaves the
-- output as it was, what is made, and that what is printed is read back. Each is the law over definitions, of the crate hex_rules, carried
-- over.
-- Assumes nothing.
use mathlib.Core.Path.{◌≡◌, ◌∙◌, refl, sym, ap}
use mathlib.Core.Bool.{true, false}
use mathlib.Core.List.{List, [], ◌++◌}
use mathlib.Core.Logic.{◌⊎◌, inl, inr, ⊎_elim}
use Prim.Native.Nat.{ℕ, ◌+◌, ◌≤◌, ◌<◌}
use native.Mathlib.Omega.{arith}
use lib.Dec.{ltb}
use lib.ListN.{length, take, drop}
use lib.Seq.{take-append_seam, drop-append_seam}
use borrow.Author.Tests.{lt-ltb, le-ltb, ltb-true, ltb-false}
use Rattle.base.proofs.Choice.{cond_true, cond_false, true_or_false}
use Rattle.recipe.specs.Items.{Recipe, Legal, printed}
use Rattle.hex_rules.specs.Refusing.{Converted, Made, Refused}
use Rattle.hex_rules.specs.Text.{lines_of}
use Rattle.hex_rules.specs.Cells.{Cell}
use Rattle.hex_rules.specs.Checks.{Given, Read, gives, refused, fault_at}
use Rattle.hex_rules.specs.Deciding.{FirstBad, NoneBad}
use Rattle.hex_rules.specs.Recipe.{recipe_of}
use Rattle.hex_rules.specs.Converting.{text_read, bytes_of, answered, converted, output_by, converted_output}
use Rattle.hex_rules.specs.Printing.{Run, printed_runs, run_cells, Printable, singly, EachOnce}
use Rattle.hex_rules.proofs.Deciding.{first_bad_decides, none_bad_decides}
use Rattle.hex_rules.proofs.MadeLegal.{made_legal}
use Rattle.hex_rules.proofs.Once.{read_once}
use Rattle.hex_rules.proofs.RoundTrip.{runs_read_back, cells_read_back}
use Rattle.hex_update.specs.Calls.{Convert, call}
use Rattle.hex_update.specs.Given.{MadeOf}

-- the definition's answer and output
pub convert_said : {text before after : List ℕ} {m g : ℕ} {c : Converted} → Convert text m g before c after
    → (c ≡ converted text m g (length before)) × (after ≡ converted_output text m g before)
convert_said (call κs a r s p) = p

module _ {text before after : List ℕ} {m g : ℕ} {c : Converted} (converts : Convert text m g before c after) where
  -- by what the text is read as
  by_reading : (r : Read) → text_read text ≡ r
      → (c ≡ answered r m g (length before)) × (after ≡ output_by (answered r m g (length before)) r m g before)
  unfolding converted converted_output
  by_reading r e =
      let said = convert_said converts in (
        said.0 ∙ ap (λ (x : Read). answered x m g (length before)) e,
        said.1 ∙ ap (λ (x : Read). output_by (answered x m g (length before)) x m g before) e,
      )

  -- a text that is refused: its number and line, whatever the output, which stays as it was
  refuses : (number line : ℕ) → text_read text ≡ refused number line → (c ≡ Refused number line) × (after ≡ before)
  refuses number line e = by_reading (refused number line) e

  -- the first bad line decides: the number is that of the first check that holds there, given what the lines before it gave
  pub convert_first_bad : (lines : List (List ℕ)) (line : List ℕ) (given : Given) → FirstBad text lines line given
      → (c ≡ Refused (fault_at given line) (length lines + 1)) × (after ≡ before)
  convert_first_bad lines line given k =
      refuses (fault_at given line) (length lines + 1) (first_bad_decides text lines line given k)

  -- no bad line, and no end record: 35 at the line after the last
  pub convert_no_end : (given : Given) → NoneBad text given → given.ended ≡ false
      → (c ≡ Refused 35 (length (lines_of text) + 1)) × (after ≡ before)
  convert_no_end given k e =
      refuses 35 (length (lines_of text) + 1)
      (none_bad_decides text given k
      ∙ cond_false given.ended (gives given.cells) (refused 35 (length (lines_of text) + 1)) e)

  module _ (cells : List Cell) (e : text_read text ≡ gives cells) where
    abbrev size : ℕ
    size = length (bytes_of m g cells)

    -- the text gives cells, and the output has no room for their recipe: 26 at line 0
    short : length before < size → (c ≡ Refused 26 0) × (after ≡ before)
    short l =
        let b = by_reading (gives cells) e in
        let a : answered (gives cells) m g (length before) ≡ Refused 26 0 =
        cond_true (ltb (length before) size) (Refused 26 0) (Made size) (lt-ltb (length before) size l) in
        (b.0 ∙ a, b.1 ∙ ap (λ (x : Converted). output_by x (gives cells) m g before) a)

    -- and where there is room: the recipe, and what is behind it stays
    makes : size ≤ length before → (c ≡ Made size) × (after ≡ bytes_of m g cells ++ drop size before)
    makes l =
        let b = by_reading (gives cells) e in
        let a : answered (gives cells) m g (length before) ≡ Made size =
        cond_false (ltb (length before) size) (Refused 26 0) (Made size) (le-ltb (length before) size l) in
        (b.0 ∙ a, b.1 ∙ ap (λ (x : Converted). output_by x (gives cells) m g before) a)

    room_or_not : (length before < size) ⊎ (size ≤ length before)
    room_or_not =
        ⊎_elim (λ (t : ltb (length before) size ≡ true). inl (ltb-true (length before) size t))
        (λ (f : ltb (length before) size ≡ false). inr (ltb-false (length before) size f)) (true_or_false (ltb (length before) size))

  -- no bad line, and an end record: the recipe of the cells given, or 26 at line 0 where the output has no room for it
  module _ (given : Given) (k : NoneBad text given) (e : given.ended ≡ true) where
    reads : text_read text ≡ gives given.cells
    reads =
        none_bad_decides text given k
        ∙ cond_true given.ended (gives given.cells) (refused 35 (length (lines_of text) + 1)) e

    pub convert_no_room : length before < length (bytes_of m g given.cells) → (c ≡ Refused 26 0) × (after ≡ before)
    convert_no_room = short given.cells reads

    pub convert_makes : length (bytes_of m g given.cells) ≤ length before
        → (c ≡ Made (length (bytes_of m g given.cells)))
        × (after ≡ bytes_of m g given.cells ++ drop (length (bytes_of m g given.cells)) before)
    convert_makes = makes given.cells reads

  -- whatever was refused, the output stays as it was
  pub convert_refusal_untouched : (number line : ℕ) → c ≡ Refused number line → after ≡ before
  unfolding converted converted_output
  convert_refusal_untouched number line e =
      let said = convert_said converts in
      said.1 ∙ ap (λ (x : Converted). output_by x (text_read text) m g before) (sym said.0 ∙ e)

  -- what was made: the recipe of the cells that the text gives, each once and of the legal areas
  pub convert_made : (size : ℕ) → c ≡ Made size → MadeOf text m g before size after
  unfolding bytes_of
  convert_made size e = go (text_read text) refl
    where
      go : (r : Read) → text_read text ≡ r → MadeOf text m g before size after
      go (refused number line) q = absurd (let z : ◌≡◌ {A = ℕ} 0 1 = let x = sym e ∙ (refuses number line q).0 in cc in omega arith)
      go (gives cells) q =
          ⊎_elim
          (λ (l : length before < length (bytes_of m g cells)).
          absurd (let z : ◌≡◌ {A = ℕ} 0 1 = let x = sym e ∙ (short cells q l).0 in cc in omega arith))
          (λ (l : length (bytes_of m g cells) ≤ length before). whole cells q l)
          (room_or_not cells q)
        where
          whole : (cells : List Cell) → text_read text ≡ gives cells → length (bytes_of m g cells) ≤ length before
              → MadeOf text m g before size after
          whole cells q l =
              let b = makes cells q l in
              let n : size ≡ length (bytes_of m g cells) = let x = sym e ∙ b.0 in cc in
              record {
                cells = cells;
                read = q;
                once = read_once text cells q;
                long = n;
                room = omega (arith, n, l);
                bytes =
                    ap (λ (k : ℕ). take k after) n
                    ∙ ap (take (length (bytes_of m g cells))) b.1
                    ∙ take-append_seam (bytes_of m g cells) (drop (length (bytes_of m g cells)) before);
                stays =
                    ap (λ (k : ℕ). drop k after) n
                    ∙ ap (drop (length (bytes_of m g cells))) b.1
                    ∙ drop-append_seam (bytes_of m g cells) (drop (length (bytes_of m g cells)) before)
                    ∙ ap (λ (k : ℕ). drop k before) (sym n);
              }

  -- what was made is a legal recipe, by the recipe's own definition
  pub convert_legal : (size : ℕ) → c ≡ Made size → m < 256 → g < 256 → (q : Recipe) × (take size after ≡ printed q) × Legal q
  convert_legal size e hm hg =
      let k = convert_made size e in
      (recipe_of m g k.cells, k.bytes, made_legal m g k.cells hm hg k.once)

  -- a text gives no other cells than those
  pub same_cells : (size : ℕ) (k : MadeOf text m g before size after) (cells : List Cell) → text_read text ≡ gives cells → k.cells ≡ cells
  same_cells size k cells e = let x = sym k.read ∙ e in cc

  -- printed cells of the legal areas, each given once, are read back: as runs of up to 255 bytes, and one by one
  pub convert_runs_back : (rs : List Run) → Printable [] rs → text ≡ printed_runs rs → length (bytes_of m g (run_cells rs)) ≤ length before
      → (c ≡ Made (length (bytes_of m g (run_cells rs))))
      × (after ≡ bytes_of m g (run_cells rs) ++ drop (length (bytes_of m g (run_cells rs))) before)
  convert_runs_back rs k e = makes (run_cells rs) (ap text_read e ∙ runs_read_back rs k)

  pub convert_cells_back : (cells : List Cell) → EachOnce [] cells → text ≡ printed_runs (singly cells)
      → length (bytes_of m g cells) ≤ length before
      → (c ≡ Made (length (bytes_of m g cells))) × (after ≡ bytes_of m g cells ++ drop (length (bytes_of m g cells)) before)
  convert_cells_back cells k e = makes cells (ap text_read e ∙ cells_read_back cells k)
