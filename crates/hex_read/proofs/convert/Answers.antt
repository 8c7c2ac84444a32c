-- `hex_read::convert` meets its contract, by what reading the text and putting the recipe came to.
-- Assumes nothing.
use mathlib.Core.Path.{◌∙◌, ap}
use Rattle.std.proofs.lemmas.Result.{err_from_is_err_and}
use Rattle.hex_rules.specs.Refusing.{in_numbers}
use Rattle.hex_read.proofs.Converts.{text_refused, put_answer}
use Rattle.hex_read.proofs.convert.Goals as goal

pub returns-in_err-read_text : goal.returns-in_err-read_text
returns-in_err-read_text c =
    let a = c.args in
    let p = err_from_is_err_and c.from_residual.result c.from_residual.ensures.1 in
    rw (p.1, p.2) (text_refused a.text.now a.numbers.module.0 a.numbers.group.0 a.output.now _ _ c.in_err-read_text.ensures)

pub returns : goal.returns
returns c =
    let a = c.args in
    let r =
    put_answer a.text.now a.numbers.module.0 a.numbers.group.0 a.output.now _ c.in_ok-read_text.ensures c.put.result _ c.put.ensures.0
    c.put.ensures.1 in
    (ap in_numbers c.ok_or.ensures.value ∙ r.0, r.1)
