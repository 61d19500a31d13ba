use Rattle.std.proofs.lemmas.Result.{err_from_is_err_and}
use Rattle.std.proofs.Common.{◌≡◌, length, rules}
use Rattle.std.specs.Prelude.{IsUtf8}
use Rattle.code_file.specs.declared.stop.FileCause.TheVariants.{NotCanonical}
use Rattle.code_file.specs.declared.stop.FileStop.TheVariants.{At}
use Rattle.code_file.proofs.LeafLemmas.{text_short_size, text_short, text_no_utf8}
use Rattle.code_file.proofs.constant.read_text.Goals as goal

pub returns-in_err-count : goal.returns-in_err-count
returns-in_err-count c =
    let p = err_from_is_err_and c.from_residual.result c.from_residual.ensures.1 in
    rw (p.1, p.2) (text_short_size c.args.bytes.now _ c.in_err-count.ensures)

pub returns-in_err-text : goal.returns-in_err-text
returns-in_err-text c =
    let p = err_from_is_err_and c.from_residual-in_err-text.result c.from_residual-in_err-text.ensures.1 in
    rw (p.1, p.2) (text_short c.args.bytes.now c.in_ok-count.count c.in_ok-count.behind.now _ c.in_ok-count.ensures (rw c.from.ensures at c.in_err-text.ensures))

pub returns-in_err-text-2 : goal.returns-in_err-text-2
returns-in_err-text-2 c =
    let p = err_from_is_err_and c.from_residual-in_err-text-2.result c.from_residual-in_err-text-2.ensures.1 in
    let stop : c.in_err-text-2.field-0.0 ≡ At NotCanonical (length c.in_ok-count.behind.now) = search rules in
    let none : ¬ IsUtf8 c.in_ok-text.text.now = search rules in
    rw (p.1, p.2, stop) (text_no_utf8 c.args.bytes.now c.in_ok-count.count c.in_ok-count.behind.now c.in_ok-text.text.now c.in_ok-text.rest.now c.in_ok-count.ensures (rw c.from.ensures at c.in_ok-text.ensures) none)
