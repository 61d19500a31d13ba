use Rattle.std.proofs.lemmas.Result.{err_from_is_err_and}
use Rattle.std.proofs.Common.{◌≡◌, ◌-◌, arith, refl, length, rules}
use Rattle.std.specs.Prelude.{Ok, IsErrAnd}
use Rattle.code_file.specs.Reads.{limit_stop}
use Rattle.code_file.proofs.LeafLemmas.{text_least}
use Rattle.code_file.proofs.LevelLemmas.{text_stop, atom_begins, atom_refused}
use Rattle.code_file.proofs.constant.read_atom.Goals as goal

pub returns-in_err-text : goal.returns-in_err-text
returns-in_err-text g c =
    let p = err_from_is_err_and c.from_residual.result c.from_residual.ensures.1 in
    rw (p.1, p.2) (text_stop (c.args.room - 1) c.args.room c.args.bytes.now c.args.rest.now _ (omega arith) c.requires.tag c.in_err-text.ensures)

pub overflow_sub-left : goal.overflow_sub-left
overflow_sub-left g c = text_least c.args.rest.now c.in_ok-text.text.now c.in_ok-text.behind.now c.in_ok-text.ensures

pub returns-in_err-atom : goal.returns-in_err-atom
returns-in_err-atom g c =
    let p = err_from_is_err_and c.from_residual-in_err-atom.result c.from_residual-in_err-atom.ensures.1 in
    let told : IsErrAnd c.atom_of_text.result (λ fault. c.in_err-atom.field-0.0 ≡ limit_stop fault (length c.args.rest.now - 2)) = search rules in
    let f = err_from_is_err_and c.atom_of_text.result told in
    let refused = rw f.1 at c.atom_of_text.ensures.refused in
    rw (p.1, p.2, f.2) (atom_refused (c.args.room - 1) c.args.room c.args.bytes.now c.args.rest.now c.in_ok-text.text.now c.in_ok-text.behind.now f.0 (length c.args.rest.now - 2) (omega arith) c.requires.tag c.in_ok-text.ensures refused refl)

pub returns : goal.returns
returns g c =
    let is : c.atom_of_text.result ≡ Ok c.in_ok-atom.atom = search rules in
    let made = rw is at c.atom_of_text.ensures.ok in
    rw made (atom_begins c.args.room c.args.bytes.now c.args.rest.now c.in_ok-text.text.now c.in_ok-text.behind.now c.requires.room c.requires.tag c.in_ok-text.ensures (rw made at c.depth-depth.ensures.within))
