use Rattle.std.proofs.Common.{◌≡◌, ◌++◌, flat_map, refl, sym, subst}
use Rattle.term_text.specs.Text.{Spells}
use Rattle.tool_io.specs.Lines.{line}
use Rattle.tool_script.specs.Engine.{ArePutFirst}
use Rattle.tool_script.proofs.EngineLemmas.{first_replies, unread}
use Rattle.tool_script.proofs.engine.Engine.obey.Goals as goal

pub returns-in-Ok-put_all-clause-ok : goal.returns-in-Ok-put_all-clause-ok
returns-in-Ok-put_all-clause-ok g c = λ st has.
    let spells = subst (Spells c.args.text.now) (sym c.as_slice.ensures.value) c.in-Ok.ensures.ok in
    let put = c.in-Ok-put_all.ensures.ok st has in
    (c.as_slice.result.now, put.0, put.1, spells, put.2, put.3, subst (λ l. c.put_all.new.lines.items ≡ l ++ flat_map line put.0) c.clear.ensures.items put.4)

pub returns-clause-halted : goal.returns-clause-halted
returns-clause-halted g c =
    let spells = subst (Spells c.args.text.now) (sym c.as_slice.ensures.value) c.in-Ok.ensures.ok in
    let put = subst (λ l. ArePutFirst c.args.self.now.script c.put_all.new.script c.as_slice.result.now l c.put_all.new.lines.items) c.clear.ensures.items c.in-Err-put_all.ensures.err in
    (c.new.ensures.state, first_replies c.args.self.now.script c.put_all.new.script c.args.text.now c.as_slice.result.now c.put_all.new.lines.items spells put)

pub returns-in-Err-clause-halted : goal.returns-in-Err-clause-halted
returns-in-Err-clause-halted g c =
    (unread c.args.text.now c.in-Err.fault c.in-Err.ensures.only c.in-Err.ensures.cause (λ at. (λ e. (c.in-Err.ensures.bad_utf8 at).0 (cc), λ v. let bad = (c.in-Err.ensures.bad_utf8 at).1 v in cc)), refl)
