use Rattle.std.proofs.Common.{refl, ap, ◌∙◌}
use Rattle.std.specs.Prelude.{Err, if◌then◌else◌, unwrap_or}
use Rattle.std.proofs.lemmas.Result.{err_from_is_err_and}
use Rattle.term_core.specs.Datum.Datum.{nil}
use Rattle.part_core.specs.Acts.Act.{InsertNew}
use Rattle.part_rows.specs.Shown.{Shown, shown_with, state_of}
use Rattle.part_engine.proofs.LeadLemmas.{insert_new_says, insert_new_refused, put_refused, sound}
use Rattle.part_engine.proofs.stored.StoredPart.insert_new.Goals as goal

pub returns-in_err-fresh-clause-leads : goal.returns-in_err-fresh-clause-leads
returns-in_err-fresh-clause-leads g c = λ n.
    let t = unwrap_or c.args.object.now nil in
    let back = err_from_is_err_and c.from_residual.result c.from_residual.ensures.1 in
    put_refused g.R.Rows.shows c.args.self.now _ n (InsertNew t) t c.in_err-fresh.field-0.0 c.from_residual.result (λ s no. insert_new_refused c.args.self.now.settings s n t no) (λ is. c.in_err-fresh.ensures.no_object (ap Err is)) c.in_err-fresh.ensures.refused refl refl (back.1 ∙ ap Err back.2)

pub returns-clause-leads : goal.returns-clause-leads
returns-clause-leads g c = λ n w keeps state.
    let put = c.in_ok-fresh.ensures.put w keeps (sound c.args.self.now.settings w c.args.self.now.fixes.items c.args.self.now.base state) in
    let v : Shown = if c.in_ok-fresh.fresh then shown_with c.args.self.now.settings (unwrap_or c.args.object.now nil) w else w in
    let s = insert_new_says c.args.self.now.settings w c.args.self.now.fixes.items c.args.self.now.base n (unwrap_or c.args.object.now nil) c.in_ok-fresh.fresh state c.in_ok-fresh.ensures.object put.0 in
    (s.0, (v, put.1, ap (λ base. state_of v c.args.self.now.fixes.items base) (c.base_now-self.ensures.base v put.1.there) ∙ s.1))
