use Rattle.std.proofs.Common.{refl, ap, ◌∙◌}
use Rattle.std.specs.Prelude.{Err, unwrap_or}
use Rattle.std.proofs.lemmas.Result.{err_from_is_err_and}
use Rattle.term_core.specs.Datum.Datum.{nil}
use Rattle.part_core.specs.Acts.Act.{Insert}
use Rattle.part_rows.specs.Shown.{shown_with, state_of}
use Rattle.part_engine.proofs.LeadLemmas.{insert_says, insert_refused, put_refused, sound}
use Rattle.part_engine.proofs.stored.StoredPart.insert.Goals as goal

pub returns-in_err-put_counted-clause-leads : goal.returns-in_err-put_counted-clause-leads
returns-in_err-put_counted-clause-leads g c = λ n.
    let t = unwrap_or c.args.object.now nil in
    let back = err_from_is_err_and c.from_residual.result c.from_residual.ensures.1 in
    put_refused g.R.Rows.shows c.args.self.now _ n (Insert t) t c.in_err-put_counted.field-0.0 c.from_residual.result (λ s no. insert_refused c.args.self.now.settings s n t no) (λ is. c.in_err-put_counted.ensures.no_object (ap Err is)) c.in_err-put_counted.ensures.refused refl refl (back.1 ∙ ap Err back.2)

pub returns-clause-leads : goal.returns-clause-leads
returns-clause-leads g c = λ n w keeps state.
    let put = c.in_ok-put_counted.ensures.put w keeps (sound c.args.self.now.settings w c.args.self.now.fixes.items c.args.self.now.base state) in
    let s = insert_says c.args.self.now.settings w c.args.self.now.fixes.items c.args.self.now.base n (unwrap_or c.args.object.now nil) state c.in_ok-put_counted.ensures.object in
    let written = put.1 in
    let now = rw put.0 at written in
    (s.0, (shown_with c.args.self.now.settings (unwrap_or c.args.object.now nil) w, now, ap (λ base. state_of (shown_with c.args.self.now.settings (unwrap_or c.args.object.now nil) w) c.args.self.now.fixes.items base) (c.base_now-self.ensures.base (shown_with c.args.self.now.settings (unwrap_or c.args.object.now nil) w) now.there) ∙ s.1))
