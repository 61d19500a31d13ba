use Rattle.std.proofs.lemmas.Result.{err_from_is_err_and, IfErr-weaker}
use Rattle.std.proofs.Common.{◌≡◌, ◌<◌, refl, sym, subst, rules}
use Rattle.std.specs.Prelude.{IfSome, IfErr}
use Rattle.mcode.specs.Frame.{frame_of}
use Rattle.mcode.specs.declared.fault.Fault.TheVariants.{Memory}
use Rattle.code_writer.specs.Format.{Begins}
use Rattle.code_writer.specs.Formats.{u16_format}
use Rattle.code_file.proofs.RowLemmas.{not_so}
use Rattle.code_file.proofs.BodyLemmas.{frame_short, frame_rest_stop, frame_unordered, next_begins, frame_memory}
use Rattle.code_file.proofs.body.read_frame.Goals as goal

pub returns-in_err-pc-clause-refused : goal.returns-in_err-pc-clause-refused
returns-in_err-pc-clause-refused g c =
    let p = err_from_is_err_and c.from_residual.result c.from_residual.ensures.1 in
    rw (p.1, p.2) (frame_short c.args.builder.now.frames c.args.bytes.now _ c.in_err-pc.ensures)

pub returns-then-not-is_above-clause-refused : goal.returns-then-not-is_above-clause-refused
returns-then-not-is_above-clause-refused g c = frame_unordered c.args.builder.now.frames c.args.last c.args.bytes.now c.in_ok-pc.pc c.in_ok-pc.rest.now c.requires.last c.requires.rise c.in_ok-pc.ensures (not_so c.if-not-is_above.ensures.1)

pub returns-in_err-frame-clause-refused : goal.returns-in_err-frame-clause-refused
returns-in_err-frame-clause-refused g c =
    let p = err_from_is_err_and c.from_residual-in_err-frame.result c.from_residual-in_err-frame.ensures.1 in
    rw (p.1, p.2) (frame_rest_stop c.args.builder.now.frames c.args.last c.args.bytes.now c.in_ok-pc.pc c.in_ok-pc.rest.now _ c.requires.last c.in_ok-pc.ensures (c.if-not-is_above.ensures.0 refl) c.in_err-frame.ensures.rest)

pub map_err-requires : goal.map_err-requires
map_err-requires g c =
    let f = frame_of c.in_ok-frame.frame in
    let at = subst (λ n. Begins u16_format c.args.bytes.now n c.in_ok-pc.rest.now) (sym c.in_ok-frame.ensures.pc) c.in_ok-pc.ensures in
    let above = subst (λ n. IfSome c.args.last (λ l. l < n)) (sym c.in_ok-frame.ensures.pc) (c.if-not-is_above.ensures.0 refl) in
    let begun = next_begins c.args.builder.now.frames c.args.last c.args.bytes.now f c.in_ok-pc.rest.now c.in_ok-frame.rest.now c.requires.last c.requires.rise above at c.in_ok-frame.ensures.rest in
    let alone : IfErr c.frame.result (λ refused. refused.fault ≡ Memory) =
    IfErr-weaker c.frame.result _ _ (λ refused k. frame_memory c.args.builder.now.frames c.args.bytes.now f c.in_ok-frame.rest.now refused.fault c.requires.few begun k.1) c.frame.ensures.refused in
    search (rules, alone)

pub returns-clause-ok : goal.returns-clause-ok
returns-clause-ok g c =
    let f = frame_of c.in_ok-frame.frame in
    let at = subst (λ n. Begins u16_format c.args.bytes.now n c.in_ok-pc.rest.now) (sym c.in_ok-frame.ensures.pc) c.in_ok-pc.ensures in
    let above = subst (λ n. IfSome c.args.last (λ l. l < n)) (sym c.in_ok-frame.ensures.pc) (c.if-not-is_above.ensures.0 refl) in
    let begun = next_begins c.args.builder.now.frames c.args.last c.args.bytes.now f c.in_ok-pc.rest.now c.in_ok-frame.rest.now c.requires.last c.requires.rise above at c.in_ok-frame.ensures.rest in
    record { frame = f; begins = begun; new_is = search rules; pc_is = c.in_ok-frame.ensures.pc }
