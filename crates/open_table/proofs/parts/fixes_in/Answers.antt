use Rattle.std.proofs.Common.{ℕ, ◌≡◌, ◌<◌, Some, slice_get, length, refl, subst, sym, arith}
use Rattle.std.proofs.Props.{props}
use Rattle.std.proofs.Math.Logic.{∥∥₁_elim}
use Rattle.std.proofs.lemmas.Option.{slice_get_read}
use Rattle.part_core.specs.declared.settings.Settings.{Settings}
use Rattle.tables.specs.Options.{settings_of}
use Rattle.open_table.proofs.PartLemmas.{settings_there}
use Rattle.open_table.proofs.parts.fixes_in.Goals as goal

pub fixes-requires : goal.fixes-requires
fixes-requires g c =
    let t = c.args.table.now in
    let inside : c.from.result < length t.parts.items = omega (arith, c.from.ensures, c.requires.part, t.count) in
    let there : slice_get t.parts.items c.from.result ≡ Some c.index.result.now = slice_get_read t.parts.items (length t.parts.items) c.from.result c.index.result.now refl inside c.index.ensures in
    ∥∥₁_elim t.same (hlevel props) (λ all. subst (λ (o : Settings). c.args.session < o.sessions) (sym (settings_there g.P.Part.settings (settings_of t.options) t.parts.items c.from.result c.index.result.now there all)) c.requires.session)

pub returns : goal.returns
returns g c = λ v sees.
    let t = c.args.table.now in
    let inside : c.from.result < length t.parts.items = omega (arith, c.from.ensures, c.requires.part, t.count) in
    let there : slice_get t.parts.items c.from.result ≡ Some c.index.result.now = slice_get_read t.parts.items (length t.parts.items) c.from.result c.index.result.now refl inside c.index.ensures in
    c.fixes.ensures (v c.args.part) (subst (λ (k : ℕ). g.P.Part.is_after c.index.result.now (v k)) c.from.ensures (sees c.from.result c.index.result.now there))
