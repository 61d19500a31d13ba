use Rattle.std.proofs.Common.{◌≡◌, ◌∙◌, ◌+◌, sym, refl, w64, to_z, of_z, rules}
use Rattle.std.specs.Prelude.{FitsSigned}
use Rattle.std.proofs.lemmas.Int.{to_z-of_z}
use Rattle.tool_script.specs.Script.{number_within, options_with}
use Rattle.tool_script.proofs.OptionLemmas.{unordered_openable, ordered_openable}
use Rattle.tool_script.proofs.ScriptLemmas.{opened_step}
use Rattle.tool_script.proofs.script.Script.open.Goals as goal

pub open-requires-clause-unordered : goal.open-requires-clause-unordered
open-requires-clause-unordered g c =
    unordered_openable g.S.Part.serves c.args.self.now.count c.args.kind (to_z w64 (of_z w64 c.args.keypos)) (to_z w64 (of_z w64 c.args.parts)) (to_z w64 (of_z w64 c.args.sessions)) c.in-Some.options c.requires.unordered (sym c.options_in.ensures ∙ c.in-Some.is)

pub open-requires-clause-ordered : goal.open-requires-clause-ordered
open-requires-clause-ordered g c =
    ordered_openable g.O.Part.serves c.args.self.now.count c.args.kind (to_z w64 (of_z w64 c.args.keypos)) (to_z w64 (of_z w64 c.args.parts)) (to_z w64 (of_z w64 c.args.sessions)) c.in-Some.options c.requires.ordered (sym c.options_in.ensures ∙ c.in-Some.is)

pub returns-clause-answered : goal.returns-clause-answered
returns-clause-answered g c = λ st has.
    let keypos_fits : FitsSigned w64 c.args.keypos = search rules in
    let parts_fit : FitsSigned w64 c.args.parts = search rules in
    let sessions_fit : FitsSigned w64 c.args.sessions = search rules in
    let keypos = sym (to_z-of_z w64 c.args.keypos keypos_fits) in
    let parts = sym (to_z-of_z w64 c.args.parts parts_fit) in
    let sessions = sym (to_z-of_z w64 c.args.sessions sessions_fit) in
    let count = c.args.self.now.count in
    let same : options_with count c.args.kind (number_within 1 65535 c.args.keypos) (number_within 1 64 c.args.parts) (number_within 1 16 c.args.sessions) ≡ c.options_in.result = (λ i. options_with count c.args.kind (number_within 1 65535 (keypos i)) (number_within 1 64 (parts i)) (number_within 1 16 (sessions i))) ∙ sym c.options_in.ensures in
    let more : c.in-Some-checked_add.count ≡ count + 1 = search rules in
    opened_step c.args.self.now _ st c.args.kind c.args.keypos c.args.parts c.args.sessions c.in-Some.options c.in_ok-table.table has (sym (c.is_open.ensures st.current has.current) ∙ c.if-is_open.false) (same ∙ c.in-Some.is) c.in_ok-table.ensures.table c.in_ok-table.ensures.options c.replace.ensures.after more refl
