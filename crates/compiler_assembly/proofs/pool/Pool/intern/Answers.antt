use Rattle.std.proofs.Common.{sym, ◌∙◌, inl, inr, arith}
use Rattle.std.proofs.lemmas.Result.{IfOk-weaker, IfErr-weaker}
use Rattle.compiler_assembly.proofs.PoolLemmas.{found_terms, place_number, place_there, number_later, added, added_terms, with_longer}
use Rattle.compiler_assembly.proofs.pool.Pool.intern.Goals as goal

pub add-requires : goal.add-requires
add-requires g c = sym c.number.ensures ∙ c.in_default.is

pub returns-in-Some-clause-terms : goal.returns-in-Some-clause-terms
returns-in-Some-clause-terms g c =
    found_terms c.args.self.now c.args.term c.in-Some.number (sym c.in-Some.is ∙ c.number.ensures)

pub returns-in-Some-clause-number : goal.returns-in-Some-clause-number
returns-in-Some-clause-number g c =
    sym (place_number c.args.self.now c.args.term c.in-Some.number (sym c.number.ensures ∙ c.in-Some.is))

pub returns-in-Some-clause-there : goal.returns-in-Some-clause-there
returns-in-Some-clause-there g c =
    place_there c.args.self.now c.args.term c.in-Some.number (sym c.number.ensures ∙ c.in-Some.is)

pub returns-in-Some-clause-later : goal.returns-in-Some-clause-later
returns-in-Some-clause-later g c =
    λ all. number_later c.args.self.now all c.args.term c.in-Some.number (sym c.number.ensures ∙ c.in-Some.is)

pub returns-clause-terms : goal.returns-clause-terms
returns-clause-terms g c =
    added_terms c.args.self.now c.add.new.self c.args.term c.add.result
    (added c.args.self.now c.add.new.self c.args.term c.add.result (sym c.number.ensures ∙ c.in_default.is) c.add.ensures.terms c.add.ensures.number)

pub returns-clause-number : goal.returns-clause-number
returns-clause-number g c =
    IfOk-weaker c.add.result _ _ (λ number last. sym (place_number c.add.new.self c.args.term number last.place))
    (added c.args.self.now c.add.new.self c.args.term c.add.result (sym c.number.ensures ∙ c.in_default.is) c.add.ensures.terms c.add.ensures.number)

pub returns-clause-there : goal.returns-clause-there
returns-clause-there g c =
    IfOk-weaker c.add.result _ _ (λ number last. place_there c.add.new.self c.args.term number last.place)
    (added c.args.self.now c.add.new.self c.args.term c.add.result (sym c.number.ensures ∙ c.in_default.is) c.add.ensures.terms c.add.ensures.number)

pub returns-clause-later : goal.returns-clause-later
returns-clause-later g c =
    IfOk-weaker c.add.result _ _ (λ number last all. number_later c.add.new.self all c.args.term number last.place)
    (added c.args.self.now c.add.new.self c.args.term c.add.result (sym c.number.ensures ∙ c.in_default.is) c.add.ensures.terms c.add.ensures.number)

pub returns-clause-refused : goal.returns-clause-refused
returns-clause-refused g c =
    let longer = with_longer c.args.self.now c.args.term (sym c.number.ensures ∙ c.in_default.is) in
    IfErr-weaker c.add.result _ _
    (λ fault refused. elim refused [ inl memory ↦ inl memory | inr limit ↦ inr (limit.0, omega (arith, longer, limit.1)) ])
    c.add.ensures.refused
