use Rattle.std.proofs.Common.{sym, ap, ◌∙◌}
use Rattle.std.specs.Prelude.{nat_eq}
use Rattle.std.proofs.lemmas.Bool.{eqb-true}
use Rattle.term_operand.specs.Order.{is_same}
use Rattle.term_core.specs.KeyHash.{key_hash}
use Rattle.part_core.proofs.KeyLemmas.{by_test, same_is}
use Rattle.part_engine.proofs.hashed.HashedRow.is_of.Goals as goal

pub returns-else-self-hash : goal.returns-else-self-hash
returns-else-self-hash g c =
    by_test (is_same c.args.key.now c.args.self.now.0) _
    (λ holds. absurd (c.if-self-hash.false (c.self.invariant ∙ ap key_hash (ap (λ r. r.0) c.self.view_is ∙ sym (same_is c.args.key.now c.args.self.now.0 holds)) ∙ sym c.requires)))
    (λ fails. by_test (nat_eq c.self.inside.hash c.args.hash) _ (λ same. absurd (c.if-self-hash.false (eqb-true c.self.inside.hash c.args.hash same))) (λ apart. apart ∙ sym fails))
