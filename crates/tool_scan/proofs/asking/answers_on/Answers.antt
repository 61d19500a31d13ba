use Rattle.std.proofs.Common.{false, subst, sym}
use Rattle.std.proofs.lemmas.Result.{IfOk-weaker}
use Rattle.walk_query.specs.Plan.{IsPlanOf, plan_at}
use Rattle.walks.specs.Query.{plan_of}
use Rattle.tool_scan.specs.Options.{table_of}
use Rattle.tool_scan.proofs.KindLemmas.{unordered}
use Rattle.tool_scan.proofs.asking.answers_on.Goals as goal

pub returns : goal.returns
returns g c =
    let o = c.args.options in
    let named = c.in_ok-query.query.named in
    IfOk-weaker c.ask.result _ _
    (λ answers h. record {
      program = c.in_ok-query.query.code;
      means = c.in_ok-query.ensures.means;
      plan = plan_of c.in_ok-query.query (table_of c.args.options);
      planned = subst (λ ordered. IsPlanOf o.keypos false c.args.specification.now (plan_at named o.keypos ordered)) (sym (unordered o.kind))
          (c.in_ok-query.ensures.planned false);
      lists = h.0;
      count = h.1;
      each = h.3;
      joined = h.2;
    })
    c.ask.ensures
