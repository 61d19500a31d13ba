use Rattle.mspec_syntax.specs.PatternView.{tail_pattern}
use Rattle.walk_query.proofs.KeyLemmas.{no-key}
use Rattle.walk_query.proofs.keys.key_named.Goals as goal

pub returns-in-List : goal.returns-in-List
returns-in-List g c =
    let is = rw c.in-List.is at c.kind.ensures.value in
    let kept = rw c.in-List.is at c.kind.ensures.kept in
    no-key c.in-List.field-0.items (tail_pattern c.in-List.field-1) c.args.head.now c.args.keypos is kept.0
