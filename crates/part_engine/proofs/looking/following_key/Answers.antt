use Rattle.std.proofs.Common.{Some, ap, ◌∙◌, take}
use Rattle.part_core.specs.Acts.Cursor.{Behind}
use Rattle.part_engine.proofs.SeenLemmas.{key_next, key_none, last_is}
use Rattle.part_engine.proofs.looking.following_key.Goals as goal

pub returns-then-not-is_stopped : goal.returns-then-not-is_stopped
returns-then-not-is_stopped g c = λ answers wanted is.
    key_none answers wanted c.args.rows.now c.args.reach.rows c.args.reach.left c.is_stopped.result c.requires is c.is_stopped.ensures c.if-not-is_stopped.true

pub returns-in_ok-copy-in-Some : goal.returns-in_ok-copy-in-Some
returns-in_ok-copy-in-Some g c = λ answers wanted is.
    let next = key_next answers wanted c.args.rows.now c.args.reach.rows c.args.reach.left c.is_stopped.result (Some c.in-Some.row.now) c.requires is c.is_stopped.ensures c.if-not-is_stopped.false (last_is (take c.args.reach.rows c.args.rows.now) c.in-Some.row.now c.in-Some.ensures.value) in
    ap (λ k. Some (Behind k)) (c.in_ok-copy-in-Some.ensures ∙ c.key.ensures) ∙ next
