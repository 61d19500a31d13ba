use Rattle.std.proofs.Common.{◌≡◌, length, Ok, refl, arith, rules}
use Rattle.std.specs.Str.{chars}
use Rattle.std.proofs.lemmas.Result.{err_from_is_err_and}
use Rattle.term_text.specs.TokenReading.{quoted_step, quoted_at}
use Rattle.term_text.proofs.Steps.{ends, goes_on, is_done}
use Rattle.term_text.proofs.Tokens.{quoted_shrinks, quoted_step_fails, quoted_step_is, quoted_allowed}
use Rattle.term_text.proofs.token.quoted.Goals as goal

pub returns-in_err-next : goal.returns-in_err-next
returns-in_err-next g c =
    let p = err_from_is_err_and c.from_residual.result c.from_residual.ensures.1 in
    let len : c.len.result ≡ length c.loop-characters.characters.items = omega arith in
    rw (p.1, p.2) (record {
      value = ends (quoted_step c.args.marks) (quoted_shrinks c.args.marks) _ c.loop-characters.characters.items (chars c.loop-characters.rest.now) _
          (quoted_step_fails _ c.args.marks c.loop-characters.characters.items (chars c.loop-characters.rest.now) c.len.result len c.in_err-next.ensures)
          c.loop-characters.invariant.1;
      allowed = tt;
    })

pub returns-in_default : goal.returns-in_default
returns-in_default g c =
    let len : c.len.result ≡ length c.loop-characters.characters.items = omega arith in
    let one = quoted_step_is c.args.marks c.loop-characters.characters.items (chars c.loop-characters.rest.now) c.len.result c.in_ok-next.next (chars c.in_ok-next.after.now) len c.in_ok-next.ensures in
    let all : quoted_at c.args.marks (chars c.args.text.now) ≡ Ok (c.loop-characters.characters.items, (chars c.in_ok-next.after.now)) =
    is_done (quoted_step c.args.marks) (quoted_shrinks c.args.marks) c.loop-characters.characters.items c.loop-characters.characters.items (chars c.loop-characters.rest.now) (chars c.in_ok-next.after.now) _
    (rw c.in_default.is at one) c.loop-characters.invariant.1 in
    record { value = all; allowed = quoted_allowed c.args.marks (chars c.args.text.now) c.loop-characters.characters.items (chars c.in_ok-next.after.now) all }

pub loop-characters-smaller : goal.loop-characters-smaller
loop-characters-smaller g c =
    let len : c.len.result ≡ length c.loop-characters.characters.items = omega arith in
    let one = quoted_step_is c.args.marks c.loop-characters.characters.items (chars c.loop-characters.rest.now) c.len.result c.in_ok-next.next (chars c.in_ok-next.after.now) len c.in_ok-next.ensures in
    let two = rw c.in-Some.is at one in
    (quoted_shrinks c.args.marks).shorter c.loop-characters.characters.items (chars c.loop-characters.rest.now) _ two refl

pub loop-characters-preserved : goal.loop-characters-preserved
loop-characters-preserved g c =
    let len : c.len.result ≡ length c.loop-characters.characters.items = omega arith in
    let one = quoted_step_is c.args.marks c.loop-characters.characters.items (chars c.loop-characters.rest.now) c.len.result c.in_ok-next.next (chars c.in_ok-next.after.now) len c.in_ok-next.ensures in
    let two = rw c.in-Some.is at one in
    (search rules, rw (c.in_ok-push.ensures.items) (goes_on (quoted_step c.args.marks) (quoted_shrinks c.args.marks) c.loop-characters.characters.items _ (chars c.loop-characters.rest.now) (chars c.in_ok-next.after.now) _ two c.loop-characters.invariant.1))
