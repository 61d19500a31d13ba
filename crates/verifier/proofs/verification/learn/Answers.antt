use Rattle.mcode.proofs.BodyLemmas.{constants_of_body}
use Rattle.verifier.proofs.VerifiedLemmas.{known_more}
use Rattle.verifier.proofs.verification.learn.Goals as goal

pub find_out-requires : goal.find_out-requires
find_out-requires g c = rw (c.of.ensures, constants_of_body c.args.code.now c.args.number) c.requires.counts

pub returns-clause-known : goal.returns-clause-known
returns-clause-known g c =
    let found = rw (c.of.ensures, c.as_slice.ensures.value, c.as_slice-2.ensures.value) at c.in_ok-found.ensures.typed in
    rw (c.from.ensures, c.from-2.ensures) (known_more c.args.code.now c.args.number c.args.known.now.depths.items c.args.known.now.budgets.items c.in_ok-found.found.table c.in_ok-found.found.depth c.in_ok-found.found.budget c.requires.inside c.requires.known found)
