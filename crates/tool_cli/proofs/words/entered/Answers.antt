use Rattle.std.proofs.Common.{ap₂}
use Rattle.tool_cli.proofs.ReadLemmas.{entered_of, none_entered}
use Rattle.tool_cli.proofs.words.entered.Goals as goal

pub request_in-requires : goal.request_in-requires
request_in-requires c =
    let named = rw c.in-Some.is at c.subcommand.ensures.name in
    let found = rw c.in-Some.is at c.subcommand.ensures.rows in
    let e = entered_of c.args.matches.now c.requires.0 _ _ c.requires.1 named found in
    (e.which, c.requires.0.request, e.named, e.read.request)

pub detail_in-requires : goal.detail_in-requires
detail_in-requires c =
    let named = rw c.in-Some.is at c.subcommand.ensures.name in
    let found = rw c.in-Some.is at c.subcommand.ensures.rows in
    let e = entered_of c.args.matches.now c.requires.0 _ _ c.requires.1 named found in
    (c.requires.0.detail, e.read.detail)

pub returns : goal.returns
returns c = λ i is.
    let named = rw c.in-Some.is at c.subcommand.ensures.name in
    let found = rw c.in-Some.is at c.subcommand.ensures.rows in
    let e = entered_of c.args.matches.now i _ _ is named found in
    ap₂ (λ r d. record { request = r; detail = d }) (c.request_in.ensures e.which i.request e.named e.read.request) (c.detail_in.ensures i.detail e.read.detail)

pub unreachable-requires : goal.unreachable-requires
unreachable-requires c =
    none_entered c.args.matches.now c.requires.0 c.requires.1 (rw c.in-None.is at c.subcommand.ensures.name)
