use Rattle.std.proofs.Common.{◌∙◌, sym, ap, arith, rules}
use Rattle.clap.specs.Words.{found_of, rows_of}
use Rattle.tool_cli.specs.Words.{to_run, to_test, to_shell, to_scan, to_explain}
use Rattle.tool_cli.specs.declared.words.Request.TheVariants as request
use Rattle.tool_cli.proofs.ReadLemmas.{request_named, run_left, IsNoOther}
use Rattle.tool_cli.proofs.words.request_in.Goals as goal

pub form_in-requires : goal.form_in-requires
form_in-requires c =
    let read = request_named c.requires.0 to_test c.requires.1 (rows_of (found_of c.args.matches.now)) c.args.name.now c.requires.2 c.in-test.is c.requires.3 in
    (read.0, read.2)

pub returns-in-test : goal.returns-in-test
returns-in-test c = λ which r named is.
    let read = request_named which to_test r (rows_of (found_of c.args.matches.now)) c.args.name.now named c.in-test.is is in
    ap request.Test (c.form_in.ensures read.0 read.2) ∙ sym read.1

pub returns-in_default : goal.returns-in_default
returns-in_default c = λ which r named is.
    let other : IsNoOther c.args.name.now = search rules in
    let read = run_left which r (rows_of (found_of c.args.matches.now)) c.args.name.now named other is in
    ap request.Run (c.form_in-in_default.ensures read.0 read.2) ∙ sym read.1

pub scan_options-requires : goal.scan_options-requires
scan_options-requires c =
    let read = request_named c.requires.0 to_scan c.requires.1 (rows_of (found_of c.args.matches.now)) c.args.name.now c.requires.2 c.in-scan.is c.requires.3 in
    (read.0, read.2)

pub shell_request-requires : goal.shell_request-requires
shell_request-requires c =
    let read = request_named c.requires.0 to_shell c.requires.1 (rows_of (found_of c.args.matches.now)) c.args.name.now c.requires.2 c.in-shell.is c.requires.3 in
    (read.0, read.2)

pub returns-in-shell : goal.returns-in-shell
returns-in-shell c = λ which r named is.
    let read = request_named which to_shell r (rows_of (found_of c.args.matches.now)) c.args.name.now named c.in-shell.is is in
    c.shell_request.ensures read.0 read.2 ∙ sym read.1

pub returns-in-scan : goal.returns-in-scan
returns-in-scan c = λ which r named is.
    let read = request_named which to_scan r (rows_of (found_of c.args.matches.now)) c.args.name.now named c.in-scan.is is in
    ap request.Scan (c.scan_options.ensures read.0 read.2) ∙ sym read.1

pub returns-in-explain : goal.returns-in-explain
returns-in-explain c = λ which r named is.
    let read = request_named which to_explain r (rows_of (found_of c.args.matches.now)) c.args.name.now named c.in-explain.is is in
    ap request.Explain (c.number.ensures 65535 read.0 (omega arith) read.2).0 ∙ sym read.1
