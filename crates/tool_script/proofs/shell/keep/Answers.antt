use Rattle.std.proofs.Common.{◌≡◌, rules}
use Rattle.tool_script.proofs.LineLemmas.{end_kept}
use Rattle.tool_script.proofs.shell.keep.Goals as goal

pub returns-then-is_kept-clause-within : goal.returns-then-is_kept-clause-within
returns-then-is_kept-clause-within g c =
    let same : c.deref.result.now ≡ c.args.begun.now.items = search rules in
    let line_end = rw same at c.end.ensures in
    end_kept c.args.begun.now.items c.args.start c.args.within c.end.result c.requires.within line_end
