use Rattle.std.proofs.Common.{◌≡◌, ◌∙◌, ap, length, rules}
use Rattle.std.proofs.lemmas.Result.{err_from_is_err_and}
use Rattle.tool_script.proofs.PromptLemmas.{read_fault}
use Rattle.tool_script.specs.declared.line.Within.TheVariants as within
use Rattle.tool_script.specs.Line.{within_end}
use Rattle.tool_script.proofs.LineLemmas.{begun_front}
use Rattle.tool_script.proofs.prompt.answer_next.Goals as goal

pub returns-in_err-progress-clause-failed : goal.returns-in_err-progress-clause-failed
returns-in_err-progress-clause-failed g c =
    let back = err_from_is_err_and c.from_residual.result c.from_residual.ensures.1 in
    rw (back.1, back.2) (read_fault c.in_err-progress.field-0.0 c.in_err-progress.ensures.failed)

pub answer_taken-requires-clause-within : goal.answer_taken-requires-clause-within
answer_taken-requires-clause-within g c =
    let size : c.len-start.result ≡ length c.args.begun.now.items = search rules in
    let grown = c.in_ok-progress.ensures.ok.gained in
    let now : c.as_slice.result.now ≡ c.take_line.new.bytes.items = search rules in
    c.requires.within ∙ ap (within_end within.Nothing) (begun_front c.args.begun.now.items _ _ c.len-start.result size (now ∙ grown))

pub keep-requires-clause-within : goal.keep-requires-clause-within
keep-requires-clause-within g c =
    let size : c.len-start.result ≡ length c.args.begun.now.items = search rules in
    let grown = c.in_ok-progress.ensures.ok.gained in
    c.requires.within ∙ ap (within_end within.Nothing) (begun_front c.args.begun.now.items _ _ c.len-start.result size grown)
