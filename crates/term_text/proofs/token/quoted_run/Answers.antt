use Rattle.std.proofs.Common.{arith}
use Rattle.std.specs.Str.{chars}
use Rattle.term_text.proofs.QuotedRuns.{cut_run, run_chars, run_is}
use Rattle.term_text.proofs.token.quoted_run.Goals as goal

pub split_at-requires : goal.split_at-requires
split_at-requires c = cut_run c.args.marks.mark c.args.text.now c.plain_count-count.result c.utf8.text c.plain_count-count.ensures

pub returns : goal.returns
returns c = record {
  value = rw c.split_at.ensures.front (run_is c.args.marks c.args.text.now c.plain_count-count.result (chars c.in_ok-rest.rest.now) c.requires.1 c.utf8.text c.plain_count-count.ensures (omega (arith, c.if-count-marks.false)) (rw c.split_at.ensures.back at c.in_ok-rest.ensures));
  text = rw c.split_at.ensures.front (run_chars c.args.marks.mark c.args.text.now c.plain_count-count.result c.plain_count-count.ensures);
}
