use Rattle.std.proofs.Common.{arith, refl}
use Rattle.tool_cli.proofs.words.scan_options.Goals as goal

pub overflow_cast-result : goal.overflow_cast-result
overflow_cast-result c =
    let is = c.number-2.ensures 64 c.requires.0.parts (omega arith) c.requires.1.parts in
    rw is.0 (omega (arith, is.1))

pub overflow_cast-result-2 : goal.overflow_cast-result-2
overflow_cast-result-2 c =
    let is = c.number-3.ensures 16 c.requires.0.workers (omega arith) c.requires.1.workers in
    rw is.0 (omega (arith, is.1))

pub returns : goal.returns
returns c = λ o read.
    let kind = c.kind_in.ensures o.kind read.kind in
    let keypos = c.number.ensures 65535 o.keypos (omega arith) read.keypos in
    let parts = c.number-2.ensures 64 o.parts (omega arith) read.parts in
    let workers = c.number-3.ensures 16 o.workers (omega arith) read.workers in
    rw (kind, keypos.0, parts.0, workers.0) refl
