use Rattle.code_file.proofs.HeaderLemmas.{magic_begins, magic_short}
use Rattle.code_file.proofs.header.read_magic.Goals as goal

pub returns-then-bytes-lt4-clause-refused : goal.returns-then-bytes-lt4-clause-refused
returns-then-bytes-lt4-clause-refused c =
    let begins = magic_begins c.args.bytes.now c.split_at.result.0.now c.min.result c.starts_with.result c.starts_with.ensures.value c.if-not-starts_with.false c.split_at.ensures.front c.min.ensures c.if-bytes-lt4.true in
    magic_short c.args.bytes.now begins c.if-bytes-lt4.true
