use Rattle.cutterash.proofs.ReplyLemmas.{loads}
use Rattle.cutterash.proofs.cutterash_load.Goals as goal

pub returns-in-Ok : goal.returns-in-Ok
returns-in-Ok c = loads c.args.file.now c.in-Ok.code c.open.new.filter c.open.result c.in-Ok.ensures.ok c.open.ensures
