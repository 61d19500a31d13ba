use Rattle.compiler_expressions.proofs.SoundLemmas.{sound-written}
use Rattle.compiler_expressions.proofs.site.Site.write_expression.Goals as goal

pub write_one-requires : goal.write_one-requires
write_one-requires g c =
    sound-written c.args.self.now c.requires.site c.args.depth c.args.integers.now c.args.expression.now c.requires.sound c.requires.room
