use Rattle.code_writer.proofs.FileLemmas as file
use Rattle.code_writer.proofs.laws.one_code.Goals as goal

pub returns : goal.returns
returns c = file.one_code
