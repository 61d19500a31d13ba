use Rattle.code_writer.proofs.FileLemmas as file
use Rattle.code_writer.proofs.laws.read_back.Goals as goal

pub returns : goal.returns
returns c = file.read_back
