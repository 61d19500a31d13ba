use Rattle.tables.proofs.LawLemmas.{inserts_are_seen}
use Rattle.tables.proofs.laws.inserts_are_seen.Goals as goal

pub returns : goal.returns
returns c = λ h t v w x found insert look. inserts_are_seen h t v w x found insert.1 look
