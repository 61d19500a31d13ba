use Rattle.judge_sessions.proofs.walking.following_key.Goals as goal

pub next-requires : goal.next-requires
next-requires g c = c.requires
