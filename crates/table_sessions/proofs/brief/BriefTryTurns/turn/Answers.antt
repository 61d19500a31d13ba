use Rattle.std.proofs.Common.{◌∙◌, ◌++◌, [], refl, sym}
use Rattle.std.proofs.lemmas.List.{append-nil}
use Rattle.tables.specs.SessionFacts.{session_legal}
use Rattle.table_sessions.proofs.brief.BriefTryTurns.turn.Goals as goal

pub returns-then-self-eq0-clause-entry : goal.returns-then-self-eq0-clause-entry
returns-then-self-eq0-clause-entry g c = λ v sees.
    let s = c.args.self.now.session.now in
    let t = s.table.value in (
      v,
      sees,
      record {
        here = record {
          between = [];
          others = record { others = refl; alone = λ alone. refl };
          grown = sym (append-nil (v c.args.part ++ []) ∙ append-nil (v c.args.part));
          legal = session_legal t.options t.gates.items s.seat.number s.seat.passes.items s.opened s.seat.legal v sees c.args.part c.requires.part;
        };
        rest = λ k apart. refl;
      },
    )

pub returns-clause-entry : goal.returns-clause-entry
returns-clause-entry g c = λ v sees. c.turn-answer.ensures.entry c.args.self.now.session.ghost_name v sees
