use Rattle.std.proofs.Common.{ℕ, ◌∙◌, ◌++◌, List, sym, ap, subst}
use Rattle.std.proofs.lemmas.List.{append-nil, append_assoc}
use Rattle.ets.specs.Datum.{Datum}
use Rattle.ets.specs.Shows.{home_of}
use Rattle.ets.specs.Walks.{Leaves}
use Rattle.ets.specs.declared.walk.Query.{Query}
use Rattle.example.proofs.local.answers_after.Goals as goal

pub loop-piece-init : goal.loop-piece-init
loop-piece-init c = λ q limit due t at leaves. (due, sym (ap (λ (xs : List Datum). xs ++ due) c.new-answers.ensures.items), at, leaves)

pub loop-piece-preserved : goal.loop-piece-preserved
loop-piece-preserved c = λ q limit due t at leaves.
    let before = c.loop-piece.invariant q limit due t at leaves in
    let answers = c.loop-piece.answers.items in
    let left = subst (Leaves (home_of c.loop-piece.table) q limit before.0 t) c.in-Piece.is before.3 in
    let y = c.select_more.new.self in
    let walk = c.in-Piece.walk in
    let more = (c.in_ok-step-in-Piece.ensures.done left.2.2 t before.2) in
    let later = subst (λ (x : Query _). Leaves (home_of y) x limit left.0 t c.in_ok-step-in-Piece.step) left.2.0
    (subst (λ (n : ℕ). Leaves (home_of y) walk.query n left.0 t c.in_ok-step-in-Piece.step) left.2.1
    (subst (λ (ds : List Datum). Leaves (home_of y) walk.query walk.limit ds t c.in_ok-step-in-Piece.step) left.2.3 more.0.1)) in (
      left.0,
      before.1 ∙ ap (λ (xs : List Datum). answers ++ xs) left.1 ∙ sym (append_assoc answers c.in-Piece.piece.items left.0)
          ∙ ap (λ (xs : List Datum). xs ++ left.0) (sym c.in_ok-append-in-Piece.ensures.items),
      more.1,
      later,
    )

pub returns-in-End : goal.returns-in-End
returns-in-End c = λ q limit due t at leaves.
    let before = c.loop-piece.invariant q limit due t at leaves in
    let over = subst (Leaves (home_of c.loop-piece.table) q limit before.0 t) c.in-End.is before.3 in
    (sym (before.1 ∙ ap (λ (xs : List Datum). c.loop-piece.answers.items ++ xs) over.0 ∙ append-nil c.loop-piece.answers.items), before.2)
