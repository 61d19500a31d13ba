-- A session finds what it has inserted.
use Rattle.std.proofs.Common.{ℕ, ◌≡◌, ◌≢◌, ◌<◌, ◌≤◌, ◌==◌, ◌⊎◌, inl, inr, ◌++◌, List, [], ◌∷◌, append_assoc, fold, refl, ap, sym, subst, ◌∙◌, arith, All, Option, Some}
use Rattle.std.specs.Prelude.{nat_lt}
use Rattle.std.proofs.lemmas.Bool.{eqb-true, eqb-false, ltb-true, ltb-false}
use Rattle.std.specs.List.{Contains, list_any}
use Rattle.std.proofs.lemmas.List.Elements.{All-head, All-tail, Contains-append_right, filter-append}
use Rattle.std.proofs.lemmas.List.Sums.{fold-append}
use Rattle.std.proofs.lemmas.Map.Views.{Contains-from_any}
use Rattle.term_core.specs.Datum.{Datum}
use Rattle.term_operand.specs.Order.{is_same}
use Rattle.part_core.specs.declared.kind.TableKind.{TableKind}
use Rattle.part_core.specs.declared.kind.TableKind.TheVariants as kind
use Rattle.part_core.specs.declared.settings.Settings.{Settings}
use Rattle.part_core.specs.Settings.{key_of, part_of}
use Rattle.part_core.specs.Acts.{Act, Answer, Entry, History}
use Rattle.part_core.specs.Acts.Act.{Insert, Lookup}
use Rattle.part_core.specs.Acts.Answer.{Replied}
use Rattle.part_core.specs.Acts.Said.{Nothing, Objects}
use Rattle.part_core.specs.Rows.{objects_with, objects_at}
use Rattle.part_core.specs.Replies.{reply_of}
use Rattle.part_core.specs.Legal.{state_after}
use Rattle.part_core.specs.Content.{written, content}
use Rattle.part_core.proofs.KeyLemmas.{by_test, same_is, same_from}
use Rattle.part_core.proofs.HistoryLemmas.{content_of}
use Rattle.tables.specs.Options.{settings_of}
use Rattle.part_core.specs.Ops.{entries_of}
use Rattle.tables.specs.Turns.{Home, Views, IsBetween, TurnedAt, TurnedByKey}
use Rattle.tables.specs.Fixing.{SeesMore, TurnedFrom}
use Rattle.tables.specs.Laws.{Leaves, IsSeen}
use Rattle.tables.proofs.TurnLemmas.{turned_right, turned_front}

alone : (t : Datum) → Contains (t ∷ []) t
alone t = (0, omega arith, refl)

-- an object that was inserted is among those of its key
with_there : (k : TableKind) (os : List Datum) (t : Datum) → Contains (objects_with k os t) t
with_there kind.Set os t = alone t
with_there kind.OrderedSet os t = alone t
with_there kind.Bag os t = by_test (list_any (is_same t) os) (Contains (objects_with kind.Bag os t) t)
    (λ there. rw there (Contains-from_any same_is t os there))
    (λ new. rw new (Contains-append_right os (t ∷ []) t (alone t)))
with_there kind.DuplicateBag os t = Contains-append_right os (t ∷ []) t (alone t)

inserted : (o : Settings) (t : Datum) (os : List Datum) → Contains (written o (key_of o t) os (Insert t) (Replied Nothing)) t
inserted o t os = rw (same_from (key_of o t) (key_of o t) refl) (with_there o.kind os t)

-- an object stays among those of its key if each entry leaves it
stays : (o : Settings) (t : Datum) (es : History) (os : List Datum) → All (Leaves o t) es → Contains os t
    → Contains (fold (λ os (e : Entry). written o (key_of o t) os e.act e.answer) os es) t
stays o t [] os leave there = there
stays o t (e ∷ es) os leave there =
    stays o t es (written o (key_of o t) os e.act e.answer) (All-tail (Leaves o t) e es leave) (All-head (Leaves o t) e es leave os there)

-- a look-up finds the content after what its session saw and the entries of others
pub looked_up : (h : Home) (k : Datum) (old new : History) (found : List Datum) (turn : TurnedAt h old (Lookup k) (Some (Replied (Objects found))) new)
    → found ≡ content (settings_of h.options) k (old ++ turn.between)
unfolding reply_of
looked_up h k old new found turn =
    let o = settings_of h.options in
    let answer : Replied (Objects found) ≡ Replied (Objects (objects_at (state_after o (old ++ turn.between)).rows k)) = turned_right h old new (Lookup k) (Replied (Objects found)) turn in
    let same : found ≡ objects_at (state_after o (old ++ turn.between)).rows k = cc in
    same ∙ content_of o (old ++ turn.between) k (turned_front h old new (Lookup k) (Some (Replied (Objects found))) turn)

pub inserts_are_seen : (h : Home) (t : Datum) (v w x : Views) (found : List Datum)
    → TurnedByKey h (key_of (settings_of h.options) t) (Insert t) (Some (Replied Nothing)) v w
    → TurnedByKey h (key_of (settings_of h.options) t) (Lookup (key_of (settings_of h.options) t)) (Some (Replied (Objects found))) w x
    → IsSeen h t (w (part_of (settings_of h.options) (key_of (settings_of h.options) t))) found
inserts_are_seen h t v w x found insert look =
    let o = settings_of h.options in
    let k = key_of o t in
    let p = part_of o k in
    let between : History = look.here.between in
    let before : History = v p ++ insert.here.between in
    let entry : Entry = record { session = h.number; act = Insert t; answer = Replied Nothing } in
    let put : Contains (content o k (w p)) t = subst (λ (os : List Datum). Contains os t) (sym (ap (content o k) insert.here.grown ∙ fold-append _ [] before (entry ∷ []))) (inserted o t (content o k before)) in
    let is : found ≡ content o k (w p ++ between) = looked_up h k (w p) (x p) found look.here in
    record {
      between = between;
      others = look.here.others.others;
      says = is;
      there = λ leave. subst (λ (os : List Datum). Contains os t) (sym (is ∙ fold-append _ [] (w p) between)) (stays o t between (content o k (w p)) leave put);
    }

-- ---- changes that go on

-- what is seen more, and then more again
sees_more_twice : (h : Home) (old middle new : History) → SeesMore h old middle → SeesMore h middle new → SeesMore h old new
sees_more_twice h old middle new one two = (
  one.0 ++ two.0,
  between_both h one.0 two.0 one.1 two.1,
  two.2 ∙ ap (λ (es : History). es ++ two.0) one.2 ∙ append_assoc old one.0 two.0,
)
  where
    between_both : (h : Home) (a b : History) → IsBetween h a → IsBetween h b → IsBetween h (a ++ b)
    between_both h a b x y = record {
      others = filter-append (λ (e : Entry). e.session == h.number) a b ∙ (λ i. x.others i ++ y.others i);
      alone = λ alone. λ i. x.alone alone i ++ y.alone alone i;
    }

-- more that is seen before a turn is seen by the turn
sees_more_turned : (h : Home) (old middle new : History) (act : Act) (answer : Option Answer) → SeesMore h old middle
    → TurnedAt h middle act answer new → TurnedAt h old act answer new
sees_more_turned h old middle new act answer more turn =
    let both = sees_more_twice h old middle (middle ++ turn.between) more (turn.between, turn.others, refl) in
    record {
      between = both.0;
      others = both.1;
      grown = turn.grown ∙ ap (λ (es : History). es ++ entries_of h.number act answer) both.2;
      legal = turn.legal;
    }

module _ (h : Home) (from at to : ℕ) (act : Act) (answer : Option Answer) (v w x : Views) (below : from ≤ at) (above : at ≤ to) (first : TurnedFrom h from at act answer v w) (second : TurnedFrom h at to act answer w x) where
  turned_on : (part : ℕ) → from ≤ part → part < to → TurnedAt h (v part) act answer (x part)
  turned_on part after before = by_test (part == at) _
      (λ here. let same : part ≡ at = eqb-true part at here in
      subst (λ (p : ℕ). TurnedAt h (v p) act answer (x p)) (sym same)
      (sees_more_turned h (v at) (w at) (x at) act answer first.next (second.turned at (omega arith) (omega (arith, before, same)))))
      (λ other. let apart : part ≢ at = eqb-false part at other in by_test (nat_lt part at) _
      (λ less. subst (TurnedAt h (v part) act answer) (sym (second.rest part (inl (ltb-true part at less)))) (first.turned part after (ltb-true part at less)))
      (λ more. subst (λ (old : History). TurnedAt h old act answer (x part)) (first.rest part (inr (omega (arith, ltb-false part at more, apart)))) (second.turned part (ltb-false part at more) before)))

  next_on : SeesMore h (v to) (x to)
  next_on = by_test (to == at) _
      (λ here. let same : to ≡ at = eqb-true to at here in
      sees_more_twice h (v to) (w to) (x to) (subst (λ (p : ℕ). SeesMore h (v p) (w p)) (sym same) first.next) second.next)
      (λ other. subst (λ (old : History). SeesMore h old (x to)) (first.rest to (inr (omega (arith, above, eqb-false to at other)))) second.next)

  pub changes_go_on : TurnedFrom h from to act answer v x
  changes_go_on = record {
    turned = turned_on;
    next = next_on;
    rest = λ part apart. second.rest part (below_at part apart) ∙ first.rest part (off part apart);
  }
    where
      below_at : (part : ℕ) → part < from ⊎ to < part → part < at ⊎ to < part
      below_at part (inl less) = inl (omega (arith, less, below))
      below_at part (inr more) = inr more

      off : (part : ℕ) → part < from ⊎ to < part → part < from ⊎ at < part
      off part (inl less) = inl less
      off part (inr more) = inr (omega (arith, more, above))
