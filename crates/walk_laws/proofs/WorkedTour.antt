-- A worked tour: a set of two parts, even keys in one and odd keys in the other, that session 0 fixes. After the first
-- call, session 1 deletes the key that was met, and inserts one that is still to come. After the second call, session 0
-- looks up a key itself.
use Rattle.std.proofs.Common.{◌≡◌, ◌≢◌, ℕ, zero, suc, ◌<◌, ◌≤◌, inl, inr, List, [], ◌∷◌, ◌++◌, refl, sym, arith, length, pos}
use Rattle.std.specs.Prelude.{Contains, Some, None, take, false}
use Rattle.std.proofs.lemmas.List.{append-nil}
use Rattle.std.proofs.lemmas.List.Elements.{All-from_recursion, All-contains}
use Rattle.term_core.specs.Datum.{Datum}
use Rattle.term_core.specs.Datum.Datum.{integer, tuple}
use Rattle.term_core.specs.Datum.Items.{no_items, item}
use Rattle.term_core.specs.KeyHash.{key_hash}
use Rattle.term_core.specs.Order.{datum_cmp}
use Rattle.part_core.specs.declared.kind.TableKind.TheVariants.{Set}
use Rattle.part_core.specs.Acts.{Act, Said, Entry, History}
use Rattle.part_core.specs.Acts.Act.{Insert, Lookup, Delete, Fix, First, Next}
use Rattle.part_core.specs.Acts.Answer.{Replied}
use Rattle.part_core.specs.Acts.Said.{Nothing, Objects, AtKey}
use Rattle.part_core.specs.After.{after}
use Rattle.part_core.specs.Laws.{IsPlacedAt}
use Rattle.part_core.specs.Legal.{IsLegal, fix_count}
use Rattle.part_core.specs.Replies.{reply_of}
use Rattle.part_core.specs.Rows.{opening}
use Rattle.part_core.specs.Visits.{walk_order}
use Rattle.part_core.proofs.HistoryLemmas.{legal_front_from}
use Rattle.tables.specs.declared.options.Options.{Options}
use Rattle.tables.specs.Options.{settings_of}
use Rattle.tables.specs.Turns.{Home, Views}
use Rattle.walk_core.specs.Moments.{Span, span, IsGrown, ArePlaced}
use Rattle.walks.specs.Keys.{FoundFirst, FoundNext}
use Rattle.walk_laws.specs.Tours.{Tour, IsTour, IsFixedAtTurns, IsSteady}
use Rattle.walk_laws.specs.Tours.IsTour.{begins, goes_on}

abbrev key : ℕ → Datum
key n = integer (pos n)

abbrev one : ℕ → Datum
one n = tuple (item (key n) no_items)

abbrev table : Options
table = record { name = 0; kind = Set; keypos = 1; parts = 2; sessions = 2 }

abbrev home : Home
home = record { options = table; gates = []; number = 0; table = 0; alone = false }

abbrev views : History → History → Views
views even odd zero = even
views even odd (suc zero) = odd
views even odd (suc (suc part)) = []

abbrev made : ℕ → Act → Said → Entry
made n act said = record { session = n; act = act; answer = Replied said }

-- the history of the part of even keys, piece by piece
abbrev even_at_first : History
even_at_first =
    made 0 (Insert (one 2)) Nothing ∷ made 0 (Insert (one 4)) Nothing ∷ made 0 Fix Nothing ∷ []

abbrev first_answer : History
first_answer = made 0 First (AtKey (Some (key 2))) ∷ []

abbrev meanwhile : History
meanwhile = made 1 (Delete (key 2)) Nothing ∷ made 1 (Insert (one 20)) Nothing ∷ []

abbrev second_answer : History
second_answer = made 0 (Next (key 2)) (AtKey (Some (key 4))) ∷ []

abbrev looked_up : History
looked_up = made 0 (Lookup (key 4)) (Objects (one 4 ∷ [])) ∷ []

abbrev third_answer : History
third_answer = made 0 (Next (key 4)) (AtKey (Some (key 20))) ∷ []

abbrev last_even : History
last_even = made 0 (Next (key 20)) (AtKey None) ∷ []

-- the history of the part of odd keys, piece by piece
abbrev odd_at_first : History
odd_at_first = made 0 (Insert (one 3)) Nothing ∷ made 0 Fix Nothing ∷ []

abbrev first_odd : History
first_odd = made 0 First (AtKey (Some (key 3))) ∷ []

abbrev last_odd : History
last_odd = made 0 (Next (key 3)) (AtKey None) ∷ []

abbrev even_met : History
even_met = even_at_first ++ first_answer

abbrev even_next : History
even_next = (even_met ++ meanwhile) ++ second_answer

abbrev even_looked : History
even_looked = even_next ++ looked_up

abbrev even_third : History
even_third = even_looked ++ third_answer

abbrev even_last : History
even_last = even_third ++ last_even

abbrev odd_met : History
odd_met = odd_at_first ++ first_odd

abbrev odd_last : History
odd_last = odd_met ++ last_odd

even_legal : IsLegal (settings_of table) even_last
unfolding reply_of after datum_cmp key_hash walk_order
even_legal = (
  record { session = omega arith; asked = tt; answer = refl },
  (
    record { session = omega arith; asked = tt; answer = refl },
    (
      record { session = omega arith; asked = tt; answer = refl },
      (
        record { session = omega arith; asked = tt; answer = refl },
        (
          record { session = omega arith; asked = tt; answer = refl },
          (
            record { session = omega arith; asked = tt; answer = refl },
            (
              record { session = omega arith; asked = tt; answer = refl },
              (
                record { session = omega arith; asked = tt; answer = refl },
                (
                  record { session = omega arith; asked = tt; answer = refl },
                  (record { session = omega arith; asked = tt; answer = refl }, tt),
                ),
              ),
            ),
          ),
        ),
      ),
    ),
  ),
)

odd_legal : IsLegal (settings_of table) odd_last
unfolding reply_of after datum_cmp key_hash walk_order
odd_legal = (
  record { session = omega arith; asked = tt; answer = refl },
  (
    record { session = omega arith; asked = tt; answer = refl },
    (
      record { session = omega arith; asked = tt; answer = refl },
      (record { session = omega arith; asked = tt; answer = refl }, tt),
    ),
  ),
)

front : (log more : History) → IsLegal (settings_of table) (log ++ more) → IsLegal (settings_of table) log
front log more legal = legal_front_from (settings_of table) (opening (settings_of table)) log more legal

third_legal : IsLegal (settings_of table) even_third
third_legal = front even_third last_even even_legal

looked_legal : IsLegal (settings_of table) even_looked
looked_legal = front even_looked third_answer third_legal

next_legal : IsLegal (settings_of table) even_next
next_legal = front even_next looked_up looked_legal

met_legal : IsLegal (settings_of table) even_met
met_legal = front even_met (meanwhile ++ second_answer) next_legal

odd_met_legal : IsLegal (settings_of table) odd_met
odd_met_legal = front odd_met last_odd odd_legal

odd_first_legal : IsLegal (settings_of table) odd_at_first
odd_first_legal = front odd_at_first first_odd odd_met_legal

even_rest : (even now odd : History) (part : ℕ) → part ≢ 0 → views now odd part ≡ views even odd part
even_rest even now odd zero other = absurd (other refl)
even_rest even now odd (suc zero) other = refl
even_rest even now odd (suc (suc part)) other = refl

odd_rest : (even odd now : History) (part : ℕ) → part ≢ 1 → views even now part ≡ views even odd part
odd_rest even odd now zero other = refl
odd_rest even odd now (suc zero) other = absurd (other refl)
odd_rest even odd now (suc (suc part)) other = refl

-- the histories are continued with these entries
grown : (even more odd : History) → IsLegal (settings_of table) (even ++ more) → IsLegal (settings_of table) odd → IsGrown table (views even odd) (views (even ++ more) odd)
grown even more odd even_is odd_is zero inside = (more, refl, even_is)
grown even more odd even_is odd_is (suc zero) inside = ([], sym (append-nil odd), odd_is)
grown even more odd even_is odd_is (suc (suc part)) inside = absurd (omega (arith, inside))

first_call : FoundFirst home 0 (Some (key 2)) (views even_at_first odd_at_first) (views even_met odd_at_first)
first_call = record {
  part = 0;
  inside = (omega arith, omega arith);
  between = views even_at_first odd_at_first;
  passed = record { none = λ part low high. absurd (omega (arith, high)); rest = λ part out. refl };
  last = record {
    here = record { between = []; others = record { others = refl; alone = λ alone. refl }; grown = refl; legal = met_legal };
    rest = λ part other. even_rest even_at_first even_met odd_at_first part other;
  };
}

second_call : FoundNext home (key 2) (Some (key 4)) (views even_met odd_at_first) (views even_next odd_at_first)
unfolding key_hash
second_call = inl (
  key 4,
  refl,
  record {
    here = record { between = meanwhile; others = record { others = refl; alone = λ alone. cc }; grown = refl; legal = next_legal };
    rest = λ part other. even_rest even_met even_next odd_at_first part other;
  },
)

third_call : FoundNext home (key 4) (Some (key 20)) (views even_looked odd_at_first) (views even_third odd_at_first)
unfolding key_hash
third_call = inl (
  key 20,
  refl,
  record {
    here = record { between = []; others = record { others = refl; alone = λ alone. refl }; grown = refl; legal = third_legal };
    rest = λ part other. even_rest even_looked even_third odd_at_first part other;
  },
)

fourth_call : FoundNext home (key 20) (Some (key 3)) (views even_third odd_at_first) (views even_last odd_met)
unfolding key_hash
fourth_call = inr (
  views even_last odd_at_first,
  record {
    here = record { between = []; others = record { others = refl; alone = λ alone. refl }; grown = refl; legal = even_legal };
    rest = λ part other. even_rest even_third even_last odd_at_first part other;
  },
  record {
    part = 1;
    inside = (omega arith, omega arith);
    between = views even_last odd_at_first;
    passed = record { none = λ part low high. absurd (omega (arith, low, high)); rest = λ part out. refl };
    last = record {
      here = record { between = []; others = record { others = refl; alone = λ alone. refl }; grown = refl; legal = odd_met_legal };
      rest = λ part other. odd_rest even_last odd_at_first odd_met part other;
    };
  },
)

fifth_call : FoundNext home (key 3) None (views even_last odd_met) (views even_last odd_last)
unfolding key_hash
fifth_call = inr (
  views even_last odd_last,
  record {
    here = record { between = []; others = record { others = refl; alone = λ alone. refl }; grown = refl; legal = odd_legal };
    rest = λ part other. odd_rest even_last odd_met odd_last part other;
  },
  record { none = λ part low high. absurd (omega (arith, low, high)); rest = λ part out. refl },
)

abbrev calls : List Span
calls =
    span (views even_at_first odd_at_first) (views even_met odd_at_first)
    ∷ span (views even_met odd_at_first) (views even_next odd_at_first)
    ∷ span (views even_looked odd_at_first) (views even_third odd_at_first)
    ∷ span (views even_third odd_at_first) (views even_last odd_met)
    ∷ span (views even_last odd_met) (views even_last odd_last)
    ∷ []

-- the keys of the even part, class by class, followed by that of the odd part
abbrev tour : Tour
tour =
    record { calls = calls; keys = key 2 ∷ key 4 ∷ key 20 ∷ key 3 ∷ []; views = views even_last odd_last; last = None }

is_tour : IsTour home tour
is_tour =
    goes_on (goes_on (goes_on (goes_on
    (begins (record { before = views even_at_first odd_at_first; found = first_call; calls = refl; keys = refl }))
    (record { key = key 2; asked = refl; before = views even_met odd_at_first; meanwhile = grown even_met [] odd_at_first met_legal odd_first_legal; found = second_call; calls = refl; keys = refl }))
    (record { key = key 4; asked = refl; before = views even_looked odd_at_first; meanwhile = grown even_next looked_up odd_at_first looked_legal odd_first_legal; found = third_call; calls = refl; keys = refl }))
    (record { key = key 20; asked = refl; before = views even_third odd_at_first; meanwhile = grown even_third [] odd_at_first third_legal odd_first_legal; found = fourth_call; calls = refl; keys = refl }))
    (record { key = key 3; asked = refl; before = views even_last odd_met; meanwhile = grown even_last [] odd_met even_legal odd_met_legal; found = fifth_call; calls = refl; keys = refl })

-- ---- it satisfies the premises of the laws

placed : ArePlaced table (views even_last odd_last)
unfolding key_hash
placed zero inside =
    All-from_recursion (λ (e : Entry). IsPlacedAt (settings_of table) 0 e.act) even_last (refl, (refl, (tt, (tt, (tt, (refl, (tt, (tt, (tt, (tt, tt))))))))))
placed (suc zero) inside =
    All-from_recursion (λ (e : Entry). IsPlacedAt (settings_of table) 1 e.act) odd_last (refl, (tt, (tt, (tt, tt))))
placed (suc (suc part)) inside = absurd (omega (arith, inside))

even_fixed : (moment : ℕ) → 3 ≤ moment → 0 < fix_count 0 (take moment even_last)
even_fixed zero low = absurd (omega (arith, low))
even_fixed (suc zero) low = absurd (omega (arith, low))
even_fixed (suc (suc zero)) low = absurd (omega (arith, low))
even_fixed (suc (suc (suc zero))) low = omega arith
even_fixed (suc (suc (suc (suc zero)))) low = omega arith
even_fixed (suc (suc (suc (suc (suc zero))))) low = omega arith
even_fixed (suc (suc (suc (suc (suc (suc zero)))))) low = omega arith
even_fixed (suc (suc (suc (suc (suc (suc (suc zero))))))) low = omega arith
even_fixed (suc (suc (suc (suc (suc (suc (suc (suc zero)))))))) low = omega arith
even_fixed (suc (suc (suc (suc (suc (suc (suc (suc (suc zero))))))))) low = omega arith
even_fixed (suc (suc (suc (suc (suc (suc (suc (suc (suc (suc zero)))))))))) low = omega arith
even_fixed (suc (suc (suc (suc (suc (suc (suc (suc (suc (suc (suc moment))))))))))) low = omega arith

odd_fixed : (moment : ℕ) → 2 ≤ moment → 0 < fix_count 0 (take moment odd_last)
odd_fixed zero low = absurd (omega (arith, low))
odd_fixed (suc zero) low = absurd (omega (arith, low))
odd_fixed (suc (suc zero)) low = omega arith
odd_fixed (suc (suc (suc zero))) low = omega arith
odd_fixed (suc (suc (suc (suc zero)))) low = omega arith
odd_fixed (suc (suc (suc (suc (suc moment))))) low = omega arith

-- the calls begin after the fixes
even_begun : (call : Span) → Contains calls call → 3 ≤ length (call.before 0)
even_begun call made =
    All-contains (λ (c : Span). 3 ≤ length (c.before 0)) calls call (All-from_recursion (λ (c : Span). 3 ≤ length (c.before 0)) calls (omega arith, (omega arith, (omega arith, (omega arith, (omega arith, tt)))))) made

odd_begun : (call : Span) → Contains calls call → 2 ≤ length (call.before 1)
odd_begun call made =
    All-contains (λ (c : Span). 2 ≤ length (c.before 1)) calls call (All-from_recursion (λ (c : Span). 2 ≤ length (c.before 1)) calls (omega arith, (omega arith, (omega arith, (omega arith, (omega arith, tt)))))) made

fixed : IsFixedAtTurns home calls (views even_last odd_last)
fixed zero first moment last inside turn later low high =
    even_fixed moment (let begun = even_begun turn.call turn.made in let from = turn.within.0 in omega (arith, begun, from, low))
fixed (suc zero) first moment last inside turn later low high =
    odd_fixed moment (let begun = odd_begun turn.call turn.made in let from = turn.within.0 in omega (arith, begun, from, low))
fixed (suc (suc part)) first moment last inside turn later low high = absurd (omega (arith, inside))

is_steady : IsSteady home tour.calls tour.views
is_steady = record {
  parts = omega arith;
  whole = λ ordered. cc;
  number = omega arith;
  placed = λ plain. placed;
  fixed = λ plain. fixed;
}
