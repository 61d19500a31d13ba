-- A turn at a part of a table on one thread.
use Rattle.std.proofs.Common.{◌≡◌, ◌≢◌, ℕ, ◌<◌, ◌==◌, ◌⊎◌, inl, inr, ◌++◌, List, [], ◌∷◌, refl, ap, sym, subst, ◌∙◌, arith, Bool, true, false, not, ◌&&◌, IsTrue, Option, Some, All, length, get_or, slice_get, slice_set, if◌then◌else◌, get_or-set_same, get_or-set_other}
use Rattle.std.proofs.Math.Logic.{∥∥₁_elim}
use Rattle.std.proofs.lemmas.Bool.{eqb-true, eqb-false, false≢true}
use Rattle.std.proofs.lemmas.Option.{slice_get_within, slice_get-get_or, get_or_from_slice_get}
use Rattle.std.proofs.lemmas.List.{append-nil, length-set}
use Rattle.std.proofs.lemmas.List.Elements.{All-get_or, All-head}
use Rattle.part_core.specs.declared.kind.TableKind.{TableKind}
use Rattle.part_core.specs.declared.settings.Settings.{Settings}
use Rattle.part_core.specs.Settings.{is_ordered}
use Rattle.part_core.specs.Served.{IsServed}
use Rattle.part_core.specs.Acts.{Act, Answer, History}
use Rattle.part_core.specs.Legal.{IsLegal}
use Rattle.part_core.specs.LegalFacts.{legal_prop}
use Rattle.part_core.specs.Ops.{entries_of}
use Rattle.part_core.proofs.KeyLemmas.{by_test}
use Rattle.tables.specs.declared.options.Options.{Options}
use Rattle.tables.specs.Options.{settings_of, IsOpenable}
use Rattle.tables.specs.Turns.{Views, Turned, Follows}
use Rattle.tables.specs.Local.{AreAfter, local_home}

-- an element of a list in which one element was replaced: the new one at its position, else an old one
pub got_set : {P : Type 0} (xs : List P) (i k : ℕ) (y p : P) → slice_get (slice_set xs i y) k ≡ Some p
    → ((k ≡ i) × (p ≡ y)) ⊎ ((k ≢ i) × (slice_get xs k ≡ Some p))
got_set xs i k y p got =
    let within : k < length (slice_set xs i y) = slice_get_within (slice_set xs i y) k p got in
    let read : get_or (slice_set xs i y) k p ≡ p = get_or_from_slice_get (slice_set xs i y) k p p got in
    by_test (k == i) (((k ≡ i) × (p ≡ y)) ⊎ ((k ≢ i) × (slice_get xs k ≡ Some p)))
    (λ same. let e : k ≡ i = eqb-true k i same in inl (e, sym read ∙ ap (λ j. get_or (slice_set xs i y) j p) e ∙ get_or-set_same xs i y p (omega (arith, within, e, length-set xs i y))))
    (λ other. let e : k ≢ i = eqb-false k i other in inr (e, slice_get-get_or xs k p (omega (arith, within, length-set xs i y)) ∙ ap Some (sym (get_or-set_other xs i k y p e) ∙ read)))

-- histories of which one grows
abbrev pub grown_at : Views → ℕ → History → Views
grown_at v i es = λ k. if k == i then v k ++ es else v k

pub grown_here : (v : Views) (i : ℕ) (es : History) → grown_at v i es i ≡ v i ++ es
grown_here v i es = by_test (i == i) (grown_at v i es i ≡ v i ++ es) (λ same. rw same refl) (λ other. absurd (eqb-false i i other refl))

pub grown_there : (v : Views) (i k : ℕ) (es : History) → k ≢ i → grown_at v i es k ≡ v k
grown_there v i k es apart = by_test (k == i) (grown_at v i es k ≡ v k) (λ same. absurd (apart (eqb-true k i same))) (λ other. rw other refl)

pub set_after : {P : Type 0} (IsAfter : P → History → Type 0) (parts : List P) (i : ℕ) (new : P) (v : Views) (es : History)
    → AreAfter IsAfter parts v → IsAfter new (v i ++ es) → AreAfter IsAfter (slice_set parts i new) (grown_at v i es)
set_after IsAfter parts i new v es before here = λ k p got. go k p (got_set parts i k new p got)
  where
    go : (k : ℕ) (p : _) → ((k ≡ i) × (p ≡ new)) ⊎ ((k ≢ i) × (slice_get parts k ≡ Some p)) → IsAfter p (grown_at v i es k)
    go k p (inl (place, same)) = subst (λ (q : _). IsAfter q (grown_at v i es k)) (sym same) (subst (λ (j : ℕ). IsAfter new (grown_at v i es j)) (sym place) (subst (IsAfter new) (sym (grown_here v i es)) here))
    go k p (inr (apart, got)) = subst (IsAfter p) (sym (grown_there v i k es apart)) (before k p got)

-- each part has the settings that all parts share
pub settings_there : {P : Type 0} (settings : P → Settings) (o : Settings) (parts : List P) (i : ℕ) (p : P)
    → slice_get parts i ≡ Some p → All (λ p. settings p ≡ o) parts → settings p ≡ o
settings_there settings o parts i p there all =
    ap settings (sym (get_or_from_slice_get parts i p p there)) ∙ All-get_or (λ p. settings p ≡ o) parts i p (slice_get_within parts i p there) all

-- an operation at a part is a turn there
pub local_turn : {P : Type 0} (settings : P → Settings) (IsAfter : P → History → Type 0)
    → ((p : P) (log : History) → IsAfter p log → IsLegal (settings p) log)
    → (o : Options) (number table : ℕ) (parts : List P) (i : ℕ) (old new : P) (act : Act) (answer : Option Answer)
    → slice_get parts i ≡ Some old → settings new ≡ settings old → ∥ (All (λ p. settings p ≡ settings_of o) parts) ∥₁
    → ((log : History) → IsAfter old log → IsAfter new (log ++ entries_of number act answer))
    → Follows (AreAfter IsAfter parts) (AreAfter IsAfter (slice_set parts i new)) (Turned (local_home o number table) i act answer)
local_turn settings IsAfter legal o number table parts i old new act answer there kept same entry = λ v before.
    let es : History = entries_of number act answer in
    let here : IsAfter new (v i ++ es) = entry (v i) (before i old there) in
    let grown : grown_at v i es i ≡ (v i ++ []) ++ es = grown_here v i es ∙ ap (λ (log : History). log ++ es) (sym (append-nil (v i))) in (
      grown_at v i es,
      set_after IsAfter parts i new v es before here,
      record {
        here = record {
          between = [];
          others = record { others = refl; alone = λ alone. refl };
          grown = grown;
          legal = subst (IsLegal (settings_of o)) (sym (grown_here v i es)) (∥∥₁_elim same (legal_prop (settings_of o) (v i ++ es)) (λ all. subst (λ (x : Settings). IsLegal x (v i ++ es)) (kept ∙ settings_there settings (settings_of o) parts i old there all) (legal new (v i ++ es) here)));
        };
        rest = λ k apart. grown_there v i k es apart;
      },
    )

-- what holds of all parts holds of each
pub all_got : {P : Type 0} (Q : P → Type 0) (parts : List P) (k : ℕ) (p : P) → All Q parts → slice_get parts k ≡ Some p → Q p
all_got Q parts k p all got =
    subst Q (get_or_from_slice_get parts k p p got) (All-get_or Q parts k p (slice_get_within parts k p got) all)

-- what all parts imply holds if there is a part
pub all_said : {P : Type 0} (S : Type 0) (Q R : P → Type 0) (parts : List P) → 0 < length parts → All (λ p. S × Q p × R p) parts → S
all_said S Q R [] some all = absurd (omega (arith, some))
all_said S Q R (p ∷ ps) some all = (All-head (λ p. S × Q p × R p) p ps all).0

-- an ordered set that isn't split has one part
pub one_part : (ordered : Bool) (parts : ℕ) → (ordered && not (parts == 1)) ≡ false → IsTrue ordered → parts ≡ 1
one_part true parts whole is = by_test (parts == 1) (parts ≡ 1) (eqb-true parts 1) (λ other. absurd (false≢true (sym whole ∙ ap not other)))
one_part false parts whole is = absurd (false≢true is)

-- the options with which parts were made are those of a table
pub openable : {P : Type 0} (serves : TableKind → Bool) (settings : P → Settings) (IsAfter : P → History → Type 0) (o : Options) (parts : List P)
    → 0 < o.parts → length parts ≡ o.parts → (is_ordered o.kind && not (o.parts == 1)) ≡ false
    → All (λ p. IsServed serves (settings_of o) × (settings p ≡ settings_of o) × IsAfter p []) parts → IsOpenable serves o
openable serves settings IsAfter o parts some count whole all = record {
  served = all_said (IsServed serves (settings_of o)) (λ p. settings p ≡ settings_of o) (λ p. IsAfter p []) parts (omega (arith, some, count)) all;
  whole = one_part (is_ordered o.kind) o.parts whole;
}
