-- What turns change in the states of a table, if the session is alone with it.
use Rattle.std.proofs.Common.{◌≡◌, ℕ, ◌<◌, ◌==◌, ◌++◌, ap, sym, subst, ◌∙◌, Option, Some, None}
use Rattle.std.specs.Prelude.{IsTrue, if◌then◌else◌}
use Rattle.std.proofs.lemmas.Bool.{eqb-true, eqb-false}
use Rattle.std.proofs.lemmas.List.{append-nil}
use Rattle.part_core.specs.Acts.{Act, Answer, History}
use Rattle.part_core.specs.Rows.{PartState}
use Rattle.part_core.specs.Replies.{reply_of}
use Rattle.part_core.specs.After.{after}
use Rattle.part_core.specs.Legal.{state_after}
use Rattle.part_core.proofs.KeyLemmas.{by_test}
use Rattle.tables.specs.declared.options.Options.{Options}
use Rattle.tables.specs.Local.{local_home}
use Rattle.tables.specs.Options.{settings_of}
use Rattle.tables.specs.Turns.{Home, Views, Turned, TurnedEach, Follows}
use Rattle.tables.specs.OneThread.{TableState, reply_at, after_at, after_each}
use Rattle.tables.proofs.TurnLemmas.{turned_alone}
use Rattle.open_table.specs.Parts.{IsAt}

-- ---- at the part of a key

-- the states after a turn at a part
states_at : (h : Home) (t : TableState) (part : ℕ) (act : Act) (answer : Answer) (v w : Views) → IsTrue h.alone → t.options ≡ h.options → ((k : ℕ) → k < h.options.parts → t.states k ≡ state_after (settings_of h.options) (v k)) → Turned h part act (Some answer) v w → (k : ℕ) → k < h.options.parts → (after_at t h.number part act).states k ≡ state_after (settings_of h.options) (w k)
states_at h t part act answer v w alone same states turned k inside =
    let o = settings_of h.options in
    by_test (k == part) ((if k == part then after (settings_of t.options) (t.states k) h.number act else t.states k) ≡ state_after o (w k))
    (λ here. let is : k ≡ part = eqb-true k part here in
    rw here (ap (λ (x : Options). after (settings_of x) (t.states k) h.number act) same ∙ ap (λ (s : PartState). after o s h.number act) (states k inside) ∙ subst (λ (j : ℕ). after o (state_after o (v j)) h.number act ≡ state_after o (w j)) (sym is) (turned_alone h (v part) (w part) act answer alone turned.here).1))
    (λ other. rw other (states k inside ∙ ap (state_after o) (sym (turned.rest k (eqb-false k part other)))))

pub turned_at : (h : Home) (before now : Views → Type 0) (part : ℕ) (act : Act) (answer : Answer) (t : TableState) → IsTrue h.alone → part < h.options.parts → Follows before now (Turned h part act (Some answer)) → IsAt h.options before t → (answer ≡ reply_at t h.number part act) × IsAt h.options now (after_at t h.number part act)
turned_at h before now part act answer t alone inside follows at =
    let next = follows at.views at.seen in
    let here = turned_alone h (at.views part) (next.0 part) act answer alone next.2.here in (
      here.0 ∙ sym (ap (λ (x : Options). reply_of (settings_of x) (t.states part) h.number act) at.options ∙ ap (λ (s : PartState). reply_of (settings_of h.options) s h.number act) (at.states part inside)),
      record { options = at.options; views = next.0; seen = next.1; states = states_at h t part act answer at.views next.0 alone at.options at.states next.2 },
    )

-- ---- at each part

pub turned_each : (h : Home) (before now : Views → Type 0) (act : Act) (answer : Answer) (t : TableState) → IsTrue h.alone → Follows before now (TurnedEach h act (Some answer)) → IsAt h.options before t → IsAt h.options now (after_each t h.number act)
turned_each h before now act answer t alone follows at =
    let next = follows at.views at.seen in
    let o = settings_of h.options in
    record {
      options = at.options;
      views = next.0;
      seen = next.1;
      states = λ k inside. ap (λ (x : Options). after (settings_of x) (t.states k) h.number act) at.options ∙ ap (λ (s : PartState). after o s h.number act) (at.states k inside) ∙ (turned_alone h (at.views k) (next.0 k) act answer alone (next.2 k inside)).1;
    }

-- ---- no turn

-- a turn that ran out of memory changes nothing that is seen
pub unturned : (h : Home) (part : ℕ) (act : Act) (v w : Views) → IsTrue h.alone → Turned h part act None v w → (k : ℕ) → w k ≡ v k
unturned h part act v w alone turned k =
    by_test (k == part) (w k ≡ v k)
    (λ here. subst (λ (j : ℕ). w j ≡ v j) (sym (eqb-true k part here))
    (turned.here.grown ∙ append-nil (v part ++ turned.here.between) ∙ ap (λ (es : History). v part ++ es) (turned.here.others.alone alone) ∙ append-nil (v part)))
    (λ other. turned.rest k (eqb-false k part other))

-- a table whose parts are in the states that they were in stays in its state
pub stays_at : (o : Options) (before now : Views → Type 0) (t : TableState) (at : IsAt o before t) (w : Views) → now w
    → ((k : ℕ) → k < o.parts → state_after (settings_of o) (w k) ≡ state_after (settings_of o) (at.views k)) → IsAt o now t
stays_at o before now t at w seen same =
    record { options = at.options; views = w; seen = seen; states = λ k inside. at.states k inside ∙ sym (same k inside) }

pub unturned_at : (h : Home) (before now : Views → Type 0) (part : ℕ) (act : Act) (t : TableState) → IsTrue h.alone → Follows before now (Turned h part act None) → IsAt h.options before t → IsAt h.options now t
unturned_at h before now part act t alone follows at =
    let next = follows at.views at.seen in
    stays_at h.options before now t at next.0 next.1 (λ k inside. ap (state_after (settings_of h.options)) (unturned h part act at.views next.0 alone next.2 k))

-- ---- homes

-- a turn is the same by whatever name the table is borrowed
pub renamed : (o : Options) (n a b part : ℕ) (act : Act) (answer : Option Answer) (v w : Views) → Turned (local_home o n a) part act answer v w → Turned (local_home o n b) part act answer v w
renamed o n a b part act answer v w t = record {
  here = record {
    between = t.here.between;
    others = record { others = t.here.others.others; alone = t.here.others.alone };
    grown = t.here.grown;
    legal = t.here.legal;
  };
  rest = t.rest;
}
