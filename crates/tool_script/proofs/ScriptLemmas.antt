-- What commands change in the state of a script.
use Rattle.std.proofs.Common.{◌≡◌, ℕ, ℤ, ◌+◌, ◌<◌, List, refl, ap, sym, subst, ◌∙◌, Option, Some, None, arith}
use Rattle.std.specs.Prelude.{true, false, is_some, IfSome}
use Rattle.std.proofs.lemmas.Bool.{true≢false}
use Rattle.term_core.specs.Datum.{Datum, cells}
use Rattle.term_core.specs.Datum.Datum.{nil}
use Rattle.term_operand.specs.Operand.{boolean}
use Rattle.part_core.specs.declared.kind.TableKind.{TableKind}
use Rattle.part_core.specs.declared.part.Part.{Ghosts}
use Rattle.tables.specs.declared.options.Options.{Options}
use Rattle.walks.specs.OneThread.{table_objects}
use Rattle.tool_script.specs.declared.continuations.Continuations.{Continuations}
use Rattle.tool_script.specs.declared.open.OpenTable as open_type
use Rattle.tool_script.specs.declared.script.Current.{Current}
use Rattle.tool_script.specs.declared.script.Current.TheVariants as current
use Rattle.tool_script.specs.declared.script.Script as script_type
use Rattle.tool_script.specs.Command.{Selection}
use Rattle.tool_script.specs.Command.Command.{Open, Walk, Close}
use Rattle.tool_script.specs.Continuations.{AreHeld, AreDropped}
use Rattle.tool_script.specs.Course.{Takes}
use Rattle.tool_script.specs.Opened.{IsOpen}
use Rattle.tool_script.specs.Replied.{course, script_with}
use Rattle.tool_script.specs.Script.{OpenTable, ScriptState, error, newly_opened, number_within, opening_of, options_with, session_number}
use Rattle.tool_script.specs.Scripts.{HasState, HasTable, open_options}
use Rattle.tool_script.specs.Walks.{selecting_by}
use Rattle.tool_script.proofs.ContinuationLemmas.{held_closed, held_dropped, held_opened}
use Rattle.tool_script.proofs.CourseLemmas.{takes_in}
use Rattle.tool_script.proofs.OptionLemmas.{options_named}

-- the open table, if it is a set or a bag
pub set_there : {S O A : Type 0} {s : Ghosts S A} (o : Ghosts O A) (t : open_type.OpenTable S A s) (state : Option OpenTable) → HasTable {S = S} {O = O} {A = A} {s = s} {o = o} (current.Unordered t) state → (there : OpenTable) × (state ≡ Some there) × IsOpen t there
set_there o t None there = absurd there
set_there o t (Some u) there = (u, refl, there)

pub ordered_there : {S O A : Type 0} (s : Ghosts S A) {o : Ghosts O A} (t : open_type.OpenTable O A o) (state : Option OpenTable) → HasTable {S = S} {O = O} {A = A} {s = s} {o = o} (current.Ordered t) state → (there : OpenTable) × (state ≡ Some there) × IsOpen t there
ordered_there s t None there = absurd there
ordered_there s t (Some u) there = (u, refl, there)

not_there : {S O A : Type 0} (s : Ghosts S A) (o : Ghosts O A) (state : Option OpenTable) → HasTable {S = S} {O = O} {A = A} {s = s} {o = o} current.NoTable state → state ≡ None
not_there s o None there = refl
not_there s o (Some u) there = absurd there

none_there : (state : Option OpenTable) → is_some state ≡ false → state ≡ None
none_there None none = refl
none_there (Some u) none = absurd (true≢false none)

module _ {S O A : Type 0} {s : Ghosts S A} {o : Ghosts O A} where
  -- a script is in its state if its fields are
  has_state : (script : script_type.Script S O A s o) (st : ScriptState) (now : Current S O A s o) (count : ℕ) (walks : Continuations A)
      → script.current ≡ now → script.count ≡ count → script.walks ≡ walks → st.count ≡ count → HasTable now st.current
      → IfSome (open_options now) (λ p. p.name < count) → AreHeld (open_options now) count walks st.walks → HasState script st
  has_state script st now count walks now_is count_is walks_is counted there named held =
      record {
        count = counted ∙ sym count_is;
        current = subst (λ x. HasTable x st.current) (sym now_is) there;
        named = subst (λ x. IfSome (open_options x) (λ p. p.name < script.count)) (sym now_is) (subst (λ n. IfSome (open_options now) (λ p. p.name < n)) (sym count_is) named);
        walks = subst (λ x. AreHeld (open_options x) script.count script.walks st.walks) (sym now_is) (subst (λ n. AreHeld (open_options now) n script.walks st.walks) (sym count_is) (subst (λ cs. AreHeld (open_options now) count cs st.walks) (sym walks_is) held));
      }

  -- `close` while a table is open
  pub closed_step : (old new : script_type.Script S O A s o) (st : ScriptState) (t : OpenTable) (objects : List Datum) (cs : Continuations A)
      → HasState old st → st.current ≡ Some t → objects ≡ table_objects t.table
      → new.current ≡ current.NoTable → new.count ≡ old.count → new.walks ≡ cs → AreDropped old.walks cs
      → Takes (course st st.current Close) (cells objects nil) (HasState new)
  closed_step old new st t objects cs has there are now_is count_is walks_is gone =
      subst (λ x. Takes (course st x Close) (cells objects nil) (HasState new)) (sym there) (
        ap (λ xs. cells xs nil) are,
        has_state new (record { current = None; count = st.count; walks = st.walks }) current.NoTable old.count cs now_is count_is walks_is has.count tt tt
            (held_dropped old.count (open_options old.current) old.walks cs st.walks has.walks gone),
      )

  -- `close` while no table is open
  pub unopened_step : (old new : script_type.Script S O A s o) (st : ScriptState) (cs : Continuations A) → HasState old st
      → old.current ≡ current.NoTable → new.current ≡ current.NoTable → new.count ≡ old.count → new.walks ≡ cs → AreDropped old.walks cs
      → Takes (course st st.current Close) (error 65) (HasState new)
  unopened_step old new st cs has was now_is count_is walks_is gone =
      let there : HasTable {S = S} {O = O} {A = A} {s = s} {o = o} current.NoTable st.current = subst (λ x. HasTable x st.current) was has.current in
      let state : HasState new st =
      has_state new st current.NoTable old.count cs now_is count_is walks_is has.count there tt
      (held_dropped old.count (open_options old.current) old.walks cs st.walks has.walks gone) in
      subst (λ x. Takes (course st x Close) (error 65) (HasState new)) (sym (not_there s o st.current there)) (refl, state)

  -- `open` while no table is open
  pub opened_step : (old new : script_type.Script S O A s o) (st : ScriptState) (kind : TableKind) (keypos parts sessions : ℤ) (p : Options) (now : Current S O A s o)
      → HasState old st → is_some st.current ≡ false
      → options_with old.count kind (number_within 1 65535 keypos) (number_within 1 64 parts) (number_within 1 16 sessions) ≡ Some p
      → HasTable now (Some (newly_opened p)) → open_options now ≡ Some p
      → new.current ≡ now → new.count ≡ old.count + 1 → new.walks ≡ old.walks
      → Takes (course st st.current (Open kind keypos parts sessions)) (boolean true) (HasState new)
  opened_step old new st kind keypos parts sessions p now has none made there open_is now_is count_is walks_is =
      let named : p.name ≡ old.count = options_named old.count kind (number_within 1 65535 keypos) (number_within 1 64 parts) (number_within 1 16 sessions) p made in
      let also : options_with st.count kind (number_within 1 65535 keypos) (number_within 1 64 parts) (number_within 1 16 sessions) ≡ Some p =
      ap (λ n. options_with n kind (number_within 1 65535 keypos) (number_within 1 64 parts) (number_within 1 16 sessions)) has.count ∙ made in
      let held = held_opened old.count p old.walks st.walks named (held_closed old.count (open_options old.current) old.walks st.walks has.walks) in
      let state : HasState new (record { current = Some (newly_opened p); count = st.count + 1; walks = st.walks }) =
      has_state new _ now (old.count + 1) old.walks now_is count_is walks_is (ap (λ n. n + 1) has.count) there
      (subst (λ x. IfSome x (λ y. y.name < old.count + 1)) (sym open_is) (omega (arith, named))) (subst (λ x. AreHeld x (old.count + 1) old.walks st.walks) (sym open_is) held) in
      subst (λ x. Takes (course st x (Open kind keypos parts sessions)) (boolean true) (HasState new)) (sym (none_there st.current none))
      (opened_by (options_with st.count kind (number_within 1 65535 keypos) (number_within 1 64 parts) (number_within 1 16 sessions)) also state)
    where
      opened_by : (made : Option Options) → made ≡ Some p → HasState new (record { current = Some (newly_opened p); count = st.count + 1; walks = st.walks }) → (boolean true ≡ (opening_of st made).0) × HasState new (opening_of st made).1
      opened_by made is state =
          subst (λ x. (boolean true ≡ (opening_of st x).0) × HasState new (opening_of st x).1) (sym is) (refl, state)

  -- a session's request with a specification, or for a walk
  pub walked_step : (old new : script_type.Script S O A s o) (st : ScriptState) (t : OpenTable) (x y : Options) (IsNow : OpenTable → Type 0) (number : ℤ) (selection : Selection) (reply : Datum)
      → HasState old st → st.current ≡ Some t → open_options old.current ≡ Some x → open_options new.current ≡ Some y → y ≡ x
      → new.count ≡ old.count → ((u : OpenTable) → IsNow u → HasTable new.current (Some u))
      → (x.name < old.count → AreHeld (Some x) old.count old.walks st.walks → Takes (selecting_by (record { table = t.table; walks = st.walks }) selection (session_number t number)) reply
      (λ w. IsNow (record { table = w.table; left = t.left }) × AreHeld (Some y) old.count new.walks w.walks))
      → Takes (course st st.current (Walk number selection)) reply (HasState new)
  walked_step old new st t x y IsNow number selection reply has there old_is new_is same count_is shows done =
      let named : x.name < old.count = subst (λ z. IfSome z (λ p. p.name < old.count)) old_is has.named in
      let taken = done named (subst (λ z. AreHeld z old.count old.walks st.walks) old_is has.walks) in
      subst (λ z. Takes (course st z (Walk number selection)) reply (HasState new)) (sym there)
      (takes_in (script_with st t) (selecting_by (record { table = t.table; walks = st.walks }) selection (session_number t number)) reply _ (HasState new)
      (λ w is. has_state new (script_with st t w) new.current old.count new.walks refl count_is refl has.count (shows _ is.0)
      (subst (λ z. IfSome z (λ p. p.name < old.count)) (sym new_is) (subst (λ (z : Options). z.name < old.count) (sym same) named))
      (subst (λ z. AreHeld z old.count new.walks w.walks) (sym new_is) is.1)) taken)
