-- An engine goes on from term to term, and from text to text.
use Rattle.std.proofs.Common.{◌≡◌, ◌↔◌, inl, inr, ℕ, ◌+◌, ◌<◌, List, [], ◌∷◌, ◌++◌, take, drop, get_or, length, flat_map, refl, sym, ap, subst, ◌∙◌, append_assoc}
use Rattle.std.proofs.lemmas.List.{append-nil, take_more, take-append-drop}
use Rattle.std.proofs.lemmas.List.Concat.{flat_map-append}
use Rattle.std.specs.Str.{IsValidUpTo}
use Rattle.term_core.specs.Datum.{Datum}
use Rattle.term_text.specs.Text.{Spells}
use Rattle.term_text.specs.Causes.{HasCause}
use Rattle.term_text.specs.declared.fault.TextFault.{TextFault}
use Rattle.term_text.specs.declared.fault.TextFault.TheVariants as faults
use Rattle.part_core.specs.declared.part.Part.{Ghosts}
use Rattle.tool_io.specs.Lines.{line}
use Rattle.tool_io.proofs.TermsLemmas.{text_refused}
use Rattle.tool_script.specs.declared.script.Script as script_type
use Rattle.tool_script.specs.Engine.{ArePut, ArePutFirst, IsUnread}
use Rattle.tool_script.specs.Run.{IsPut}
use Rattle.tool_script.specs.Script.{ScriptState}
use Rattle.tool_script.specs.Scripts.{AreTaken, HasState}
use Rattle.tool_script.specs.Shell.{FirstReplies}
use Rattle.tool_script.proofs.PassLemmas.{replied_more}
use Rattle.tool_script.proofs.TakenLemmas.{taken_front}

one_more : (rs : List Datum) (r : Datum) → flat_map line rs ++ line r ≡ flat_map line (rs ++ r ∷ [])
one_more rs r = ap (λ l. flat_map line rs ++ l) (sym (append-nil (line r))) ∙ sym (flat_map-append line rs (r ∷ []))

-- why a rejected text is not read
pub unread : (input : List ℕ) (f : TextFault) → ((ds : List Datum) → Spells input ds → f ≡ faults.Memory) → HasCause input f → ((at : ℕ) → (f ≡ faults.BadUtf8 at) ↔ IsValidUpTo input at) → IsUnread input f
unread input faults.Memory only cause bad = inl refl
unread input (faults.TooDeep at) only cause bad = inr (text_refused input (faults.TooDeep at) only cause bad)
unread input (faults.TooLong at) only cause bad = inr (text_refused input (faults.TooLong at) only cause bad)
unread input (faults.DuplicateKey at) only cause bad = inr (text_refused input (faults.DuplicateKey at) only cause bad)
unread input (faults.Syntax at) only cause bad = inr (text_refused input (faults.Syntax at) only cause bad)
unread input (faults.BadUtf8 at) only cause bad = inr (text_refused input (faults.BadUtf8 at) only cause bad)
unread input (faults.IntegerRange at) only cause bad = inr (text_refused input (faults.IntegerRange at) only cause bad)
unread input (faults.UnsupportedEscape at) only cause bad = inr (text_refused input (faults.UnsupportedEscape at) only cause bad)

module _ {S O A : Type 0} {s : Ghosts S A} {o : Ghosts O A} where
  pub put_none : (script : script_type.Script S O A s o) (lines : List ℕ) → ArePut script script [] lines lines
  put_none script lines = λ st has. ([], st, refl, has, sym (append-nil lines))

  -- one more reply is appended
  pub put_more : (old mid new : script_type.Script S O A s o) (terms : List Datum) (i : ℕ) (d e : Datum) (first lines more : List ℕ) → i < length terms → d ≡ get_or terms i e
      → ArePut old mid (take i terms) first lines → IsPut mid new d lines more → ArePut old new (take (i + 1) terms) first more
  put_more old mid new terms i d e first lines more there is so_far put = λ st has.
      let f = so_far st has in
      let p = put f.1 f.3 in (
        f.0 ++ p.0 ∷ [],
        p.1,
        rw (take_more terms i e there, ← is) (replied_more st (take i terms) f.0 f.1 p.1 d p.0 f.2 p.2),
        p.3,
        p.4 ∙ ap (λ l. l ++ line p.0) f.4 ∙ append_assoc first (flat_map line f.0) (line p.0) ∙ ap (λ l. first ++ l) (one_more f.0 p.0),
      )

  -- memory ran out: the replies before are appended
  pub put_first : (old mid new : script_type.Script S O A s o) (terms : List Datum) (i : ℕ) (first lines more : List ℕ) → i < length terms
      → ArePut old mid (take i terms) first lines → AreTaken old mid i → AreTaken mid new 1 → more ≡ lines → ArePutFirst old new terms first more
  put_first old mid new terms i first lines more there so_far taken last same = λ st has.
      let f = so_far st has in
      (take i terms, drop i terms, f.0, f.1, sym (take-append-drop i terms), f.2, same ∙ f.4, taken_front old mid new terms i there taken last)

  -- the lines of the last text were dropped, so the lines are those of the first replies
  pub first_replies : (old new : script_type.Script S O A s o) (text : List ℕ) (terms : List Datum) (more : List ℕ)
      → Spells text terms → ArePutFirst old new terms [] more → (st : ScriptState) → HasState old st → FirstReplies st text more
  first_replies old new text terms more spells put st has =
      let f = put st has in
      record { front = f.0; rest = f.1; spelled = subst (Spells text) f.4 spells; replies = f.2; after = f.3; replied = f.5; written = f.6 }
