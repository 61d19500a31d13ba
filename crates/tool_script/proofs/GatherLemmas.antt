-- Lines of replies that are gathered, and then written.
use Rattle.std.proofs.Common.{◌≡◌, ℕ, ◌+◌, ◌<◌, inl, inr, Option, List, [], ◌∷◌, ◌++◌, take, drop, get_or, length, flat_map, refl, sym, ap, subst, ◌∙◌, append_assoc}
use Rattle.std.proofs.lemmas.List.{take_more, append-nil, take-append-drop}
use Rattle.std.proofs.lemmas.List.Concat.{flat_map-append}
use Rattle.std.specs.Io.KnownBytes.{Appends}
use Rattle.term_core.specs.Datum.{Datum}
use Rattle.part_core.specs.declared.part.Part.{Ghosts}
use Rattle.tool_io.specs.Lines.{line, Passes, EndsBy}
use Rattle.tool_io.specs.declared.fault.ToolFault.{ToolFault}
use Rattle.tool_io.specs.declared.fault.ToolFault.TheVariants as fault
use Rattle.tool_script.specs.declared.script.Script as script_type
use Rattle.tool_script.specs.Script.{ScriptState, beginning}
use Rattle.tool_script.specs.Replied.{IsReply, AreReplies}
use Rattle.tool_script.specs.Shell.{Replies}
use Rattle.tool_script.specs.Scripts.{AreTaken}
use Rattle.tool_script.specs.Input.{StopsScript, StopsScriptAt}
use Rattle.tool_script.specs.Run.{WritesReplies, StopsAt, StopsReplies}
use Rattle.tool_io.proofs.LineLemmas.{appends_join, appends_none}
use Rattle.tool_script.proofs.PassLemmas.{replied_more}
use Rattle.tool_script.proofs.TakenLemmas.{taken_front}

are_replies : (st : ScriptState) (ds rs : List Datum) (a : ScriptState) → Replies st ds rs a → AreReplies st ds rs
are_replies st [] [] a h = tt
are_replies st [] (r ∷ rs) a h = absurd h
are_replies st (d ∷ ds) [] a h = absurd h
are_replies st (d ∷ ds) (r ∷ rs) a (mid, first, rest) = (mid, first, are_replies mid ds rs a rest)

-- the lines written and gathered are those of the replies so far
pub record Gathered (terms : List Datum) (after : ScriptState) (old now : Option (List ℕ)) (lines : List ℕ) : Type 0 where
  pub done : List ℕ
  pub gained : Appends old now done
  pub replies : List Datum
  pub replied : Replies beginning terms replies after
  pub text : done ++ lines ≡ flat_map line replies

pub gathered_none : (terms : List Datum) (old : Option (List ℕ)) → Gathered (take 0 terms) beginning old old []
gathered_none terms old = record { done = []; gained = appends_none old; replies = []; replied = refl; text = refl }

-- one more line is gathered
pub gathered_more : (terms : List Datum) (i : ℕ) (d reply : Datum) (before after : ScriptState) (old now : Option (List ℕ)) (lines more : List ℕ) → i < length terms → d ≡ get_or terms i d → Gathered (take i terms) before old now lines → IsReply before d reply after → more ≡ lines ++ line reply → Gathered (take (i + 1) terms) after old now more
gathered_more terms i d reply before after old now lines more there is g replied grown =
    record {
      done = g.done;
      gained = g.gained;
      replies = g.replies ++ reply ∷ [];
      replied = rw (take_more terms i d there, ← is) (replied_more beginning (take i terms) g.replies before after d reply g.replied replied);
      text = ap (λ xs. g.done ++ xs) grown ∙ sym (append_assoc g.done lines (line reply)) ∙ ap (λ xs. xs ++ line reply) g.text
          ∙ ap (λ xs. flat_map line g.replies ++ xs) (sym (append-nil (line reply))) ∙ sym (flat_map-append line g.replies (reply ∷ []));
    }

-- gathered lines are passed to the writer
pub gathered_passed : (terms : List Datum) (after : ScriptState) (old now later : Option (List ℕ)) (lines rest : List ℕ) → Gathered terms after old now lines → Passes now later lines rest → Gathered terms after old later rest
gathered_passed terms after old now later lines rest g p =
    record {
      done = g.done ++ p.part;
      gained = appends_join old now later g.done p.part g.gained p.gained;
      replies = g.replies;
      replied = g.replied;
      text = append_assoc g.done p.part rest ∙ ap (λ xs. g.done ++ xs) p.kept ∙ g.text;
    }

-- all lines are written
pub gathered_written : (terms : List Datum) (after : ScriptState) (old now later : Option (List ℕ)) (lines : List ℕ) → Gathered terms after old now lines → Appends now later lines → WritesReplies terms old later
gathered_written terms after old now later lines g p =
    record {
      replies = g.replies;
      replied = are_replies beginning terms g.replies after g.replied;
      gained = subst (Appends old later) g.text (appends_join old now later g.done lines g.gained p);
    }

module _ {S O A : Type 0} {s : Ghosts S A} {o : Ghosts O A} where
  -- where memory runs out, the lines so far are written
  pub stops_early : (before mid after : script_type.Script S O A s o) (terms : List Datum) (i : ℕ) (st : ScriptState) (old now later : Option (List ℕ)) (lines : List ℕ) (f : ToolFault) → i < length terms
      → Gathered (take i terms) st old now lines → AreTaken before mid i → AreTaken mid after 1 → EndsBy now later lines f → StopsAt before after terms old later f
  stops_early before mid after terms i st old now later lines fault.Memory there g taken last e = (
    record { front = take i terms; rest = drop i terms; whole = sym (take-append-drop i terms); written = gathered_written (take i terms) st old now later lines g e },
    taken_front before mid after terms i there taken last,
  )
  stops_early before mid after terms i st old now later lines fault.WriteFailed there g taken last e = tt
  stops_early before mid after terms i st old now later lines (fault.Text f) there g taken last e = absurd e
  stops_early before mid after terms i st old now later lines fault.BadInput there g taken last e = absurd e
  stops_early before mid after terms i st old now later lines (fault.Specification f) there g taken last e = absurd e
  stops_early before mid after terms i st old now later lines (fault.File f) there g taken last e = absurd e
  stops_early before mid after terms i st old now later lines (fault.Code f b) there g taken last e = absurd e
  stops_early before mid after terms i st old now later lines fault.ReadFailed there g taken last e = absurd e
  stops_early before mid after terms i st old now later lines fault.TooSmall there g taken last e = absurd e
  stops_early before mid after terms i st old now later lines fault.BadOptions there g taken last e = absurd e

  -- what the script in memory shows of an early end, without it
  pub stops_of : (before after : script_type.Script S O A s o) (terms : List Datum) (old new : Option (List ℕ)) (f : ToolFault) → StopsAt before after terms old new f → StopsReplies terms old new f
  stops_of before after terms old new fault.Memory stops = stops.0
  stops_of before after terms old new fault.WriteFailed stops = tt
  stops_of before after terms old new (fault.Text f) stops = absurd stops
  stops_of before after terms old new fault.BadInput stops = absurd stops
  stops_of before after terms old new (fault.Specification f) stops = absurd stops
  stops_of before after terms old new (fault.File f) stops = absurd stops
  stops_of before after terms old new (fault.Code f b) stops = absurd stops
  stops_of before after terms old new fault.ReadFailed stops = absurd stops
  stops_of before after terms old new fault.TooSmall stops = absurd stops
  stops_of before after terms old new fault.BadOptions stops = absurd stops

  pub script_stops : (before after : script_type.Script S O A s o) (known old new : Option (List ℕ)) (f : ToolFault) → StopsScriptAt before after known old new f → StopsScript known old new f
  script_stops before after known old new f (inl unspelled) = inl unspelled
  script_stops before after known old new f (inr (input, is, (terms, spells, stops))) = inr (input, is, (terms, spells, stops_of before after terms old new f stops))
