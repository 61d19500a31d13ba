-- Lines of answers that are gathered, and then written.
use Rattle.std.proofs.Common.{◌≡◌, ℕ, ◌+◌, ◌<◌, Option, Some, None, List, [], ◌∷◌, ◌++◌, take, drop, get_or, length, refl, sym, ap, ◌∙◌}
use Rattle.std.specs.Prelude.{flat_map}
use Rattle.std.specs.Io.KnownBytes.{Appends}
use Rattle.std.proofs.lemmas.List.{append_assoc, append-nil, take_more, take-append-drop}
use Rattle.term_core.specs.Datum.{Datum}
use Rattle.tool_io.specs.Lines.{line, Passes, EndsBy}
use Rattle.tool_io.specs.declared.fault.ToolFault.{ToolFault}
use Rattle.tool_io.specs.declared.fault.ToolFault.TheVariants as fault
use Rattle.tool_io.proofs.LineLemmas.{appends_none, appends_join}
use Rattle.tool_scan.specs.Answers.{StopsAnswers}

-- the lines of one more answer
lines_more : (ds : List Datum) (d : Datum) → flat_map line (ds ++ d ∷ []) ≡ flat_map line ds ++ line d
lines_more [] d = append-nil (line d)
lines_more (e ∷ ds) d = ap (λ l. line e ++ l) (lines_more ds d) ∙ sym (append_assoc (line e) (flat_map line ds) (line d))

-- what was written, followed by what is gathered, is the lines of these answers
pub record IsGathered (front : List Datum) (old now : Option (List ℕ)) (lines : List ℕ) : Type 0 where
  pub done : List ℕ
  pub gained : Appends old now done
  pub whole : done ++ lines ≡ flat_map line front

pub gathered_none : (answers : List Datum) (old : Option (List ℕ)) → IsGathered (take 0 answers) old old []
gathered_none answers old = record { done = []; gained = appends_none old; whole = refl }

-- one more line is gathered
pub gathered_more : (answers : List Datum) (i : ℕ) (d : Datum) (old now : Option (List ℕ)) (lines more : List ℕ) → i < length answers → d ≡ get_or answers i d
    → IsGathered (take i answers) old now lines → more ≡ lines ++ line d → IsGathered (take (i + 1) answers) old now more
gathered_more answers i d old now lines more there is g grown = record {
  done = g.done;
  gained = g.gained;
  whole = ap (λ l. g.done ++ l) grown
      ∙ (sym (append_assoc g.done lines (line d))
      ∙ (ap (λ l. l ++ line d) g.whole
      ∙ (sym (lines_more (take i answers) d) ∙ ap (λ ds. flat_map line ds) (sym (take_more answers i d there ∙ ap (λ e. take i answers ++ e ∷ []) (sym is))))));
}

-- gathered lines are passed to the writer
pub gathered_passed : (front : List Datum) (old now later : Option (List ℕ)) (lines rest : List ℕ) → IsGathered front old now lines → Passes now later lines rest → IsGathered front old later rest
gathered_passed front old now later lines rest g p = record {
  done = g.done ++ p.part;
  gained = appends_join old now later g.done p.part g.gained p.gained;
  whole = append_assoc g.done p.part rest ∙ (ap (λ l. g.done ++ l) p.kept ∙ g.whole);
}

-- all lines are written
pub gathered_written : (front : List Datum) (old now later : Option (List ℕ)) (lines : List ℕ) → IsGathered front old now lines → Appends now later lines → Appends old later (flat_map line front)
gathered_written front old now later lines g p = rw (← g.whole) (appends_join old now later g.done lines g.gained p)

-- where memory runs out, the lines so far are written
pub stops_early : (answers : List Datum) (i : ℕ) (old now later : Option (List ℕ)) (lines : List ℕ) (f : ToolFault) → IsGathered (take i answers) old now lines → EndsBy now later lines f → StopsAnswers answers old later f
stops_early answers i old now later lines fault.Memory g e =
    record { front = take i answers; rest = drop i answers; whole = sym (take-append-drop i answers); gained = gathered_written (take i answers) old now later lines g e }
stops_early answers i old now later lines fault.WriteFailed g e = tt
stops_early answers i old now later lines (fault.Text f) g e = absurd e
stops_early answers i old now later lines fault.BadInput g e = absurd e
stops_early answers i old now later lines (fault.Specification f) g e = absurd e
stops_early answers i old now later lines (fault.File f) g e = absurd e
stops_early answers i old now later lines (fault.Code f b) g e = absurd e
stops_early answers i old now later lines fault.TooSmall g e = absurd e
stops_early answers i old now later lines fault.BadOptions g e = absurd e
stops_early answers i old now later lines fault.ReadFailed g e = absurd e
