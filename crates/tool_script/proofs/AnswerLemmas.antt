-- The output of a shell for lines that contain whole commands.
use Rattle.std.proofs.Common.{◌≡◌, ◌∙◌, ℕ, List, [], ◌∷◌, ◌++◌, false, flat_map, refl, sym, ap, subst}
use Rattle.std.proofs.lemmas.List.Concat.{flat_map-append}
use Rattle.term_core.specs.Datum.{Datum}
use Rattle.term_text.specs.Laws.{SpellsOne}
use Rattle.term_text.specs.Text.{Spells}
use Rattle.tool_io.specs.Lines.{line}
use Rattle.tool_script.specs.declared.line.Effect.{Effect}
use Rattle.tool_script.specs.declared.line.Effect.TheVariants as effect
use Rattle.tool_script.specs.Laws.{AreCommandLines}
use Rattle.tool_script.specs.Line.{first_line, behind_line, effect_of}
use Rattle.tool_script.specs.Script.{ScriptState}
use Rattle.tool_script.specs.Replied.{AreReplies}
use Rattle.tool_script.specs.Shell.{Replies, Looked, Goes}
use Rattle.tool_script.specs.Shell.Looked.{spelled, cut_short, refused}
use Rattle.tool_script.specs.Shell.Goes.{ended, passed, goes_on, looked_at, given_up}

-- replies to terms, followed by replies to the terms after them
replies_join : (st mid : ScriptState) (ds es rs qs : List Datum) → Replies st ds rs mid → AreReplies mid es qs → AreReplies st (ds ++ es) (rs ++ qs)
replies_join st mid [] es [] qs is rest = subst (λ (s : ScriptState). AreReplies s es qs) (sym is) rest
replies_join st mid [] es (r ∷ rs) qs is rest = absurd is
replies_join st mid (d ∷ ds) es [] qs is rest = absurd is
replies_join st mid (d ∷ ds) es (r ∷ rs) qs (next, first, more) rest = (next, first, replies_join next mid ds es rs qs more rest)

-- ---- a line

effects_apart : (begun bytes l : List ℕ) (e : Effect) → begun ≡ [] → bytes ≡ l → effect_of begun bytes ≡ e → effect_of [] l ≡ effect.LooksAt → e ≡ effect.LooksAt
effects_apart begun bytes l e none same is looks =
    sym is ∙ (ap (λ b. effect_of b bytes) none ∙ (ap (effect_of []) same ∙ looks))

never_passed : effect.Passes ≡ effect.LooksAt → ⊥
never_passed e = cc

never_gone : effect.GoesOn ≡ effect.LooksAt → ⊥
never_gone e = cc

never_given : effect.GivesUp ≡ effect.LooksAt → ⊥
never_given e = cc

-- the output for a line that contains whole commands
pub record Answers (st : ScriptState) (ds : List Datum) (now left : List ℕ) (behind : ScriptState) : Type 0 where
  pub replies : List Datum
  pub replied : Replies st ds replies behind
  pub written : now ≡ flat_map line replies
  pub none : left ≡ []

looked_whole : (once : SpellsOne) (st behind : ScriptState) (text now left : List ℕ) (ds : List Datum) → Spells text ds → Looked false st text now behind left → Answers st ds now left behind
looked_whole once st behind text now left ds spells (spelled replies found replied) = record {
  replies = replies;
  replied = subst (λ (terms : List Datum). Replies st terms replies behind) (once text _ ds found spells) replied;
  written = refl;
  none = refl;
}
looked_whole once st behind text now left ds spells (cut_short not_given wrong) = absurd (wrong.unspelled ds spells)
looked_whole once st behind text now left ds spells (refused wrong why) = absurd (wrong.unspelled ds spells)

-- the output for such a line and for the rest of the input after it
pub record LineAnswers (st : ScriptState) (ds : List Datum) (rest out : List ℕ) (after : ScriptState) : Type 0 where
  pub replies : List Datum
  pub behind : ScriptState
  pub replied : Replies st ds replies behind
  pub more : List ℕ
  pub written : out ≡ flat_map line replies ++ more
  pub goes : Goes behind [] rest more after

looked_answers : (once : SpellsOne) (st mid after : ScriptState) (begun input now left more rest l : List ℕ) (ds : List Datum) → begun ≡ [] → first_line input ≡ l → behind_line input ≡ rest
    → Spells l ds → Looked false st (begun ++ first_line input) now mid left → Goes mid left (behind_line input) more after → LineAnswers st ds rest (now ++ more) after
looked_answers once st mid after begun input now left more rest l ds none first behind spells looked goes =
    let text : begun ++ first_line input ≡ l = ap (λ b. b ++ first_line input) none ∙ first in
    let answers = looked_whole once st mid l now left ds spells (subst (λ t. Looked false st t now mid left) text looked) in
    record {
      replies = answers.replies;
      behind = mid;
      replied = answers.replied;
      more = more;
      written = ap (λ m. m ++ more) answers.written;
      goes = subst (λ bytes. Goes mid [] bytes more after) behind (subst (λ b. Goes mid b (behind_line input) more after) answers.none goes);
    }

line_answers : (once : SpellsOne) (st after : ScriptState) (begun input rest out l : List ℕ) (ds : List Datum) → begun ≡ [] → first_line input ≡ l → behind_line input ≡ rest
    → effect_of [] l ≡ effect.LooksAt → Spells l ds → Goes st begun input out after → LineAnswers st ds rest out after
line_answers once st after begun input rest out l ds none first behind looks spells ended =
    absurd (never_passed (effects_apart [] [] l effect.Passes refl first refl looks))
line_answers once st after begun input rest out l ds none first behind looks spells (passed is goes) =
    absurd (never_passed (effects_apart [] _ l effect.Passes refl first is looks))
line_answers once st after begun input rest out l ds none first behind looks spells (goes_on is goes) =
    absurd (never_gone (effects_apart begun (first_line input) l effect.GoesOn none first is looks))
line_answers once st after begun input rest out l ds none first behind looks spells (given_up is looked goes) =
    absurd (never_given (effects_apart begun (first_line input) l effect.GivesUp none first is looks))
line_answers once st after begun input rest out l ds none first behind looks spells (looked_at is looked goes) =
    looked_answers once st _ after begun input _ _ _ rest l ds none first behind spells looked goes

-- ---- lines

at_end : (e : Effect) (begun input : List ℕ) → begun ≡ [] → input ≡ [] → effect_of begun (first_line input) ≡ e → (effect.Passes ≡ e → ⊥) → ⊥
at_end e begun input none empty is apart = apart (sym (ap (λ b. effect_of b (first_line input)) none ∙ ap (λ bytes. effect_of [] (first_line bytes)) empty) ∙ is)

-- after the last line nothing is written
nothing_more : (st after : ScriptState) (begun input out : List ℕ) → begun ≡ [] → input ≡ [] → Goes st begun input out after → out ≡ []
nothing_more st after begun input out none empty ended = refl
nothing_more st after begun input out none empty (passed is goes) = absurd (cc)
nothing_more st after begun input out none empty (goes_on is goes) = absurd (at_end effect.GoesOn begun input none empty is (λ e. cc))
nothing_more st after begun input out none empty (looked_at is looked goes) = absurd (at_end effect.LooksAt begun input none empty is (λ e. cc))
nothing_more st after begun input out none empty (given_up is looked goes) = absurd (at_end effect.GivesUp begun input none empty is (λ e. cc))

pub replied_with : (st mid : ScriptState) (ds es rs : List Datum) (out more : List ℕ) → Replies st ds rs mid → out ≡ flat_map line rs ++ more
    → (qs : List Datum) × AreReplies mid es qs × (more ≡ flat_map line qs) → (replies : List Datum) × AreReplies st (ds ++ es) replies × (out ≡ flat_map line replies)
replied_with st mid ds es rs out more replied written (qs, are, is) = (
  rs ++ qs,
  replies_join st mid ds es rs qs replied are,
  written ∙ (ap (λ m. flat_map line rs ++ m) is ∙ sym (flat_map-append line rs qs)),
)

pub lines_replied : (once : SpellsOne) (st after : ScriptState) (rows : List (List ℕ × List Datum)) (input out begun : List ℕ) → begun ≡ [] → input ≡ flat_map (λ row. row.0) rows → AreCommandLines rows
    → Goes st begun input out after → (replies : List Datum) × AreReplies st (flat_map (λ row. row.1) rows) replies × (out ≡ flat_map line replies)
lines_replied once st after [] input out begun none all are goes = ([], tt, nothing_more st after begun input out none all goes)
lines_replied once st after (row ∷ rows) input out begun none all (here, are) goes =
    let rest = flat_map (λ (r : List ℕ × List Datum). r.0) rows in
    let before = here.whole rest in
    let l = line_answers once st after begun input rest out row.0 row.1 none (ap first_line all ∙ before.0) (ap behind_line all ∙ before.1) here.looked_at here.spells goes in
    replied_with st l.behind row.1 (flat_map (λ (r : List ℕ × List Datum). r.1) rows) l.replies out l.more l.replied l.written
    (lines_replied once l.behind after rows rest l.more [] refl refl are l.goes)
