-- Replies are determined.
use Rattle.std.proofs.Common.{◌≡◌, List, [], ◌∷◌, Option, refl, sym, ◌∙◌, subst, ap, inl, inr}
use Rattle.term_core.specs.Datum.{Datum}
use Rattle.part_core.specs.Settings.{is_ordered}
use Rattle.tables.specs.declared.options.Options.{Options}
use Rattle.mspec_syntax.specs.Specification.{Specification}
use Rattle.mspec_reader.specs.Laws.{HasOneReading, ReadIsNotRefused, HasOneRefusal}
use Rattle.mspec_meaning.specs.Laws.{HasOneMeaning}
use Rattle.mspec_meaning.specs.Meaning.{Means}
use Rattle.walk_query.specs.Laws.{PlansAreOne}
use Rattle.walk_query.specs.Plan.{IsPlanOf}
use Rattle.tool_script.specs.Course.{Step, Course, Gives, Comes}
use Rattle.tool_script.specs.Course.Course.{Settled, Judging}
use Rattle.tool_script.specs.Replied.{course, IsReply, AreReplies}
use Rattle.tool_script.specs.Script.{ScriptState, error}
use Rattle.tool_script.specs.Verdict.{Verdict, IsMeant, IsVerdict}
use Rattle.tool_script.specs.Verdict.Verdict.{Meant, Faulty}
use Rattle.tool_script.proofs.ReadingLemmas.{command_term_is_one}

module _ (one_reading : HasOneReading) (not_refused : ReadIsNotRefused) (one_refusal : HasOneRefusal) (one_meaning : HasOneMeaning) (one_plan : PlansAreOne) where
  -- a term means one answer on each object
  meant_once : (o : Options) (d : Datum) (f g : Datum → Option Datum) (p q : Option (List Datum)) → IsMeant o d f p → IsMeant o d g q → f ≡ g
  meant_once o d f g p q h k =
      let same = one_reading d h.specification k.specification h.read k.read in
      λ i. λ object. one_meaning k.specification object (f object) (g object) (subst (λ (s : Specification). Means s object (f object)) same (h.means object)) (k.means object) i

  -- a term names one list of keys
  planned_once : (o : Options) (d : Datum) (f g : Datum → Option Datum) (p q : Option (List Datum)) → IsMeant o d f p → IsMeant o d g q → p ≡ q
  planned_once o d f g p q h k =
      let same = one_reading d h.specification k.specification h.read k.read in
      one_plan o.keypos (is_ordered o.kind) k.specification p q (subst (λ (s : Specification). IsPlanOf o.keypos (is_ordered o.kind) s p) same h.planned) k.planned

  judged_once : (o : Options) (d : Datum) (v w : Verdict) → IsVerdict o d v → IsVerdict o d w → v ≡ w
  judged_once o d (Meant f p) (Meant g q) h k =
      ap (λ x. Meant x p) (meant_once o d f g p q h k) ∙ ap (Meant g) (planned_once o d f g p q h k)
  judged_once o d (Meant f p) (Faulty g) h k = absurd (k.0 (not_refused d h.specification g h.read h.within k.1))
  judged_once o d (Faulty f) (Meant g q) h k = absurd (h.0 (not_refused d k.specification f k.read k.within h.1))
  judged_once o d (Faulty f) (Faulty g) h k = ap Faulty (one_refusal d f g h.1 k.1 h.0 k.0)

  given_once : (s t : Step ScriptState) (a b : Datum) (p q : ScriptState) → s ≡ t → Gives s a p → Gives t b q → (a ≡ b) × (p ≡ q)
  given_once s t a b p q same here there =
      (here.0 ∙ ap (λ x. x.0) same ∙ sym there.0, here.1 ∙ ap (λ x. x.1) same ∙ sym there.1)

  comes_once : (c : Course ScriptState) (a b : Datum) (p q : ScriptState) → Comes c a p → Comes c b q → (a ≡ b) × (p ≡ q)
  comes_once (Settled s) a b p q here there = given_once s s a b p q refl here there
  comes_once (Judging o d go) a b p q (v, is, here) (w, also, there) =
      given_once (go v) (go w) a b p q (ap go (judged_once o d v w is also)) here there

  -- a term has one reply and leads to one state
  pub replied_once : (st : ScriptState) (d a b : Datum) (p q : ScriptState) → IsReply st d a p → IsReply st d b q → (a ≡ b) × (p ≡ q)
  replied_once st d a b p q (inl (c, is, here)) (inl (e, also, there)) =
      let same : course st st.current c ≡ course st st.current e = ap (course st st.current) (command_term_is_one c e (sym is ∙ also)) in
      comes_once (course st st.current e) a b p q (subst (λ (x : Course ScriptState). Comes x a p) same here) there
  replied_once st d a b p q (inl (c, is, here)) (inr (none, there)) = absurd (none c is)
  replied_once st d a b p q (inr (none, here)) (inl (e, also, there)) = absurd (none e also)
  replied_once st d a b p q (inr (none, here)) (inr (still, there)) =
      given_once (error 65, st) (error 65, st) a b p q refl here there

  pub replies_one : (st : ScriptState) (terms a b : List Datum) → AreReplies st terms a → AreReplies st terms b → a ≡ b
  replies_one st [] [] [] left right = refl
  replies_one st [] [] (r ∷ b) left right = absurd right
  replies_one st [] (r ∷ a) b left right = absurd left
  replies_one st (d ∷ ds) [] b left right = absurd left
  replies_one st (d ∷ ds) (r ∷ a) [] left right = absurd right
  replies_one st (d ∷ ds) (r ∷ a) (s ∷ b) (p, first, rest) (q, other, more) =
      let same = replied_once st d r s p q first other in
      ap (λ x. x ∷ a) same.0 ∙ ap (λ xs. s ∷ xs) (replies_one q ds a b (subst (λ x. AreReplies x ds a) same.1 rest) more)
