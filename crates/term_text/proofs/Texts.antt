-- Whole texts: what is read is spelled so, and what is spelled is read so.
use Rattle.std.proofs.Common.{◌≡◌, ◌≢◌, ◌&&◌, ℕ, suc, ◌<◌, inl, inr, Bool, true, false, List, [], ◌∷◌, ◌++◌, length, Ok, refl, sym, ap, subst, ◌∙◌, arith, append_assoc, lit<}
use Rattle.std.specs.Prelude.{IfOk, ◌==◌}
use Rattle.std.proofs.lemmas.Bool.{eqb-true, eq-eqb, ne_eqb, and_parts, or_cases, or_left, or_right}
use Rattle.std.proofs.lemmas.List.{append-nil}
use Rattle.std.specs.List.{AllByRecursion}
use Rattle.term_core.specs.Datum.{Datum}
use Rattle.term_core.specs.declared.TheConstants.{MAX_DEPTH}
use Rattle.term_text.specs.Character.{dot, percent, line_feed, is_white_space}
use Rattle.term_text.specs.Tokens.{Gap, IsLastComment}
use Rattle.term_text.specs.Text.{Spelled, Sentences, BeginsGap}
use Rattle.term_text.specs.Text.Sentences.{none, sentence}
use Rattle.term_text.specs.TokenReading.{after_gap, begins_gap, dot_at, all_steps}
use Rattle.term_text.specs.Reading.{sentence_at, sentence_step, text_at, term_at}
use Rattle.term_text.proofs.Steps.{bind_holds, if_holds, holds_at, Hands, steps_hold, Shrinks, all_steps_is}
use Rattle.term_text.proofs.Tokens.{Behind, gap_holds, gap_again}
use Rattle.term_text.proofs.Tokens.Behind.{something, nothing}
use Rattle.term_text.proofs.Items.{gap_some, gap_shorter, after_gap_shorter}
use Rattle.term_text.proofs.Shorter.{spelled_shorter}
use Rattle.term_text.proofs.Sound.{term_holds}
use Rattle.term_text.proofs.Whole.{IsFirst, spelled_first, gap_first, spelled_again_term}

begins_at : (rest : List ℕ) → begins_gap rest ≡ true → BeginsGap rest
begins_at [] h = tt
begins_at (c ∷ cs) h = elim (or_cases (is_white_space c) (c == percent) h) [ inl w ↦ inl w | inr p ↦ inr (eqb-true c percent p) ]

pub begins_from : (rest : List ℕ) → BeginsGap rest → begins_gap rest ≡ true
begins_from [] h = refl
begins_from (c ∷ cs) (inl w) = or_left (is_white_space c) (c == percent) w
begins_from (c ∷ cs) (inr p) = or_right (is_white_space c) (c == percent) (eq-eqb c percent p)

dot_holds : (text : List ℕ) → IfOk (dot_at text) (λ rest. (text ≡ dot ∷ rest) × BeginsGap rest)
dot_holds [] = tt
dot_holds (c ∷ cs) =
    if_holds (λ (rest : List ℕ). (c ∷ cs ≡ dot ∷ rest) × BeginsGap rest) (c == dot && begins_gap cs) _ _
    (λ e. let p = and_parts (c == dot) (begins_gap cs) e in (ap (λ (x : ℕ). x ∷ cs) (eqb-true c dot p.0), begins_at cs p.1)) (λ _. tt)

-- a term and its dot were read
pub record SentenceRead (text : List ℕ) (d : Datum) (rest : List ℕ) : Type 0 where
  pub behind : List ℕ
  pub spelled : Spelled MAX_DEPTH text d behind
  pub gap : Gap behind (dot ∷ rest)
  pub begins : BeginsGap rest

pub sentence_holds : (text : List ℕ) → IfOk (sentence_at text) (λ x. SentenceRead text x.0 x.1)
unfolding sentence_at
sentence_holds text =
    bind_holds (λ (x : Datum × List ℕ). Spelled MAX_DEPTH text x.0 x.1 × (0 < 1)) (λ (x : Datum × List ℕ). SentenceRead text x.0 x.1) (term_at MAX_DEPTH 1 text) _ (term_holds MAX_DEPTH 1 text)
    (λ x h. bind_holds (λ (rest : List ℕ). (after_gap false x.1 ≡ dot ∷ rest) × BeginsGap rest) (λ (y : Datum × List ℕ). SentenceRead text y.0 y.1) (dot_at (after_gap false x.1)) _ (dot_holds (after_gap false x.1))
    (λ rest e. let g = gap_some x.1 (rw e.0 (omega arith)) in record { behind = x.1; spelled = h.0; gap = rw e.0 at g; begins = e.1 }))

-- the terms so far, and those of any text that has this text after its first gap
pub record TermsRead (ds : List Datum) (text : List ℕ) (es : List Datum) (rest : List ℕ) : Type 0 where
  pub more : List Datum
  pub joined : es ≡ ds ++ more
  pub spelled : (whole : List ℕ) → Behind whole text → Sentences whole more

pub no_more : (whole : List ℕ) (g : List ℕ) → g ≡ [] → Behind whole g → Sentences whole []
no_more whole g e (something b) = none b (subst IsLastComment (sym e) tt)
no_more whole g e (nothing b l) = none b l

pub to_some : (whole g : List ℕ) (c : ℕ) (cs : List ℕ) → g ≡ c ∷ cs → Behind whole g → Gap whole (c ∷ cs)
to_some whole g c cs e (something b) = rw e at b
to_some whole g c cs e (nothing b l) = absurd cc

step_holds : (ds : List Datum) (text : List ℕ) → IfOk (sentence_step ds text) (Hands sentence_step TermsRead ds text)
unfolding sentence_step
step_holds ds [] = record { more = []; joined = sym (append-nil ds); spelled = λ whole b. no_more whole [] refl b }
step_holds ds (c ∷ cs) =
    bind_holds (λ (x : Datum × List ℕ). SentenceRead (c ∷ cs) x.0 x.1) (Hands sentence_step TermsRead ds (c ∷ cs)) (sentence_at (c ∷ cs)) _ (sentence_holds (c ∷ cs))
    (λ x s. λ es rest r. record {
      more = x.0 ∷ r.more;
      joined = r.joined ∙ append_assoc ds (x.0 ∷ []) r.more;
      spelled = λ whole b. sentence (to_some whole (c ∷ cs) c cs refl b) s.spelled s.gap s.begins (r.spelled x.1 (gap_holds x.1));
    })

step_shorter : (ds : List Datum) (text : List ℕ) → IfOk (sentence_step ds text) (λ t. t.0 ≡ true → length t.2 < length text)
unfolding sentence_step
step_shorter ds [] = λ e. absurd cc
step_shorter ds (c ∷ cs) =
    bind_holds (λ (x : Datum × List ℕ). SentenceRead (c ∷ cs) x.0 x.1) (λ (t : Bool × List Datum × List ℕ). t.0 ≡ true → length t.2 < suc (length cs)) (sentence_at (c ∷ cs)) _ (sentence_holds (c ∷ cs))
    (λ x s. λ _. let a = spelled_shorter s.spelled in let b = gap_shorter s.gap in let d = after_gap_shorter x.1 in omega arith)

pub sentence_shrinks : Shrinks sentence_step
sentence_shrinks = record { shorter = λ s text t e. holds_at (λ (t : Bool × List Datum × List ℕ). t.0 ≡ true → length t.2 < length text) (sentence_step s text) t (step_shorter s text) e }

-- what is read is what the text spells
pub text_holds : (text : List ℕ) → IfOk (text_at text) (λ ds. Sentences text ds)
unfolding text_at
text_holds text =
    bind_holds (λ (x : List Datum × List ℕ). TermsRead [] (after_gap false text) x.0 x.1) (λ ds. Sentences text ds) (all_steps sentence_step [] (after_gap false text)) _
    (steps_hold sentence_step TermsRead step_holds (suc (length (after_gap false text))) [] (after_gap false text))
    (λ x r. rw r.joined (r.spelled text (gap_holds text)))

-- ---- the other way round

last_comment_in : (text : List ℕ) → AllByRecursion (λ x. x ≢ line_feed) text → after_gap true text ≡ []
last_comment_in [] h = refl
last_comment_in (c ∷ cs) h = rw (ne_eqb c line_feed h.0) (last_comment_in cs h.1)

pub last_comment : (text : List ℕ) → IsLastComment text → after_gap false text ≡ []
last_comment [] h = refl
last_comment (c ∷ cs) h = rw (eq-eqb c percent h.0) (last_comment_in cs h.1)

pub sentence_again : (text rest : List ℕ) (d : Datum) {u : List ℕ} → Spelled MAX_DEPTH text d u → Gap u (dot ∷ rest) → BeginsGap rest → sentence_at text ≡ Ok (d, rest)
unfolding sentence_at
sentence_again text rest d s g b = rw (spelled_again_term s 1 (lit< tt), gap_again g, begins_from rest b) refl

pub step_again : (ds : List Datum) (text rest : List ℕ) (d : Datum) → IsFirst text → sentence_at text ≡ Ok (d, rest) → sentence_step ds text ≡ Ok (true, ds ++ d ∷ [], after_gap false rest)
unfolding sentence_step
step_again ds [] rest d f e = absurd f
step_again ds (c ∷ cs) rest d f e = rw e refl

step_ends : (ds : List Datum) → sentence_step ds [] ≡ Ok (false, ds, [])
unfolding sentence_step
step_ends ds = refl

pub sentences_again : {text : List ℕ} {ds : List Datum} → Sentences text ds → (front : List Datum) → all_steps sentence_step front (after_gap false text) ≡ Ok (front ++ ds, [])
sentences_again (none {text} {rest} g l) front =
    let nothing_left : after_gap false text ≡ [] = gap_again g ∙ last_comment rest l in
    ap (all_steps sentence_step front) nothing_left ∙ all_steps_is sentence_step sentence_shrinks front [] ∙ rw (step_ends front) (ap (λ (es : List Datum). Ok (es, [])) (sym (append-nil front)))
sentences_again (sentence {text} {t} {u} {rest} {d} {ds} g s h b more) front =
    ap (all_steps sentence_step front) (gap_first g (spelled_first s))
    ∙ all_steps_is sentence_step sentence_shrinks front t
    ∙ rw (step_again front t rest d (spelled_first s) (sentence_again t rest d s h b)) (sentences_again more (front ++ d ∷ []) ∙ ap (λ (es : List Datum). Ok (es, [])) (append_assoc front (d ∷ []) ds))

-- what the text spells is read
pub text_again : (text : List ℕ) (ds : List Datum) → Sentences text ds → text_at text ≡ Ok ds
unfolding text_at
text_again text ds h = rw (sentences_again h []) refl

pub terms_read : (ds : List Datum) (text : List ℕ) (es : List Datum) (rest : List ℕ) → all_steps sentence_step ds text ≡ Ok (es, rest) → TermsRead ds text es rest
terms_read ds text es rest e = holds_at (λ (x : List Datum × List ℕ). TermsRead ds text x.0 x.1) (all_steps sentence_step ds text) (es, rest) (steps_hold sentence_step TermsRead step_holds (suc (length text)) ds text) e
