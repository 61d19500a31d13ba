-- The output of a shell is determined.
use Rattle.std.proofs.Common.{◌≡◌, ◌≢◌, ◌⊎◌, ◌<◌, ◌∙◌, ℕ, Bool, true, false, List, [], ◌∷◌, ◌++◌, length, flat_map, refl, sym, ap, subst, arith, inl, inr}
use Rattle.term_core.specs.Datum.{Datum}
use Rattle.term_text.specs.Laws.{SpellsOne, HasOneFault, IsRefusal}
use Rattle.term_text.specs.declared.fault.TextFault.{TextFault}
use Rattle.term_text.specs.declared.fault.TextFault.TheVariants as faults
use Rattle.tool_io.specs.Lines.{line}
use Rattle.tool_io.specs.Terms.{IsNoText}
use Rattle.tool_script.specs.declared.line.Effect.{Effect}
use Rattle.tool_script.specs.declared.line.Effect.TheVariants as effect
use Rattle.tool_script.specs.Line.{first_line, behind_line, effect_of}
use Rattle.tool_script.specs.Script.{ScriptState}
use Rattle.tool_script.specs.Replied.{IsReply}
use Rattle.tool_script.specs.Shell.{Replies, Looked, Goes, refusal}
use Rattle.tool_script.specs.Shell.Looked.{spelled, cut_short, refused}
use Rattle.tool_script.specs.Shell.Goes.{ended, passed, goes_on, looked_at, given_up}

-- ---- by the effect of the next line

-- a text is examined, and the rest of the input is processed
record Stepped (is_given_up : Bool) (st : ScriptState) (text rest out : List ℕ) (after : ScriptState) : Type 0 where
  now : List ℕ
  left : List ℕ
  behind : ScriptState
  more : List ℕ
  looked : Looked is_given_up st text now behind left
  goes : Goes behind left rest more after
  written : out ≡ now ++ more

abbrev By : Effect → ScriptState → (begun input out : List ℕ) → ScriptState → Type 0
By effect.Passes st begun input out after =
    ((length input ≡ 0) × (out ≡ []) × (st ≡ after)) ⊎ ((0 < length input) × Goes st [] (behind_line input) out after)
By effect.GoesOn st begun input out after = Goes st (begun ++ first_line input) (behind_line input) out after
By effect.LooksAt st begun input out after = Stepped false st (begun ++ first_line input) (behind_line input) out after
By effect.GivesUp st begun input out after = Stepped true st begun (behind_line input) out after

by_line : (st after : ScriptState) (begun input out : List ℕ) → Goes st begun input out after → By (effect_of begun (first_line input)) st begun input out after
by_line st after begun input out ended = inl (refl, refl, refl)
by_line st after begun input out (passed is goes) = subst (λ (e : Effect). By e st begun input out after) (sym is) (inr (omega arith, goes))
by_line st after begun input out (goes_on is goes) = subst (λ (e : Effect). By e st begun input out after) (sym is) goes
by_line st after begun input out (looked_at {behind} {now} {left} {out = more} is looked goes) =
    subst (λ (e : Effect). By e st begun input out after) (sym is) (record { now = now; left = left; behind = behind; more = more; looked = looked; goes = goes; written = refl })
by_line st after begun input out (given_up {behind} {now} {left} {out = more} is looked goes) =
    subst (λ (e : Effect). By e st begun input out after) (sym is) (record { now = now; left = left; behind = behind; more = more; looked = looked; goes = goes; written = refl })

by_effect : (st after : ScriptState) (begun input out : List ℕ) (e : Effect) → effect_of begun (first_line input) ≡ e → Goes st begun input out after → By e st begun input out after
by_effect st after begun input out e is goes = subst (λ (f : Effect). By f st begun input out after) is (by_line st after begun input out goes)

refusal_of : (text : List ℕ) (f : TextFault) → IsNoText text f → IsRefusal text f
refusal_of text f none = record { other = none.other; cause = none.cause; bad_utf8 = none.bad_utf8 }

module _ (replied_once : (st : ScriptState) (d a b : Datum) (p q : ScriptState) → IsReply st d a p → IsReply st d b q → (a ≡ b) × (p ≡ q)) where
  replies_once : (st p q : ScriptState) (ds a b : List Datum) → Replies st ds a p → Replies st ds b q → (a ≡ b) × (p ≡ q)
  replies_once st p q [] [] [] here there = (refl, sym here ∙ there)
  replies_once st p q [] [] (r ∷ b) here there = absurd there
  replies_once st p q [] (r ∷ a) b here there = absurd here
  replies_once st p q (d ∷ ds) [] b here there = absurd here
  replies_once st p q (d ∷ ds) (r ∷ a) [] here there = absurd there
  replies_once st p q (d ∷ ds) (r ∷ a) (s ∷ b) (m, first, rest) (n, other, more) =
      let same = replied_once st d r s m n first other in
      let behind = replies_once n p q ds a b (subst (λ (x : ScriptState). Replies x ds a p) same.1 rest) more in
      (ap (λ x. x ∷ a) same.0 ∙ ap (λ xs. s ∷ xs) behind.0, behind.1)

  module _ (spelled_once : SpellsOne) (one_fault : HasOneFault) where
    looked_once : (is_given_up : Bool) (st p q : ScriptState) (text a b l m : List ℕ) → Looked is_given_up st text a p l → Looked is_given_up st text b q m → (a ≡ b) × (p ≡ q) × (l ≡ m)
    looked_once g st p q text a b l m (spelled rs here replied) (spelled qs there also) =
        let same = replies_once st p q _ rs qs replied (subst (λ (ds : List Datum). Replies st ds qs q) (spelled_once text _ _ there here) also) in
        (ap (flat_map line) same.0, same.1, refl)
    looked_once g st p q text a b l m (spelled rs here replied) (cut_short not_given wrong) = absurd (wrong.unspelled _ here)
    looked_once g st p q text a b l m (spelled rs here replied) (refused wrong why) = absurd (wrong.unspelled _ here)
    looked_once g st p q text a b l m (cut_short not_given wrong) (spelled rs there replied) = absurd (wrong.unspelled _ there)
    looked_once g st p q text a b l m (cut_short not_given wrong) (cut_short still also) = (refl, refl, refl)
    looked_once g st p q text a b l m (cut_short not_given wrong) (refused {f} also why) =
        absurd (why not_given (one_fault.one text f (faults.Syntax (length text)) (refusal_of text f also) (refusal_of text _ wrong)))
    looked_once g st p q text a b l m (refused wrong why) (spelled rs there replied) = absurd (wrong.unspelled _ there)
    looked_once g st p q text a b l m (refused {f} wrong why) (cut_short not_given also) =
        absurd (why not_given (one_fault.one text f (faults.Syntax (length text)) (refusal_of text f wrong) (refusal_of text _ also)))
    looked_once g st p q text a b l m (refused {f} wrong why) (refused {f = h} also reason) =
        (ap (λ (x : TextFault). line (refusal x)) (one_fault.one text f h (refusal_of text f wrong) (refusal_of text h also)), refl, refl)

    -- the output for the rest, where the state and the pending text after a text are equal
    moved : (p q after : ScriptState) (l m rest out : List ℕ) → p ≡ q → l ≡ m → Goes q m rest out after → Goes p l rest out after
    moved p q after l m rest out is same goes = subst (λ (x : ScriptState). Goes x l rest out after) (sym is) (subst (λ xs. Goes q xs rest out after) (sym same) goes)

    pub goes_once : (st p q : ScriptState) (begun input a b : List ℕ) → Goes st begun input a p → Goes st begun input b q → (a ≡ b) × (p ≡ q)
    goes_once st p q begun input a b ended goes = elim (by_line st q [] [] b goes) [
      | inl (none, written, is) ↦ (sym written, is)
      | inr (some, more) ↦ absurd (omega (arith, some))
    ]
    goes_once st p q begun input a b (passed {c} {input = cs} is first) goes = elim (by_effect st q begun input b effect.Passes is goes) [
      | inl (none, written, same) ↦ absurd (omega (arith, none))
      | inr (some, more) ↦ goes_once st p q [] (behind_line (c ∷ cs)) a b first more
    ]
    goes_once st p q begun input a b (goes_on is first) goes =
        goes_once st p q (begun ++ first_line input) (behind_line input) a b first (by_effect st q begun input b effect.GoesOn is goes)
    goes_once st p q begun input a b (looked_at {behind} {now} {left} {out} is looked first) goes =
        let s : Stepped false st (begun ++ first_line input) (behind_line input) b q = by_effect st q begun input b effect.LooksAt is goes in
        let same = looked_once false st behind s.behind (begun ++ first_line input) now s.now left s.left looked s.looked in
        let more = goes_once behind p q left (behind_line input) out s.more first (moved behind s.behind q left s.left (behind_line input) s.more same.1 same.2 s.goes) in
        (ap (λ xs. xs ++ out) same.0 ∙ ap (λ xs. s.now ++ xs) more.0 ∙ sym s.written, more.1)
    goes_once st p q begun input a b (given_up {behind} {now} {left} {out} is looked first) goes =
        let s : Stepped true st begun (behind_line input) b q = by_effect st q begun input b effect.GivesUp is goes in
        let same = looked_once true st behind s.behind begun now s.now left s.left looked s.looked in
        let more = goes_once behind p q left (behind_line input) out s.more first (moved behind s.behind q left s.left (behind_line input) s.more same.1 same.2 s.goes) in
        (ap (λ xs. xs ++ out) same.0 ∙ ap (λ xs. s.now ++ xs) more.0 ∙ sym s.written, more.1)
