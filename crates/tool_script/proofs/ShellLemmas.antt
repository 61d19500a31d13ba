-- A shell goes on from line to line.
use Rattle.std.proofs.Common.{◌≡◌, ◌≢◌, ◌⊎◌, ◌↔◌, inl, inr, ℕ, zero, suc, ◌+◌, ◌-◌, ◌<◌, Bool, true, false, Option, Some, None, IfSome, List, [], ◌∷◌, ◌++◌, take, drop, get_or, length, flat_map, refl, sym, ap, subst, ◌∙◌, append_assoc, arith}
use Rattle.std.specs.Prelude.{if◌then◌else◌, ◌==◌, Result, Ok, Err, IfOk, IfErr, OnErr}
use Rattle.std.proofs.lemmas.Bool.{true≢false}
use Rattle.std.proofs.lemmas.List.{append-nil, take_more, take-append-drop}
use Rattle.std.proofs.lemmas.List.Concat.{flat_map-append}
use Rattle.std.proofs.Math.Seq.{take-append_seam, drop-append_seam}
use Rattle.std.specs.Io.KnownBytes.{Appends, Consumes, prepend_known}
use Rattle.std.specs.Str.{IsValidUpTo}
use Rattle.term_core.specs.Datum.{Datum}
use Rattle.term_text.specs.Text.{Spells}
use Rattle.term_text.specs.Causes.{HasCause}
use Rattle.term_text.specs.declared.fault.TextFault.{TextFault}
use Rattle.term_text.specs.declared.fault.TextFault.TheVariants as faults
use Rattle.part_core.specs.declared.part.Part.{Ghosts}
use Rattle.tool_io.specs.Input.{IsReadFault}
use Rattle.tool_io.specs.Lines.{line, Passes}
use Rattle.tool_io.specs.Terms.{OfInput, IsNoText}
use Rattle.tool_io.specs.declared.fault.ToolFault.{ToolFault}
use Rattle.tool_io.specs.declared.fault.ToolFault.TheVariants as fault
use Rattle.tool_script.specs.declared.line.Effect.{Effect}
use Rattle.tool_script.specs.declared.line.Effect.TheVariants as effect
use Rattle.tool_script.specs.declared.line.Progress.{Progress}
use Rattle.tool_script.specs.declared.line.Progress.TheVariants as progress
use Rattle.tool_script.specs.declared.script.Script as script_type
use Rattle.tool_script.specs.declared.line.Within.TheVariants as within
use Rattle.tool_script.specs.Line.{first_line, behind_line, is_empty, has_dot, within_end, effect_of, IsLineBefore, IsLine, TakesLine}
use Rattle.tool_script.specs.Run.{IsPut}
use Rattle.tool_script.specs.Script.{ScriptState, beginning}
use Rattle.tool_script.specs.Scripts.{AreTaken, HasState}
use Rattle.tool_script.specs.Shell.{Looked, Goes, IsLookedAtNext, FirstReplies, AreFirstReplies, WritesAnswers, WritesFirst, StopsShell, refusal}
use Rattle.tool_script.specs.Shell.IsLookedAtNext.{by_dot, by_giving_up, behind_line_begun, behind_cut_short}
use Rattle.tool_script.specs.Shell.Looked.{spelled, cut_short, refused}
use Rattle.tool_script.specs.Shell.Goes.{ended, passed, goes_on, looked_at, given_up}
use Rattle.tool_script.specs.Shells.{AreAnswered, StopsTerms, IsRefused, IsLookedAt, StopsText, IsLookedAtBy, StopsLine, LeadsOn, LooksOn, IsLineAnswered, MayFollow, MayStandBehind, IsAllAt, Stands, HoldsFirst, StopsHolding, IsToldBy}
use Rattle.tool_script.proofs.LineLemmas.{slice_end}
use Rattle.tool_io.proofs.LineLemmas.{appends_none}
use Rattle.tool_script.proofs.PassLemmas.{replied_more, consumes_join, passes_none, passes_more, passes_on, passes_put, passes_written}
use Rattle.tool_script.proofs.TakenLemmas.{taken_front}

-- ---- lines

-- one more reply
one_more : (rs : List Datum) (r : Datum) → flat_map line rs ++ line r ≡ flat_map line (rs ++ r ∷ [])
one_more rs r = ap (λ l. flat_map line rs ++ l) (sym (append-nil (line r))) ∙ sym (flat_map-append line rs (r ∷ []))

before_rest : (p : Progress) (left : Option (List ℕ)) (l rest : List ℕ) → IsLine l p left → MayFollow p rest → IsLineBefore l rest
before_rest progress.More left l rest whole may = whole rest
before_rest progress.End left l rest whole may = subst (IsLineBefore l) (sym may) whole.0

pub may_more : (begun rest : List ℕ) → MayStandBehind progress.More begun rest
may_more [] rest = tt
may_more (b ∷ begun) rest = tt

may_begun : (p : Progress) (begun rest : List ℕ) → 0 < length begun → MayStandBehind p begun rest
may_begun p [] rest some = absurd (omega (arith, some))
may_begun p (b ∷ begun) rest some = tt

all_at : (p : Progress) (known left : Option (List ℕ)) (taken l : List ℕ) → Consumes known left taken → IsLine l p left → IsAllAt p known (taken ++ l)
all_at progress.More known left taken l lost whole = tt
all_at progress.End None left taken l lost whole = tt
all_at progress.End (Some xs) None taken l lost whole = absurd lost
all_at progress.End (Some xs) (Some ys) taken l lost whole = lost ∙ ap (λ m. taken ++ m) whole.1

-- what is left after a line, where that is known
abbrev left_behind : Progress → Option (List ℕ) → List ℕ
left_behind progress.End left = []
left_behind progress.More None = []
left_behind progress.More (Some xs) = xs

may_left : (p : Progress) (left : Option (List ℕ)) → MayFollow p (left_behind p left)
may_left progress.End left = refl
may_left progress.More left = tt

-- the input is what was taken, the line, and what is left after it
whole_with : (p : Progress) (known left after : Option (List ℕ)) (taken l : List ℕ) → Consumes known left taken → Consumes left after l → IsLine l p left → IfSome known (λ bytes. bytes ≡ taken ++ (l ++ left_behind p after))
whole_with progress.End known left after taken l lost gone whole = at_end known (all_at progress.End known left taken l lost whole)
  where
    at_end : (k : Option (List ℕ)) → IfSome k (λ bytes. bytes ≡ taken ++ l) → IfSome k (λ bytes. bytes ≡ taken ++ (l ++ []))
    at_end None is = tt
    at_end (Some xs) is = is ∙ ap (λ m. taken ++ m) (sym (append-nil l))
whole_with progress.More None left after taken l lost gone whole = tt
whole_with progress.More (Some xs) None after taken l lost gone whole = absurd lost
whole_with progress.More (Some xs) (Some ys) None taken l lost gone whole = absurd gone
whole_with progress.More (Some xs) (Some ys) (Some zs) taken l lost gone whole = lost ∙ ap (λ m. taken ++ m) gone

whole_left : (known left : Option (List ℕ)) (taken : List ℕ) → Consumes known left taken → IfSome known (λ bytes. bytes ≡ taken ++ left_behind progress.More left)
whole_left None left taken lost = tt
whole_left (Some xs) None taken lost = absurd lost
whole_left (Some xs) (Some ys) taken lost = lost

-- the pending text comes before what is left
apart_from : (known : Option (List ℕ)) (front begun rest : List ℕ) → IfSome known (λ bytes. bytes ≡ (front ++ begun) ++ rest) → IfSome known (λ bytes. bytes ≡ front ++ (begun ++ rest))
apart_from None front begun rest is = tt
apart_from (Some xs) front begun rest is = is ∙ append_assoc front begun rest

-- ---- what a line does

by_turn : (b d : Bool) (x y z e : Effect) → (if b then x else if d then y else z) ≡ e → x ≢ e → y ≢ e → z ≢ e → ⊥
by_turn true d x y z e is nx ny nz = nx is
by_turn false true x y z e is nx ny nz = ny is
by_turn false false x y z e is nx ny nz = nz is

never_passes : (b : ℕ) (begun l : List ℕ) → effect_of (b ∷ begun) l ≢ effect.Passes
never_passes b begun l is = by_turn (is_empty l) (has_dot (within_end within.Nothing (b ∷ begun)) l) effect.GivesUp effect.LooksAt effect.GoesOn effect.Passes is (λ e. absurd (cc)) (λ e. absurd (cc)) (λ e. absurd (cc))

pub leads_passed : (st : ScriptState) (begun l : List ℕ) → effect_of begun l ≡ effect.Passes → LeadsOn st begun l [] st []
leads_passed st [] [] is = λ rest out after before goes. goes
leads_passed st [] (c ∷ l) is = λ rest out after before goes.
    passed (ap (effect_of []) before.0 ∙ is) (subst (λ xs. Goes st [] xs out after) (sym before.1) goes)
leads_passed st (b ∷ begun) l is = absurd (never_passes b begun l is)

pub leads_kept : (st : ScriptState) (begun l : List ℕ) → effect_of begun l ≡ effect.GoesOn → LeadsOn st begun l [] st (begun ++ l)
leads_kept st begun l is = λ rest out after before goes.
    goes_on (ap (effect_of begun) before.0 ∙ is)
    (subst (λ xs. Goes st (begun ++ xs) (behind_line (l ++ rest)) out after) (sym before.0) (subst (λ xs. Goes st (begun ++ l) xs out after) (sym before.1) goes))

leads_looked : (st : ScriptState) (begun l now : List ℕ) (behind : ScriptState) (left : List ℕ) → effect_of begun l ≡ effect.LooksAt → Looked false st (begun ++ l) now behind left → LeadsOn st begun l now behind left
leads_looked st begun l now behind left is looked = λ rest out after before goes.
    looked_at (ap (effect_of begun) before.0 ∙ is) (subst (λ xs. Looked false st (begun ++ xs) now behind left) (sym before.0) looked)
    (subst (λ xs. Goes behind left xs out after) (sym before.1) goes)

leads_given : (st : ScriptState) (begun l now : List ℕ) (behind : ScriptState) (left : List ℕ) → effect_of begun l ≡ effect.GivesUp → Looked true st begun now behind left → LeadsOn st begun l now behind left
leads_given st begun l now behind left is looked = λ rest out after before goes.
    given_up (ap (effect_of begun) before.0 ∙ is) looked (subst (λ xs. Goes behind left xs out after) (sym before.1) goes)

-- ---- the text that is examined next

on_from : (begun l rest text : List ℕ) → IsLineBefore l rest → IsLookedAtNext (begun ++ l) rest text → IsLookedAtNext (begun ++ first_line (l ++ rest)) (behind_line (l ++ rest)) text
on_from begun l rest text before next =
    subst (λ xs. IsLookedAtNext (begun ++ xs) (behind_line (l ++ rest)) text) (sym before.0) (subst (λ xs. IsLookedAtNext (begun ++ l) xs text) (sym before.1) next)

on_kept : (begun l : List ℕ) → effect_of begun l ≡ effect.GoesOn → LooksOn begun l
on_kept begun l is = λ rest text before next. behind_line_begun (ap (effect_of begun) before.0 ∙ is) (on_from begun l rest text before next)

on_cut_short : (begun l : List ℕ) → effect_of begun l ≡ effect.LooksAt → IsNoText (begun ++ l) (faults.Syntax (length (begun ++ l))) → LooksOn begun l
on_cut_short begun l is none = λ rest text before next.
    behind_cut_short (ap (effect_of begun) before.0 ∙ is) (subst (λ xs. IsNoText (begun ++ xs) (faults.Syntax (length (begun ++ xs)))) (sym before.0) none) (on_from begun l rest text before next)

by_line : (begun l : List ℕ) → effect_of begun l ≡ effect.LooksAt → IsLookedAtBy begun l (begun ++ l)
by_line begun l is = λ rest before. subst (λ xs. IsLookedAtNext begun (l ++ rest) (begun ++ xs)) before.0 (by_dot (ap (effect_of begun) before.0 ∙ is))

by_empty : (begun l : List ℕ) → effect_of begun l ≡ effect.GivesUp → IsLookedAtBy begun l begun
by_empty begun l is = λ rest before. by_giving_up (ap (effect_of begun) before.0 ∙ is)

by_end : (begun : List ℕ) → 0 < length begun → IsLookedAtNext begun [] begun
by_end [] some = absurd (omega (arith, some))
by_end (b ∷ begun) some = by_giving_up refl

-- the lines that are appended at a line come from the text that is examined next
first_there : (st : ScriptState) (begun l rest now : List ℕ) → IsLineBefore l rest → ((text : List ℕ) → IsLookedAtNext begun (l ++ rest) text → IsLookedAtNext [] (begun ++ (l ++ rest)) text)
    → (now ≡ []) ⊎ ((text : List ℕ) × IsLookedAtBy begun l text × FirstReplies st text now) → AreFirstReplies st (begun ++ (l ++ rest)) now
first_there st begun l rest now before next (inl none) = inl none
first_there st begun l rest now before next (inr (text, by, first)) = inr (text, next text (by rest before), first)

-- ---- the end

-- the pending text is given up at the end of the input
ends_given : (st : ScriptState) (begun now : List ℕ) (behind : ScriptState) → 0 < length begun → Looked true st begun now behind [] → Goes st begun [] (now ++ []) behind
ends_given st [] now behind some looked = absurd (omega (arith, some))
ends_given st (b ∷ begun) now behind some looked = given_up refl looked ended

-- ---- without a script

no_text : (text : List ℕ) (f : TextFault) → f ≢ faults.Memory → ((ds : List Datum) → Spells text ds → f ≡ faults.Memory) → HasCause text f → ((at : ℕ) → (f ≡ faults.BadUtf8 at) ↔ IsValidUpTo text at) → IsNoText text f
no_text text f other only cause bad = record { unspelled = λ ds spells. other (only ds spells); other = other; cause = cause; bad_utf8 = bad }

four : (front begun l rest : List ℕ) → (front ++ begun) ++ (l ++ rest) ≡ (front ++ (begun ++ l)) ++ rest
four front begun l rest = sym (append_assoc (front ++ begun) l rest) ∙ ap (λ m. m ++ rest) (append_assoc front begun l)

read_stops : (known old now : Option (List ℕ)) (lines : List ℕ) (f : ToolFault) → IsReadFault f → HoldsFirst known old now lines → StopsHolding known old now lines f
read_stops known old now lines fault.Memory is h = h
read_stops known old now lines fault.ReadFailed is h = h
read_stops known old now lines (fault.Text g) is h = absurd is
read_stops known old now lines fault.BadInput is h = absurd is
read_stops known old now lines (fault.Specification g) is h = absurd is
read_stops known old now lines (fault.File g) is h = absurd is
read_stops known old now lines (fault.Code g n) is h = absurd is
read_stops known old now lines fault.TooSmall is h = absurd is
read_stops known old now lines fault.BadOptions is h = absurd is
read_stops known old now lines fault.WriteFailed is h = absurd is

-- the gathered lines are written
holds_written : (known old now later : Option (List ℕ)) (lines : List ℕ) → HoldsFirst known old now lines → Appends now later lines → WritesFirst known old later
holds_written known old now later lines h written =
    record { front = h.front; rest = h.rest; whole = h.whole; out = h.out; more = h.more; st = h.st; answered = h.answered; first = h.first; gained = passes_written old now later (h.out ++ h.more) lines h.put written }

stops_by : (known old now later : Option (List ℕ)) (lines : List ℕ) (f : ToolFault) → StopsHolding known old now lines f → Appends now later lines → StopsShell known old later f
stops_by known old now later lines fault.Memory h written = holds_written known old now later lines h written
stops_by known old now later lines fault.ReadFailed h written = holds_written known old now later lines h written
stops_by known old now later lines fault.WriteFailed h written = tt
stops_by known old now later lines (fault.Text g) h written = absurd h
stops_by known old now later lines fault.BadInput h written = absurd h
stops_by known old now later lines (fault.Specification g) h written = absurd h
stops_by known old now later lines (fault.File g) h written = absurd h
stops_by known old now later lines (fault.Code g n) h written = absurd h
stops_by known old now later lines fault.TooSmall h written = absurd h
stops_by known old now later lines fault.BadOptions h written = absurd h

pub told_stops : (known old now later : Option (List ℕ)) (lines : List ℕ) (f result : ToolFault) → StopsHolding known old now lines f → IsToldBy f now later lines result → StopsShell known old later result
told_stops known old now later lines f result h (inl is) = rw is tt
told_stops known old now later lines f result h (inr (is, written)) = subst (StopsShell known old later) (sym is) (stops_by known old now later lines f h written)

none_lost : (k : Option (List ℕ)) → Consumes k k []
none_lost None = tt
none_lost (Some xs) = refl

-- memory ran out before anything was read
pub stops_first : (known old : Option (List ℕ)) → WritesFirst known old old
stops_first known old =
    record { front = []; rest = left_behind progress.More known; whole = whole_left known known [] (none_lost known); out = []; more = []; st = beginning; answered = λ rest more after goes. goes; first = inl refl; gained = appends_none old }

-- nothing was read ahead
pub ahead_none : (capacity : ℕ) (buffer : List ℕ) (known : Option (List ℕ)) → capacity ≡ 8192 → buffer ≡ [] → (if capacity == 0 then None else prepend_known buffer known) ≡ known
ahead_none capacity buffer known sized empty =
    ap (λ (n : ℕ). if n == 0 then None else prepend_known buffer known) sized ∙ ap (λ l. prepend_known l known) empty ∙ same known
  where
    same : (k : Option (List ℕ)) → prepend_known [] k ≡ k
    same None = refl
    same (Some xs) = refl

pub some_of : (n : ℕ) → (n == 0) ≡ false → 0 < n
some_of zero is = absurd (true≢false is)
some_of (suc n) is = omega arith

pub at_line : (e : Effect) (text : List ℕ) (n : ℕ) → e ≡ effect_of (take n text) (take (length text - n) (drop n text)) → effect_of (take n text) (drop n text) ≡ e
at_line e text n is =
    sym (is ∙ ap (effect_of (take n text)) (slice_end text n))

module _ {S O A : Type 0} {s : Ghosts S A} {o : Ghosts O A} where
  -- ---- terms

  pub answered_none : (script : script_type.Script S O A s o) (a : Option (List ℕ)) (lines : List ℕ) → AreAnswered script script [] a a lines lines
  answered_none script a lines = λ st has.
      ([], st, refl, has, record { part = []; gained = appends_none a; kept = sym (append-nil lines) })

  pub answered_more : (old mid new : script_type.Script S O A s o) (terms : List Datum) (i : ℕ) (d e : Datum) (a b c : Option (List ℕ)) (first lines more rest : List ℕ) → i < length terms → d ≡ get_or terms i e
      → AreAnswered old mid (take i terms) a b first lines → IsPut mid new d lines more → Passes b c more rest → AreAnswered old new (take (i + 1) terms) a c first rest
  answered_more old mid new terms i d e a b c first lines more rest there is so_far put passes = λ st has.
      let f = so_far st has in
      let p = put f.1 f.3 in
      let joined : (first ++ flat_map line f.0) ++ line p.0 ≡ first ++ flat_map line (f.0 ++ p.0 ∷ []) =
      append_assoc first (flat_map line f.0) (line p.0) ∙ ap (λ l. first ++ l) (one_more f.0 p.0) in (
        f.0 ++ p.0 ∷ [],
        p.1,
        rw (take_more terms i e there, ← is) (replied_more st (take i terms) f.0 f.1 p.1 d p.0 f.2 p.2),
        p.3,
        subst (λ l. Passes a c l rest) joined (passes_more a b c (first ++ flat_map line f.0) lines (line p.0) rest f.4 (subst (λ l. Passes b c l rest) p.4 passes)),
      )

  pub terms_stop : (old mid new : script_type.Script S O A s o) (terms : List Datum) (i : ℕ) (a b : Option (List ℕ)) (first lines more : List ℕ) → i < length terms
      → AreAnswered old mid (take i terms) a b first lines → AreTaken old mid i → AreTaken mid new 1 → more ≡ lines → StopsTerms old new terms a b first more fault.Memory
  terms_stop old mid new terms i a b first lines more there so_far taken last same = λ st has.
      let f = so_far st has in (
        take i terms,
        drop i terms,
        f.0,
        f.1,
        sym (take-append-drop i terms),
        f.2,
        subst (λ l. Passes a b (first ++ flat_map line f.0) l) (sym same) f.4,
        taken_front old mid new terms i there taken last,
      )

  -- ---- a text

  pub looked_spelled : (old new : script_type.Script S O A s o) (is_given_up : Bool) (text : List ℕ) (ds : List Datum) (a b : Option (List ℕ)) (lines more : List ℕ)
      → Spells text ds → AreAnswered old new ds a b lines more → IsLookedAt old new is_given_up text false a b lines more
  looked_spelled old new is_given_up text ds a b lines more spells answered = λ st has.
      let f = answered st has in
      (flat_map line f.0, f.1, spelled f.0 spells f.2, f.3, f.4)

  pub looked_ok : (old new : script_type.Script S O A s o) (is_given_up : Bool) (text : List ℕ) (ds : List Datum) (a b : Option (List ℕ)) (lines more : List ℕ) (is_kept : Bool)
      → Spells text ds → (is_kept ≡ false) × AreAnswered old new ds a b lines more → IsLookedAt old new is_given_up text is_kept a b lines more
  looked_ok old new is_given_up text ds a b lines more is_kept spells h =
      subst (λ k. IsLookedAt old new is_given_up text k a b lines more) (sym h.0) (looked_spelled old new is_given_up text ds a b lines more spells h.1)

  pub text_stops : (old new : script_type.Script S O A s o) (text : List ℕ) (ds : List Datum) (a b : Option (List ℕ)) (lines more : List ℕ) (f : ToolFault)
      → Spells text ds → StopsTerms old new ds a b lines more f → StopsText old text a b lines more f
  text_stops old new text ds a b lines more fault.Memory spells stops = λ st has.
      let f = stops st has in
      (flat_map line f.2, inr (record { front = f.0; rest = f.1; spelled = subst (Spells text) f.4 spells; replies = f.2; after = f.3; replied = f.5; written = refl }), f.6)
  text_stops old new text ds a b lines more fault.WriteFailed spells stops = tt
  text_stops old new text ds a b lines more (fault.Text g) spells stops = absurd stops
  text_stops old new text ds a b lines more fault.BadInput spells stops = absurd stops
  text_stops old new text ds a b lines more (fault.Specification g) spells stops = absurd stops
  text_stops old new text ds a b lines more (fault.File g) spells stops = absurd stops
  text_stops old new text ds a b lines more (fault.Code g n) spells stops = absurd stops
  text_stops old new text ds a b lines more fault.ReadFailed spells stops = absurd stops
  text_stops old new text ds a b lines more fault.TooSmall spells stops = absurd stops
  text_stops old new text ds a b lines more fault.BadOptions spells stops = absurd stops

  -- nothing was appended
  pub text_stays : (old : script_type.Script S O A s o) (text : List ℕ) (a : Option (List ℕ)) (lines more : List ℕ) (f : ToolFault) → f ≡ fault.Memory → more ≡ lines → StopsText old text a a lines more f
  text_stays old text a lines more f is same =
      subst (StopsText old text a a lines more) (sym is) (λ st has. ([], inl refl, passes_put a lines [] more (same ∙ sym (append-nil lines))))

  pub refused_stops : (old : script_type.Script S O A s o) (text : List ℕ) (a : Option (List ℕ)) (lines more : List ℕ) (r : Result Bool ToolFault) → IfErr r (λ f. f ≡ fault.Memory) → OnErr r (more ≡ lines) → IfErr r (StopsText old text a a lines more)
  refused_stops old text a lines more (Ok b) is same = tt
  refused_stops old text a lines more (Err f) is same = text_stays old text a lines more f is same

  pub looked_refused : (old : script_type.Script S O A s o) (is_given_up : Bool) (text : List ℕ) (size : ℕ) (f : TextFault) (is_kept : Bool) (a : Option (List ℕ)) (lines more : List ℕ)
      → size ≡ length text → ((ds : List Datum) → Spells text ds → f ≡ faults.Memory) → HasCause text f → ((at : ℕ) → (f ≡ faults.BadUtf8 at) ↔ IsValidUpTo text at)
      → IsRefused f size is_given_up is_kept lines more → IsLookedAt old old is_given_up text is_kept a a lines more
  looked_refused old is_given_up text size f true a lines more sized only cause bad r =
      let early : f ≡ faults.Syntax (length text) = r.0 ∙ ap faults.Syntax sized in
      let none = no_text text f (λ e. absurd (memory_is_other (length text) (sym e ∙ early))) only cause bad in
      (r.1, subst (IsNoText text) early none, λ st has. has, subst (λ l. Passes a a l more) (append-nil lines) (passes_put a lines [] more (r.2 ∙ sym (append-nil lines))))
    where
      memory_is_other : (n : ℕ) → faults.Memory ≡ faults.Syntax n → ⊥
      memory_is_other n e = absurd (cc)
  looked_refused old is_given_up text size f false a lines more sized only cause bad r = λ st has.
      (line (refusal f), st, refused (no_text text f r.0 only cause bad) (λ not_given is. r.1 not_given (is ∙ ap faults.Syntax (sym sized))), has, passes_put a lines (line (refusal f)) more r.2)

  -- ---- a line

  pub line_looked : (old new : script_type.Script S O A s o) (begun l text : List ℕ) (is_kept : Bool) (a b : Option (List ℕ)) (lines more : List ℕ) → begun ++ l ≡ text → effect_of begun l ≡ effect.LooksAt
      → IsLookedAt old new false text is_kept a b lines more → IsLineAnswered old new begun l is_kept a b lines more
  line_looked old new begun l text true a b lines more whole is h =
      let none = subst (λ t. IsNoText t (faults.Syntax (length t))) (sym whole) h.1 in
      (λ st has. (h.2 st has, leads_looked st begun l [] st (begun ++ l) is (cut_short refl none)), on_cut_short begun l is none, h.3)
  line_looked old new begun l text false a b lines more whole is h = λ st has.
      let f = h st has in
      (f.0, f.1, f.3, leads_looked st begun l f.0 f.1 [] is (subst (λ t. Looked false st t f.0 f.1 []) (sym whole) f.2), f.4)

  pub line_given : (old new : script_type.Script S O A s o) (begun l : List ℕ) (is_kept : Bool) (a b : Option (List ℕ)) (lines more : List ℕ) → effect_of begun l ≡ effect.GivesUp
      → IsLookedAt old new true begun is_kept a b lines more → IsLineAnswered old new begun l is_kept a b lines more
  line_given old new begun l true a b lines more is h = absurd (true≢false h.0)
  line_given old new begun l false a b lines more is h = λ st has.
      let f = h st has in
      (f.0, f.1, f.3, leads_given st begun l f.0 f.1 [] is f.2, f.4)

  -- an idle line appends nothing
  pub line_passed : (old : script_type.Script S O A s o) (begun l : List ℕ) (a : Option (List ℕ)) (lines : List ℕ) → effect_of begun l ≡ effect.Passes → IsLineAnswered old old begun l false a a lines lines
  line_passed old begun l a lines is = λ st has. ([], st, has, leads_passed st begun l is, passes_none a lines)

  pub line_kept : (old : script_type.Script S O A s o) (begun l : List ℕ) (a : Option (List ℕ)) (lines : List ℕ) → effect_of begun l ≡ effect.GoesOn → IsLineAnswered old old begun l true a a lines lines
  line_kept old begun l a lines is =
      (λ st has. (has, leads_kept st begun l is), on_kept begun l is, subst (λ m. Passes a a m lines) (append-nil lines) (passes_none a lines))

  -- memory ran out at a line, so of the text that is examined there
  text_by : (old : script_type.Script S O A s o) (begun l text : List ℕ) (a b : Option (List ℕ)) (lines more : List ℕ) (f : ToolFault) → IsLookedAtBy begun l text → StopsText old text a b lines more f → StopsLine old begun l a b lines more f
  text_by old begun l text a b lines more fault.Memory by stops = λ st has.
      let f = stops st has in
      (f.0, elim f.1 [ inl none ↦ inl none | inr first ↦ inr (text, by, first) ], f.2)
  text_by old begun l text a b lines more fault.WriteFailed by stops = tt
  text_by old begun l text a b lines more (fault.Text g) by stops = absurd stops
  text_by old begun l text a b lines more fault.BadInput by stops = absurd stops
  text_by old begun l text a b lines more (fault.Specification g) by stops = absurd stops
  text_by old begun l text a b lines more (fault.File g) by stops = absurd stops
  text_by old begun l text a b lines more (fault.Code g n) by stops = absurd stops
  text_by old begun l text a b lines more fault.ReadFailed by stops = absurd stops
  text_by old begun l text a b lines more fault.TooSmall by stops = absurd stops
  text_by old begun l text a b lines more fault.BadOptions by stops = absurd stops

  pub looked_stops : (old : script_type.Script S O A s o) (begun l text : List ℕ) (a b : Option (List ℕ)) (lines more : List ℕ) (f : ToolFault) → begun ++ l ≡ text → effect_of begun l ≡ effect.LooksAt
      → StopsText old text a b lines more f → StopsLine old begun l a b lines more f
  looked_stops old begun l text a b lines more f whole is stops =
      text_by old begun l text a b lines more f (subst (IsLookedAtBy begun l) whole (by_line begun l is)) stops

  pub given_up_stops : (old : script_type.Script S O A s o) (begun l : List ℕ) (a b : Option (List ℕ)) (lines more : List ℕ) (f : ToolFault) → effect_of begun l ≡ effect.GivesUp
      → StopsText old begun a b lines more f → StopsLine old begun l a b lines more f
  given_up_stops old begun l a b lines more f is stops = text_by old begun l begun a b lines more f (by_empty begun l is) stops

  -- ---- from line to line

  pub stands_first : (script : script_type.Script S O A s o) (known old : Option (List ℕ)) (begun lines : List ℕ) → begun ≡ [] → lines ≡ [] → HasState script beginning → Stands script progress.More known known old old begun lines
  stands_first script known old begun lines empty none has =
      subst (λ m. Stands script progress.More known known old old m lines) (sym empty) (subst (λ m. Stands script progress.More known known old old [] m) (sym none) (record {
        front = [];
        out = [];
        st = beginning;
        state = has;
        answered = λ rest more after may goes. goes;
        on = λ rest more after may goes. goes;
        next = λ rest text may next. next;
        lost = none_lost known;
        all = tt;
        put = passes_none old [];
      }))

  pub stands_passed : (script : script_type.Script S O A s o) (p : Progress) (known left old now later : Option (List ℕ)) (begun lines more : List ℕ)
      → Stands script p known left old now begun lines → Passes now later lines more → Stands script p known left old later begun more
  stands_passed script p known left old now later begun lines more t passes =
      record {
        front = t.front;
        out = t.out;
        st = t.st;
        state = t.state;
        answered = t.answered;
        on = t.on;
        next = t.next;
        lost = t.lost;
        all = t.all;
        put = passes_on old now later t.out lines more t.put passes;
      }

  next_kept : (before behind : script_type.Script S O A s o) (p : Progress) (known left after_left old now later : Option (List ℕ)) (begun l lines more : List ℕ)
      → Stands before progress.More known left old now begun lines → Consumes left after_left l → IsLine l p left
      → IsLineAnswered before behind begun l true now later lines more → Stands behind p known after_left old later (begun ++ l) more
  next_kept before behind p known left after_left old now later begun l lines more t lost whole h =
      let led = h.0 t.st t.state in
      record {
        front = t.front;
        out = t.out;
        st = t.st;
        state = led.0;
        answered = λ rest out after may goes. t.answered rest out after (may_more begun rest) goes;
        on = λ rest out after may goes. subst (λ m. Goes beginning [] m (t.out ++ out) after) (four t.front begun l rest)
            (t.on (l ++ rest) out after tt (led.1 rest out after (before_rest p left l rest whole may) goes));
        next = λ rest text may next. subst (λ m. IsLookedAtNext [] m text) (sym (append_assoc begun l rest)) (t.next (l ++ rest) text tt (h.1 rest text (before_rest p left l rest whole may) next));
        lost = subst (Consumes known after_left) (append_assoc t.front begun l) (consumes_join known left after_left (t.front ++ begun) l t.lost lost);
        all = subst (IsAllAt p known) (append_assoc t.front begun l) (all_at p known left (t.front ++ begun) l t.lost whole);
        put = passes_on old now later t.out lines more t.put h.2;
      }

  next_cleared : (before behind : script_type.Script S O A s o) (p : Progress) (known left after_left old now later : Option (List ℕ)) (begun l lines more : List ℕ)
      → Stands before progress.More known left old now begun lines → Consumes left after_left l → IsLine l p left
      → IsLineAnswered before behind begun l false now later lines more → Stands behind p known after_left old later [] more
  next_cleared before behind p known left after_left old now later begun l lines more t lost whole h =
      let f = h t.st t.state in
      let front = t.front ++ (begun ++ l) in
      let on : (rest out : List ℕ) (after : ScriptState) → MayFollow p rest → Goes f.1 [] rest out after → Goes beginning [] (front ++ rest) ((t.out ++ f.0) ++ out) after =
      λ rest out after may goes. subst (λ m. Goes beginning [] (front ++ rest) m after) (sym (append_assoc t.out f.0 out))
      (subst (λ m. Goes beginning [] m (t.out ++ (f.0 ++ out)) after) (four t.front begun l rest)
      (t.on (l ++ rest) (f.0 ++ out) after tt (f.3 rest out after (before_rest p left l rest whole may) goes))) in
      let none = append-nil front in
      record {
        front = front;
        out = t.out ++ f.0;
        st = f.1;
        state = f.2;
        answered = on;
        on = λ rest out after may goes. subst (λ m. Goes beginning [] (m ++ rest) ((t.out ++ f.0) ++ out) after) (sym none) (on rest out after may goes);
        next = λ rest text may next. next;
        lost = subst (Consumes known after_left) (append_assoc t.front begun l ∙ sym none) (consumes_join known left after_left (t.front ++ begun) l t.lost lost);
        all = subst (IsAllAt p known) (append_assoc t.front begun l ∙ sym none) (all_at p known left (t.front ++ begun) l t.lost whole);
        put = passes_more old now later t.out lines f.0 more t.put f.4;
      }

  -- the line that was taken is what follows the pending text
  line_there : (before behind : script_type.Script S O A s o) (p : Progress) (left after_left now later : Option (List ℕ)) (begun text lines more : List ℕ) (size : ℕ) (is_kept is : Bool) → size ≡ length begun → is_kept ≡ is
      → (t : TakesLine left after_left begun text p) → IsLineAnswered before behind (take size text) (drop size text) is_kept now later lines more → IsLineAnswered before behind begun t.line is now later lines more
  line_there before behind p left after_left now later begun text lines more size is_kept is sized kept t h =
      let front : take size text ≡ begun = ap (λ n. take n text) sized ∙ ap (take (length begun)) t.gained ∙ take-append_seam begun t.line in
      let rest : drop size text ≡ t.line = ap (λ n. drop n text) sized ∙ ap (drop (length begun)) t.gained ∙ drop-append_seam begun t.line in
      subst (λ b. IsLineAnswered before behind begun t.line b now later lines more) kept
      (subst (λ m. IsLineAnswered before behind begun m is_kept now later lines more) rest
      (subst (λ m. IsLineAnswered before behind m (drop size text) is_kept now later lines more) front h))

  -- a line was taken and processed: it joins the pending text, or nothing is pending
  pub next_stands : (before behind : script_type.Script S O A s o) (p : Progress) (known left after_left old now later : Option (List ℕ)) (begun text kept lines more : List ℕ) (size : ℕ) (is_kept : Bool) → size ≡ length begun → kept ≡ (if is_kept then text else [])
      → TakesLine left after_left begun text p → IsLineAnswered before behind (take size text) (drop size text) is_kept now later lines more
      → Stands before progress.More known left old now begun lines → Stands behind p known after_left old later kept more
  next_stands before behind p known left after_left old now later begun text kept lines more size true sized is takes h t =
      let answered = line_there before behind p left after_left now later begun text lines more size true true sized refl takes h in
      subst (λ m. Stands behind p known after_left old later m more) (sym (is ∙ takes.gained)) (next_kept before behind p known left after_left old now later begun takes.line lines more t takes.lost takes.whole answered)
  next_stands before behind p known left after_left old now later begun text kept lines more size false sized is takes h t =
      let answered = line_there before behind p left after_left now later begun text lines more size false false sized refl takes h in
      subst (λ m. Stands behind p known after_left old later m more) (sym is) (next_cleared before behind p known left after_left old now later begun takes.line lines more t takes.lost takes.whole answered)

  -- where a shell is after a line that was processed
  pub stood_at : (before behind : script_type.Script S O A s o) (left after_left now later : Option (List ℕ)) (begun kept lines more : List ℕ) (r : Result Progress ToolFault) (p : Progress) → r ≡ Ok p
      → IfOk r (λ q. (known old : Option (List ℕ)) → Stands before progress.More known left old now begun lines → Stands behind q known after_left old later kept more)
      → (known old : Option (List ℕ)) → Stands before progress.More known left old now begun lines → Stands behind p known after_left old later kept more
  stood_at before behind left after_left now later begun kept lines more r p is h =
      subst (λ (x : Result Progress ToolFault). IfOk x (λ q. (known old : Option (List ℕ)) → Stands before progress.More known left old now begun lines → Stands behind q known after_left old later kept more)) is h

  -- ---- early ends

  pub stands_hold : (script : script_type.Script S O A s o) (known left old now : Option (List ℕ)) (begun lines : List ℕ) → Stands script progress.More known left old now begun lines → HoldsFirst known old now lines
  stands_hold script known left old now begun lines t =
      let rest = left_behind progress.More left in
      record {
        front = t.front;
        rest = begun ++ rest;
        whole = apart_from known t.front begun rest (whole_left known left (t.front ++ begun) t.lost);
        out = t.out;
        more = [];
        st = t.st;
        answered = λ rest more after goes. t.answered rest more after (may_more begun rest) goes;
        first = inl refl;
        put = subst (λ m. Passes old now m lines) (sym (append-nil t.out)) t.put;
      }

  pub unread_stops : (script : script_type.Script S O A s o) (known left old now : Option (List ℕ)) (begun lines : List ℕ) (f : ToolFault) → IsReadFault f → Stands script progress.More known left old now begun lines → StopsHolding known old now lines f
  unread_stops script known left old now begun lines f is t = read_stops known old now lines f is (stands_hold script known left old now begun lines t)

  line_holds : (script : script_type.Script S O A s o) (p : Progress) (known left after_left old now later : Option (List ℕ)) (begun l lines more : List ℕ)
      → Stands script progress.More known left old now begun lines → Consumes left after_left l → IsLine l p left
      → StopsLine script begun l now later lines more fault.Memory → HoldsFirst known old later more
  line_holds script p known left after_left old now later begun l lines more t lost whole stops =
      let f = stops t.st t.state in
      let rest = left_behind p after_left in
      record {
        front = t.front;
        rest = begun ++ (l ++ rest);
        whole = apart_from known t.front begun (l ++ rest) (whole_with p known left after_left (t.front ++ begun) l t.lost lost whole);
        out = t.out;
        more = f.0;
        st = t.st;
        answered = λ others more after goes. t.answered others more after (may_more begun others) goes;
        first = first_there t.st begun l rest f.0 (before_rest p left l rest whole (may_left p after_left)) (λ text next. t.next (l ++ rest) text tt next) f.1;
        put = passes_more old now later t.out lines f.0 more t.put f.2;
      }

  line_stops : (script : script_type.Script S O A s o) (p : Progress) (known left after_left old now later : Option (List ℕ)) (begun l lines more : List ℕ) (f : ToolFault)
      → Stands script progress.More known left old now begun lines → Consumes left after_left l → IsLine l p left
      → StopsLine script begun l now later lines more f → StopsHolding known old later more f
  line_stops script p known left after_left old now later begun l lines more fault.Memory t lost whole stops = line_holds script p known left after_left old now later begun l lines more t lost whole stops
  line_stops script p known left after_left old now later begun l lines more fault.WriteFailed t lost whole stops = tt
  line_stops script p known left after_left old now later begun l lines more (fault.Text g) t lost whole stops = absurd stops
  line_stops script p known left after_left old now later begun l lines more fault.BadInput t lost whole stops = absurd stops
  line_stops script p known left after_left old now later begun l lines more (fault.Specification g) t lost whole stops = absurd stops
  line_stops script p known left after_left old now later begun l lines more (fault.File g) t lost whole stops = absurd stops
  line_stops script p known left after_left old now later begun l lines more (fault.Code g n) t lost whole stops = absurd stops
  line_stops script p known left after_left old now later begun l lines more fault.ReadFailed t lost whole stops = absurd stops
  line_stops script p known left after_left old now later begun l lines more fault.TooSmall t lost whole stops = absurd stops
  line_stops script p known left after_left old now later begun l lines more fault.BadOptions t lost whole stops = absurd stops

  -- a line was taken, and the shell stops at it
  pub next_stops : (script : script_type.Script S O A s o) (p : Progress) (known left after_left old now later : Option (List ℕ)) (begun text lines more : List ℕ) (size : ℕ) (f : ToolFault) → size ≡ length begun
      → (t : TakesLine left after_left begun text p) → StopsLine script (take size text) (drop size text) now later lines more f
      → Stands script progress.More known left old now begun lines → StopsHolding known old later more f
  next_stops script p known left after_left old now later begun text lines more size f sized takes stops t =
      let front : take size text ≡ begun = ap (λ n. take n text) sized ∙ ap (take (length begun)) takes.gained ∙ take-append_seam begun takes.line in
      let rest : drop size text ≡ takes.line = ap (λ n. drop n text) sized ∙ ap (drop (length begun)) takes.gained ∙ drop-append_seam begun takes.line in
      line_stops script p known left after_left old now later begun takes.line lines more f t takes.lost takes.whole
      (subst (λ m. StopsLine script begun m now later lines more f) rest (subst (λ m. StopsLine script m (drop size text) now later lines more f) front stops))

  given_holds : (script : script_type.Script S O A s o) (known left old now later : Option (List ℕ)) (begun lines more : List ℕ)
      → 0 < length begun → StopsText script begun now later lines more fault.Memory → Stands script progress.End known left old now begun lines → HoldsFirst known old later more
  given_holds script known left old now later begun lines more some stops t =
      let f = stops t.st t.state in
      record {
        front = t.front;
        rest = begun ++ [];
        whole = apart_from known t.front begun [] (none_left known t.all);
        out = t.out;
        more = f.0;
        st = t.st;
        answered = λ rest more after goes. t.answered rest more after (may_begun progress.End begun rest some) goes;
        first = elim f.1 [ inl none ↦ inl none | inr first ↦ inr (begun, t.next [] begun refl (by_end begun some), first) ];
        put = passes_more old now later t.out lines f.0 more t.put f.2;
      }
    where
      none_left : (k : Option (List ℕ)) → IfSome k (λ bytes. bytes ≡ t.front ++ begun) → IfSome k (λ bytes. bytes ≡ (t.front ++ begun) ++ [])
      none_left None is = tt
      none_left (Some xs) is = is ∙ sym (append-nil (t.front ++ begun))

  pub given_stops : (script : script_type.Script S O A s o) (known left old now later : Option (List ℕ)) (begun lines more : List ℕ) (f : ToolFault)
      → 0 < length begun → StopsText script begun now later lines more f → Stands script progress.End known left old now begun lines → StopsHolding known old later more f
  given_stops script known left old now later begun lines more fault.Memory some stops t = given_holds script known left old now later begun lines more some stops t
  given_stops script known left old now later begun lines more fault.WriteFailed some stops t = tt
  given_stops script known left old now later begun lines more (fault.Text g) some stops t = absurd stops
  given_stops script known left old now later begun lines more fault.BadInput some stops t = absurd stops
  given_stops script known left old now later begun lines more (fault.Specification g) some stops t = absurd stops
  given_stops script known left old now later begun lines more (fault.File g) some stops t = absurd stops
  given_stops script known left old now later begun lines more (fault.Code g n) some stops t = absurd stops
  given_stops script known left old now later begun lines more fault.ReadFailed some stops t = absurd stops
  given_stops script known left old now later begun lines more fault.TooSmall some stops t = absurd stops
  given_stops script known left old now later begun lines more fault.BadOptions some stops t = absurd stops

  -- ---- the end

  pub stands_ended : (script : script_type.Script S O A s o) (known left old now later : Option (List ℕ)) (begun lines : List ℕ) → length begun ≡ 0
      → Stands script progress.End known left old now begun lines → Appends now later lines → OfInput known (λ input. WritesAnswers input old later)
  stands_ended script known left old now later [] lines none t written = (
    (t.front ++ []) ++ [],
    known_is known (t.front ++ []) t.all,
    (
      t.out ++ [],
      (t.st, t.on [] [] t.st refl ended),
      subst (Appends old later) (sym (append-nil t.out)) (passes_written old now later t.out lines t.put written),
    ),
  )
    where
      known_is : (k : Option (List ℕ)) (xs : List ℕ) → IfSome k (λ bytes. bytes ≡ xs) → IfSome k (λ bytes. xs ++ [] ≡ bytes)
      known_is None xs is = tt
      known_is (Some ys) xs is = append-nil xs ∙ sym is
  stands_ended script known left old now later (b ∷ begun) lines none t written = absurd (omega (arith, none))

  pub stands_given : (before behind : script_type.Script S O A s o) (known left old now mid later : Option (List ℕ)) (begun lines more : List ℕ) (is_kept : Bool) → 0 < length begun
      → Stands before progress.End known left old now begun lines → IsLookedAt before behind true begun is_kept now mid lines more → Appends mid later more
      → OfInput known (λ input. WritesAnswers input old later)
  stands_given before behind known left old now mid later begun lines more true some t h written = absurd (true≢false h.0)
  stands_given before behind known left old now mid later begun lines more false some t h written =
      let f = h t.st t.state in
      let taken = t.front ++ begun in (
        taken ++ [],
        known_is known taken t.all,
        (
          t.out ++ (f.0 ++ []),
          (f.1, t.on [] (f.0 ++ []) f.1 refl (ends_given t.st begun f.0 f.1 some f.2)),
          subst (λ m. Appends old later (t.out ++ m)) (sym (append-nil f.0)) (passes_written old mid later (t.out ++ f.0) more (passes_more old now mid t.out lines f.0 more t.put f.4) written),
        ),
      )
    where
      known_is : (k : Option (List ℕ)) (xs : List ℕ) → IfSome k (λ bytes. bytes ≡ xs) → IfSome k (λ bytes. xs ++ [] ≡ bytes)
      known_is None xs is = tt
      known_is (Some ys) xs is = append-nil xs ∙ sym is
