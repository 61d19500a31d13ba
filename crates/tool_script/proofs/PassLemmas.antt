-- Lines that are appended, passed on and written, and replies that follow others.
use Rattle.std.proofs.Common.{◌≡◌, Option, Some, None, List, [], ◌∷◌, ◌++◌, ℕ, refl, sym, ap, subst, ◌∙◌, append_assoc}
use Rattle.std.proofs.lemmas.List.{append-nil}
use Rattle.std.specs.Io.KnownBytes.{Appends, Consumes}
use Rattle.term_core.specs.Datum.{Datum}
use Rattle.tool_io.specs.Lines.{Passes}
use Rattle.tool_io.proofs.LineLemmas.{appends_none, appends_join}
use Rattle.tool_script.specs.Script.{ScriptState}
use Rattle.tool_script.specs.Replied.{IsReply}
use Rattle.tool_script.specs.Shell.{Replies}

pub replied_more : (st : ScriptState) (ds rs : List Datum) (a b : ScriptState) (d r : Datum) → Replies st ds rs a → IsReply a d r b → Replies st (ds ++ d ∷ []) (rs ++ r ∷ []) b
replied_more st [] [] a b d r before here = (b, subst (λ (s : ScriptState). IsReply s d r b) (sym before) here, refl)
replied_more st [] (e ∷ rs) a b d r before here = absurd before
replied_more st (e ∷ ds) [] a b d r before here = absurd before
replied_more st (e ∷ ds) (q ∷ rs) a b d r (mid, first, rest) here = (mid, first, replied_more mid ds rs a b d r rest here)

pub consumes_join : (a b c : Option (List ℕ)) (x y : List ℕ) → Consumes a b x → Consumes b c y → Consumes a c (x ++ y)
consumes_join None b c x y p q = tt
consumes_join (Some u) None c x y p q = absurd p
consumes_join (Some u) (Some v) None x y p q = absurd q
consumes_join (Some u) (Some v) (Some w) x y p q = p ∙ ap (λ l. x ++ l) q ∙ sym (append_assoc x y w)

-- nothing is appended or passed on
pub passes_none : (a : Option (List ℕ)) (lines : List ℕ) → Passes a a (lines ++ []) lines
passes_none a lines = record { part = []; gained = appends_none a; kept = sym (append-nil lines) }

-- after some lines were passed on, more are appended, and some of those are passed on
pub passes_more : (a b c : Option (List ℕ)) (old mid put new : List ℕ) → Passes a b old mid → Passes b c (mid ++ put) new → Passes a c (old ++ put) new
passes_more a b c old mid put new p q =
    record {
      part = p.part ++ q.part;
      gained = appends_join a b c p.part q.part p.gained q.gained;
      kept = append_assoc p.part q.part new ∙ ap (λ l. p.part ++ l) q.kept ∙ sym (append_assoc p.part mid put) ∙ ap (λ l. l ++ put) p.kept;
    }

-- lines are only passed on
pub passes_on : (a b c : Option (List ℕ)) (old mid new : List ℕ) → Passes a b old mid → Passes b c mid new → Passes a c old new
passes_on a b c old mid new p q =
    record {
      part = p.part ++ q.part;
      gained = appends_join a b c p.part q.part p.gained q.gained;
      kept = append_assoc p.part q.part new ∙ ap (λ l. p.part ++ l) q.kept ∙ p.kept;
    }

-- lines are only appended
pub passes_put : (a : Option (List ℕ)) (old put new : List ℕ) → new ≡ old ++ put → Passes a a (old ++ put) new
passes_put a old put new is = record { part = []; gained = appends_none a; kept = is }

-- all lines are written
pub passes_written : (a b c : Option (List ℕ)) (old lines : List ℕ) → Passes a b old lines → Appends b c lines → Appends a c old
passes_written a b c old lines p q = subst (Appends a c) p.kept (appends_join a b c p.part lines p.gained q)
