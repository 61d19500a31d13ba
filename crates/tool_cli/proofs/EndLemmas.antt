-- How the program ends.
use Rattle.std.proofs.Common.{◌≡◌, ◌≢◌, ◌∙◌, ℕ, List, [], ◌++◌, Option, None, Some, Result, Ok, Err, refl, sym, ap, subst, inl, inr}
use Rattle.std.proofs.lemmas.List.{append-nil}
use Rattle.std.specs.declared.alloc.AllocError.{AllocError}
use Rattle.std.specs.Prelude.{OnOk, OnErr, IfErr, IfSome}
use Rattle.clap.specs.Words.{kind_of}
use Rattle.clap.specs.declared.error.Error.{Error}
use Rattle.clap.specs.declared.error.kind.ErrorKind.{ErrorKind}
use Rattle.clap.specs.declared.error.kind.ErrorKind.TheVariants as kind
use Rattle.term_core.specs.Datum.{Datum}
use Rattle.tool_io.specs.Fault.{line_of, status_of}
use Rattle.tool_io.specs.Input.{IsReadFault}
use Rattle.tool_io.specs.Terms.{OfInput, OfTerms}
use Rattle.tool_io.specs.declared.fault.ToolFault.{ToolFault}
use Rattle.tool_io.specs.declared.fault.ToolFault.TheVariants as fault
use Rattle.tool_io.proofs.LineLemmas.{appends_none}
use Rattle.tool_query.proofs.RunLemmas.{kept}
use Rattle.term_text.specs.declared.write.Form.{Form}
use Rattle.tool_query.specs.Answers.{Report}
use Rattle.tool_query.specs.Answers.Report.{answers, outcomes}
use Rattle.tool_query.specs.Run.{Stops, StopsReport}
use Rattle.tool_scan.specs.Options.{AreAllowed}
use Rattle.tool_scan.specs.Scan.{StopsScan}
use Rattle.tool_scan.specs.declared.options.ScanOptions.{ScanOptions}
use Rattle.tool_script.specs.Input.{OfScript, StopsScript}
use Rattle.tool_script.specs.Script.{beginning}
use Rattle.tool_script.specs.Prompt.{IsStreamFault}
use Rattle.tool_script.specs.Shell.{WritesAnswers, WritesFirst, StopsShell}
use Rattle.tool_cli.specs.Program.{Writes, StopsOn, HasOutcome, IsShell, EndsTold, EndsTelling, EndsExplained, EndsInvocation, EndsAsked, EndsEarly, EndsHelp, EndsMistaken, EndsVersion}
use Rattle.tool_cli.specs.Telling.{Tells}
use Rattle.tool_cli.specs.Why.{Explains}
use Rattle.tool_cli.specs.Words.{Asked, command, help, version, topic, mistake, Reads}
use Rattle.tool_cli.specs.declared.words.Invocation.{Invocation}
use Rattle.tool_cli.specs.declared.words.Request.{Request}
use Rattle.tool_cli.specs.declared.words.Request.TheVariants as request

-- a command that writes no answers line by line: neither `run` nor `test`, a script, a shell nor a scan
abbrev pub IsQuery : Request → Type 0
IsQuery (request.Run form) = ⊥
IsQuery (request.Test form) = ⊥
IsQuery request.Script = ⊥
IsQuery request.Shell = ⊥
IsQuery request.Prompt = ⊥
IsQuery (request.Scan o) = ⊥
IsQuery r = Unit {0}

-- the outcome of such a command, by the two clauses of its contract
pub has_outcome : (r : Request) (known old new : Option (List ℕ)) (outcome : Result (Unit {0}) ToolFault) → IsQuery r → OnOk outcome (OfTerms known (λ terms. Writes r terms old new))
    → IfErr outcome (λ f. Stops known old new f (λ terms. StopsOn r terms old new f)) → HasOutcome r known old new outcome
has_outcome (request.Run form) known old new outcome other ok stopped = absurd other
has_outcome (request.Test form) known old new outcome other ok stopped = absurd other
has_outcome request.Compile known old new (Ok x) other ok stopped = ok
has_outcome request.Compile known old new (Err f) other ok stopped = stopped
has_outcome request.Verify known old new (Ok x) other ok stopped = ok
has_outcome request.Verify known old new (Err f) other ok stopped = stopped
has_outcome (request.Explain keypos) known old new (Ok x) other ok stopped = ok
has_outcome (request.Explain keypos) known old new (Err f) other ok stopped = stopped
has_outcome request.Script known old new outcome other ok stopped = absurd other
has_outcome request.Shell known old new outcome other ok stopped = absurd other
has_outcome request.Prompt known old new outcome other ok stopped = absurd other
has_outcome (request.Scan o) known old new outcome other ok stopped = absurd other

-- the outcome of `run` and of `test`, by the two clauses of its contract
pub has_reported : (form : Form) (known old new : Option (List ℕ)) (outcome : Result (Unit {0}) ToolFault) → OnOk outcome (OfTerms known (λ terms. Writes (request.Run form) terms old new))
    → IfErr outcome (StopsReport (answers form) known old new) → HasOutcome (request.Run form) known old new outcome
has_reported form known old new (Ok x) ok stopped = ok
has_reported form known old new (Err f) ok stopped = stopped

pub has_tested : (form : Form) (known old new : Option (List ℕ)) (outcome : Result (Unit {0}) ToolFault) → OnOk outcome (OfTerms known (λ terms. Writes (request.Test form) terms old new))
    → IfErr outcome (StopsReport (outcomes form) known old new) → HasOutcome (request.Test form) known old new outcome
has_tested form known old new (Ok x) ok stopped = ok
has_tested form known old new (Err f) ok stopped = stopped

-- the outcome of a script, by the two clauses of its contract
pub has_replies : (known old new : Option (List ℕ)) (outcome : Result (Unit {0}) ToolFault) → OnOk outcome (OfScript known (λ terms. Writes request.Script terms old new))
    → IfErr outcome (λ f. StopsScript known old new f) → HasOutcome request.Script known old new outcome
has_replies known old new (Ok x) ok stopped = ok
has_replies known old new (Err f) ok stopped = stopped

-- the outcome of a shell, by the two clauses of its contract
pub has_answers : (known old new : Option (List ℕ)) (outcome : Result (Unit {0}) ToolFault) → OnOk outcome (OfInput known (λ input. WritesAnswers input old new))
    → IfErr outcome (StopsShell known old new) → HasOutcome request.Shell known old new outcome
has_answers known old new (Ok x) ok stopped = ok
has_answers known old new (Err f) ok stopped = stopped

-- the outcome of a shell for a person, by the one clause of its contract
pub has_prompted : (r : Request) (known old new : Option (List ℕ)) (outcome : Result (Unit {0}) ToolFault) → r ≡ request.Prompt → IfErr outcome IsStreamFault → HasOutcome r known old new outcome
has_prompted r known old new (Ok x) is stopped = rw is tt
has_prompted r known old new (Err f) is stopped = rw is stopped

-- the outcome of a scan, by the two clauses of its contract
pub has_scanned : (o : ScanOptions) (known old new : Option (List ℕ)) (outcome : Result (Unit {0}) ToolFault) → OnOk outcome (AreAllowed o × OfTerms known (λ terms. Writes (request.Scan o) terms old new))
    → IfErr outcome (λ f. StopsScan o known old new f) → HasOutcome (request.Scan o) known old new outcome
has_scanned o known old new (Ok x) ok stopped = ok
has_scanned o known old new (Err f) ok stopped = stopped

-- the command that the words request ran
pub ends_command : (a : Asked) (i : Invocation) (known out out' err err' : Option (List ℕ)) (failed : Type 0) (status : ℕ) → Reads a (Ok i)
    → EndsInvocation i known out out' err err' failed status → EndsAsked a known out out' err err' failed status
ends_command (command q) i known out out' err err' failed status is h = inl (subst (λ s. EndsInvocation s known out out' err err' failed status) is h)
ends_command help i known out out' err err' failed status is h = absurd is
ends_command version i known out out' err err' failed status is h = absurd is
ends_command topic i known out out' err err' failed status is h = absurd is
ends_command mistake i known out out' err err' failed status is h = absurd is

-- ---- a fault that is explained

-- what is written to standard error is the error line, followed by what the fault means, or by nothing
pub ends_told : (input : List ℕ) (f : ToolFault) (line told : List ℕ) (meant : Result (Unit {0}) AllocError) (err err' : Option (List ℕ)) (failed : Type 0) (status : ℕ) → status ≡ status_of f → line ≡ line_of f
    → OnOk meant ((m : List ℕ) × Explains input f m × (told ≡ line ++ m)) → OnErr meant (told ≡ line) → Tells err err' failed told → EndsTold input f err err' failed status
ends_told input f line told (Ok x) err err' failed status ended is meant none tells =
    (ended, inl (meant.0, inl meant.1, subst (Tells err err' failed) (meant.2 ∙ ap (λ l. l ++ meant.0) is) tells))
ends_told input f line told (Err e) err err' failed status ended is meant none tells =
    (ended, inl ([], inr refl, subst (Tells err err' failed) (none ∙ (is ∙ sym (append-nil (line_of f)))) tells))

-- the input is what is known of it
abbrev pub IsGiven : Option (List ℕ) → List ℕ → Type 0
IsGiven known input = IfSome known (λ bytes. input ≡ bytes)

of_given : (known : Option (List ℕ)) (input : List ℕ) (P : List ℕ → Type 0) → IsGiven known input → OfInput (Some input) P → OfInput known P
of_given known input P given h = (input, given, subst P h.1 h.2)

stops_given : (known old new : Option (List ℕ)) (input : List ℕ) (f : ToolFault) (Stopped : List Datum → Type 0) → IsGiven known input → Stops (Some input) old new f Stopped → Stops known old new f Stopped
stops_given known old new input f Stopped given (inl unread) = inl (of_given known input _ given unread.0, unread.1)
stops_given known old new input f Stopped given (inr stopped) = inr (of_given known input _ given stopped)

report_given : (r : Report) (known old new : Option (List ℕ)) (input : List ℕ) (f : ToolFault) → IsGiven known input → StopsReport r (Some input) old new f → StopsReport r known old new f
report_given r known old new input f given (inl stopped) = inl (stops_given known old new input f _ given stopped)
report_given r known old new input f given (inr cut) = inr (of_given known input _ given cut)

script_given : (known old new : Option (List ℕ)) (input : List ℕ) (f : ToolFault) → IsGiven known input → StopsScript (Some input) old new f → StopsScript known old new f
script_given known old new input f given (inl unread) = inl (of_given known input _ given unread.0, unread.1)
script_given known old new input f given (inr stopped) = inr (of_given known input _ given stopped)

scan_given : (o : ScanOptions) (known old new : Option (List ℕ)) (input : List ℕ) (f : ToolFault) → IsGiven known input → StopsScan o (Some input) old new f → StopsScan o known old new f
scan_given o known old new input fault.BadOptions given h = h
scan_given o known old new input fault.Memory given h = stops_given known old new input fault.Memory _ given h
scan_given o known old new input (fault.Text f) given h = stops_given known old new input (fault.Text f) _ given h
scan_given o known old new input fault.BadInput given h = stops_given known old new input fault.BadInput _ given h
scan_given o known old new input (fault.Specification f) given h = stops_given known old new input (fault.Specification f) _ given h
scan_given o known old new input (fault.File f) given h = stops_given known old new input (fault.File f) _ given h
scan_given o known old new input (fault.Code f b) given h = stops_given known old new input (fault.Code f b) _ given h
scan_given o known old new input fault.TooSmall given h = stops_given known old new input fault.TooSmall _ given h
scan_given o known old new input fault.ReadFailed given h = stops_given known old new input fault.ReadFailed _ given h
scan_given o known old new input fault.WriteFailed given h = stops_given known old new input fault.WriteFailed _ given h

first_given : (known old new : Option (List ℕ)) (input : List ℕ) → IsGiven known input → WritesFirst (Some input) old new → WritesFirst known old new
first_given None old new input given h = record {
  front = h.front;
  rest = h.rest;
  whole = tt;
  out = h.out;
  more = h.more;
  st = h.st;
  answered = h.answered;
  first = h.first;
  gained = h.gained;
}
first_given (Some bytes) old new input given h = subst (λ (known : List ℕ). WritesFirst (Some known) old new) given h

shell_given : (known old new : Option (List ℕ)) (input : List ℕ) (f : ToolFault) → IsGiven known input → StopsShell (Some input) old new f → StopsShell known old new f
shell_given known old new input fault.Memory given h = first_given known old new input given h
shell_given known old new input fault.ReadFailed given h = first_given known old new input given h
shell_given known old new input fault.WriteFailed given h = tt
shell_given known old new input fault.BadOptions given h = absurd h
shell_given known old new input (fault.Text f) given h = absurd h
shell_given known old new input fault.BadInput given h = absurd h
shell_given known old new input (fault.Specification f) given h = absurd h
shell_given known old new input (fault.File f) given h = absurd h
shell_given known old new input (fault.Code f b) given h = absurd h
shell_given known old new input fault.TooSmall given h = absurd h

-- nothing of an input was processed
nothing_first : (input : List ℕ) (old : Option (List ℕ)) → WritesFirst (Some input) old old
nothing_first input old = record {
  front = [];
  rest = input;
  whole = refl;
  out = [];
  more = [];
  st = beginning;
  answered = λ rest more after goes. goes;
  first = inl refl;
  gained = appends_none old;
}

-- a command that ran over the input ran over what the reader gave
pub outcome_given : (r : Request) (known old new : Option (List ℕ)) (input : List ℕ) (outcome : Result (Unit {0}) ToolFault) → IsGiven known input
    → HasOutcome r (Some input) old new outcome → HasOutcome r known old new outcome
outcome_given request.Script known old new input (Ok x) given h = of_given known input _ given h
outcome_given request.Script known old new input (Err f) given h = script_given known old new input f given h
outcome_given request.Shell known old new input (Ok x) given h = of_given known input _ given h
outcome_given request.Shell known old new input (Err f) given h = shell_given known old new input f given h
outcome_given request.Prompt known old new input (Ok x) given h = tt
outcome_given request.Prompt known old new input (Err f) given h = h
outcome_given (request.Scan o) known old new input (Ok x) given h = (h.0, of_given known input _ given h.1)
outcome_given (request.Scan o) known old new input (Err f) given h = scan_given o known old new input f given h
outcome_given (request.Run form) known old new input (Ok x) given h = of_given known input _ given h
outcome_given (request.Run form) known old new input (Err f) given h = report_given _ known old new input f given h
outcome_given (request.Test form) known old new input (Ok x) given h = of_given known input _ given h
outcome_given (request.Test form) known old new input (Err f) given h = report_given _ known old new input f given h
outcome_given request.Compile known old new input (Ok x) given h = of_given known input _ given h
outcome_given request.Compile known old new input (Err f) given h = stops_given known old new input f _ given h
outcome_given request.Verify known old new input (Ok x) given h = of_given known input _ given h
outcome_given request.Verify known old new input (Err f) given h = stops_given known old new input f _ given h
outcome_given (request.Explain keypos) known old new input (Ok x) given h = of_given known input _ given h
outcome_given (request.Explain keypos) known old new input (Err f) given h = stops_given known old new input f _ given h

pub ends_explained : (r : Request) (known out out' err err' : Option (List ℕ)) (failed : Type 0) (status : ℕ) (input : List ℕ) (outcome : Result (Unit {0}) ToolFault) → IsGiven known input
    → HasOutcome r (Some input) out out' outcome → EndsTelling input outcome err err' failed status → EndsExplained r known out out' err err' failed status
ends_explained r known out out' err err' failed status input outcome given written ended = record {
  outcome = outcome;
  input = input;
  given = given;
  written = written;
  alike = outcome_given r known out out' input outcome given written;
  ended = ended;
}

-- a command that ran over an input that was read whole, where the unread part and the part shown in the explanation are
-- that whole input
pub ends_over : (r : Request) (known out out' err err' : Option (List ℕ)) (failed : Type 0) (status : ℕ) (input unread shown : List ℕ) (outcome : Result (Unit {0}) ToolFault) → IsGiven known input → unread ≡ input
    → HasOutcome r (Some unread) out out' outcome → shown ≡ input → EndsTelling shown outcome err err' failed status → EndsExplained r known out out' err err' failed status
ends_over r known out out' err err' failed status input unread shown outcome given whole written seen ended =
    ends_explained r known out out' err err' failed status input outcome given (subst (λ b. HasOutcome r (Some b) out out' outcome) whole written)
    (subst (λ b. EndsTelling b outcome err err' failed status) seen ended)

-- an input that could not be read: any, if none is known
abbrev unread_input : Option (List ℕ) → List ℕ
unread_input None = []
unread_input (Some bytes) = bytes

unread_given : (known : Option (List ℕ)) → IsGiven known (unread_input known)
unread_given None = tt
unread_given (Some bytes) = refl

-- no byte of the input is at fault if it could not be read
told_of_any : (f : ToolFault) (input : List ℕ) (err err' : Option (List ℕ)) (failed : Type 0) (status : ℕ) → IsReadFault f → EndsTelling [] (Err f) err err' failed status → EndsTelling input (Err f) err err' failed status
told_of_any fault.Memory input err err' failed status is h = h
told_of_any fault.ReadFailed input err err' failed status is h = h
told_of_any (fault.Text f) input err err' failed status is h = absurd is
told_of_any fault.BadInput input err err' failed status is h = absurd is
told_of_any (fault.Specification f) input err err' failed status is h = absurd is
told_of_any (fault.File f) input err err' failed status is h = absurd is
told_of_any (fault.Code f b) input err err' failed status is h = absurd is
told_of_any fault.TooSmall input err err' failed status is h = absurd is
told_of_any fault.BadOptions input err err' failed status is h = absurd is
told_of_any fault.WriteFailed input err err' failed status is h = absurd is

-- no byte of the input is at fault if a shell ends early
told_of_shell : (f : ToolFault) (known out out' : Option (List ℕ)) (input : List ℕ) (err err' : Option (List ℕ)) (failed : Type 0) (status : ℕ) → StopsShell known out out' f
    → EndsTelling [] (Err f) err err' failed status → EndsTelling input (Err f) err err' failed status
told_of_shell fault.Memory known out out' input err err' failed status is h = h
told_of_shell fault.ReadFailed known out out' input err err' failed status is h = h
told_of_shell fault.WriteFailed known out out' input err err' failed status is h = h
told_of_shell (fault.Text f) known out out' input err err' failed status is h = absurd is
told_of_shell fault.BadInput known out out' input err err' failed status is h = absurd is
told_of_shell (fault.Specification f) known out out' input err err' failed status is h = absurd is
told_of_shell (fault.File f) known out out' input err err' failed status is h = absurd is
told_of_shell (fault.Code f b) known out out' input err err' failed status is h = absurd is
told_of_shell fault.TooSmall known out out' input err err' failed status is h = absurd is
told_of_shell fault.BadOptions known out out' input err err' failed status is h = absurd is

-- nothing is written if the input could not be read
unread_outcome : (r : Request) (f : ToolFault) (input : List ℕ) (old : Option (List ℕ)) → IsReadFault f → HasOutcome r (Some input) old old (Err f)
unread_outcome request.Script fault.Memory input old is = inl ((input, refl, tt), kept old)
unread_outcome request.Script fault.ReadFailed input old is = inl ((input, refl, tt), kept old)
unread_outcome request.Shell fault.Memory input old is = nothing_first input old
unread_outcome request.Shell fault.ReadFailed input old is = nothing_first input old
unread_outcome request.Prompt fault.Memory input old is = tt
unread_outcome request.Prompt fault.ReadFailed input old is = tt
unread_outcome (request.Scan o) fault.Memory input old is = inl ((input, refl, tt), kept old)
unread_outcome (request.Scan o) fault.ReadFailed input old is = inl ((input, refl, tt), kept old)
unread_outcome (request.Run form) fault.Memory input old is = inl (inl ((input, refl, tt), kept old))
unread_outcome (request.Run form) fault.ReadFailed input old is = inl (inl ((input, refl, tt), kept old))
unread_outcome (request.Test form) fault.Memory input old is = inl (inl ((input, refl, tt), kept old))
unread_outcome (request.Test form) fault.ReadFailed input old is = inl (inl ((input, refl, tt), kept old))
unread_outcome request.Compile fault.Memory input old is = inl ((input, refl, tt), kept old)
unread_outcome request.Compile fault.ReadFailed input old is = inl ((input, refl, tt), kept old)
unread_outcome request.Verify fault.Memory input old is = inl ((input, refl, tt), kept old)
unread_outcome request.Verify fault.ReadFailed input old is = inl ((input, refl, tt), kept old)
unread_outcome (request.Explain keypos) fault.Memory input old is = inl ((input, refl, tt), kept old)
unread_outcome (request.Explain keypos) fault.ReadFailed input old is = inl ((input, refl, tt), kept old)
unread_outcome r (fault.Text f) input old is = absurd is
unread_outcome r fault.BadInput input old is = absurd is
unread_outcome r (fault.Specification f) input old is = absurd is
unread_outcome r (fault.File f) input old is = absurd is
unread_outcome r (fault.Code f b) input old is = absurd is
unread_outcome r fault.TooSmall input old is = absurd is
unread_outcome r fault.BadOptions input old is = absurd is
unread_outcome r fault.WriteFailed input old is = absurd is

pub ends_unread : (r : Request) (f : ToolFault) (known out err err' : Option (List ℕ)) (failed : Type 0) (status : ℕ) → IsReadFault f → EndsTelling [] (Err f) err err' failed status
    → EndsExplained r known out out err err' failed status
ends_unread r f known out err err' failed status is h =
    ends_explained r known out out err err' failed status (unread_input known) (Err f) (unread_given known) (unread_outcome r f (unread_input known) out is)
    (told_of_any f (unread_input known) err err' failed status is h)

-- ---- a shell with explanations, which reads its input as it arrives

begun_first : (out out' : Option (List ℕ)) (h : WritesFirst None out out') → WritesFirst (Some (h.front ++ h.rest)) out out'
begun_first out out' h = record {
  front = h.front;
  rest = h.rest;
  whole = refl;
  out = h.out;
  more = h.more;
  st = h.st;
  answered = h.answered;
  first = h.first;
  gained = h.gained;
}

-- the input of which a shell that ended early is known to have read the beginning
read_first : (out out' : Option (List ℕ)) (f : ToolFault) → StopsShell None out out' f → (input : List ℕ) × StopsShell (Some input) out out' f
read_first out out' fault.Memory h = (h.front ++ h.rest, begun_first out out' h)
read_first out out' fault.ReadFailed h = (h.front ++ h.rest, begun_first out out' h)
read_first out out' fault.WriteFailed h = ([], tt)
read_first out out' fault.BadOptions h = absurd h
read_first out out' (fault.Text f) h = absurd h
read_first out out' fault.BadInput h = absurd h
read_first out out' (fault.Specification f) h = absurd h
read_first out out' (fault.File f) h = absurd h
read_first out out' (fault.Code f b) h = absurd h
read_first out out' fault.TooSmall h = absurd h

pub ends_shell : (known out out' err err' : Option (List ℕ)) (failed : Type 0) (status : ℕ) (outcome : Result (Unit {0}) ToolFault) → HasOutcome request.Shell known out out' outcome
    → EndsTelling [] outcome err err' failed status → EndsExplained request.Shell known out out' err err' failed status
ends_shell (Some bytes) out out' err err' failed status (Ok x) written ended =
    ends_explained request.Shell (Some bytes) out out' err err' failed status bytes (Ok x) refl written ended
ends_shell (Some bytes) out out' err err' failed status (Err f) written ended =
    ends_explained request.Shell (Some bytes) out out' err err' failed status bytes (Err f) refl written (told_of_shell f (Some bytes) out out' bytes err err' failed status written ended)
ends_shell None out out' err err' failed status (Ok x) written ended =
    ends_explained request.Shell None out out' err err' failed status written.0 (Ok x) tt (written.0, refl, written.2) ended
ends_shell None out out' err err' failed status (Err f) written ended =
    let read = read_first out out' f written in
    ends_explained request.Shell None out out' err err' failed status read.0 (Err f) tt read.1 (told_of_shell f None out out' read.0 err err' failed status written ended)

-- no byte of the input is at fault if a shell for a person ends early
told_of_prompt : (f : ToolFault) (input : List ℕ) (err err' : Option (List ℕ)) (failed : Type 0) (status : ℕ) → IsStreamFault f
    → EndsTelling [] (Err f) err err' failed status → EndsTelling input (Err f) err err' failed status
told_of_prompt fault.Memory input err err' failed status is h = h
told_of_prompt fault.ReadFailed input err err' failed status is h = h
told_of_prompt fault.WriteFailed input err err' failed status is h = h
told_of_prompt (fault.Text f) input err err' failed status is h = absurd is
told_of_prompt fault.BadInput input err err' failed status is h = absurd is
told_of_prompt (fault.Specification f) input err err' failed status is h = absurd is
told_of_prompt (fault.File f) input err err' failed status is h = absurd is
told_of_prompt (fault.Code f b) input err err' failed status is h = absurd is
told_of_prompt fault.TooSmall input err err' failed status is h = absurd is
told_of_prompt fault.BadOptions input err err' failed status is h = absurd is

ends_prompt : (known out out' err err' : Option (List ℕ)) (failed : Type 0) (status : ℕ) (outcome : Result (Unit {0}) ToolFault) → HasOutcome request.Prompt known out out' outcome
    → EndsTelling [] outcome err err' failed status → EndsExplained request.Prompt known out out' err err' failed status
ends_prompt known out out' err err' failed status (Ok x) written ended =
    ends_explained request.Prompt known out out' err err' failed status (unread_input known) (Ok x) (unread_given known) tt ended
ends_prompt known out out' err err' failed status (Err f) written ended =
    ends_explained request.Prompt known out out' err err' failed status (unread_input known) (Err f) (unread_given known) written (told_of_prompt f (unread_input known) err err' failed status written ended)

pub is_shell_ended : (r : Request) (known out out' err err' : Option (List ℕ)) (failed : Type 0) (status : ℕ) (outcome : Result (Unit {0}) ToolFault) → IsShell r
    → HasOutcome r known out out' outcome → EndsTelling [] outcome err err' failed status → EndsExplained r known out out' err err' failed status
is_shell_ended request.Shell known out out' err err' failed status outcome is written ended = ends_shell known out out' err err' failed status outcome written ended
is_shell_ended request.Prompt known out out' err err' failed status outcome is written ended = ends_prompt known out out' err err' failed status outcome written ended
is_shell_ended (request.Run form) known out out' err err' failed status outcome is written ended = absurd is
is_shell_ended (request.Test form) known out out' err err' failed status outcome is written ended = absurd is
is_shell_ended request.Compile known out out' err err' failed status outcome is written ended = absurd is
is_shell_ended request.Verify known out out' err err' failed status outcome is written ended = absurd is
is_shell_ended request.Script known out out' err err' failed status outcome is written ended = absurd is
is_shell_ended (request.Scan o) known out out' err err' failed status outcome is written ended = absurd is
is_shell_ended (request.Explain keypos) known out out' err err' failed status outcome is written ended = absurd is

-- ---- how the program ends where no command runs

-- how the program ends, by the kind of `clap`'s error
pub record IsEndBy (k : ErrorKind) (out out' err err' : Option (List ℕ)) (failed : Type 0) (status : ℕ) : Type 0 where
  pub help : k ≡ kind.DisplayHelp → EndsHelp out out' err err' failed status
  pub version : k ≡ kind.DisplayVersion → EndsVersion out out' err err' failed status
  pub memory : k ≡ kind.OutOfMemory → EndsEarly out out' err err' failed status
  pub ended : k ≢ kind.DisplayHelp → k ≢ kind.DisplayVersion → EndsMistaken out out' err err' failed status

pub ends_asked : (a : Asked) (e : Error) (known out out' err err' : Option (List ℕ)) (failed : Type 0) (status : ℕ) → Reads a (Err e)
    → IsEndBy (kind_of e) out out' err err' failed status → EndsAsked a known out out' err err' failed status
ends_asked (command r) e known out out' err err' failed status is h = inr (h.memory is)
ends_asked help e known out out' err err' failed status (inl is) h = inr (inr (h.memory is))
ends_asked help e known out out' err err' failed status (inr is) h = h.help is
ends_asked version e known out out' err err' failed status (inl is) h = inr (inr (h.memory is))
ends_asked version e known out out' err err' failed status (inr is) h = h.version is
ends_asked topic e known out out' err err' failed status (inl is) h = inl (inr (inr (h.memory is)))
ends_asked topic e known out out' err err' failed status (inr (inl is)) h = inl (h.help is)
ends_asked topic e known out out' err err' failed status (inr (inr is)) h = inr (h.ended (λ other. absurd (cc)) (λ other. absurd (cc)))
ends_asked mistake e known out out' err err' failed status is h = h.ended is.0 is.1
