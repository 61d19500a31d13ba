-- How the program ends: what its two streams gain, and its exit status.
use Rattle.std.specs.Prelude.{ℕ, ◌≡◌, ◌≢◌, ◌⊎◌, ◌++◌, Option, IfSome, Some, Result, Ok, Err, List, [], codes}
use Rattle.term_core.specs.Datum.{Datum}
use Rattle.std.specs.Io.KnownBytes.{Keeps, Appends}
use Rattle.tool_io.specs.Fault.{status_of, line_of}
use Rattle.tool_io.specs.Terms.{OfInput, OfTerms}
use Rattle.tool_io.specs.declared.fault.ToolFault.{ToolFault}
use Rattle.tool_io.specs.declared.fault.ToolFault.TheVariants as fault
use Rattle.tool_query.specs.Answers.Report.{answers, outcomes}
use Rattle.tool_query.specs.Code.{WritesFile, StopsFile, WritesVerdict, StopsVerdict}
use Rattle.tool_query.specs.Run.{WritesAnswers, StopsReport, Stops}
use Rattle.tool_explain.specs.Explain.{WritesExplanation, StopsExplanation}
use Rattle.tool_script.specs.Run.{WritesReplies, StopsReplies}
use Rattle.tool_script.specs.Input.{OfScript, StopsScript}
use Rattle.tool_script.specs.Prompt.{IsStreamFault}
use Rattle.tool_script.specs.Shell as shell
use Rattle.tool_scan.specs.Options.{AreAllowed}
use Rattle.tool_scan.specs.Scan.{WritesScan, StopsTerms, StopsScan}
use Rattle.tool_cli.specs.Telling.{Tells, TellsText}
use Rattle.tool_cli.specs.Why.{IsTold}
use Rattle.tool_cli.specs.Words.{Asked, command, help, version, topic, mistake}
use Rattle.tool_cli.specs.declared.words.Detail.{Detail}
use Rattle.tool_cli.specs.declared.words.Detail.TheVariants as detail
use Rattle.tool_cli.specs.declared.words.Invocation.{Invocation}
use Rattle.tool_cli.specs.declared.words.Request.{Request}
use Rattle.tool_cli.specs.declared.words.Request.TheVariants as request

-- The program ends with this fault: with the status of the fault, and its error line on standard error, or nothing there
-- if memory ran out for the line.
abbrev pub EndsBy : ToolFault → (err err' : Option (List ℕ)) → (failed : Type 0) → ℕ → Type 0
EndsBy f err err' failed status =
    (status ≡ status_of f) × (Tells err err' failed (line_of f) ⊎ Keeps err err')

-- the program ends with a command's outcome: with status 0 and nothing on standard error, or with its fault
abbrev pub EndsWith : Result (Unit {0}) ToolFault → (err err' : Option (List ℕ)) → (failed : Type 0) → ℕ
    → Type 0
EndsWith (Ok x) err err' failed status = (status ≡ 0) × Keeps err err'
EndsWith (Err f) err err' failed status = EndsBy f err err' failed status

-- what a command writes for the terms of its input; for shells, whose input is lines, see `HasOutcome`
abbrev pub Writes : Request → List Datum → (old new : Option (List ℕ)) → Type 0
Writes (request.Run form) terms old new = WritesAnswers (answers form) terms old new
Writes (request.Test form) terms old new = WritesAnswers (outcomes form) terms old new
Writes request.Compile terms old new = WritesFile terms old new
Writes request.Verify terms old new = WritesVerdict terms old new
Writes request.Script terms old new = WritesReplies terms old new
Writes request.Shell terms old new = ⊥
Writes request.Prompt terms old new = ⊥
Writes (request.Scan o) terms old new = WritesScan o terms old new
Writes (request.Explain keypos) terms old new = WritesExplanation keypos terms old new

-- how a command ends early, given the terms of its input; for commands that may end so without them, see `HasOutcome`
abbrev pub StopsOn : Request → List Datum → (old new : Option (List ℕ)) → ToolFault → Type 0
StopsOn (request.Run form) terms old new f = ⊥
StopsOn (request.Test form) terms old new f = ⊥
StopsOn request.Compile terms old new f = StopsFile terms old new f
StopsOn request.Verify terms old new f = StopsVerdict terms old new f
StopsOn request.Script terms old new f = StopsReplies terms old new f
StopsOn request.Shell terms old new f = ⊥
StopsOn request.Prompt terms old new f = ⊥
StopsOn (request.Scan o) terms old new f = StopsTerms o terms old new f
StopsOn (request.Explain keypos) terms old new f = StopsExplanation keypos terms old new f

-- What a command's outcome says about standard output. A script may have no term, and a scan's options are in their
-- ranges. For a shell for a person it says only why it ends early.
abbrev pub HasOutcome : Request → (known old new : Option (List ℕ)) → Result (Unit {0}) ToolFault
    → Type 0
HasOutcome request.Script known old new (Ok x) = OfScript known (λ terms. Writes request.Script terms old new)
HasOutcome request.Script known old new (Err f) = StopsScript known old new f
HasOutcome request.Shell known old new (Ok x) = OfInput known (λ input. shell.WritesAnswers input old new)
HasOutcome request.Shell known old new (Err f) = shell.StopsShell known old new f
HasOutcome request.Prompt known old new (Ok x) = Unit {0}
HasOutcome request.Prompt known old new (Err f) = IsStreamFault f
HasOutcome (request.Scan o) known old new (Ok x) =
    AreAllowed o × OfTerms known (λ terms. Writes (request.Scan o) terms old new)
HasOutcome (request.Scan o) known old new (Err f) = StopsScan o known old new f
HasOutcome (request.Run form) known old new (Ok x) = OfTerms known (λ terms. Writes (request.Run form) terms old new)
HasOutcome (request.Run form) known old new (Err f) = StopsReport (answers form) known old new f
HasOutcome (request.Test form) known old new (Ok x) = OfTerms known (λ terms. Writes (request.Test form) terms old new)
HasOutcome (request.Test form) known old new (Err f) = StopsReport (outcomes form) known old new f
HasOutcome r known old new (Ok x) = OfTerms known (λ terms. Writes r terms old new)
HasOutcome r known old new (Err f) =
    Stops known old new f (λ terms. StopsOn r terms old new f)

-- a command that reads its input line by line
abbrev pub IsShell : Request → Type 0
IsShell request.Shell = Unit {0}
IsShell request.Prompt = Unit {0}
IsShell r = ⊥

-- a command ran, and the program ends with its outcome
pub record EndsRequest (r : Request) (known out out' err err' : Option (List ℕ)) (failed : Type 0)
    (status : ℕ) : Type 0 where
  pub outcome : Result (Unit {0}) ToolFault
  pub written : HasOutcome r known out out' outcome
  pub ended : EndsWith outcome err err' failed status

-- The program ends with this fault of an input: with the status of the fault, and on standard error its error line,
-- followed by what it means, or nothing there if memory ran out for the line.
abbrev pub EndsTold : List ℕ → ToolFault → (err err' : Option (List ℕ)) → (failed : Type 0) → ℕ → Type 0
EndsTold input f err err' failed status =
    (status ≡ status_of f)
    × (((told : List ℕ) × IsTold input f told × Tells err err' failed (line_of f ++ told)) ⊎ Keeps err err')

-- the program ends with the outcome of a command over this input, and explains a fault
abbrev pub EndsTelling : List ℕ → Result (Unit {0}) ToolFault → (err err' : Option (List ℕ)) → (failed : Type 0) → ℕ
    → Type 0
EndsTelling input (Ok x) err err' failed status = (status ≡ 0) × Keeps err err'
EndsTelling input (Err f) err err' failed status = EndsTold input f err err' failed status

-- A command ran over the input that the reader gave, and the program ends with its outcome and explains a fault.
-- Standard output and the outcome are the same as without explanations.
pub record EndsExplained (r : Request) (known out out' err err' : Option (List ℕ)) (failed : Type 0)
    (status : ℕ) : Type 0 where
  pub outcome : Result (Unit {0}) ToolFault
  pub input : List ℕ
  pub given : IfSome known (λ bytes. input ≡ bytes)
  pub written : HasOutcome r (Some input) out out' outcome
  pub alike : HasOutcome r known out out' outcome
  pub ended : EndsTelling input outcome err err' failed status

-- how the program ends with a command, given how much of a fault it reports
abbrev pub EndsIn : Detail → Request → (known out out' err err' : Option (List ℕ)) → (failed : Type 0) → ℕ → Type 0
EndsIn detail.Line r known out out' err err' failed status =
    EndsRequest r known out out' err err' failed status
EndsIn detail.Explained r known out out' err err' failed status =
    EndsExplained r known out out' err err' failed status

abbrev pub EndsInvocation : Invocation → (known out out' err err' : Option (List ℕ)) → (failed : Type 0) → ℕ → Type 0
EndsInvocation i known out out' err err' failed status =
    EndsIn i.detail i.request known out out' err err' failed status

-- memory ran out before a command ran, and standard output gained nothing
abbrev pub EndsEarly : (out out' err err' : Option (List ℕ)) → (failed : Type 0) → ℕ → Type 0
EndsEarly out out' err err' failed status =
    Keeps out out' × EndsBy fault.Memory err err' failed status

-- A help text was written to standard output, and nothing to standard error; or the help could not be written, or
-- memory ran out for it.
abbrev pub EndsHelp : (out out' err err' : Option (List ℕ)) → (failed : Type 0) → ℕ → Type 0
EndsHelp out out' err err' failed status =
    ((status ≡ 0) × Keeps err err' × (text : List ℕ) × (text ≢ []) × Appends out out' text)
    ⊎ EndsBy fault.WriteFailed err err' failed status
    ⊎ EndsEarly out out' err err' failed status

-- The version line was written to standard output, and nothing to standard error; or it could not be written, or memory
-- ran out while the words were read.
abbrev pub EndsVersion : (out out' err err' : Option (List ℕ)) → (failed : Type 0) → ℕ → Type 0
EndsVersion out out' err err' failed status =
    ((status ≡ 0) × Keeps err err' × Appends out out' (codes "ets_tool 0.1.0\n"))
    ⊎ EndsBy fault.WriteFailed err err' failed status
    ⊎ EndsEarly out out' err err' failed status

-- the words were not understood: the program ends with status 64 and reports this on standard error
abbrev pub TellsMistake : (err err' : Option (List ℕ)) → (failed : Type 0) → ℕ → Type 0
TellsMistake err err' failed status = (status ≡ 64) × TellsText err err' failed

-- The words were not understood, or memory ran out while they were read; standard output gains nothing.
abbrev pub EndsMistaken : (out out' err err' : Option (List ℕ)) → (failed : Type 0) → ℕ → Type 0
EndsMistaken out out' err err' failed status =
    Keeps out out' × (TellsMistake err err' failed status ⊎ EndsBy fault.Memory err err' failed status)

-- how the program ends, given what its words request
abbrev pub EndsAsked : Asked → (known out out' err err' : Option (List ℕ)) → (failed : Type 0) → ℕ → Type 0
EndsAsked (command i) known out out' err err' failed status =
    EndsInvocation i known out out' err err' failed status ⊎ EndsEarly out out' err err' failed status
EndsAsked help known out out' err err' failed status = EndsHelp out out' err err' failed status
EndsAsked version known out out' err err' failed status = EndsVersion out out' err err' failed status
EndsAsked topic known out out' err err' failed status =
    EndsHelp out out' err err' failed status ⊎ EndsMistaken out out' err err' failed status
EndsAsked mistake known out out' err err' failed status = EndsMistaken out out' err err' failed status

-- The program ended in the way that some words lead to; which words it was started with can't be said here. If the
-- words could not be obtained, it ends as for a mistake.
abbrev pub EndsProgram : (known out out' err err' : Option (List ℕ)) → (failed : Type 0) → ℕ → Type 0
EndsProgram known out out' err err' failed status =
    (a : Asked) × EndsAsked a known out out' err err' failed status
