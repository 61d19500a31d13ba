-- Words of a command line, and what they request.
use Rattle.std.proofs.Common.{◌≡◌, ℕ, List, [], ◌∷◌, refl, codes}
use Rattle.clap.proofs.OnLiterals.{clap_on_literals}
use Rattle.clap.specs.Walk.{Text}
use Rattle.term_text.specs.declared.write.Form.TheVariants as form
use Rattle.tool_scan.specs.declared.options.ScanKind.{ScanKind}
use Rattle.tool_scan.specs.declared.options.ScanKind.TheVariants as kinds
use Rattle.tool_cli.specs.Words.{Asked, command, help, version, topic, mistake, asked}
use Rattle.tool_cli.specs.declared.words.Detail.TheVariants as detail
use Rattle.tool_cli.specs.declared.words.Request.{Request}
use Rattle.tool_cli.specs.declared.words.Request.TheVariants as request

-- a command with error lines alone, and one with explanations
abbrev plainly : Request → Asked
plainly r = command (record { request = r; detail = detail.Line })

abbrev explained : Request → Asked
explained r = command (record { request = r; detail = detail.Explained })

abbrev scan : List Text → Asked
scan words = asked (codes "ets_tool" ∷ codes "scan" ∷ words)

abbrev options_of : ScanKind → ℕ → ℕ → ℕ → Asked
options_of kind keypos parts workers =
    plainly (request.Scan (record { kind = kind; keypos = keypos; parts = parts; workers = workers }))

abbrev options : ℕ → ℕ → ℕ → Asked
options = options_of kinds.Set

none_given : scan [] ≡ options 1 1 1
none_given = refl

behind_and_attached : scan (codes "--parts" ∷ codes "2" ∷ codes "--workers=16" ∷ codes "--keypos" ∷ codes "65535" ∷ codes "--" ∷ []) ≡ options 65535 2 16
unfolding clap_on_literals
behind_and_attached = refl

most : scan (codes "--parts=64" ∷ []) ≡ options 1 64 1
unfolding clap_on_literals
most = refl

with_plus_and_zero : scan (codes "--parts" ∷ codes "+07" ∷ []) ≡ options 1 7 1
unfolding clap_on_literals
with_plus_and_zero = refl

too_many_parts : scan (codes "--parts" ∷ codes "65" ∷ []) ≡ mistake
unfolding clap_on_literals
too_many_parts = refl

no_part : scan (codes "--parts=0" ∷ []) ≡ mistake
unfolding clap_on_literals
no_part = refl

too_many_workers : scan (codes "--workers" ∷ codes "17" ∷ []) ≡ mistake
unfolding clap_on_literals
too_many_workers = refl

too_far_a_key : scan (codes "--keypos=65536" ∷ []) ≡ mistake
unfolding clap_on_literals
too_far_a_key = refl

below_zero : scan (codes "--parts" ∷ codes "-1" ∷ []) ≡ mistake
unfolding clap_on_literals
below_zero = refl

twice : scan (codes "--parts" ∷ codes "2" ∷ codes "--parts=2" ∷ []) ≡ mistake
unfolding clap_on_literals
twice = refl

no_number : scan (codes "--parts" ∷ []) ≡ mistake
unfolding clap_on_literals
no_number = refl

another_option : scan (codes "--part" ∷ codes "2" ∷ []) ≡ mistake
unfolding clap_on_literals
another_option = refl

another_word : scan (codes "2" ∷ []) ≡ mistake
unfolding clap_on_literals
another_word = refl

behind_dashes : scan (codes "--" ∷ codes "--parts=2" ∷ []) ≡ mistake
unfolding clap_on_literals
behind_dashes = refl

help_behind_an_option : scan (codes "--parts" ∷ codes "2" ∷ codes "--help" ∷ []) ≡ help
unfolding clap_on_literals
help_behind_an_option = refl

help_for_a_number : scan (codes "--parts" ∷ codes "--help" ∷ []) ≡ mistake
unfolding clap_on_literals
help_for_a_number = refl

help_on_scan : asked (codes "ets_tool" ∷ codes "help" ∷ codes "scan" ∷ []) ≡ topic
help_on_scan = refl

a_bag : scan (codes "--kind" ∷ codes "bag" ∷ []) ≡ options_of kinds.Bag 1 1 1
unfolding clap_on_literals
a_bag = refl

a_bag_attached : scan (codes "--kind=bag" ∷ codes "--parts" ∷ codes "2" ∷ []) ≡ options_of kinds.Bag 1 2 1
unfolding clap_on_literals
a_bag_attached = refl

a_duplicate_bag : scan (codes "--workers" ∷ codes "3" ∷ codes "--kind" ∷ codes "duplicate_bag" ∷ []) ≡ options_of kinds.DuplicateBag 1 1 3
unfolding clap_on_literals
a_duplicate_bag = refl

a_set : scan (codes "--kind=set" ∷ []) ≡ options 1 1 1
unfolding clap_on_literals
a_set = refl

no_kind : scan (codes "--kind" ∷ []) ≡ mistake
unfolding clap_on_literals
no_kind = refl

an_empty_kind : scan (codes "--kind=" ∷ []) ≡ mistake
unfolding clap_on_literals
an_empty_kind = refl

another_kind : scan (codes "--kind" ∷ codes "heap" ∷ []) ≡ mistake
unfolding clap_on_literals
another_kind = refl

an_ordered_kind : scan (codes "--kind" ∷ codes "ordered_set" ∷ []) ≡ mistake
unfolding clap_on_literals
an_ordered_kind = refl

a_kind_in_capitals : scan (codes "--kind" ∷ codes "Bag" ∷ []) ≡ mistake
unfolding clap_on_literals
a_kind_in_capitals = refl

a_kind_twice : scan (codes "--kind" ∷ codes "bag" ∷ codes "--kind=bag" ∷ []) ≡ mistake
unfolding clap_on_literals
a_kind_twice = refl

help_behind_another_kind : scan (codes "--kind" ∷ codes "heap" ∷ codes "--help" ∷ []) ≡ mistake
unfolding clap_on_literals
help_behind_another_kind = refl

-- ---- `explain`

abbrev explain : List Text → Asked
explain words = asked (codes "ets_tool" ∷ codes "explain" ∷ words)

first_key : explain [] ≡ plainly (request.Explain 1)
first_key = refl

last_key : explain (codes "--keypos" ∷ codes "65535" ∷ codes "--" ∷ []) ≡ plainly (request.Explain 65535)
unfolding clap_on_literals
last_key = refl

attached_key : explain (codes "--keypos=2" ∷ []) ≡ plainly (request.Explain 2)
unfolding clap_on_literals
attached_key = refl

no_such_key : explain (codes "--keypos" ∷ codes "0" ∷ []) ≡ mistake
unfolding clap_on_literals
no_such_key = refl

option_of_scan : explain (codes "--parts" ∷ codes "2" ∷ []) ≡ mistake
unfolding clap_on_literals
option_of_scan = refl

key_twice : explain (codes "--keypos=2" ∷ codes "--keypos=2" ∷ []) ≡ mistake
unfolding clap_on_literals
key_twice = refl

help_behind_a_key : explain (codes "--keypos" ∷ codes "2" ∷ codes "-h" ∷ []) ≡ help
unfolding clap_on_literals
help_behind_a_key = refl

-- ---- `shell`

abbrev shell : List Text → Asked
shell words = asked (codes "ets_tool" ∷ codes "shell" ∷ words)

a_shell : shell [] ≡ plainly request.Shell
a_shell = refl

a_shell_with_why : shell (codes "--why" ∷ []) ≡ explained request.Shell
unfolding clap_on_literals
a_shell_with_why = refl

a_shell_for_a_person : shell (codes "--prompt" ∷ []) ≡ plainly request.Prompt
unfolding clap_on_literals
a_shell_for_a_person = refl

a_shell_with_both : shell (codes "--why" ∷ codes "--prompt" ∷ []) ≡ explained request.Prompt
unfolding clap_on_literals
a_shell_with_both = refl

prompt_twice : shell (codes "--prompt" ∷ codes "--prompt" ∷ []) ≡ mistake
unfolding clap_on_literals
prompt_twice = refl

a_shell_of_a_kind : shell (codes "--kind" ∷ codes "bag" ∷ []) ≡ mistake
unfolding clap_on_literals
a_shell_of_a_kind = refl

help_on_a_shell : shell (codes "--help" ∷ []) ≡ help
unfolding clap_on_literals
help_on_a_shell = refl

-- ---- the version

abbrev only : Text → Asked
only word = asked (codes "ets_tool" ∷ word ∷ [])

by_name : only (codes "--version") ≡ version
by_name = refl

by_letter : only (codes "-V") ≡ version
unfolding clap_on_literals
by_letter = refl

letter_before_help : only (codes "-Vh") ≡ version
unfolding clap_on_literals
letter_before_help = refl

help_before_letter : only (codes "-hV") ≡ help
unfolding clap_on_literals
help_before_letter = refl

no_value : only (codes "--version=1") ≡ mistake
unfolding clap_on_literals
no_value = refl

small_letter : only (codes "-v") ≡ mistake
unfolding clap_on_literals
small_letter = refl

behind_a_command : asked (codes "ets_tool" ∷ codes "run" ∷ codes "--version" ∷ []) ≡ mistake
unfolding clap_on_literals
behind_a_command = refl

behind_an_option : scan (codes "-V" ∷ []) ≡ mistake
unfolding clap_on_literals
behind_an_option = refl

-- ---- a fault that is explained

abbrev run : List Text → Asked
run words = asked (codes "ets_tool" ∷ codes "run" ∷ words)

without_why : run [] ≡ plainly (request.Run form.Canonical)
without_why = refl

with_why : run (codes "--why" ∷ []) ≡ explained (request.Run form.Canonical)
unfolding clap_on_literals
with_why = refl

why_before_dashes : run (codes "--why" ∷ codes "--" ∷ []) ≡ explained (request.Run form.Canonical)
unfolding clap_on_literals
why_before_dashes = refl

with_strings : run (codes "--strings" ∷ []) ≡ plainly (request.Run form.Readable)
unfolding clap_on_literals
with_strings = refl

strings_and_why : run (codes "--why" ∷ codes "--strings" ∷ []) ≡ explained (request.Run form.Readable)
unfolding clap_on_literals
strings_and_why = refl

strings_twice : run (codes "--strings" ∷ codes "--strings" ∷ []) ≡ mistake
unfolding clap_on_literals
strings_twice = refl

strings_with_a_value : run (codes "--strings=true" ∷ []) ≡ mistake
unfolding clap_on_literals
strings_with_a_value = refl

why_behind_dashes : run (codes "--" ∷ codes "--why" ∷ []) ≡ mistake
unfolding clap_on_literals
why_behind_dashes = refl

why_with_a_value : run (codes "--why=x" ∷ []) ≡ mistake
unfolding clap_on_literals
why_with_a_value = refl

why_with_a_word : run (codes "--why" ∷ codes "true" ∷ []) ≡ mistake
unfolding clap_on_literals
why_with_a_word = refl

why_twice : run (codes "--why" ∷ codes "--why" ∷ []) ≡ mistake
unfolding clap_on_literals
why_twice = refl

help_behind_why : run (codes "--why" ∷ codes "--help" ∷ []) ≡ help
unfolding clap_on_literals
help_behind_why = refl

why_before_the_command : asked (codes "ets_tool" ∷ codes "--why" ∷ codes "run" ∷ []) ≡ mistake
unfolding clap_on_literals
why_before_the_command = refl

why_among_options : scan (codes "--parts" ∷ codes "2" ∷ codes "--why" ∷ codes "--workers=3" ∷ [])
    ≡ explained (request.Scan (record { kind = kinds.Set; keypos = 1; parts = 2; workers = 3 }))
unfolding clap_on_literals
why_among_options = refl

why_for_a_key : explain (codes "--keypos" ∷ codes "--why" ∷ []) ≡ mistake
unfolding clap_on_literals
why_for_a_key = refl

why_behind_a_key : explain (codes "--keypos" ∷ codes "2" ∷ codes "--why" ∷ []) ≡ explained (request.Explain 2)
unfolding clap_on_literals
why_behind_a_key = refl
