-- Lines worked out: what each does after a pending text. A wrong definition fails here before any proof.
use Rattle.std.proofs.Common.{◌≡◌, [], refl}
use Rattle.std.specs.Prelude.{codes, false}
use Rattle.tool_script.specs.declared.line.Effect.TheVariants as effect
use Rattle.tool_script.specs.declared.line.Within.TheVariants as within
use Rattle.tool_script.specs.Line.{first_line, behind_line, effect_of, has_dot, AreWholeLines}
use Rattle.tool_script.specs.Shell.{IsLookedAtNext}
use Rattle.tool_script.specs.Shell.IsLookedAtNext.{by_dot, by_giving_up, behind_line_begun}

-- a command on its line is examined, and so is the last line without a line feed
whole : effect_of [] (codes "{close}.\n") ≡ effect.LooksAt
whole = refl

last : effect_of [] (codes "{close}.") ≡ effect.LooksAt
last = refl

in_front_of_comment : effect_of [] (codes "{close}.% all\n") ≡ effect.LooksAt
in_front_of_comment = refl

-- a line without a dot goes on, and so does one with a dot inside a number or a name
begun : effect_of [] (codes "{insert,0,\n") ≡ effect.GoesOn
begun = refl

inside : has_dot within.Nothing (codes "{a.b,1.5}\n") ≡ false
inside = refl

-- white space, a comment or the end of the input begins no pending text
blank : effect_of [] (codes " \t\n") ≡ effect.Passes
blank = refl

comment : effect_of [] (codes "  % a line. of a comment.\n") ≡ effect.Passes
comment = refl

end : effect_of [] [] ≡ effect.Passes
end = refl

-- after a pending text a comment is not an empty line, with or without a dot in it
comment_behind : effect_of (codes "{insert,0,\n") (codes "% the object\n") ≡ effect.GoesOn
comment_behind = refl

comment_with_dot : effect_of (codes "{insert,0,\n") (codes "% the object.\n") ≡ effect.GoesOn
comment_with_dot = refl

-- a dot within quotation marks ends no command, also where they began on a line before; a backslash keeps its mark from
-- ending them
quoted : effect_of [] (codes "'a. b\n") ≡ effect.GoesOn
quoted = refl

quoted_before : effect_of (codes "\"a\n") (codes "b. c\n") ≡ effect.GoesOn
quoted_before = refl

quoted_to_the_dot : effect_of (codes "'a\n") (codes "b. c'.\n") ≡ effect.LooksAt
quoted_to_the_dot = refl

other_mark : effect_of (codes "'a\n") (codes "b\". c\n") ≡ effect.GoesOn
other_mark = refl

escaped_mark : effect_of (codes "'a\\'\n") (codes "b. c\n") ≡ effect.GoesOn
escaped_mark = refl

-- quotation marks in a comment begin nothing
mark_in_comment : effect_of (codes "{close% don't\n") (codes "}.\n") ≡ effect.LooksAt
mark_in_comment = refl

-- the pending text is given up at an empty line and at the end of the input
empty_behind : effect_of (codes "{insert,0,\n") (codes "\n") ≡ effect.GivesUp
empty_behind = refl

end_behind : effect_of (codes "{insert,0,\n") [] ≡ effect.GivesUp
end_behind = refl

-- lines of an input
one : first_line (codes "a.\nb.") ≡ codes "a.\n"
one = refl

rest : behind_line (codes "a.\nb.") ≡ codes "b."
rest = refl

unended : first_line (codes "b.") ≡ codes "b."
unended = refl

nothing : behind_line (codes "b.") ≡ []
nothing = refl

-- whole lines end with a line feed, and no bytes are whole lines too
two_lines : AreWholeLines (codes "{close}.\n% all.\n")
two_lines = refl

no_lines : AreWholeLines []
no_lines = tt

cut_line : AreWholeLines (codes "{close}.\n{cl") → ⊥
cut_line is = absurd (cc)

-- the text that is examined next: a command over two lines, and one that an empty line gives up
over_lines : IsLookedAtNext [] (codes "{close\n}.\n{close}.\n") (codes "{close\n}.\n")
over_lines = behind_line_begun refl (by_dot refl)

up_to_empty : IsLookedAtNext [] (codes "{close\n \n{close}.\n") (codes "{close\n")
up_to_empty = behind_line_begun refl (by_giving_up refl)

up_to_end : IsLookedAtNext [] (codes "{close") (codes "{close")
up_to_end = behind_line_begun refl (by_giving_up refl)
