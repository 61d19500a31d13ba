use Rattle.std.proofs.Common.{◌<◌, length, sym, arith}
use Rattle.std.proofs.lemmas.Str.{IsUtf8-string_bytes}
use Rattle.std.specs.String.{string_bytes}
use Rattle.term_core.proofs.SameLemmas.{long_differs, differs_long}
use Rattle.term_core.proofs.term.same.same_atoms.Goals as goal

pub same_short-requires-clause-left : goal.same_short-requires-clause-left
same_short-requires-clause-left g c = rw c.in-ShortAtom-ShortAtom.is-0 at c.requires.a

pub same_short-requires-clause-right : goal.same_short-requires-clause-right
same_short-requires-clause-right g c = rw c.in-ShortAtom-ShortAtom.is-1 at c.requires.b

pub returns-in-ShortAtom-ShortAtom : goal.returns-in-ShortAtom-ShortAtom
returns-in-ShortAtom-ShortAtom g c =
    rw (c.in-ShortAtom-ShortAtom.is-0, c.in-ShortAtom-ShortAtom.is-1) c.same_short.ensures

pub returns-in-ShortAtom-MiddleAtom : goal.returns-in-ShortAtom-MiddleAtom
returns-in-ShortAtom-MiddleAtom g c =
    let short = rw c.in-ShortAtom-MiddleAtom.is-0 at c.requires.a in
    let middle = rw c.in-ShortAtom-MiddleAtom.is-1 at c.requires.b in
    rw (c.in-ShortAtom-MiddleAtom.is-0, c.in-ShortAtom-MiddleAtom.is-1) (sym (long_differs _ _ _ short middle.2 middle.0))

pub returns-in-MiddleAtom-ShortAtom : goal.returns-in-MiddleAtom-ShortAtom
returns-in-MiddleAtom-ShortAtom g c =
    let middle = rw c.in-MiddleAtom-ShortAtom.is-0 at c.requires.a in
    let short = rw c.in-MiddleAtom-ShortAtom.is-1 at c.requires.b in
    rw (c.in-MiddleAtom-ShortAtom.is-0, c.in-MiddleAtom-ShortAtom.is-1) (sym (differs_long _ _ _ short middle.2 middle.0))

pub returns-in-ShortAtom-Atom : goal.returns-in-ShortAtom-Atom
returns-in-ShortAtom-Atom g c =
    let text = c.in-ShortAtom-Atom.field-0-1.value in
    let short = rw c.in-ShortAtom-Atom.is-0 at c.requires.a in
    let kept = rw c.in-ShortAtom-Atom.is-1 at c.requires.b in
    let long : 14 < length (string_bytes text) = omega arith in
    rw (c.in-ShortAtom-Atom.is-0, c.in-ShortAtom-Atom.is-1) (sym (long_differs _ _ _ short (IsUtf8-string_bytes text) long))

pub returns-in-Atom-ShortAtom : goal.returns-in-Atom-ShortAtom
returns-in-Atom-ShortAtom g c =
    let text = c.in-Atom-ShortAtom.field-0-0.value in
    let kept = rw c.in-Atom-ShortAtom.is-0 at c.requires.a in
    let short = rw c.in-Atom-ShortAtom.is-1 at c.requires.b in
    let long : 14 < length (string_bytes text) = omega arith in
    rw (c.in-Atom-ShortAtom.is-0, c.in-Atom-ShortAtom.is-1) (sym (differs_long _ _ _ short (IsUtf8-string_bytes text) long))
