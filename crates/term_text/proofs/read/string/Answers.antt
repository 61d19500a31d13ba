use Rattle.std.proofs.Common.{◌≡◌, ◌-◌, length, drop, arith}
use Rattle.std.proofs.Common.{map as each}
use Rattle.std.proofs.lemmas.List.{length-drop, drop-append-le}
use Rattle.std.specs.Str.{chars}
use Rattle.term_text.specs.Text.{code_point}
use Rattle.term_text.proofs.Constructed.{string_within}
use Rattle.term_text.proofs.read.string.Goals as goal

pub put_rare_list-requires-clause-within : goal.put_rare_list-requires-clause-within
put_rare_list-requires-clause-within g c =
    let len : c.len.result - c.args.base ≡ length (drop c.args.base c.args.stack.now.items) = omega (arith, length-drop c.args.base c.args.stack.now.items) in
    let read = rw (c.string_marks-marks.ensures, len) at c.in_ok-characters.ensures.value in
    rw (c.in_ok-put_characters.ensures, c.as_slice.ensures.value, drop-append-le c.args.base c.args.stack.now.items (each code_point c.in_ok-characters.characters.items) c.requires.base) (string_within c.args.levels (drop c.args.base c.args.stack.now.items) (chars c.args.text.now) c.in_ok-characters.characters.items (chars c.in_ok-characters.rest.now) c.requires.elements read)
