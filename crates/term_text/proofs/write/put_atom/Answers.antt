use Rattle.std.proofs.Common.{◌≡◌, [], ◌∷◌, true, false, sym, ◌∙◌}
use Rattle.std.specs.Str.{chars, encode_utf8_all}
use Rattle.std.proofs.lemmas.Str.{encodes-chars}
use Rattle.term_text.specs.Character.{single_quote}
use Rattle.term_text.specs.Canonical.{is_bare}
use Rattle.term_text.proofs.Bytes.{quoted_bytes, three}
use Rattle.term_text.proofs.write.put_atom.Goals as goal

pub returns-then-is_bare-clause-items : goal.returns-then-is_bare-clause-items
returns-then-is_bare-clause-items g c =
    let bare : is_bare (chars c.args.text.now) ≡ true = sym c.is_bare.ensures ∙ c.if-is_bare.true in
    let spelled : encode_utf8_all (chars c.args.text.now) ≡ c.as_bytes.result.now = encodes-chars c.args.text.now c.utf8.text ∙ sym c.as_bytes.ensures.value in
    rw (bare, spelled) c.extend_from_slice.ensures.items

pub returns-clause-items : goal.returns-clause-items
returns-clause-items g c =
    let quoted : is_bare (chars c.args.text.now) ≡ false = sym c.is_bare.ensures ∙ c.if-is_bare.false in
    rw (quoted, quoted_bytes) (three _ (single_quote ∷ []) _ (single_quote ∷ []) _ _ _ c.in_ok-push.ensures.items c.in_ok-put_all_quoted.ensures.items c.in_ok-push-2.ensures.items)
