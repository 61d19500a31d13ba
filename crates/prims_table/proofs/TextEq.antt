-- A text is the name of a function exactly if its characters are.
use Rattle.std.proofs.Common.{◌≡◌, ℕ, List, [], ◌∷◌, Bool, true, false, ◌&&◌, refl, sym, ap, ◌∙◌}
use Rattle.std.specs.Str.{chars, encode_utf8_all, IsUtf8, bytes_eq}
use Rattle.std.specs.Cmp.{first_so, second_so}
use Rattle.std.proofs.lemmas.Bool.Decides.{same_from_decides, Decides-like}
use Rattle.std.proofs.lemmas.Slice.Eq.{bytes_eq-Decides}
use Rattle.std.proofs.lemmas.Str.{encodes-chars, encodes_same}
use Rattle.prims_table.specs.Names.{name_of, found}
use Rattle.prims_table.specs.declared.names.TheConstants.{ALL}
use Rattle.prims_table.specs.declared.prim.Primitive.{Primitive}

-- whether a name's characters have one byte each
abbrev is_plain : List ℕ → Bool
is_plain name = bytes_eq (encode_utf8_all name) name

abbrev are_plain : List Primitive → Bool
are_plain [] = true
are_plain (p ∷ ps) = is_plain (name_of p) && are_plain ps

all_plain : are_plain ALL ≡ true
unfolding lib.Utf8.encode
all_plain = refl

-- a text is a plain name exactly if its characters are
same_name : (name text : List ℕ) → IsUtf8 text → is_plain name ≡ true → bytes_eq name text ≡ bytes_eq name (chars text)
same_name name text utf8 plain =
    let own : encode_utf8_all name ≡ name = (bytes_eq-Decides (encode_utf8_all name) name).0 plain in
    let spelled : encode_utf8_all (chars text) ≡ text = encodes-chars text utf8 in
    same_from_decides (bytes_eq name text) (bytes_eq name (chars text)) (bytes_eq-Decides name text)
    (Decides-like (bytes_eq name (chars text)) (λ (e : name ≡ chars text). sym own ∙ ap encode_utf8_all e ∙ spelled) (λ (e : name ≡ text). encodes_same name (chars text) (own ∙ e ∙ sym spelled)) (bytes_eq-Decides name (chars text)))

found_alike : (text : List ℕ) (n : ℕ) (ps : List Primitive) → IsUtf8 text → are_plain ps ≡ true → found text n ps ≡ found (chars text) n ps
found_alike text n [] utf8 plain = refl
found_alike text n (p ∷ ps) utf8 plain =
    rw (same_name (name_of p) text utf8 (first_so (is_plain (name_of p)) (are_plain ps) plain), found_alike text n ps utf8 (second_so (is_plain (name_of p)) (are_plain ps) plain)) refl

-- a function is found by a text as by its characters
pub named_alike : (text : List ℕ) (n : ℕ) → IsUtf8 text → found text n ALL ≡ found (chars text) n ALL
named_alike text n utf8 = found_alike text n ALL utf8 all_plain
