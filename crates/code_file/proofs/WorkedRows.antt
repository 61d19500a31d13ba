-- Examples: what the definitions say about files.
use Rattle.std.proofs.Common.{◌≡◌, ℕ, List, [], ◌∷◌, ◌++◌, refl, sym, ◌∙◌, arith}
use Rattle.term_core.specs.Datum.{Datum}
use Rattle.code_writer.specs.File.{magic}
use Rattle.code_writer.specs.Spelling.{u16_bytes, u32_bytes, constant_bytes}
use Rattle.code_writer.proofs.InstructionLemmas.{head_is}
use Rattle.code_writer.proofs.ConstantLemmas.{Node, node_of, tag_of, rest_bytes, spelled}
use Rattle.code_file.specs.Due.{BeginsWith, Due}
use Rattle.code_file.specs.Due.Item.{a_count, a_term}
use Rattle.code_file.specs.Due.Row.{constants}
use Rattle.code_file.specs.Causes.{IsWrong}
use Rattle.code_file.specs.declared.fault.FileFault.TheVariants as faults
use Rattle.code_file.specs.Faults.{IsFileFault}

abbrev header : List ℕ → List ℕ
header t = magic ++ (0 ∷ 1 ∷ 0 ∷ 0 ∷ t)

after_header : (t : List ℕ) → Due (header t) (a_count constants) t
unfolding u16_bytes
after_header t =
    Due.plain_constants {n = 0} (Due.plain_code (Due.behind_magic refl) (record { fits = omega arith; parts = refl })) (record { fits = (omega arith, omega arith); parts = refl })

-- a term is due after the number of one constant
first : (t : List ℕ) → Due (header (0 ∷ 1 ∷ t)) (a_term 255) t
unfolding u16_bytes
first t =
    Due.term {n = 1} {k = 0} {ds = []} (Due.constant (Due.behind_count (after_header (0 ∷ 1 ∷ t)) (record { fits = omega arith; parts = refl }))) (record { fits = (refl, tt); parts = refl }) (omega arith)

-- the file ends where its first constant is due
cut : IsFileFault (faults.Truncated 10) (header (0 ∷ 1 ∷ []))
unfolding u16_bytes
cut = record {
  front = header (0 ∷ 1 ∷ []);
  rest = [];
  parts = refl;
  at_is = refl;
  wrong = IsWrong.cut_off (first []) (omega arith);
}

-- one constant, with an unknown tag
nameless : IsFileFault (faults.BadOpcode 10) (header (0 ∷ 1 ∷ 9 ∷ []))
unfolding u16_bytes
nameless = record {
  front = header (0 ∷ 1 ∷ []);
  rest = 9 ∷ [];
  parts = refl;
  at_is = refl;
  wrong = IsWrong.no_tag {levels = 254} (first (9 ∷ [])) no_tag;
}
  where
    go : (n : Node) → tag_of n ≡ 9 → ⊥
    go (Node.of_integer z) is = omega (arith, is)
    go n is = omega (arith, is)

    no_tag : (d : Datum) → ¬ BeginsWith (9 ∷ []) (constant_bytes d)
    no_tag d w = go (node_of d) (head_is (tag_of (node_of d)) 9 (rest_bytes (node_of d)) w.0 (sym (spelled d) ∙ w.1))

-- a list of no elements, whatever follows its number
no_elements : IsFileFault (faults.NotCanonical 11) (header (0 ∷ 1 ∷ 6 ∷ 0 ∷ 0 ∷ 0 ∷ 0 ∷ 9 ∷ []))
unfolding u32_bytes
no_elements = record {
  front = header (0 ∷ 1 ∷ 6 ∷ []);
  rest = 0 ∷ 0 ∷ 0 ∷ 0 ∷ 9 ∷ [];
  parts = refl;
  at_is = refl;
  wrong = IsWrong.no_elements (Due.list_length {levels = 254} (first (6 ∷ 0 ∷ 0 ∷ 0 ∷ 0 ∷ 9 ∷ []))) (record { fits = omega arith; parts = refl });
}

-- code with routines that has only one body
one_body : IsFileFault (faults.NotCanonical 8) (magic ++ (0 ∷ 2 ∷ 0 ∷ 0 ∷ 0 ∷ 1 ∷ []))
unfolding u16_bytes
one_body = record {
  front = magic ++ (0 ∷ 2 ∷ 0 ∷ 0 ∷ []);
  rest = 0 ∷ 1 ∷ [];
  parts = refl;
  at_is = refl;
  wrong = IsWrong.few_bodies {n = 1} (Due.body_count {ds = []} (Due.code (Due.behind_magic refl) (record { fits = omega arith; parts = refl })) (record { fits = (omega arith, tt); parts = refl })) (record { fits = omega arith; parts = refl }) (omega arith);
}
