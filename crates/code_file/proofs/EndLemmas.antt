-- The rest at which something is due is the end of the file.
use Rattle.std.proofs.Common.{◌≡◌, ℕ, List, [], ◌∷◌, ◌++◌, refl, sym, ap, ◌∙◌, append_assoc}
use Rattle.std.proofs.lemmas.List.{append-nil}
use Rattle.code_writer.specs.File.{magic}
use Rattle.code_writer.specs.Format.{Format, Begins}
use Rattle.code_file.specs.declared.stop.FileCause.{FileCause}
use Rattle.code_file.specs.Due.{Item, Due}
use Rattle.code_file.specs.Causes.{IsWrong}

-- the file ends with this rest
abbrev pub Ends : List ℕ → List ℕ → Type 0
Ends file t = (front : List ℕ) × (file ≡ front ++ t)

further : {file t : List ℕ} (x u : List ℕ) → t ≡ x ++ u → Ends file t → Ends file u
further x u is e = (e.0 ++ x, e.1 ∙ ap (λ (s : List ℕ). e.0 ++ s) is ∙ sym (append_assoc e.0 x u))

behind : {X : Type 0} {F : Format X} {file t u : List ℕ} {x : X} → Begins F t x u → Ends file t → Ends file u
behind {X} {F} {file} {t} {u} {x} h e = further (F.spell x) u h.parts e

pub due_ends : {file : List ℕ} {i : Item} {t : List ℕ} → Due file i t → Ends file t
due_ends {file} (Due.start h) = ([], refl)
due_ends {file} (Due.behind_magic h) = (magic, h)
due_ends (Due.plain_code d h) = behind h (due_ends d)
due_ends (Due.plain_slots d) = due_ends d
due_ends (Due.plain_constants d h) = behind h (due_ends d)
due_ends (Due.plain_instructions d h k) = behind k (behind h (due_ends d))
due_ends (Due.code d h) = behind h (due_ends d)
due_ends (Due.code_constants d) = due_ends d
due_ends (Due.body_count d h) = behind h (due_ends d)
due_ends (Due.main_body d h) = behind h (due_ends d)
due_ends (Due.behind_main_body d h k) = behind k (behind h (due_ends d))
due_ends (Due.body_slots d) = due_ends d
due_ends (Due.body_instructions d h) = behind h (due_ends d)
due_ends (Due.behind_instructions d h) = behind h (due_ends d)
due_ends (Due.behind_count d h) = behind h (due_ends d)
due_ends (Due.constant d) = due_ends d
due_ends (Due.integer {levels} {t} d) = further (1 ∷ []) t refl (due_ends d)
due_ends (Due.text_size {levels} {t} d) = further (2 ∷ []) t refl (due_ends d)
due_ends (Due.text d h) = behind h (due_ends d)
due_ends (Due.tuple {levels} {t} d) = further (3 ∷ []) t refl (due_ends d)
due_ends (Due.map {levels} {t} d) = further (4 ∷ []) t refl (due_ends d)
due_ends (Due.list_length {levels} {t} d) = further (6 ∷ []) t refl (due_ends d)
due_ends (Due.elements {levels} {n} {t} {u} d h) = behind h (further (6 ∷ []) t refl (due_ends d))
due_ends (Due.tail {levels} {ds} {t} {u} d h) = behind h (further (6 ∷ []) t refl (due_ends d))
due_ends (Due.tail_term d other) = due_ends d
due_ends (Due.binary_size {levels} {t} d) = further (7 ∷ []) t refl (due_ends d)
due_ends (Due.content d h) = behind h (due_ends d)
due_ends (Due.term d h fewer) = behind h (due_ends d)
due_ends (Due.pair d h fewer) = behind h (due_ends d)
due_ends (Due.key d) = due_ends d
due_ends (Due.value d h above) = behind h (due_ends d)
due_ends (Due.instruction d h fewer) = behind h (due_ends d)
due_ends (Due.argument_slot d h) = behind h (due_ends d)
due_ends (Due.argument d h) = behind h (due_ends d)
due_ends (Due.arguments d h) = behind h (due_ends d)
due_ends (Due.function d h) = behind h (due_ends d)
due_ends (Due.behind_function d h) = behind h (due_ends d)
due_ends (Due.arithmetic d h) = behind h (due_ends d)
due_ends (Due.behind_arithmetic d h) = behind h (due_ends d)
due_ends (Due.frame d h fewer) = behind h (due_ends d)
due_ends (Due.depth d h above) = behind h (due_ends d)
due_ends (Due.behind_depth d h) = behind h (due_ends d)
due_ends (Due.place d h fewer) = behind h (due_ends d)
due_ends (Due.kind d h above) = behind h (due_ends d)
due_ends (Due.tuple_size {t} d) = further (5 ∷ []) t refl (due_ends d)
due_ends (Due.behind_places d h) = behind h (due_ends d)
due_ends (Due.slot d h fewer) = behind h (due_ends d)
due_ends (Due.routine d h fewer) = behind h (due_ends d)
due_ends (Due.argument_kinds d h) = behind h (due_ends d)
due_ends (Due.argument_kind d h fewer) = behind h (due_ends d)
due_ends (Due.result_kind d h) = behind h (due_ends d)
due_ends (Due.told_kind d other) = due_ends d
due_ends (Due.routine_body d h) = behind h (due_ends d)

pub wrong_ends : {file : List ℕ} {cause : FileCause} {rest : List ℕ} → IsWrong file cause rest → Ends file rest
wrong_ends {file} (IsWrong.cut_off d short) = (file, sym (append-nil file))
wrong_ends (IsWrong.no_tag d h) = due_ends d
wrong_ends (IsWrong.no_opcode d h) = due_ends d
wrong_ends (IsWrong.no_function d h) = due_ends d
wrong_ends (IsWrong.no_arithmetic d h) = due_ends d
wrong_ends (IsWrong.no_kind d h) = due_ends d
wrong_ends (IsWrong.low_key d h low) = due_ends d
wrong_ends (IsWrong.low_frame d h low) = due_ends d
wrong_ends (IsWrong.low_place d h low) = due_ends d
wrong_ends (IsWrong.low_slot d h low) = due_ends d
wrong_ends (IsWrong.few_bodies d h few) = due_ends d
wrong_ends (IsWrong.no_elements d h) = due_ends d
wrong_ends (IsWrong.list_as_tail d h) = due_ends d
wrong_ends (IsWrong.no_text d h other) = due_ends d
wrong_ends (IsWrong.many_slots d h many) = due_ends d
wrong_ends (IsWrong.many_bodies d h many) = due_ends d
wrong_ends (IsWrong.many_arguments d h many) = due_ends d
wrong_ends (IsWrong.many_elements d h many) = due_ends d
wrong_ends (IsWrong.many_bytes d h many) = due_ends d
wrong_ends (IsWrong.many_characters cs d h i many) = due_ends d
wrong_ends (IsWrong.too_deep d) = due_ends d
