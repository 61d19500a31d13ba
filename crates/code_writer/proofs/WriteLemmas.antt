-- Parts appended to what was written.
use Rattle.std.proofs.Common.{◌≡◌, ℕ, zero, suc, ◌+◌, ◌<◌, ◌≤◌, ◌^◌, List, [], ◌∷◌, ◌++◌, length, get_or, take, drop, map, All, refl, sym, ap, subst, ◌∙◌, append_assoc, arith}
use Rattle.std.specs.List.{flat_map}
use Rattle.std.proofs.lemmas.List.{drop_more, take_all}
use Rattle.std.proofs.lemmas.List.Elements.{All-more}
use Rattle.mcode.specs.Program.{Frame}
use Rattle.mcode.specs.declared.kind.Kind.{Kind}
use Rattle.code_writer.specs.Spelling.{u16_bytes, place_bytes, frame_bytes}
use Rattle.code_writer.specs.File.{IsU8, magic}

-- ---- one part after another

pub two : (old a b n1 n2 : List ℕ) → n1 ≡ old ++ a → n2 ≡ n1 ++ b → n2 ≡ old ++ (a ++ b)
two old a b n1 n2 e f = f ∙ ap (λ (t : List ℕ). t ++ b) e ∙ append_assoc old a b

pub three : (old a b c n1 n2 n3 : List ℕ) → n1 ≡ old ++ a → n2 ≡ n1 ++ b → n3 ≡ n2 ++ c → n3 ≡ old ++ (a ++ (b ++ c))
three old a b c n1 n2 n3 e f g = two old a (b ++ c) n1 n3 e (two n1 b c n2 n3 f g)

pub four : (old a b c d n1 n2 n3 n4 : List ℕ) → n1 ≡ old ++ a → n2 ≡ n1 ++ b → n3 ≡ n2 ++ c → n4 ≡ n3 ++ d → n4 ≡ old ++ (a ++ (b ++ (c ++ d)))
four old a b c d n1 n2 n3 n4 e f g h = two old a (b ++ (c ++ d)) n1 n4 e (three n1 b c d n2 n3 n4 f g h)

-- a whole file of six parts, appended to nothing
pub six : (h ds n s ps ts old n1 n2 n3 n4 n5 n6 : List ℕ) → old ≡ [] → n1 ≡ old ++ (magic ++ h) → n2 ≡ n1 ++ ds → n3 ≡ n2 ++ n → n4 ≡ n3 ++ s → n5 ≡ n4 ++ ps → n6 ≡ n5 ++ ts → n6 ≡ magic ++ (h ++ (ds ++ (n ++ ((s ++ ps) ++ ts))))
six h ds n s ps ts old n1 n2 n3 n4 n5 n6 empty e1 e2 e3 e4 e5 e6 =
    two old (magic ++ h) (ds ++ (n ++ ((s ++ ps) ++ ts))) n1 n6 e1 (four n1 ds n (s ++ ps) ts n2 n3 n5 n6 e2 e3 (two n3 s ps n4 n5 e4 e5) e6)
    ∙ ap (λ (o : List ℕ). o ++ ((magic ++ h) ++ (ds ++ (n ++ ((s ++ ps) ++ ts))))) empty

-- ---- rows

-- This number of values of a row has been appended to what was written, and each satisfies a condition.
pub record IsWritten {X : Type 0} (spell : X → List ℕ) (Fits : X → Type 0) (xs : List X) (i : ℕ) (old now : List ℕ) : Type 0 where
  pub bytes : now ++ flat_map spell (drop i xs) ≡ old ++ flat_map spell xs
  pub each : All Fits (take i xs)

pub written_more : {X : Type 0} (spell : X → List ℕ) (Fits : X → Type 0) (xs : List X) (i : ℕ) (d : X) (old now new : List ℕ)
    → IsWritten spell Fits xs i old now → i < length xs → new ≡ now ++ spell (get_or xs i d) → Fits (get_or xs i d) → IsWritten spell Fits xs (i + 1) old new
written_more {X} spell Fits xs i d old now new h within next fits = record {
  bytes =
      ap (λ (t : List ℕ). t ++ flat_map spell (drop (i + 1) xs)) next ∙ append_assoc now (spell (get_or xs i d)) (flat_map spell (drop (i + 1) xs))
      ∙ ap (λ (ys : List X). now ++ flat_map spell ys) (sym (drop_more xs i d within)) ∙ h.bytes;
  each = All-more Fits xs i d within h.each fits;
}

-- one more value of a row has been appended
pub written_next : {X : Type 0} (spell : X → List ℕ) (Fits : X → Type 0) (xs : List X) (i : ℕ) (x : X) (old now new : List ℕ)
    → IsWritten spell Fits xs i old now → i < length xs → x ≡ get_or xs i x → new ≡ now ++ spell x → Fits x → IsWritten spell Fits xs (i + 1) old new
written_next {X} spell Fits xs i x old now new h within is next fits =
    written_more spell Fits xs i x old now new h within (next ∙ ap (λ (y : X). now ++ spell y) is) (subst Fits is fits)

pub written_each : {X : Type 0} (spell : X → List ℕ) (Fits : X → Type 0) (xs : List X) (i : ℕ) (old now : List ℕ) → IsWritten spell Fits xs i old now → length xs ≤ i → All Fits xs
written_each {X} spell Fits xs i old now h past = subst (λ (ys : List X). All Fits ys) (take_all i xs past) h.each

-- the value at a place of a row, mapped by a function
pub seen_at : {X Y : Type 0} (f : X → Y) (xs : List X) (i : ℕ) (x : X) → i < length xs → x ≡ get_or xs i x → f x ≡ get_or (map f xs) i (f x)
seen_at f [] i x within is = absurd (omega arith)
seen_at f (y ∷ xs) zero x within is = ap f is
seen_at f (y ∷ xs) (suc i) x within is = seen_at f xs i x (omega arith) is

pub seen_length : {X Y : Type 0} (f : X → Y) (xs : List X) → length (map f xs) ≡ length xs
seen_length f [] = refl
seen_length f (x ∷ xs) = ap suc (seen_length f xs)

-- ---- bytes and texts

pub bytes_each : (bs : List ℕ) → ((i : ℕ) → get_or bs i 0 < 2 ^ 8) → All IsU8 bs
bytes_each [] h k d within = absurd (omega arith)
bytes_each (b ∷ bs) h zero d within = h 0
bytes_each (b ∷ bs) h (suc k) d within = bytes_each bs (λ i. h (suc i)) k d (omega arith)

-- the parts of a frame, as they were borrowed
pub frame_written : (f : Frame) (ps : List (ℕ × Kind)) (vs old new : List ℕ) → ps ≡ f.places → vs ≡ f.slots
    → new ≡ old ++ (u16_bytes f.pc ++ (u16_bytes f.depth ++ ((u16_bytes (length ps) ++ flat_map place_bytes ps) ++ (u16_bytes (length vs) ++ vs)))) → new ≡ old ++ frame_bytes f
frame_written f ps vs old new ps_are vs_are parts = parts ∙ (λ i. old ++ frame_bytes (record { pc = f.pc; depth = f.depth; places = ps_are i; slots = vs_are i }))
