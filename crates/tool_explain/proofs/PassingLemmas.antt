-- Texts that are passed to a writer bit by bit.
use Rattle.std.proofs.Common.{◌≡◌, ◌∙◌, ℕ, suc, ◌+◌, ◌<◌, Option, List, [], ◌∷◌, ◌++◌, length, drop, get_or, refl, sym, ap, subst, append_assoc}
use Rattle.std.proofs.Math.Numerals.{add-one}
use Rattle.std.proofs.Math.Seq.{drop-cons}
use Rattle.std.proofs.lemmas.List.{append-nil}
use Rattle.std.specs.Io.KnownBytes.{Appends}
use Rattle.tool_io.specs.Lines as lines_of
use Rattle.tool_io.specs.declared.fault.ToolFault.{ToolFault}
use Rattle.tool_io.specs.declared.fault.ToolFault.TheVariants as fault
use Rattle.tool_io.proofs.LineLemmas.{appends_join, appends_none}
use Rattle.tool_explain.specs.Listing.{numbered}
use Rattle.tool_explain.specs.Passing.{Leads, GainsFront, StopsPassing, Passes, Stops}

-- ---- one step

-- a text is gathered
pub leads_put : (whole text left lines more : List ℕ) (start now : Option (List ℕ)) → more ≡ lines ++ text → Leads whole start now lines (text ++ left) → Leads whole start now more left
leads_put whole text left lines more start now put h =
    record { part = h.part; gained = h.gained; is = ap (λ l. h.part ++ (l ++ left)) put ∙ ap (λ l. h.part ++ l) (append_assoc lines text left) ∙ h.is }

-- gathered lines reach the writer
leads_written : (whole left lines more : List ℕ) (start now later : Option (List ℕ)) → lines_of.Passes now later lines more → Leads whole start now lines left → Leads whole start later more left
leads_written whole left lines more start now later p h =
    record {
      part = h.part ++ p.part;
      gained = appends_join start now later h.part p.part h.gained p.gained;
      is = append_assoc h.part p.part (more ++ left) ∙ ap (λ l. h.part ++ l) (sym (append_assoc p.part more left) ∙ ap (λ l. l ++ left) p.kept) ∙ h.is;
    }

-- the beginning that was written
leads_front : (whole left lines : List ℕ) (start now : Option (List ℕ)) → Leads whole start now lines left → GainsFront whole start now
leads_front whole left lines start now h = record { front = h.part; rest = lines ++ left; is = sym h.is; gained = h.gained }

-- ---- what passes

-- a text is gathered, and maybe written
pub put_passes : (text lines more rest : List ℕ) (now later : Option (List ℕ)) → more ≡ lines ++ text → lines_of.Passes now later more rest → Passes text now later lines rest
put_passes text lines more rest now later put p = λ whole left start h.
    leads_written whole left more rest start now later p (leads_put whole text left lines more start now put h)

-- nothing is passed on
pub nothing_passes : (lines : List ℕ) (now : Option (List ℕ)) → Passes [] now now lines lines
nothing_passes lines now = λ whole left start h. h

-- two texts, one after the other
pub both_pass : (text next lines more rest : List ℕ) (before now later : Option (List ℕ)) → Passes text before now lines more → Passes next now later more rest → Passes (text ++ next) before later lines rest
both_pass text next lines more rest before now later first then = λ whole left start h.
    then whole left start (first whole (next ++ left) start (subst (Leads whole start before lines) (append_assoc text next left) h))

-- a text that was gathered, and one that passes after it
pub after_put : (text next lines more rest : List ℕ) (now later : Option (List ℕ)) → more ≡ lines ++ text → Passes next now later more rest → Passes (text ++ next) now later lines rest
after_put text next lines more rest now later put then = λ whole left start h.
    then whole left start (leads_put whole text (next ++ left) lines more start now put (subst (Leads whole start now lines) (append_assoc text next left) h))

-- ---- what ends early

-- memory runs out
pub memory_stops : (text lines : List ℕ) (now : Option (List ℕ)) → Stops text now now lines fault.Memory
memory_stops text lines now = λ whole left start h. leads_front whole (text ++ left) lines start now h

-- the writer fails
pub write_stops : (text lines : List ℕ) (now later : Option (List ℕ)) (f : ToolFault) → f ≡ fault.WriteFailed → Stops text now later lines f
write_stops text lines now later f is = λ whole left start h. subst (StopsPassing whole start later) (sym is) tt

-- the first of two texts ends early
pub first_stops : (text next lines : List ℕ) (before now : Option (List ℕ)) (f : ToolFault) → Stops text before now lines f → Stops (text ++ next) before now lines f
first_stops text next lines before now f stops = λ whole left start h.
    stops whole (next ++ left) start (subst (Leads whole start before lines) (append_assoc text next left) h)

-- the second of two texts ends early
pub second_stops : (text next lines more : List ℕ) (before now later : Option (List ℕ)) (f : ToolFault) → Passes text before now lines more → Stops next now later more f → Stops (text ++ next) before later lines f
second_stops text next lines more before now later f first stops = λ whole left start h.
    stops whole left start (first whole (next ++ left) start (subst (Leads whole start before lines) (append_assoc text next left) h))

-- a text was gathered, and the next ends early
pub put_stops : (text next lines more : List ℕ) (now later : Option (List ℕ)) (f : ToolFault) → more ≡ lines ++ text → Stops next now later more f → Stops (text ++ next) now later lines f
put_stops text next lines more now later f put stops = λ whole left start h.
    stops whole left start (leads_put whole text (next ++ left) lines more start now put (subst (Leads whole start now lines) (append_assoc text next left) h))

-- ---- numbered things

-- the things from a place on
split_at : {X : Type 0} (text : ℕ → X → List ℕ) (xs : List X) (place n next : ℕ) (x other : X) → place < length xs → x ≡ get_or xs place other → next ≡ suc n → numbered text n (drop place xs) ≡ text n x ++ numbered text next (drop (place + 1) xs)
split_at text xs place n next x other there is after =
    ap (numbered text n) (drop-cons xs place other there ∙ ap (λ y. y ∷ drop (suc place) xs) (sym is))
    ∙ (λ i. text n x ++ numbered text (sym after i) (drop (sym (add-one place) i) xs))

-- one more thing passes: what is left of the things leads to the whole
pub numbered_passes : {X : Type 0} (text : ℕ → X → List ℕ) (xs : List X) (place n next : ℕ) (x other : X) (whole left lines more : List ℕ) (start now later : Option (List ℕ)) → place < length xs → x ≡ get_or xs place other → next ≡ suc n
    → Passes (text n x) now later lines more → Leads whole start now lines (numbered text n (drop place xs) ++ left) → Leads whole start later more (numbered text next (drop (place + 1) xs) ++ left)
numbered_passes text xs place n next x other whole left lines more start now later there is after passes h =
    let rest = numbered text next (drop (place + 1) xs) in
    let split = ap (λ l. l ++ left) (split_at text xs place n next x other there is after) ∙ append_assoc (text n x) rest left in
    passes whole (rest ++ left) start (subst (Leads whole start now lines) split h)

pub numbered_stops : {X : Type 0} (text : ℕ → X → List ℕ) (xs : List X) (place n : ℕ) (x other : X) (whole left lines : List ℕ) (start now later : Option (List ℕ)) (f : ToolFault) → place < length xs → x ≡ get_or xs place other
    → Stops (text n x) now later lines f → Leads whole start now lines (numbered text n (drop place xs) ++ left) → StopsPassing whole start later f
numbered_stops text xs place n x other whole left lines start now later f there is stops h =
    let rest = numbered text (suc n) (drop (place + 1) xs) in
    let split = ap (λ l. l ++ left) (split_at text xs place n (suc n) x other there is refl) ∙ append_assoc (text n x) rest left in
    stops whole (rest ++ left) start (subst (Leads whole start now lines) split h)

-- ---- a whole text

begun : (lines text : List ℕ) (now : Option (List ℕ)) → Leads (lines ++ text) now now lines (text ++ [])
begun lines text now = record { part = []; gained = appends_none now; is = ap (λ l. lines ++ l) (append-nil text) }

-- what was gathered and a text are written
pub passed_whole : (text lines more : List ℕ) (before now later : Option (List ℕ)) → Passes text before now lines more → Appends now later more → Appends before later (lines ++ text)
passed_whole text lines more before now later passes written =
    let h = passes (lines ++ text) [] before (begun lines text before) in
    subst (Appends before later) (ap (λ l. h.part ++ l) (sym (append-nil more)) ∙ h.is) (appends_join before now later h.part more h.gained written)

pub stopped_whole : (text lines : List ℕ) (before now : Option (List ℕ)) (f : ToolFault) → Stops text before now lines f → StopsPassing (lines ++ text) before now f
stopped_whole text lines before now f stops = stops (lines ++ text) [] before (begun lines text before)
