-- A command is read back from its term, and what is read from a term has that term.
use Rattle.std.proofs.Common.{◌≡◌, ℕ, ℤ, List, [], ◌∷◌, Bool, true, false, refl, sym, ◌∙◌, subst, ap, Option, Some, None, nat_eq, option_map}
use Rattle.std.specs.Prelude.{codes, if◌then◌else◌, MatchOption}
use Rattle.std.specs.Option.{option_or}
use Rattle.std.specs.Cmp.Lexicographic.{pointwise, bytes_decides}
use Rattle.std.proofs.lemmas.Option.{none-some, same_Some}
use Rattle.term_core.specs.Datum.{Datum, Items, items_of}
use Rattle.term_core.specs.Datum.Datum.{integer, atom, tuple, map, nil, cons, binary}
use Rattle.term_core.specs.Datum.Items.{no_items, item}
use Rattle.term_operand.specs.Operand.{integer_of}
use Rattle.part_core.specs.declared.kind.TableKind.{TableKind}
use Rattle.part_core.specs.declared.kind.TableKind.TheVariants.{Set, OrderedSet, Bag, DuplicateBag}
use Rattle.tool_script.specs.Command.{Ask, Selection, Command, called, kind_name, ask_term, selection_term, command_term, IsNoCommand}
use Rattle.tool_script.specs.Command.Ask.{Insert, InsertNew, Lookup, Member, Delete, DeleteObject, Take, Fix, Unfix, Leave, First, Next}
use Rattle.tool_script.specs.Command.Selection.{Select, SelectLimit, SelectMore, SelectCount, SelectDelete}
use Rattle.tool_script.specs.Command.Command.{Open, Session, Walk, Close}
use Rattle.tool_script.specs.Reading.{kind_in, ask_alone, ask_with, asked_by, asked_with, selection_with, selection_within, walked_by, walked_with}
use Rattle.tool_script.specs.Reading.{told_by, kind_by, opened_with, command_with, elements_in}

-- ---- a command that is read has the term that it was read from

-- a name that is found is the one that was looked for
choices : {X : Type 0} {later : Option X} (name cs : List ℕ) (found : Option X) (P : List ℕ → X → Type 0) → ((x : X) → found ≡ Some x → P name x) → ((y : X) → later ≡ Some y → P cs y) → (y : X) → (if pointwise nat_eq name cs then found else later) ≡ Some y → P cs y
choices {later = later} name cs found P here there y e = by (pointwise nat_eq name cs) refl e
  where
    by : (b : Bool) → pointwise nat_eq name cs ≡ b → (if b then found else later) ≡ Some y → P cs y
    by true same e = subst (λ n. P n y) ((bytes_decides name cs).0 same) (here y e)
    by false other e = there y e

choice : {X : Type 0} {later : Option X} (name cs : List ℕ) (x : X) (P : List ℕ → X → Type 0) → P name x → ((y : X) → later ≡ Some y → P cs y) → (y : X) → (if pointwise nat_eq name cs then Some x else later) ≡ Some y → P cs y
choice name cs x P here there =
    choices name cs (Some x) P (λ y e. subst (P name) (same_Some x y e) here) there

nothing : {X : Type 0} (P : X → Type 0) (y : X) → None ≡ Some y → P y
nothing P y e = absurd (none-some y e)

kind_sound : (cs : List ℕ) (kind : TableKind) → kind_in cs ≡ Some kind → cs ≡ kind_name kind
kind_sound cs =
    choice (codes "set") cs Set (λ n k. n ≡ kind_name k) refl
    (choice (codes "ordered_set") cs OrderedSet (λ n k. n ≡ kind_name k) refl
    (choice (codes "bag") cs Bag (λ n k. n ≡ kind_name k) refl
    (choice (codes "duplicate_bag") cs DuplicateBag (λ n k. n ≡ kind_name k) refl
    (nothing (λ k. cs ≡ kind_name k)))))

alone_sound : (s : ℤ) (cs : List ℕ) (ask : Ask) → ask_alone cs ≡ Some ask → called cs (integer s ∷ []) ≡ ask_term s ask
alone_sound s cs =
    let P : List ℕ → Ask → Type 0 = λ n a. called n (integer s ∷ []) ≡ ask_term s a in
    choice (codes "fix") cs Fix P refl
    (choice (codes "unfix") cs Unfix P refl
    (choice (codes "leave") cs Leave P refl
    (choice (codes "first") cs First P refl
    (nothing (P cs)))))

with_sound : (s : ℤ) (d : Datum) (cs : List ℕ) (ask : Ask) → ask_with cs d ≡ Some ask → called cs (integer s ∷ d ∷ []) ≡ ask_term s ask
with_sound s d cs =
    let P : List ℕ → Ask → Type 0 = λ n a. called n (integer s ∷ d ∷ []) ≡ ask_term s a in
    choice (codes "insert") cs (Insert d) P refl
    (choice (codes "insert_new") cs (InsertNew d) P refl
    (choice (codes "lookup") cs (Lookup d) P refl
    (choice (codes "member") cs (Member d) P refl
    (choice (codes "delete") cs (Delete d) P refl
    (choice (codes "delete_object") cs (DeleteObject d) P refl
    (choice (codes "take") cs (Take d) P refl
    (choice (codes "next") cs (Next d) P refl
    (nothing (P cs)))))))))

integer_is : (d : Datum) (z : ℤ) → integer_of d ≡ Some z → d ≡ integer z
integer_is (integer x) z e = ap integer (same_Some x z e)
integer_is (atom cs) z e = absurd (none-some z e)
integer_is (tuple ds) z e = absurd (none-some z e)
integer_is (map es) z e = absurd (none-some z e)
integer_is nil z e = absurd (none-some z e)
integer_is (cons h t) z e = absurd (none-some z e)
integer_is (binary bs) z e = absurd (none-some z e)

-- a value that is made of an integer
of_integer : {X : Type 0} (make : ℤ → X) (d : Datum) (x : X) (P : Datum → X → Type 0) → ((z : ℤ) → P (integer z) (make z)) → option_map make (integer_of d) ≡ Some x → P d x
of_integer make (integer z) x P each e = subst (P (integer z)) (same_Some (make z) x e) (each z)
of_integer make (atom cs) x P each e = absurd (none-some x e)
of_integer make (tuple ds) x P each e = absurd (none-some x e)
of_integer make (map es) x P each e = absurd (none-some x e)
of_integer make nil x P each e = absurd (none-some x e)
of_integer make (cons h t) x P each e = absurd (none-some x e)
of_integer make (binary bs) x P each e = absurd (none-some x e)

selection_sound : (s : ℤ) (d : Datum) (cs : List ℕ) (x : Selection) → selection_with cs d ≡ Some x → called cs (integer s ∷ d ∷ []) ≡ selection_term s x
selection_sound s d cs =
    let P : List ℕ → Selection → Type 0 = λ n x. called n (integer s ∷ d ∷ []) ≡ selection_term s x in
    choice (codes "select") cs (Select d) P refl
    (choices (codes "more") cs (option_map SelectMore (integer_of d)) P (λ x. of_integer SelectMore d x (λ d x. called (codes "more") (integer s ∷ d ∷ []) ≡ selection_term s x) (λ z. refl))
    (choice (codes "select_count") cs (SelectCount d) P refl
    (choice (codes "select_delete") cs (SelectDelete d) P refl
    (nothing (P cs)))))

within_sound : (s : ℤ) (d limit : Datum) (cs : List ℕ) (x : Selection) → selection_within cs d limit ≡ Some x → called cs (integer s ∷ d ∷ limit ∷ []) ≡ selection_term s x
within_sound s d limit cs =
    choices (codes "select") cs (option_map (SelectLimit d) (integer_of limit)) (λ n x. called n (integer s ∷ d ∷ limit ∷ []) ≡ selection_term s x)
    (λ x. of_integer (SelectLimit d) limit x (λ limit x. called (codes "select") (integer s ∷ d ∷ limit ∷ []) ≡ selection_term s x) (λ z. refl))
    (nothing (λ x. called cs (integer s ∷ d ∷ limit ∷ []) ≡ selection_term s x))

kind_is : (d : Datum) (kind : TableKind) → kind_by d ≡ Some kind → d ≡ atom (kind_name kind)
kind_is (atom cs) kind e = ap atom (kind_sound cs kind e)
kind_is (integer x) kind e = absurd (none-some kind e)
kind_is (tuple ds) kind e = absurd (none-some kind e)
kind_is (map es) kind e = absurd (none-some kind e)
kind_is nil kind e = absurd (none-some kind e)
kind_is (cons h t) kind e = absurd (none-some kind e)
kind_is (binary bs) kind e = absurd (none-some kind e)

asked_sound : (term : Datum → Datum) (s : Datum) (number : Option ℤ) (ask : Option Ask) (c : Command) → ((z : ℤ) → number ≡ Some z → s ≡ integer z) → ((z : ℤ) (a : Ask) → ask ≡ Some a → term (integer z) ≡ ask_term z a) → asked_with number ask ≡ Some c → term s ≡ command_term c
asked_sound term s (Some z) (Some a) c numbered asked e =
    ap term (numbered z refl) ∙ asked z a refl ∙ ap command_term (same_Some (Session z a) c e)
asked_sound term s number ask c numbered asked e = absurd (none-some c e)

walked_sound : (term : Datum → Datum) (s : Datum) (number : Option ℤ) (selection : Option Selection) (c : Command) → ((z : ℤ) → number ≡ Some z → s ≡ integer z) → ((z : ℤ) (x : Selection) → selection ≡ Some x → term (integer z) ≡ selection_term z x) → walked_with number selection ≡ Some c → term s ≡ command_term c
walked_sound term s (Some z) (Some x) c numbered selected e =
    ap term (numbered z refl) ∙ selected z x refl ∙ ap command_term (same_Some (Walk z x) c e)
walked_sound term s number selection c numbered selected e = absurd (none-some c e)

-- the first or the second of two optional values
either : {X : Type 0} (a b : Option X) (x : X) (P : X → Type 0) → ((y : X) → a ≡ Some y → P y) → ((y : X) → b ≡ Some y → P y) → option_or a b ≡ Some x → P x
either None b x P first second e = second x e
either (Some y) b x P first second e = first x e

told_sound : (cs : List ℕ) (s d : Datum) (c : Command) → told_by cs s d ≡ Some c → called cs (s ∷ d ∷ []) ≡ command_term c
told_sound cs s d c =
    let term : Datum → Datum = λ x. called cs (x ∷ d ∷ []) in
    either (asked_by s (ask_with cs d)) (walked_by s (selection_with cs d)) c (λ c. term s ≡ command_term c)
    (λ c. asked_sound term s (integer_of s) (ask_with cs d) c (integer_is s) (λ z. with_sound z d cs))
    (λ c. walked_sound term s (integer_of s) (selection_with cs d) c (integer_is s) (λ z. selection_sound z d cs))

opened_sound : (kind keypos parts sessions : Datum) (k : Option TableKind) (x y z : Option ℤ) (c : Command) → ((j : TableKind) → k ≡ Some j → kind ≡ atom (kind_name j)) → ((i : ℤ) → x ≡ Some i → keypos ≡ integer i) → ((i : ℤ) → y ≡ Some i → parts ≡ integer i) → ((i : ℤ) → z ≡ Some i → sessions ≡ integer i) → opened_with k x y z ≡ Some c → called (codes "open") (kind ∷ keypos ∷ parts ∷ sessions ∷ []) ≡ command_term c
opened_sound kind keypos parts sessions (Some k) (Some x) (Some y) (Some z) c first second third fourth e =
    rw (first k refl, second x refl, third y refl, fourth z refl) (ap command_term (same_Some (Open k x y z) c e))
opened_sound kind keypos parts sessions k x y z c first second third fourth e = absurd (none-some c e)

open_sound : (cs : List ℕ) (kind keypos parts sessions : Datum) (c : Command) (b : Bool) → pointwise nat_eq (codes "open") cs ≡ b → (if b then opened_with (kind_by kind) (integer_of keypos) (integer_of parts) (integer_of sessions) else None) ≡ Some c → called cs (kind ∷ keypos ∷ parts ∷ sessions ∷ []) ≡ command_term c
open_sound cs kind keypos parts sessions c true same e =
    subst (λ n. called n (kind ∷ keypos ∷ parts ∷ sessions ∷ []) ≡ command_term c) ((bytes_decides (codes "open") cs).0 same)
    (opened_sound kind keypos parts sessions (kind_by kind) (integer_of keypos) (integer_of parts) (integer_of sessions) c (kind_is kind) (integer_is keypos) (integer_is parts) (integer_is sessions) e)
open_sound cs kind keypos parts sessions c false other e = absurd (none-some c e)

command_sound : (cs : List ℕ) (ds : List Datum) (c : Command) → command_with cs ds ≡ Some c → called cs ds ≡ command_term c
command_sound cs [] c e =
    choice (codes "close") cs Close (λ n x. called n [] ≡ command_term x) refl (nothing (λ x. called cs [] ≡ command_term x)) c e
command_sound cs (s ∷ []) c e =
    asked_sound (λ d. called cs (d ∷ [])) s (integer_of s) (ask_alone cs) c (integer_is s) (λ z. alone_sound z cs) e
command_sound cs (s ∷ d ∷ []) c e = told_sound cs s d c e
command_sound cs (s ∷ d ∷ limit ∷ []) c e =
    walked_sound (λ x. called cs (x ∷ d ∷ limit ∷ [])) s (integer_of s) (selection_within cs d limit) c (integer_is s) (λ z. within_sound z d limit cs) e
command_sound cs (kind ∷ keypos ∷ parts ∷ sessions ∷ []) c e =
    open_sound cs kind keypos parts sessions c (pointwise nat_eq (codes "open") cs) refl e
command_sound cs (v ∷ w ∷ x ∷ y ∷ z ∷ ds) c e = absurd (none-some c e)

elements_sound : (ds : List Datum) (c : Command) → elements_in ds ≡ Some c → tuple (items_of ds) ≡ command_term c
elements_sound [] c e = absurd (none-some c e)
elements_sound (atom cs ∷ ds) c e = command_sound cs ds c e
elements_sound (integer z ∷ ds) c e = absurd (none-some c e)
elements_sound (tuple is ∷ ds) c e = absurd (none-some c e)
elements_sound (map es ∷ ds) c e = absurd (none-some c e)
elements_sound (nil ∷ ds) c e = absurd (none-some c e)
elements_sound (cons h t ∷ ds) c e = absurd (none-some c e)
elements_sound (binary bs ∷ ds) c e = absurd (none-some c e)

-- ---- a command is read back from its term

-- the elements of a tuple, as a list
unfoldable pub elements_of : Items → List Datum
elements_of no_items = []
elements_of (item d ds) = d ∷ elements_of ds

-- the command that is read from a term
unfoldable pub command_in : Datum → Option Command
command_in (tuple ds) = elements_in (elements_of ds)
command_in d = None

listed : (ds : List Datum) → elements_of (items_of ds) ≡ ds
unfolding elements_of
listed [] = refl
listed (d ∷ ds) = ap (λ es. d ∷ es) (listed ds)

pub read_back : (command : Command) → command_in (command_term command) ≡ Some command
unfolding command_in elements_of
read_back (Open Set keypos parts sessions) = refl
read_back (Open OrderedSet keypos parts sessions) = refl
read_back (Open Bag keypos parts sessions) = refl
read_back (Open DuplicateBag keypos parts sessions) = refl
read_back (Session s (Insert t)) = refl
read_back (Session s (InsertNew t)) = refl
read_back (Session s (Lookup k)) = refl
read_back (Session s (Member k)) = refl
read_back (Session s (Delete k)) = refl
read_back (Session s (DeleteObject t)) = refl
read_back (Session s (Take k)) = refl
read_back (Session s Fix) = refl
read_back (Session s Unfix) = refl
read_back (Session s Leave) = refl
read_back (Session s First) = refl
read_back (Session s (Next k)) = refl
read_back (Walk s (Select d)) = refl
read_back (Walk s (SelectLimit d limit)) = refl
read_back (Walk s (SelectMore c)) = refl
read_back (Walk s (SelectCount d)) = refl
read_back (Walk s (SelectDelete d)) = refl
read_back Close = refl

-- two commands with the same term are equal
pub command_term_is_one : (a b : Command) → command_term a ≡ command_term b → a ≡ b
command_term_is_one a b same = same_Some a b (sym (read_back a) ∙ ap command_in same ∙ read_back b)

-- ---- what the reader returns

of_elements : (ds : List Datum) → command_in (tuple (items_of ds)) ≡ elements_in ds
unfolding command_in
of_elements ds = ap elements_in (listed ds)

pub command_is_read : {X : Type 0} (d : Datum) (ds : List Datum) (result : Option X) (command_of : X → Command) → tuple (items_of ds) ≡ d → option_map command_of result ≡ elements_in ds → MatchOption result (IsNoCommand d) (λ c. d ≡ command_term (command_of c))
command_is_read d ds None command_of whole read =
    λ command is. absurd (none-some command (read ∙ sym (of_elements ds) ∙ ap command_in (whole ∙ is) ∙ read_back command))
command_is_read d ds (Some c) command_of whole read =
    sym whole ∙ elements_sound ds (command_of c) (sym read)
