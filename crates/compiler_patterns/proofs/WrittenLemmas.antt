-- What is written one after the other, and which variables are known after it.
use Rattle.std.proofs.Common.{◌≡◌, ◌≢◌, ◌==◌, Bool, true, false, ◌||◌, ℕ, zero, suc, ◌<◌, inl, inr, if◌then◌else◌, List, [], ◌∷◌, ◌++◌, length, get_or, set, replicate, refl, sym, ◌∙◌, ap, subst, arith}
use Rattle.std.proofs.lemmas.Bool.{cases_eq, eq-eqb, ne_eqb}
use Rattle.std.proofs.lemmas.List.{append_assoc, append-nil, get_or-set_same, get_or-set_other, length-set, length-replicate, get_or-replicate}
use Rattle.mspec_syntax.specs.Grammar.{is_among}
use Rattle.mspec_syntax.specs.Rising.{rank_of}
use Rattle.mspec_syntax.proofs.RankLemmas.{rank-below}
use Rattle.compiler_assembly.specs.Line.{SourceLine, plain}
use Rattle.compiler_assembly.specs.declared.op.Op.TheVariants as op
use Rattle.compiler_assembly.specs.declared.op.Target.TheVariants.{Failing}
use Rattle.compiler_patterns.specs.Leaves.{variable_lines}
use Rattle.compiler_patterns.specs.Written.{Draft, Tracks, Puts, Writes}

or-true : (b : Bool) → (b || true) ≡ true
or-true true = refl
or-true false = refl

or-false : (b : Bool) → (b || false) ≡ b
or-false true = refl
or-false false = refl

or-assoc : (a b c : Bool) → (a || (b || c)) ≡ ((a || b) || c)
or-assoc true b c = refl
or-assoc false b c = refl

-- a variable is in a joined list if it is in one of the two
pub among-append : (xs ys : List ℕ) (n : ℕ) → is_among (xs ++ ys) n ≡ (is_among xs n || is_among ys n)
among-append [] ys n = refl
among-append (x ∷ xs) ys n =
    ap (λ b. (x == n) || b) (among-append xs ys n) ∙ or-assoc (x == n) (is_among xs n) (is_among ys n)

-- no two variables have the same slot
rank-same : (vs : List ℕ) (n m : ℕ) → is_among vs n ≡ true → is_among vs m ≡ true → rank_of vs n ≡ rank_of vs m → n ≡ m
rank-same [] n m hn hm e = absurd (cc)
rank-same (v ∷ vs) n m hn hm e =
    elim (cases_eq v n) [
      | inl first ↦
          let zero-n : rank_of (v ∷ vs) n ≡ zero = rw (eq-eqb v n first) refl in
          elim (cases_eq v m) [
            | inl second ↦ sym first ∙ second
            | inr differ ↦
                let suc-m : rank_of (v ∷ vs) m ≡ suc (rank_of vs m) = rw (ne_eqb v m differ) refl in
                absurd (let q : zero ≡ suc (rank_of vs m) = sym zero-n ∙ e ∙ suc-m in omega (arith, q))
          ]
      | inr other ↦
          let suc-n : rank_of (v ∷ vs) n ≡ suc (rank_of vs n) = rw (ne_eqb v n other) refl in
          elim (cases_eq v m) [
            | inl second ↦
                let zero-m : rank_of (v ∷ vs) m ≡ zero = rw (eq-eqb v m second) refl in
                absurd (let q : suc (rank_of vs n) ≡ zero = sym suc-n ∙ e ∙ zero-m in omega (arith, q))
            | inr differ ↦
                let suc-m : rank_of (v ∷ vs) m ≡ suc (rank_of vs m) = rw (ne_eqb v m differ) refl in
                let q : suc (rank_of vs n) ≡ suc (rank_of vs m) = sym suc-n ∙ e ∙ suc-m in
                rank-same vs n m (sym (ap (λ b. b || is_among vs n) (ne_eqb v n other)) ∙ hn) (sym (ap (λ b. b || is_among vs m) (ne_eqb v m differ)) ∙ hm) (omega (arith, q))
          ]
    ]

module _ (slots : List ℕ) where
  -- no variable is known if no slot is bound
  pub tracks-none : (n : ℕ) → n ≡ length slots → Tracks slots (replicate n false) []
  tracks-none n e =
      record {
        count = length-replicate n false ∙ e;
        values = λ m h. sym (get_or-replicate n (rank_of slots m) false false (omega (arith, rank-below slots m h, e)));
      }

  -- a variable whose slot is bound is known
  tracks-bound : (n : ℕ) (bound : List Bool) (known : List ℕ) → is_among slots n ≡ true → Tracks slots bound known → Tracks slots (set bound (rank_of slots n) true) (known ++ n ∷ [])
  tracks-bound n bound known hn t =
      let r = rank_of slots n in
      record {
        count = length-set bound r true ∙ t.count;
        values = λ m hm.
            elim (cases_eq n m) [
              | inl e ↦
                  among-append known (n ∷ []) m
                  ∙ ap (λ b. is_among known m || (b || false)) (eq-eqb n m e)
                  ∙ or-true (is_among known m)
                  ∙ sym (get_or-set_same bound r true false (omega (arith, rank-below slots n hn, t.count)))
                  ∙ ap (λ x. get_or (set bound r true) (rank_of slots x) false) e
              | inr differ ↦
                  let apart : rank_of slots m ≢ r = λ q. differ (sym (rank-same slots m n hm hn q)) in
                  among-append known (n ∷ []) m
                  ∙ ap (λ b. is_among known m || (b || false)) (ne_eqb n m differ)
                  ∙ or-false (is_among known m)
                  ∙ t.values m hm
                  ∙ sym (get_or-set_other bound r (rank_of slots m) true false apart)
            ];
      }

  tracks-along : (a b : Draft) (known : List ℕ) → b.bound ≡ a.bound → Tracks slots a.bound known → Tracks slots b.bound known
  tracks-along a b known e t = let P : List Bool → Type 0 = λ bound. Tracks slots bound known in subst P (sym e) t

  -- lines, followed by those that are due
  pub puts-then : (added : List SourceLine) (due : List ℕ → List SourceLine) (variables : List ℕ) (a b c : Draft) → Puts added a b → Writes slots due variables b c → Writes slots (λ k. added ++ due k) variables a c
  puts-then added due variables a b c p w =
      record {
        lines = λ k h. w.lines k (tracks-along a b k p.bound h) ∙ ap (λ l. l ++ due k) p.lines ∙ append_assoc a.lines added (due k);
        tracks = λ k h. w.tracks k (tracks-along a b k p.bound h);
      }

  -- those that are due, followed by lines
  pub then-puts : (added : List SourceLine) (due : List ℕ → List SourceLine) (variables : List ℕ) (a b c : Draft) → Writes slots due variables a b → Puts added b c → Writes slots (λ k. due k ++ added) variables a c
  then-puts added due variables a b c w p =
      record {
        lines = λ k h. p.lines ∙ ap (λ l. l ++ added) (w.lines k h) ∙ append_assoc a.lines (due k) added;
        tracks = λ k h. tracks-along b c (k ++ variables) p.bound (w.tracks k h);
      }

  -- those that are due, followed by those that are due once their variables are known
  pub writes-then : (due rest : List ℕ → List SourceLine) (variables others : List ℕ) (a b c : Draft) → Writes slots due variables a b → Writes slots rest others b c → Writes slots (λ k. due k ++ rest (k ++ variables)) (variables ++ others) a c
  writes-then due rest variables others a b c v w =
      record {
        lines = λ k h. w.lines (k ++ variables) (v.tracks k h) ∙ ap (λ l. l ++ rest (k ++ variables)) (v.lines k h) ∙ append_assoc a.lines (due k) (rest (k ++ variables));
        tracks = λ k h. let P : List ℕ → Type 0 = λ l. Tracks slots c.bound l in subst P (append_assoc k variables others) (w.tracks (k ++ variables) (v.tracks k h));
      }

  -- due lines with equal lines and equal variables
  pub writes-same : (due same : List ℕ → List SourceLine) (variables others : List ℕ) (a b : Draft) → ((k : List ℕ) → Tracks slots a.bound k → due k ≡ same k) → variables ≡ others → Writes slots due variables a b → Writes slots same others a b
  writes-same due same variables others a b lines ns w =
      record {
        lines = λ k h. w.lines k h ∙ ap (λ l. a.lines ++ l) (lines k h);
        tracks = λ k h. let P : List ℕ → Type 0 = λ l. Tracks slots b.bound (k ++ l) in subst P ns (w.tracks k h);
      }

  -- lines without variables
  pub puts-writes : (added : List SourceLine) (a b : Draft) → Puts added a b → Writes slots (λ k. added) [] a b
  puts-writes added a b p =
      record {
        lines = λ k h. p.lines;
        tracks = λ k h. let P : List ℕ → Type 0 = λ l. Tracks slots b.bound l in subst P (sym (append-nil k)) (tracks-along a b k p.bound h);
      }

  -- a slot is bound
  module _ (n r : ℕ) (hn : is_among slots n ≡ true) (at : r ≡ rank_of slots n) (a b : Draft) (set_to : r < length a.bound → b ≡ record { bound = set a.bound r true; lines = a.lines }) where
    bound-writes : Writes slots (λ k. []) (n ∷ []) a b
    bound-writes =
        record {
          lines = λ k h.
              let is = set_to (omega (arith, rank-below slots n hn, at, h.count)) in
              ap (λ d. d.lines) is ∙ sym (append-nil a.lines);
          tracks = λ k h.
              let is = set_to (omega (arith, rank-below slots n hn, at, h.count)) in
              let P : List Bool → Type 0 = λ bound. Tracks slots bound (k ++ n ∷ []) in
              subst P (ap (λ i. set a.bound i true) (sym at) ∙ sym (ap (λ d. d.bound) is)) (tracks-bound n a.bound k hn h);
        }

    was-known : (was : Bool) (k : List ℕ) → was ≡ get_or a.bound r false → Tracks slots a.bound k → is_among k n ≡ was
    was-known was k h t = t.values n hn ∙ ap (λ i. get_or a.bound i false) (sym at) ∙ sym h

    -- a variable that was bound before is compared
    pub known-writes : (was : Bool) (c d : Draft) → was ≡ get_or a.bound r false → was ≡ true → Puts (plain (op.Get r) ∷ []) b c → Puts (plain (op.Equal Failing) ∷ []) c d → Writes slots (λ k. variable_lines slots k n) (n ∷ []) a d
    known-writes was c d h held p q =
        let own = plain (op.Get r) ∷ plain (op.Equal Failing) ∷ [] in
        let lines = then-puts (plain (op.Equal Failing) ∷ []) _ (n ∷ []) a c d (then-puts (plain (op.Get r) ∷ []) (λ k. []) (n ∷ []) a b c bound-writes p) q in
        writes-same (λ k. own) (λ k. variable_lines slots k n) (n ∷ []) (n ∷ []) a d
        (λ k t.
        let known : is_among k n ≡ true = was-known was k h t ∙ held in
        ap (λ i. plain (op.Get i) ∷ plain (op.Equal Failing) ∷ []) at
        ∙ sym (ap (λ x. if x then plain (op.Get (rank_of slots n)) ∷ plain (op.Equal Failing) ∷ [] else plain (op.Bind (rank_of slots n)) ∷ []) known))
        refl lines

    -- a variable that wasn't bound before is bound
    pub new-writes : (was : Bool) (c : Draft) → was ≡ get_or a.bound r false → was ≡ false → Puts (plain (op.Bind r) ∷ []) b c → Writes slots (λ k. variable_lines slots k n) (n ∷ []) a c
    new-writes was c h held p =
        let lines = then-puts (plain (op.Bind r) ∷ []) (λ k. []) (n ∷ []) a b c bound-writes p in
        writes-same (λ k. plain (op.Bind r) ∷ []) (λ k. variable_lines slots k n) (n ∷ []) (n ∷ []) a c
        (λ k t.
        let known : is_among k n ≡ false = was-known was k h t ∙ held in
        ap (λ i. plain (op.Bind i) ∷ []) at
        ∙ sym (ap (λ x. if x then plain (op.Get (rank_of slots n)) ∷ plain (op.Equal Failing) ∷ [] else plain (op.Bind (rank_of slots n)) ∷ []) known))
        refl lines
