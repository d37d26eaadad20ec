-- Token by token through a body.
use Rattle.pg_hoa_syntax.proofs.Common.{◌≡◌, ℕ, suc, zero, ◌≤◌, ◌<◌, max, Bool, true, false, List, [], ◌∷◌, ◌++◌, length, get_or, Option, Some}
use Rattle.pg_hoa_syntax.proofs.Common.{None, refl, sym, ap, subst, ◌∙◌, arith, append_assoc, inl, inr, ◌||◌, set, replicate, ltb-true}
use Rattle.pg_hoa_syntax.proofs.Common.{eqb_tells, nat_tests, filter-append, fold-append, map-append, append-nil, length-set, length-replicate}
use Rattle.pg_hoa_syntax.proofs.Common.{get_or-replicate, get_or-set_same, get_or-set_other, PartRefusal, Memory, Wrong, Lexeme, number, stray}
use Rattle.pg_hoa_syntax.proofs.Common.{first, ◌>>=◌, Fails, KeptEdge, KeptLine, may_hold, kept_edges, greatest_of, due, state_of, new_state}
use Rattle.pg_hoa_syntax.proofs.Common.{set_in, sets_at, rising_sets_at, sets_if, edge_at, begins_edge, edges_within, edges_at, kept_edges_at}
use Rattle.pg_hoa_syntax.proofs.Common.{behind_name, line_at, begins_line, is_seen, lines_within, body_at, IsStrictlyIncreasing, put, rising}
use Rattle.pg_hoa_syntax.proofs.Common.{rising_put, rising_rises, some}
use Rattle.pg_hoa_syntax.proofs.BodyLaws.{due_is, edge_shorter, line_shorter}

-- what was read before, and then the rest
abbrev pub ahead : {A : Type 0} → List A → Option (List A × List Lexeme) → Option (List A × List Lexeme)
ahead done o = o >>= λ x. Some (done ++ x.0, x.1)

ahead_none : {A : Type 0} (o : Option (List A × List Lexeme)) → ahead [] o ≡ o
ahead_none None = refl
ahead_none (Some x) = refl

ahead_one : {A : Type 0} (done : List A) (a : A) (o : Option (List A × List Lexeme))
    → ahead done (o >>= λ x. Some (a ∷ x.0, x.1)) ≡ ahead (done ++ (a ∷ [])) o
ahead_one done a None = refl
ahead_one {A} done a (Some x) = ap (λ (l : List A). Some (l, x.1)) (sym (append_assoc done (a ∷ []) x.0))

-- ---- sets

no_sets : (sets : ℕ) (tokens : List Lexeme) → due tokens ≡ None → sets_at sets tokens ≡ None
unfolding sets_at set_in due
no_sets sets [] e = refl
no_sets sets (stray ∷ rest) e = refl
no_sets sets (t ∷ rest) e = absurd cc

pub sets_unread : (refusal : PartRefusal) (sets : ℕ) (done : List ℕ) (tokens : List Lexeme) → Fails refusal (due tokens)
    → Fails refusal (ahead done (sets_at sets tokens))
sets_unread Memory sets done tokens h = tt
sets_unread (Wrong fault) sets done tokens h = rw (no_sets sets tokens h) refl

pub sets_fail : (refusal : PartRefusal) (sets : ℕ) (done : List ℕ) (tokens rest : List Lexeme) (t : Lexeme) → due tokens ≡ Some (t, rest)
    → Fails refusal (set_in sets t) → Fails refusal (ahead done (sets_at sets tokens))
unfolding sets_at
sets_fail Memory sets done tokens rest t e h = tt
sets_fail (Wrong fault) sets done tokens rest t e h = rw (due_is tokens (t, rest) e, h) refl

pub sets_more : (sets : ℕ) (done : List ℕ) (tokens rest : List Lexeme) (t : Lexeme) (n : ℕ) → due tokens ≡ Some (t, rest)
    → set_in sets t ≡ Some (Some n) → ahead done (sets_at sets tokens) ≡ ahead (done ++ (n ∷ [])) (sets_at sets rest)
unfolding sets_at
sets_more sets done tokens rest t n e h = rw (due_is tokens (t, rest) e, h) (ahead_one done n (sets_at sets rest))

pub sets_end : (sets : ℕ) (done : List ℕ) (tokens rest : List Lexeme) (t : Lexeme) → due tokens ≡ Some (t, rest) → set_in sets t ≡ Some None
    → ahead done (sets_at sets tokens) ≡ Some (done, rest)
unfolding sets_at
sets_end sets done tokens rest t e h = rw (due_is tokens (t, rest) e, h, append-nil done) refl

-- numbers are read of which these are kept, and what is left gives the same
pub record SetsLeft (sets : ℕ) (kept : List ℕ) (tokens all : List Lexeme) : Type 0 where
  pub done : List ℕ
  pub same : kept ≡ rising done
  pub left : ahead done (sets_at sets tokens) ≡ sets_at sets all

pub sets_start : (sets : ℕ) (tokens : List Lexeme) → SetsLeft sets [] tokens tokens
sets_start sets tokens = record { done = []; same = refl; left = ahead_none (sets_at sets tokens) }

pub sets_rise : (sets : ℕ) (kept : List ℕ) (tokens all : List Lexeme) → SetsLeft sets kept tokens all → IsStrictlyIncreasing kept
sets_rise sets kept tokens all s = subst (λ (ns : List ℕ). IsStrictlyIncreasing ns) (sym s.same) (rising_rises s.done)

pub set_kept : (sets : ℕ) (kept more : List ℕ) (tokens rest all : List Lexeme) (t : Lexeme) (n : ℕ) → SetsLeft sets kept tokens all
    → due tokens ≡ Some (t, rest) → set_in sets t ≡ Some (Some n) → more ≡ put n kept → SetsLeft sets more rest all
set_kept sets kept more tokens rest all t n s e h is = record {
  done = s.done ++ (n ∷ []);
  same = is ∙ ap (put n) s.same ∙ rising_put s.done n;
  left = sym (sets_more sets s.done tokens rest t n e h) ∙ s.left;
}

pub rising_fail : (refusal : PartRefusal) (sets : ℕ) (tokens : List Lexeme) → Fails refusal (sets_at sets tokens)
    → Fails refusal (rising_sets_at sets tokens)
unfolding rising_sets_at
rising_fail Memory sets tokens h = tt
rising_fail (Wrong fault) sets tokens h = rw h refl

pub sets_over : (sets : ℕ) (kept : List ℕ) (tokens rest all : List Lexeme) (t : Lexeme) → SetsLeft sets kept tokens all
    → due tokens ≡ Some (t, rest) → set_in sets t ≡ Some None → rising_sets_at sets all ≡ Some (kept, rest)
unfolding rising_sets_at
sets_over sets kept tokens rest all t s e h =
    ap (λ (o : Option (List ℕ × List Lexeme)). o >>= λ x. some (rising x.0, x.1)) (sym s.left ∙ sets_end sets s.done tokens rest t e h)
    ∙ ap (λ (ns : List ℕ). some (ns, rest)) (sym s.same)

pub due_shorter : (tokens : List Lexeme) (x : Lexeme × List Lexeme) → due tokens ≡ Some x → length x.1 < length tokens
due_shorter tokens x e = omega (arith, ap length (due_is tokens x e))

-- ---- edges

-- what is left gives the same
pub record EdgesLeft (states propositions sets : ℕ) (done : List KeptEdge) (tokens : List Lexeme)
    (all : Option (List KeptEdge × List Lexeme)) : Type 0 where
  turns : ℕ
  enough : length tokens ≤ turns
  same : ahead done (edges_within (suc turns) states propositions sets tokens) ≡ all

pub edges_start : (states propositions sets : ℕ) (tokens : List Lexeme)
    → EdgesLeft states propositions sets [] tokens (edges_at states propositions sets tokens)
unfolding edges_at
edges_start states propositions sets tokens =
    grind (arith, nat_tests, ahead_none (edges_within (suc (length tokens)) states propositions sets tokens))

pub edges_unread : (refusal : PartRefusal) (states propositions sets : ℕ) (done : List KeptEdge) (tokens : List Lexeme)
    (all : Option (List KeptEdge × List Lexeme))
    → EdgesLeft states propositions sets done tokens all → Fails refusal (due tokens) → Fails refusal all
unfolding edges_within
edges_unread Memory states propositions sets done tokens all left h = tt
edges_unread (Wrong fault) states propositions sets done tokens all left h = sym left.same ∙ rw h refl

pub edges_fail : (refusal : PartRefusal) (states propositions sets : ℕ) (done : List KeptEdge) (tokens rest : List Lexeme) (t : Lexeme)
    (all : Option (List KeptEdge × List Lexeme))
    → EdgesLeft states propositions sets done tokens all → due tokens ≡ Some (t, rest) → Fails refusal (begins_edge t) → Fails refusal all
unfolding edges_within
edges_fail Memory states propositions sets done tokens rest t all left e h = tt
edges_fail (Wrong fault) states propositions sets done tokens rest t all left e h = sym left.same ∙ rw (e, h) refl

pub edges_end : (states propositions sets : ℕ) (done : List KeptEdge) (tokens rest : List Lexeme) (t : Lexeme)
    (all : Option (List KeptEdge × List Lexeme))
    → EdgesLeft states propositions sets done tokens all → due tokens ≡ Some (t, rest) → begins_edge t ≡ Some false
    → all ≡ Some (done, tokens)
unfolding edges_within
edges_end states propositions sets done tokens rest t all left e h = sym left.same ∙ rw (e, h, append-nil done) refl

pub edge_fails : (refusal : PartRefusal) (states propositions sets : ℕ) (done : List KeptEdge) (tokens rest : List Lexeme) (t : Lexeme)
    (all : Option (List KeptEdge × List Lexeme))
    → EdgesLeft states propositions sets done tokens all → due tokens ≡ Some (t, rest) → begins_edge t ≡ Some true
    → Fails refusal (edge_at states propositions sets rest) → Fails refusal all
unfolding edges_within
edge_fails Memory states propositions sets done tokens rest t all left e first h = tt
edge_fails (Wrong fault) states propositions sets done tokens rest t all left e first h = sym left.same ∙ rw (e, first, h) refl

pub edges_more : (states propositions sets : ℕ) (done : List KeptEdge) (tokens rest : List Lexeme) (t : Lexeme)
    (x : KeptEdge × List Lexeme) (all : Option (List KeptEdge × List Lexeme))
    → EdgesLeft states propositions sets done tokens all → due tokens ≡ Some (t, rest) → begins_edge t ≡ Some true
    → edge_at states propositions sets rest ≡ Some x → EdgesLeft states propositions sets (done ++ (x.0 ∷ [])) x.1 all
unfolding edges_within
edges_more states propositions sets done tokens rest t x all left e first h = more left.turns left.enough left.same
  where
    more : (n : ℕ) → length tokens ≤ n → ahead done (edges_within (suc n) states propositions sets tokens) ≡ all
        → EdgesLeft states propositions sets (done ++ (x.0 ∷ [])) x.1 all
    more zero enough same = absurd (omega (arith, due_shorter tokens (t, rest) e))
    more (suc n) enough same =
        let turn : ahead done (edges_within (suc (suc n)) states propositions sets tokens) ≡ ahead done
        (edges_within (suc n) states propositions sets x.1 >>= λ y. Some (x.0 ∷ y.0, y.1)) = rw (e, first, h) refl in
        record {
          turns = n;
          enough = omega (arith, due_shorter tokens (t, rest) e, edge_shorter states propositions sets rest x h);
          same = sym (ahead_one done x.0 (edges_within (suc n) states propositions sets x.1)) ∙ sym turn ∙ same;
        }

pub edges_smaller : (states propositions sets : ℕ) (tokens rest : List Lexeme) (t : Lexeme) (x : KeptEdge × List Lexeme)
    → due tokens ≡ Some (t, rest) → edge_at states propositions sets rest ≡ Some x → length x.1 < length tokens
edges_smaller states propositions sets tokens rest t x e h =
    omega (arith, due_shorter tokens (t, rest) e, edge_shorter states propositions sets rest x h)

-- edges are read of which these are kept, which name states up to this one, and what is left gives the same
pub record KeptLeft (state states propositions sets : ℕ) (kept : List KeptEdge) (greatest : ℕ) (tokens : List Lexeme)
    (all : Option (List KeptEdge × List Lexeme)) : Type 0 where
  pub done : List KeptEdge
  pub same : kept ≡ kept_edges done
  pub most : greatest ≡ greatest_of state done
  pub left : EdgesLeft states propositions sets done tokens all

pub kept_start : (state states propositions sets : ℕ) (tokens : List Lexeme)
    → KeptLeft state states propositions sets [] state tokens (edges_at states propositions sets tokens)
kept_start state states propositions sets tokens =
    record { done = []; same = refl; most = refl; left = edges_start states propositions sets tokens }

pub kept_more : (state states propositions sets : ℕ) (kept more : List KeptEdge) (greatest : ℕ) (tokens rest : List Lexeme) (t : Lexeme)
    (x : KeptEdge × List Lexeme) (all : Option (List KeptEdge × List Lexeme))
    → KeptLeft state states propositions sets kept greatest tokens all → due tokens ≡ Some (t, rest) → begins_edge t ≡ Some true
    → edge_at states propositions sets rest ≡ Some x → more ≡ kept ++ kept_edges (x.0 ∷ [])
    → KeptLeft state states propositions sets more (max greatest x.0.target) x.1 all
kept_more state states propositions sets kept more greatest tokens rest t x all k e first h is = record {
  done = k.done ++ (x.0 ∷ []);
  same = is ∙ ap (λ (es : List KeptEdge). es ++ kept_edges (x.0 ∷ [])) k.same
      ∙ sym (filter-append (λ (e : KeptEdge). may_hold e.label) k.done (x.0 ∷ []));
  most = ap (λ (n : ℕ). max n x.0.target) k.most ∙ sym (one_more k.done);
  left = edges_more states propositions sets k.done tokens rest t x all k.left e first h;
}
  where
    one_more : (done : List KeptEdge) → greatest_of state (done ++ (x.0 ∷ [])) ≡ max (greatest_of state done) x.0.target
    one_more done = simp (map-append, fold-append)

pub kept_fail : (refusal : PartRefusal) (state states propositions sets : ℕ) (tokens : List Lexeme)
    → Fails refusal (edges_at states propositions sets tokens) → Fails refusal (kept_edges_at state states propositions sets tokens)
unfolding kept_edges_at
kept_fail Memory state states propositions sets tokens h = tt
kept_fail (Wrong fault) state states propositions sets tokens h = rw h refl

pub kept_end : (state states propositions sets : ℕ) (kept : List KeptEdge) (greatest : ℕ) (tokens rest left : List Lexeme) (t : Lexeme)
    → KeptLeft state states propositions sets kept greatest left (edges_at states propositions sets tokens)
    → due left ≡ Some (t, rest) → begins_edge t ≡ Some false
    → kept_edges_at state states propositions sets tokens ≡ Some (kept, greatest, left)
unfolding kept_edges_at
kept_end state states propositions sets kept greatest tokens rest left t k e h =
    rw (edges_end states propositions sets k.done left rest t _ k.left e h, k.same, k.most) refl

-- ---- lines

-- the marks are those of these numbers
abbrev Marks : ℕ → List Bool → List ℕ → Type 0
Marks states seen numbers = (n : ℕ) → n < states → get_or seen n false ≡ is_seen numbers n

one_mark : (states : ℕ) (seen : List Bool) (numbers : List ℕ) (i : ℕ) → length seen ≡ states → i < states → Marks states seen numbers
    → Marks states (set seen i true) (i ∷ numbers)
one_mark states seen numbers i size below marks n h =
    elim (eqb_tells i n) [
      | inl c ↦
          let within : i < length seen = omega arith in
          let marked : get_or (set seen i true) n false ≡ true = subst (λ (k : ℕ). get_or (set seen i true) k false ≡ true) c.1
          (get_or-set_same seen i true false within) in
          marked ∙ sym (ap (λ (b : Bool). b || is_seen numbers n) c.0)
      | inr c ↦ get_or-set_other seen i n true false (λ e. c.1 (sym e)) ∙ marks n h ∙ sym (ap (λ (b : Bool). b || is_seen numbers n) c.0)
    ]

same_state : (states : ℕ) (seen : List Bool) (numbers : List ℕ) → Marks states seen numbers → (t : Lexeme)
    → new_state states (λ n. get_or seen n false) t ≡ new_state states (is_seen numbers) t
unfolding new_state state_of
same_state states seen numbers marks (number n) = grind (arith, nat_tests, ltb-true n states)
same_state states seen numbers marks t = refl

-- behind the number of a line
abbrev behind_state : ℕ → ℕ → ℕ → List Lexeme → ℕ → Option (KeptLine × List Lexeme)
behind_state states propositions sets tokens n =
    behind_name tokens >>= λ rest. sets_if sets rest >>= λ x. kept_edges_at n states propositions sets x.1 >>= λ y. Some
    (record { state = n; greatest = y.1; sets = x.0; edges = y.0 }, y.2)

same_line : (states propositions sets : ℕ) (seen : List Bool) (numbers : List ℕ) (tokens : List Lexeme) → Marks states seen numbers
    → line_at states propositions sets (λ n. get_or seen n false) tokens ≡ line_at states propositions sets (is_seen numbers) tokens
unfolding line_at
same_line states propositions sets seen numbers tokens marks = same (due tokens)
  where
    same : (o : Option (Lexeme × List Lexeme))
        → (o >>= λ t. new_state states (λ n. get_or seen n false) t.0 >>= behind_state states propositions sets t.1) ≡
        (o >>= λ t. new_state states (is_seen numbers) t.0 >>= behind_state states propositions sets t.1)
    same None = refl
    same (Some t) = ap (λ (v : Option ℕ). v >>= behind_state states propositions sets t.1) (same_state states seen numbers marks t.0)

-- what is left gives the same
pub record LinesLeft (states propositions sets : ℕ) (seen : List Bool) (done : List KeptLine) (tokens : List Lexeme)
    (all : Option (List KeptLine × List Lexeme)) : Type 0 where
  turns : ℕ
  numbers : List ℕ
  pub size : length seen ≡ states
  marks : Marks states seen numbers
  enough : length tokens ≤ turns
  same : ahead done (lines_within (suc turns) states propositions sets numbers tokens) ≡ all

pub lines_start : (states propositions sets : ℕ) (tokens : List Lexeme)
    → LinesLeft states propositions sets (replicate states false) [] tokens (body_at states propositions sets tokens)
unfolding body_at
lines_start states propositions sets tokens = record {
  turns = length tokens;
  numbers = [];
  size = length-replicate states false;
  marks = λ n h. get_or-replicate states n false false h;
  enough = omega arith;
  same = ahead_none (lines_within (suc (length tokens)) states propositions sets [] tokens);
}

pub lines_unread : (refusal : PartRefusal) (states propositions sets : ℕ) (seen : List Bool) (done : List KeptLine) (tokens : List Lexeme)
    (all : Option (List KeptLine × List Lexeme))
    → LinesLeft states propositions sets seen done tokens all → Fails refusal (due tokens) → Fails refusal all
unfolding lines_within
lines_unread Memory states propositions sets seen done tokens all left h = tt
lines_unread (Wrong fault) states propositions sets seen done tokens all left h = sym left.same ∙ rw h refl

pub lines_fail : (refusal : PartRefusal) (states propositions sets : ℕ) (seen : List Bool) (done : List KeptLine) (tokens rest : List Lexeme)
    (t : Lexeme) (all : Option (List KeptLine × List Lexeme))
    → LinesLeft states propositions sets seen done tokens all → due tokens ≡ Some (t, rest) → Fails refusal (begins_line t)
    → Fails refusal all
unfolding lines_within
lines_fail Memory states propositions sets seen done tokens rest t all left e h = tt
lines_fail (Wrong fault) states propositions sets seen done tokens rest t all left e h = sym left.same ∙ rw (e, h) refl

pub lines_end : (states propositions sets : ℕ) (seen : List Bool) (done : List KeptLine) (tokens rest : List Lexeme) (t : Lexeme)
    (all : Option (List KeptLine × List Lexeme))
    → LinesLeft states propositions sets seen done tokens all → due tokens ≡ Some (t, rest) → begins_line t ≡ Some false
    → all ≡ Some (done, rest)
unfolding lines_within
lines_end states propositions sets seen done tokens rest t all left e h = sym left.same ∙ rw (e, h, append-nil done) refl

pub line_fails : (refusal : PartRefusal) (states propositions sets : ℕ) (seen : List Bool) (done : List KeptLine) (tokens rest : List Lexeme)
    (t : Lexeme) (all : Option (List KeptLine × List Lexeme))
    → LinesLeft states propositions sets seen done tokens all → due tokens ≡ Some (t, rest) → begins_line t ≡ Some true
    → Fails refusal (line_at states propositions sets (λ n. get_or seen n false) rest) → Fails refusal all
unfolding lines_within
line_fails Memory states propositions sets seen done tokens rest t all left e first h = tt
line_fails (Wrong fault) states propositions sets seen done tokens rest t all left e first h =
    grind (arith, nat_tests, same_line states propositions sets seen left.numbers rest left.marks)

pub lines_more : (states propositions sets : ℕ) (seen : List Bool) (done : List KeptLine) (tokens rest : List Lexeme) (t : Lexeme)
    (x : KeptLine × List Lexeme) (all : Option (List KeptLine × List Lexeme))
    → LinesLeft states propositions sets seen done tokens all → due tokens ≡ Some (t, rest) → begins_line t ≡ Some true
    → line_at states propositions sets (λ n. get_or seen n false) rest ≡ Some x → x.0.state < states
    → LinesLeft states propositions sets (set seen x.0.state true) (done ++ (x.0 ∷ [])) x.1 all
unfolding lines_within
lines_more states propositions sets seen done tokens rest t x all left e first h below = more left.turns left.enough left.same
  where
    line : line_at states propositions sets (is_seen left.numbers) rest ≡ Some x
    line = sym (same_line states propositions sets seen left.numbers rest left.marks) ∙ h

    more : (n : ℕ) → length tokens ≤ n → ahead done (lines_within (suc n) states propositions sets left.numbers tokens) ≡ all
        → LinesLeft states propositions sets (set seen x.0.state true) (done ++ (x.0 ∷ [])) x.1 all
    more zero enough same = absurd (omega (arith, due_shorter tokens (t, rest) e))
    more (suc n) enough same =
        let turn : ahead done (lines_within (suc (suc n)) states propositions sets left.numbers tokens) ≡ ahead done
        (lines_within (suc n) states propositions sets (x.0.state ∷ left.numbers) x.1 >>= λ y. Some (x.0 ∷ y.0, y.1)) =
        rw (e, first, line) refl in
        record {
          turns = n;
          numbers = x.0.state ∷ left.numbers;
          size = length-set seen x.0.state true ∙ left.size;
          marks = one_mark states seen left.numbers x.0.state left.size below left.marks;
          enough = omega (arith, due_shorter tokens (t, rest) e, line_shorter states propositions sets (is_seen left.numbers) rest x line);
          same = sym (ahead_one done x.0 (lines_within (suc n) states propositions sets (x.0.state ∷ left.numbers) x.1)) ∙ sym turn ∙ same;
        }

pub lines_smaller : (states propositions sets : ℕ) (seen : ℕ → Bool) (tokens rest : List Lexeme) (t : Lexeme) (x : KeptLine × List Lexeme)
    → due tokens ≡ Some (t, rest) → line_at states propositions sets seen rest ≡ Some x → length x.1 < length tokens
lines_smaller states propositions sets seen tokens rest t x e h = omega (
  arith,
  due_shorter tokens (t, rest) e,
  line_shorter states propositions sets seen rest x h,
)
