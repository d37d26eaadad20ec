-- The parts of texts: what is read is spelt, and what is spelt is read.
use Rattle.pg_text.proofs.Common.{◌≡◌, ◌≢◌, ℕ, List, [], ◌∷◌, ◌++◌, Option, Some, None, Ok, Err, ◌∙◌, refl, sym, ap, subst, arith, inl, inr}
use Rattle.pg_text.proofs.Common.{nat_tests, bytes_eq, flat_map, AllByRecursion, bytes_eq-Decides, Lexeme, number, word, semicolon, comma}
use Rattle.pg_text.proofs.Common.{end, Begins, Spells, clause_lexemes, comma_number_lexemes, numbers_lexemes, TokenFault, Token, ◌>>=◌}
use Rattle.pg_text.proofs.Common.{Read, Step, item, stop, items_at, token_at, number_in, natural_at, word_in, name_at, semicolon_in}
use Rattle.pg_text.proofs.Common.{semicolon_at, end_in, end_at, further_in, further_at, numbers_at, clause_in, clause_at, chosen, some}
use Rattle.pg_text.proofs.Steps.{bind_ok, ok, ok_is}
use Rattle.pg_text.proofs.Lexing.{token_takes, token_again}
use Rattle.pg_text.proofs.Items.{Shrinks, with_front, goes_on, ends, fails}
use Rattle.pg_text.proofs.Spelling.{begins_shorter, spells_parts, spells_within, IsExact, items_take, items_again}

-- ---- numbers, words, semicolons, the end

number_in_is : (bytes : List ℕ) (x : Lexeme × List ℕ) (y : ℕ × List ℕ) → number_in bytes x ≡ Ok y → x ≡ (number y.0, y.1)
number_in_is bytes (number n, rest) y e = ap (λ (p : ℕ × List ℕ). (number p.0, p.1)) (ok_is (n, rest) y e)
number_in_is bytes (_, rest) y e = absurd cc

pub natural_takes : (bytes : List ℕ) (y : ℕ × List ℕ) → natural_at bytes ≡ Ok y → Begins bytes (number y.0) y.1
unfolding natural_at
natural_takes bytes y e =
    let b = bind_ok (token_at bytes) (number_in bytes) y e in
    subst (λ (x : Lexeme × List ℕ). Begins bytes x.0 x.1) (number_in_is bytes b.0 y b.2) (token_takes bytes b.0 b.1)

pub natural_again : (bytes : List ℕ) (n : ℕ) (rest : List ℕ) → Begins bytes (number n) rest → natural_at bytes ≡ Ok (n, rest)
unfolding natural_at
natural_again bytes n rest h = rw (token_again bytes (number n) rest h) refl

word_in_is : (bytes : List ℕ) (x : Lexeme × List ℕ) (y : List ℕ × List ℕ) → word_in bytes x ≡ Ok y → x ≡ (word y.0, y.1)
word_in_is bytes (word w, rest) y e = ap (λ (p : List ℕ × List ℕ). (word p.0, p.1)) (ok_is (w, rest) y e)
word_in_is bytes (_, rest) y e = absurd cc

pub name_takes : (bytes : List ℕ) (y : List ℕ × List ℕ) → name_at bytes ≡ Ok y → Begins bytes (word y.0) y.1
unfolding name_at
name_takes bytes y e =
    let b = bind_ok (token_at bytes) (word_in bytes) y e in
    subst (λ (x : Lexeme × List ℕ). Begins bytes x.0 x.1) (word_in_is bytes b.0 y b.2) (token_takes bytes b.0 b.1)

pub name_again : (bytes w rest : List ℕ) → Begins bytes (word w) rest → name_at bytes ≡ Ok (w, rest)
unfolding name_at
name_again bytes w rest h = rw (token_again bytes (word w) rest h) refl

semicolon_in_is : (bytes : List ℕ) (x : Lexeme × List ℕ) (rest : List ℕ) → semicolon_in bytes x ≡ Ok rest → x ≡ (semicolon, rest)
semicolon_in_is bytes (semicolon, mid) rest e = ap (λ (r : List ℕ). (semicolon, r)) (ok_is mid rest e)
semicolon_in_is bytes (_, mid) rest e = absurd cc

pub semicolon_takes : (bytes rest : List ℕ) → semicolon_at bytes ≡ Ok rest → Begins bytes semicolon rest
unfolding semicolon_at
semicolon_takes bytes rest e =
    let b = bind_ok (token_at bytes) (semicolon_in bytes) rest e in
    subst (λ (x : Lexeme × List ℕ). Begins bytes x.0 x.1) (semicolon_in_is bytes b.0 rest b.2) (token_takes bytes b.0 b.1)

pub semicolon_again : (bytes rest : List ℕ) → Begins bytes semicolon rest → semicolon_at bytes ≡ Ok rest
unfolding semicolon_at
semicolon_again bytes rest h = rw (token_again bytes semicolon rest h) refl

end_in_is : (bytes : List ℕ) (x : Lexeme × List ℕ) (u : Unit {0}) → end_in bytes x ≡ Ok u → x.0 ≡ end
end_in_is bytes (end, mid) u e = refl
end_in_is bytes (_, mid) u e = absurd cc

pub end_takes : (bytes : List ℕ) (u : Unit {0}) → end_at bytes ≡ Ok u → Spells bytes (end ∷ []) []
unfolding end_at
end_takes bytes u e =
    let b = bind_ok (token_at bytes) (end_in bytes) u e in
    let last = subst (λ (t : Lexeme). Begins bytes t b.0.1) (end_in_is bytes b.0 u b.2) (token_takes bytes b.0 b.1) in
    (b.0.1, last, last.spelt.1)

pub end_again : (bytes : List ℕ) → Spells bytes (end ∷ []) [] → end_at bytes ≡ Ok tt
unfolding end_at
end_again bytes s = rw (token_again bytes end s.0 s.1) refl

-- ---- a word, a number and a semicolon

clause_in_is : (name bytes : List ℕ) (x : Lexeme × List ℕ) (y : Option ℕ × List ℕ) → Begins bytes x.0 x.1 → clause_in name bytes x ≡ Ok y
    → Spells bytes (clause_lexemes name y.0) y.1
clause_in_is name bytes (word w, mid) y begins e =
    elim (chosen (bytes_eq w name) (natural_at mid >>= λ n. semicolon_at n.1 >>= λ after. ok (some n.0, after)) (ok (None, bytes)) (ok y) e) [
      | inl c ↦
          let same : w ≡ name = (bytes_eq-Decides w name).0 c.0 in
          let n = bind_ok (natural_at mid) (λ n. semicolon_at n.1 >>= λ after. ok (some n.0, after)) y c.1 in
          let s = bind_ok (semicolon_at n.0.1) (λ after. ok (some n.0.0, after)) y n.2 in
          subst (λ (y : Option ℕ × List ℕ). Spells bytes (clause_lexemes name y.0) y.1) (ok_is (some n.0.0, s.0) y s.2)
          (mid, subst (λ (v : List ℕ). Begins bytes (word v) mid) same begins, (n.0.1, natural_takes mid n.0 n.1, (s.0, semicolon_takes n.0.1 s.0 s.1, refl)))
      | inr c ↦ subst (λ (y : Option ℕ × List ℕ). Spells bytes (clause_lexemes name y.0) y.1) (ok_is (None, bytes) y c.1) refl
    ]
clause_in_is name bytes (_, mid) y begins e = subst (λ (y : Option ℕ × List ℕ). Spells bytes (clause_lexemes name y.0) y.1) (ok_is (None, bytes) y e) refl

pub clause_takes : (name bytes : List ℕ) (y : Option ℕ × List ℕ) → clause_at name bytes ≡ Ok y → Spells bytes (clause_lexemes name y.0) y.1
unfolding clause_at
clause_takes name bytes y e =
    let b = bind_ok (token_at bytes) (clause_in name bytes) y e in
    clause_in_is name bytes b.0 y (token_takes bytes b.0 b.1) b.2

pub clause_there : (name : List ℕ) (n : ℕ) (bytes rest : List ℕ) → Spells bytes (clause_lexemes name (Some n)) rest → clause_at name bytes ≡ Ok (Some n, rest)
unfolding clause_at
clause_there name n bytes rest s = grind (
  arith,
  nat_tests,
  bytes_eq-Decides name name,
  token_again bytes (word name) s.0 s.1,
  natural_again s.0 n s.2.0 s.2.1,
  semicolon_again s.2.0 s.2.2.0 s.2.2.1,
)

-- another token than the word
clause_in_other : (name bytes : List ℕ) (token : Lexeme) (mid : List ℕ) → (token ≡ word name → ⊥) → clause_in name bytes (token, mid) ≡ Ok (None, bytes)
clause_in_other name bytes (word w) mid h = grind (arith, nat_tests, bytes_eq-Decides w name)
clause_in_other name bytes _ mid h = refl

pub clause_absent : (name bytes : List ℕ) (token : Lexeme) (mid : List ℕ) → (token ≡ word name → ⊥) → Begins bytes token mid
    → clause_at name bytes ≡ Ok (None, bytes)
unfolding clause_at
clause_absent name bytes token mid h b = rw (token_again bytes token mid b) (clause_in_other name bytes token mid h)

-- another token than the word stands there
pub record Heads (bytes name : List ℕ) : Type 0 where
  pub token : Lexeme
  pub mid : List ℕ
  pub begins : Begins bytes token mid
  pub other : token ≡ word name → ⊥

-- the clause that may be left out is read where something else follows
pub clause_again : (name : List ℕ) (n : Option ℕ) (tokens : List Lexeme) (bytes rest : List ℕ)
    → ((mid : List ℕ) → Spells mid tokens rest → Heads mid name) → Spells bytes (clause_lexemes name n ++ tokens) rest
    → (mid : List ℕ) × (clause_at name bytes ≡ Ok (n, mid)) × Spells mid tokens rest
clause_again name None tokens bytes rest heads s = (let h = heads bytes s in (bytes, clause_absent name bytes h.token h.mid h.other h.begins, s))
clause_again name (Some n) tokens bytes rest heads s =
    let parts = spells_parts (clause_lexemes name (Some n)) tokens bytes rest s in
    (parts.0, clause_there name n bytes parts.0 parts.1, parts.2)

-- ---- numbers with commas between

abbrev pub IsFurther : List ℕ → Step ℕ (Unit {0}) × List ℕ → Type 0
IsFurther bytes (item n, rest) = Spells bytes (comma_number_lexemes n) rest
IsFurther bytes (stop _, rest) = rest ≡ bytes

further_in_is : (bytes : List ℕ) (x : Lexeme × List ℕ) (y : Step ℕ (Unit {0}) × List ℕ) → Begins bytes x.0 x.1 → further_in bytes x ≡ Ok y → IsFurther bytes y
further_in_is bytes (comma, mid) y begins e =
    let b = bind_ok (natural_at mid) (λ n. ok (item n.0, n.1)) y e in
    subst (IsFurther bytes) (ok_is (item b.0.0, b.0.1) y b.2) (mid, begins, (b.0.1, natural_takes mid b.0 b.1, refl))
further_in_is bytes (_, mid) y begins e = subst (IsFurther bytes) (ok_is (stop tt, bytes) y e) refl

pub further_takes : (bytes : List ℕ) (y : Step ℕ (Unit {0}) × List ℕ) → further_at bytes ≡ Ok y → IsFurther bytes y
unfolding further_at
further_takes bytes y e =
    let b = bind_ok (token_at bytes) (further_in bytes) y e in
    further_in_is bytes b.0 y (token_takes bytes b.0 b.1) b.2

further_again : (bytes : List ℕ) (n : ℕ) (rest : List ℕ) → Spells bytes (comma_number_lexemes n) rest → further_at bytes ≡ Ok (item n, rest)
unfolding further_at
further_again bytes n rest s = rw (token_again bytes comma s.0 s.1, natural_again s.0 n s.2.0 s.2.1, s.2.2) refl

-- another token than a comma
further_in_other : (bytes : List ℕ) (token : Lexeme) (mid : List ℕ) → token ≢ comma → further_in bytes (token, mid) ≡ Ok (stop tt, bytes)
further_in_other bytes comma mid h = absurd (h refl)
further_in_other bytes _ mid h = refl

further_absent : (bytes : List ℕ) (token : Lexeme) (mid : List ℕ) → token ≢ comma → Begins bytes token mid → further_at bytes ≡ Ok (stop tt, bytes)
unfolding further_at
further_absent bytes token mid h b = rw (token_again bytes token mid b) (further_in_other bytes token mid h)

pub further_exact : IsExact further_at comma_number_lexemes (λ _. Unit {0})
further_exact = record { takes = λ bytes n rest e. (further_takes bytes (item n, rest) e, tt); again = λ bytes n rest fits s. further_again bytes n rest s }

pub further_shrinks : Shrinks further_at
further_shrinks = record {
  shorter = λ bytes n rest e.
      let s = further_takes bytes (item n, rest) e in
      omega (arith, begins_shorter bytes comma s.0 (λ e. cc) s.1, spells_within (number n ∷ []) s.0 rest s.2);
}

abbrev AreNumbers : List ℕ → List ℕ × List ℕ → Type 0
AreNumbers bytes y = Spells bytes (numbers_lexemes y.0) y.1 × (y.0 ≢ [])

pub numbers_take : (bytes : List ℕ) (y : List ℕ × List ℕ) → numbers_at bytes ≡ Ok y → Spells bytes (numbers_lexemes y.0) y.1 × (y.0 ≢ [])
unfolding numbers_at
numbers_take bytes y e =
    let a = bind_ok (natural_at bytes) (λ first. items_at further_at first.1 >>= λ others. ok (first.0 ∷ others.0, others.2)) y e in
    let b = bind_ok (items_at further_at a.0.1) (λ others. ok (a.0.0 ∷ others.0, others.2)) y a.2 in
    let later = items_take further_at comma_number_lexemes (λ _. Unit {0}) further_exact a.0.1 b.0 b.1 in
    let rest = further_takes later.0 (stop b.0.1, b.0.2) later.2 in
    let whole = subst (λ (r : List ℕ). Spells a.0.1 (flat_map comma_number_lexemes b.0.0) r) (sym rest) later.1 in
    subst (AreNumbers bytes) (ok_is (a.0.0 ∷ b.0.0, b.0.2) y b.2) ((a.0.1, natural_takes bytes a.0 a.1, whole), λ e. cc)

all_units : (ns : List ℕ) → AllByRecursion (λ (_ : ℕ). Unit {0}) ns
all_units [] = tt
all_units (n ∷ ns) = (tt, all_units ns)

-- the token behind the last number is no comma
pub numbers_again : (ns : List ℕ) (bytes rest : List ℕ) (token : Lexeme) (mid : List ℕ) → ns ≢ [] → Spells bytes (numbers_lexemes ns) rest
    → token ≢ comma → Begins rest token mid → numbers_at bytes ≡ Ok (ns, rest)
unfolding numbers_at
numbers_again [] bytes rest token mid h s other b = absurd (h refl)
numbers_again (n ∷ ns) bytes rest token mid h s other b =
    let others : items_at further_at s.0 ≡ Ok (ns, tt, rest) = items_again further_at comma_number_lexemes
    (λ _. Unit {0}) further_exact further_shrinks ns s.0 rest tt rest (all_units ns) s.2 (further_absent rest token mid other b) in
    rw (natural_again bytes n s.0 s.1, others) refl

-- ---- as a loop reads them

-- these numbers and those of the rest are all
abbrev pub HaveCome : List ℕ → List ℕ → Read (List ℕ × List ℕ) → Type 0
HaveCome front rest all = (with_front front (items_at further_at rest) >>= λ x. ok (x.0, x.2)) ≡ all

pub one_comes : (front rest : List ℕ) (n : ℕ) (after : List ℕ) (all : Read (List ℕ × List ℕ)) → further_at rest ≡ Ok (item n, after)
    → HaveCome front rest all → HaveCome (front ++ n ∷ []) after all
one_comes front rest n after all e so_far =
    ap (λ (r : Read (List ℕ × Unit {0} × List ℕ)). r >>= λ x. ok (x.0, x.2))
    (goes_on further_at further_shrinks front rest n after (with_front front (items_at further_at rest)) e refl) ∙ so_far

pub all_came : (front rest : List ℕ) (u : Unit {0}) (after : List ℕ) (all : Read (List ℕ × List ℕ)) → further_at rest ≡ Ok (stop u, after)
    → HaveCome front rest all → all ≡ Ok (front, after)
all_came front rest u after all e so_far =
    sym so_far ∙ ap (λ (r : Read (List ℕ × Unit {0} × List ℕ)). r >>= λ x. ok (x.0, x.2))
    (ends further_at front rest u after (with_front front (items_at further_at rest)) e refl)

pub none_comes : (front rest : List ℕ) (fault : TokenFault) (all : Read (List ℕ × List ℕ)) → further_at rest ≡ Err fault
    → HaveCome front rest all → all ≡ Err fault
none_comes front rest fault all e so_far =
    sym so_far ∙ ap (λ (r : Read (List ℕ × Unit {0} × List ℕ)). r >>= λ x. ok (x.0, x.2))
    (fails further_at (Token fault) front rest (with_front front (items_at further_at rest)) e refl)
