-- The lines of a script: what is read is spelt, and what is spelt is read.
use Rattle.pg_world.proofs.Common.{◌≡◌, ◌≢◌, ℕ, ◌<◌, true, List, [], ◌∷◌, Option, Some, None, Ok, Err, refl, sym, subst, arith, inl, inr}
use Rattle.pg_world.proofs.Common.{codes, length, bytes_eq, bytes_eq-Decides, Lexeme, number, word, semicolon, end, Begins, Spells}
use Rattle.pg_world.proofs.Common.{◌>>=◌, Read, unexpected, natural_at, name_at, semicolon_at, end_at, numbers_at}
use Rattle.pg_world.proofs.Common.{bind_ok, ok, ok_is, err_is_ok, chosen, some, token_again, spells_append, spells_parts}
use Rattle.pg_world.proofs.Common.{begins_shorter, spells_within, natural_takes, natural_again, name_takes, name_again, semicolon_takes}
use Rattle.pg_world.proofs.Common.{semicolon_again, end_takes, end_again, numbers_take, numbers_again}
use Rattle.pg_world.proofs.Common.{ScriptLine, Central, cut_lexemes, one_at, two_at, end_or, next_in, next_line_at}
use Rattle.pg_world.proofs.Common.{cut_in, cut_at}
use Rattle.pg_world.specs.declared.script_line.ScriptLine.TheVariants.{Lift, Deliver, Restart}
use Rattle.pg_world.specs.Mirrors.ScriptScan.{line_at}

-- ---- numbers and a semicolon

abbrev one_lexemes : ℕ → List Lexeme
one_lexemes n = number n ∷ semicolon ∷ []

one_takes : (bytes : List ℕ) (y : ℕ × List ℕ) → one_at bytes ≡ Ok y → Spells bytes (one_lexemes y.0) y.1
unfolding one_at
one_takes bytes y e =
    let a = bind_ok (natural_at bytes) (λ n. semicolon_at n.1 >>= λ after. ok (n.0, after)) y e in
    let b = bind_ok (semicolon_at a.0.1) (λ after. ok (a.0.0, after)) y a.2 in
    subst (λ (y : ℕ × List ℕ). Spells bytes (one_lexemes y.0) y.1) (ok_is (a.0.0, b.0) y b.2)
    (a.0.1, natural_takes bytes a.0 a.1, (b.0, semicolon_takes a.0.1 b.0 b.1, refl))

one_again : (n : ℕ) (bytes rest : List ℕ) → Spells bytes (one_lexemes n) rest → one_at bytes ≡ Ok (n, rest)
unfolding one_at
one_again n bytes rest s = rw (natural_again bytes n s.0 s.1, semicolon_again s.0 s.2.0 s.2.1, s.2.2) refl

abbrev two_lexemes : ℕ × ℕ → List Lexeme
two_lexemes x = number x.0 ∷ number x.1 ∷ semicolon ∷ []

two_takes : (bytes : List ℕ) (y : (ℕ × ℕ) × List ℕ) → two_at bytes ≡ Ok y → Spells bytes (two_lexemes y.0) y.1
unfolding two_at
two_takes bytes y e =
    let a = bind_ok (natural_at bytes) (λ a. one_at a.1 >>= λ b. ok ((a.0, b.0), b.1)) y e in
    let b = bind_ok (one_at a.0.1) (λ b. ok ((a.0.0, b.0), b.1)) y a.2 in
    subst (λ (y : (ℕ × ℕ) × List ℕ). Spells bytes (two_lexemes y.0) y.1) (ok_is ((a.0.0, b.0.0), b.0.1) y b.2)
    (a.0.1, natural_takes bytes a.0 a.1, one_takes a.0.1 b.0 b.1)

two_again : (n m : ℕ) (bytes rest : List ℕ) → Spells bytes (two_lexemes (n, m)) rest → two_at bytes ≡ Ok ((n, m), rest)
unfolding two_at
two_again n m bytes rest s = rw (natural_again bytes n s.0 s.1, one_again m s.0 rest s.2) refl

-- ---- a line

abbrev pub line_lexemes : ScriptLine → List Lexeme
line_lexemes (Lift worker id) = word (codes "lift") ∷ number worker ∷ number id ∷ semicolon ∷ []
line_lexemes (Deliver replica n) = word (codes "deliver") ∷ number replica ∷ number n ∷ semicolon ∷ []
line_lexemes (Restart worker) = word (codes "restart") ∷ number worker ∷ semicolon ∷ []
line_lexemes (Central id) = word (codes "central") ∷ number id ∷ semicolon ∷ []

-- a line of this word, and what stands behind it
worded_takes : {X : Type 0} (behind : List ℕ → Read (X × List ℕ)) (lexemes : X → List Lexeme)
    → ((bytes : List ℕ) (x : X × List ℕ) → behind bytes ≡ Ok x → Spells bytes (lexemes x.0) x.1)
    → (bytes name rest w : List ℕ) (make : X → ScriptLine) (y : ScriptLine × List ℕ) → bytes_eq name w ≡ true
    → Begins bytes (word name) rest → (behind rest >>= λ x. ok (make x.0, x.1)) ≡ Ok y
    → ((x : X) → line_lexemes (make x) ≡ word w ∷ lexemes x) → Spells bytes (line_lexemes y.0) y.1
worded_takes behind lexemes takes bytes name rest w make y same begins e spelt =
    let named : name ≡ w = (bytes_eq-Decides name w).0 same in
    let x = bind_ok (behind rest) (λ x. ok (make x.0, x.1)) y e in
    let s : Spells bytes (word w ∷ lexemes x.0.0) x.0.1 = (rest, subst (λ (v : List ℕ). Begins bytes (word v) rest) named begins, takes rest x.0 x.1) in
    subst (λ (p : ScriptLine × List ℕ). Spells bytes (line_lexemes p.0) p.1) (ok_is (make x.0.0, x.0.1) y x.2)
    (subst (λ (tokens : List Lexeme). Spells bytes tokens x.0.1) (sym (spelt x.0.0)) s)

line_is : (bytes front name rest : List ℕ) (y : ScriptLine × List ℕ) → Begins bytes (word name) rest → line_at front name rest ≡ Ok y
    → Spells bytes (line_lexemes y.0) y.1
unfolding line_at
line_is bytes front name rest y begins e =
    let one = worded_takes one_at one_lexemes one_takes bytes name rest in
    let two = worded_takes two_at two_lexemes two_takes bytes name rest in
    elim (chosen (bytes_eq name (codes "lift")) _ _ (ok y) e) [
      | inl c ↦ two (codes "lift") (λ x. Lift x.0 x.1) y c.0 begins c.1 (λ x. refl)
      | inr n ↦ elim (chosen (bytes_eq name (codes "deliver")) _ _ (ok y) n.1) [
        | inl c ↦ two (codes "deliver") (λ x. Deliver x.0 x.1) y c.0 begins c.1 (λ x. refl)
        | inr n ↦ elim (chosen (bytes_eq name (codes "restart")) _ _ (ok y) n.1) [
          | inl c ↦ one (codes "restart") (λ x. Restart x) y c.0 begins c.1 (λ x. refl)
          | inr n ↦ elim (chosen (bytes_eq name (codes "central")) _ _ (ok y) n.1) [
            | inl c ↦ one (codes "central") (λ x. Central x) y c.0 begins c.1 (λ x. refl)
            | inr n ↦ absurd (err_is_ok (unexpected front) y n.1)
          ]
        ]
      ]
    ]

abbrev IsNext : List ℕ → Option ScriptLine × List ℕ → Type 0
IsNext bytes (Some line, rest) = Spells bytes (line_lexemes line) rest
IsNext bytes (None, rest) = Spells bytes (end ∷ []) []

next_is : (bytes : List ℕ) (o : Read (List ℕ × List ℕ)) (y : Option ScriptLine × List ℕ) → name_at bytes ≡ o → next_in bytes o ≡ Ok y → IsNext bytes y
next_is bytes (Ok x) y named e =
    let l = bind_ok (line_at bytes x.0 x.1) (λ l. ok (some l.0, l.1)) y e in
    subst (IsNext bytes) (ok_is (some l.0.0, l.0.1) y l.2) (line_is bytes bytes x.0 x.1 l.0 (name_takes bytes x named) l.1)
next_is bytes (Err fault) y named e =
    let go : (o : Read (Unit {0})) → end_at bytes ≡ o → end_or fault bytes o ≡ Ok y → IsNext bytes y
    = λ o. elim o as (λ o. end_at bytes ≡ o → end_or fault bytes o ≡ Ok y → IsNext bytes y) [
      | Ok u ↦ λ h k. (let nothing : Option ScriptLine × List ℕ = (None, bytes) in subst (IsNext bytes) (ok_is nothing y k) (end_takes bytes u h))
      | Err f ↦ λ h k. absurd (err_is_ok fault y k)
    ] in
    go (end_at bytes) refl e

next_takes : (bytes : List ℕ) (y : Option ScriptLine × List ℕ) → next_line_at bytes ≡ Ok y → IsNext bytes y
unfolding next_line_at
next_takes bytes y e = next_is bytes (name_at bytes) y refl e

pub line_takes : (bytes : List ℕ) (line : ScriptLine) (rest : List ℕ) → next_line_at bytes ≡ Ok (Some line, rest) → Spells bytes (line_lexemes line) rest
line_takes bytes line rest e = next_takes bytes (Some line, rest) e

pub text_ends : (bytes rest : List ℕ) → next_line_at bytes ≡ Ok (None, rest) → Spells bytes (end ∷ []) []
text_ends bytes rest e = next_takes bytes (None, rest) e

pub line_again : (bytes : List ℕ) (line : ScriptLine) (rest : List ℕ) → Spells bytes (line_lexemes line) rest → next_line_at bytes ≡ Ok (Some line, rest)
unfolding next_line_at line_at
line_again bytes (Lift a b) rest s = rw (name_again bytes (codes "lift") s.0 s.1, two_again a b s.0 rest s.2) refl
line_again bytes (Deliver a b) rest s = rw (name_again bytes (codes "deliver") s.0 s.1, two_again a b s.0 rest s.2) refl
line_again bytes (Restart a) rest s = rw (name_again bytes (codes "restart") s.0 s.1, one_again a s.0 rest s.2) refl
line_again bytes (Central a) rest s = rw (name_again bytes (codes "central") s.0 s.1, one_again a s.0 rest s.2) refl

no_name : (bytes : List ℕ) → Spells bytes (end ∷ []) [] → name_at bytes ≡ Err (unexpected bytes)
unfolding name_at
no_name bytes s = rw (token_again bytes end s.0 s.1) refl

pub text_ends_again : (bytes : List ℕ) → Spells bytes (end ∷ []) [] → next_line_at bytes ≡ Ok (None, bytes)
unfolding next_line_at
text_ends_again bytes s = rw (no_name bytes s, end_again bytes s) refl

-- a line has a word in front
worded : (line : ScriptLine) → (w : List ℕ) × (others : List Lexeme) × (line_lexemes line ≡ word w ∷ others)
worded (Lift a b) = (codes "lift", number a ∷ number b ∷ semicolon ∷ [], refl)
worded (Deliver a b) = (codes "deliver", number a ∷ number b ∷ semicolon ∷ [], refl)
worded (Restart a) = (codes "restart", number a ∷ semicolon ∷ [], refl)
worded (Central a) = (codes "central", number a ∷ semicolon ∷ [], refl)

pub line_shorter : (bytes : List ℕ) (line : ScriptLine) (rest : List ℕ) → next_line_at bytes ≡ Ok (Some line, rest) → length rest < length bytes
line_shorter bytes line rest e =
    let w = worded line in
    let s = subst (λ (tokens : List Lexeme). Spells bytes tokens rest) w.2 (line_takes bytes line rest e) in
    omega (arith, begins_shorter bytes (word w.0) s.0 (λ e. cc) s.1, spells_within w.1 s.0 rest s.2)

-- ---- the line of the cut

cut_is : (bytes : List ℕ) (o : Read (List ℕ × List ℕ)) (y : Option (List ℕ) × List ℕ) → name_at bytes ≡ o → cut_in bytes o ≡ Ok y
    → Spells bytes (cut_lexemes y.0) y.1
cut_is bytes (Ok x) y named e =
    let nothing : Option (List ℕ) × List ℕ = (None, bytes) in
    elim (chosen (bytes_eq x.0 (codes "cut")) _ _ (ok y) e) [
      | inl c ↦
          let same : x.0 ≡ codes "cut" = (bytes_eq-Decides x.0 (codes "cut")).0 c.0 in
          let n = bind_ok (numbers_at x.1) (λ n. semicolon_at n.1 >>= λ after. ok (some n.0, after)) y c.1 in
          let s = bind_ok (semicolon_at n.0.1) (λ after. ok (some n.0.0, after)) y n.2 in
          let tokens = spells_append _ (semicolon ∷ []) x.1 n.0.1 s.0 (numbers_take x.1 n.0 n.1).0 (s.0, semicolon_takes n.0.1 s.0 s.1, refl) in
          subst (λ (y : Option (List ℕ) × List ℕ). Spells bytes (cut_lexemes y.0) y.1) (ok_is (some n.0.0, s.0) y s.2)
          (x.1, subst (λ (v : List ℕ). Begins bytes (word v) x.1) same (name_takes bytes x named), tokens)
      | inr c ↦ subst (λ (y : Option (List ℕ) × List ℕ). Spells bytes (cut_lexemes y.0) y.1) (ok_is nothing y c.1) refl
    ]
cut_is bytes (Err f) y named e =
    let nothing : Option (List ℕ) × List ℕ = (None, bytes) in
    subst (λ (y : Option (List ℕ) × List ℕ). Spells bytes (cut_lexemes y.0) y.1) (ok_is nothing y e) refl

pub cut_takes : (bytes : List ℕ) (y : Option (List ℕ) × List ℕ) → cut_at bytes ≡ Ok y → Spells bytes (cut_lexemes y.0) y.1
unfolding cut_at
cut_takes bytes y e = cut_is bytes (name_at bytes) y refl e

pub cut_there : (bytes : List ℕ) (ns rest : List ℕ) → ns ≢ [] → Spells bytes (cut_lexemes (Some ns)) rest → cut_at bytes ≡ Ok (Some ns, rest)
unfolding cut_at
cut_there bytes ns rest some_there s =
    let parts = spells_parts _ (semicolon ∷ []) s.0 rest s.2 in
    rw (
      name_again bytes (codes "cut") s.0 s.1,
      numbers_again ns s.0 parts.0 semicolon parts.2.0 some_there parts.1 (λ e. cc) parts.2.1,
      semicolon_again parts.0 parts.2.0 parts.2.1,
      parts.2.2,
    ) refl

-- where a line or the end stands there is no line of a cut
pub no_cut_at_end : (bytes : List ℕ) → Spells bytes (end ∷ []) [] → cut_at bytes ≡ Ok (None, bytes)
unfolding cut_at
no_cut_at_end bytes s = rw (no_name bytes s) refl

pub no_cut_at_line : (bytes : List ℕ) (line : ScriptLine) (rest : List ℕ) → Spells bytes (line_lexemes line) rest → cut_at bytes ≡ Ok (None, bytes)
unfolding cut_at
no_cut_at_line bytes (Lift a b) rest s = rw (name_again bytes (codes "lift") s.0 s.1) refl
no_cut_at_line bytes (Deliver a b) rest s = rw (name_again bytes (codes "deliver") s.0 s.1) refl
no_cut_at_line bytes (Restart a) rest s = rw (name_again bytes (codes "restart") s.0 s.1) refl
no_cut_at_line bytes (Central a) rest s = rw (name_again bytes (codes "central") s.0 s.1) refl
