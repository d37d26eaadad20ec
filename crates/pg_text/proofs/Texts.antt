-- The two laws of a whole text: the lines that are read are those of the text, and the lines of a text are read.
use Rattle.pg_text.proofs.Common.{◌≡◌, ℕ, List, [], ◌∷◌, ◌++◌, Option, Some, None, Ok, codes, refl, subst, flat_map, Line, Lexeme, number}
use Rattle.pg_text.proofs.Common.{word, end, Begins, Spells, clause_lexemes, line_lexemes, IsText, ◌>>=◌, items_at, clause_at}
use Rattle.pg_text.proofs.Common.{item_at, body_at, lines_at}
use Rattle.pg_text.proofs.Steps.{bind_ok, ok, ok_is}
use Rattle.pg_text.proofs.Spelling.{spells_append, spells_parts, items_take, items_again}
use Rattle.pg_text.proofs.Parts.{Heads, clause_takes, clause_again}
use Rattle.pg_text.proofs.Takes.{HasSuccessors, item_exact, item_shrinks, end_takes, end_again}

-- ---- the first token of what stands behind the header

lines_head : (name : List ℕ) (lines : List Line) (bytes rest : List ℕ) → Spells bytes (flat_map line_lexemes lines ++ end ∷ []) rest → Heads bytes name
lines_head name [] bytes rest s = record { token = end; mid = s.0; begins = s.1; other = λ e. cc }
lines_head name (line ∷ lines) bytes rest s = record { token = number (line.identifier); mid = s.0; begins = s.1; other = λ e. cc }

start_head : (start : Option ℕ) (lines : List Line) (bytes rest : List ℕ)
    → Spells bytes (clause_lexemes (codes "start") start ++ (flat_map line_lexemes lines ++ end ∷ [])) rest → Heads bytes (codes "parity")
start_head None lines bytes rest s = lines_head (codes "parity") lines bytes rest s
start_head (Some n) lines bytes rest s = record { token = word (codes "start"); mid = s.0; begins = s.1; other = λ e. cc }

-- ---- the whole

-- what stands in front of the lines
pub body_takes : (bytes body : List ℕ) → body_at bytes ≡ Ok body
    → (header : Option ℕ) × (start : Option ℕ) × ((tokens : List Lexeme) (rest : List ℕ) → Spells body tokens rest → Spells bytes
    (clause_lexemes (codes "parity") header ++ (clause_lexemes (codes "start") start ++ tokens)) rest)
unfolding body_at
body_takes bytes body e =
    let h = bind_ok (clause_at (codes "parity") bytes) (λ header. clause_at (codes "start") header.1 >>= λ start. ok start.1) body e in
    let s = bind_ok (clause_at (codes "start") h.0.1) (λ start. ok start.1) body h.2 in
    let header = clause_takes (codes "parity") bytes h.0 h.1 in
    let start = subst (λ (rest : List ℕ). Spells h.0.1 (clause_lexemes (codes "start") s.0.0) rest) (ok_is s.0.1 body s.2)
    (clause_takes (codes "start") h.0.1 s.0 s.1) in (
      h.0.0,
      s.0.0,
      λ tokens rest t. spells_append (clause_lexemes (codes "parity") h.0.0)
          (clause_lexemes (codes "start") s.0.0 ++ tokens) bytes h.0.1 rest header
          (spells_append (clause_lexemes (codes "start") s.0.0) tokens h.0.1 body rest start t),
    )

pub lines_take : (bytes : List ℕ) (lines : List Line) → lines_at bytes ≡ Ok lines → IsText bytes lines
unfolding lines_at
lines_take bytes lines e =
    let a = bind_ok (body_at bytes) (λ rest. items_at item_at rest >>= λ x. ok x.0) lines e in
    let b = bind_ok (items_at item_at a.0) (λ x. ok x.0) lines a.2 in
    let front = body_takes bytes a.0 a.1 in
    let t = items_take item_at line_lexemes HasSuccessors item_exact a.0 b.0 b.1 in
    let last = end_takes t.0 b.0.1 b.0.2 t.2 in
    let closed : Spells t.0 (end ∷ []) [] = (b.0.2, last, last.spelt.1) in
    let behind = spells_append (flat_map line_lexemes b.0.0) (end ∷ []) a.0 t.0 [] t.1 closed in
    subst (IsText bytes) (ok_is b.0.0 lines b.2)
    (record {
      header = front.0;
      start = front.1;
      spelt = front.2 (flat_map line_lexemes b.0.0 ++ end ∷ []) [] behind;
      successors = t.3;
    })

pub lines_again : (bytes : List ℕ) (lines : List Line) → IsText bytes lines → lines_at bytes ≡ Ok lines
unfolding lines_at body_at
lines_again bytes lines text =
    let header = clause_again (codes "parity") text.header (clause_lexemes (codes "start") text.start ++ (flat_map line_lexemes lines ++ end ∷ [])) bytes []
    (λ mid s. start_head text.start lines mid [] s) text.spelt in
    let start = clause_again (codes "start") text.start (flat_map line_lexemes lines ++ end ∷ []) header.0 [] (λ mid s. lines_head (codes "start") lines mid [] s) header.2 in
    let parts = spells_parts (flat_map line_lexemes lines) (end ∷ []) start.0 [] start.2 in
    let closed : Begins parts.0 end [] = subst (λ (r : List ℕ). Begins parts.0 end r) parts.2.2 parts.2.1 in
    let all = items_again item_at line_lexemes HasSuccessors item_exact item_shrinks lines start.0 parts.0 tt [] text.successors parts.1
    (end_again parts.0 [] closed) in
    rw (header.1, start.1, all) refl
