-- The lines of a solution text: what is read is spelt, and what is spelt is read.
use Rattle.pg_text.proofs.Common.{◌≡◌, ℕ, List, [], ◌∷◌, ◌++◌, Option, Some, None, Ok, refl, sym, ap, subst, ◌∙◌, arith, append_assoc}
use Rattle.pg_text.proofs.Common.{nat_tests, codes, flat_map, append-nil, flat_map-cons, flat_map-append, SolutionLine}
use Rattle.pg_text.proofs.Common.{Lexeme, number, semicolon, end, Begins, Spells, clause_lexemes, ◌>>=◌, Step, item, stop, token_at}
use Rattle.pg_text.proofs.Common.{player_number, semicolon_at, clause_at, owner_at, strategy_lexemes, answer_lexemes, solution_lexemes}
use Rattle.pg_text.proofs.Common.{BeginsWithLines, AreLines, strategy_in, strategy_at, answer_in, next_answer_at, some, none}
use Rattle.pg_text.specs.Mirrors.SolutionScan.{answer_at}
use Rattle.pg_text.proofs.Steps.{bind_ok, ok, ok_is, same_ok}
use Rattle.pg_text.proofs.Lexing.{token_takes, token_again}
use Rattle.pg_text.proofs.Items.{Shrinks}
use Rattle.pg_text.proofs.Spelling.{spells_append, spells_parts, begins_shorter, spells_within}
use Rattle.pg_text.proofs.Parts.{Heads, semicolon_takes, semicolon_again, clause_takes, clause_again}
use Rattle.pg_text.proofs.Takes.{owner_takes, owner_again}

-- ---- the end of a line

abbrev IsEnding : List ℕ → Option ℕ × List ℕ → Type 0
IsEnding bytes y = Spells bytes (strategy_lexemes y.0 ++ semicolon ∷ []) y.1

strategy_in_is : (bytes : List ℕ) (x : Lexeme × List ℕ) (y : Option ℕ × List ℕ) → Begins bytes x.0 x.1 → strategy_in bytes x ≡ Ok y → IsEnding bytes y
strategy_in_is bytes (number n, mid) y begins e =
    let b = bind_ok (semicolon_at mid) (λ after. ok (some n, after)) y e in
    subst (IsEnding bytes) (ok_is (some n, b.0) y b.2) (mid, begins, (b.0, semicolon_takes mid b.0 b.1, refl))
strategy_in_is bytes (semicolon, mid) y begins e = subst (IsEnding bytes) (ok_is (none, mid) y e) (mid, begins, refl)
strategy_in_is bytes (_, mid) y begins e = absurd cc

strategy_takes : (bytes : List ℕ) (y : Option ℕ × List ℕ) → strategy_at bytes ≡ Ok y → IsEnding bytes y
unfolding strategy_at
strategy_takes bytes y e =
    let b = bind_ok (token_at bytes) (strategy_in bytes) y e in
    strategy_in_is bytes b.0 y (token_takes bytes b.0 b.1) b.2

strategy_again : (strategy : Option ℕ) (bytes rest : List ℕ) → Spells bytes (strategy_lexemes strategy ++ semicolon ∷ []) rest
    → strategy_at bytes ≡ Ok (strategy, rest)
unfolding strategy_at
strategy_again None bytes rest s = rw (token_again bytes semicolon s.0 s.1, s.2) refl
strategy_again (Some n) bytes rest s = rw (token_again bytes (number n) s.0 s.1, semicolon_again s.0 s.2.0 s.2.1, s.2.2) refl

-- ---- a line behind its identifier

abbrev behind_lexemes : SolutionLine → List Lexeme
behind_lexemes line = number (player_number line.winner) ∷ (strategy_lexemes line.strategy ++ semicolon ∷ [])

abbrev IsLine : ℕ → List ℕ → SolutionLine × List ℕ → Type 0
IsLine n bytes y = Spells bytes (behind_lexemes y.0) y.1 × (y.0.identifier ≡ n)

answer_takes : (n : ℕ) (bytes : List ℕ) (y : SolutionLine × List ℕ) → answer_at n bytes ≡ Ok y → IsLine n bytes y
unfolding answer_at
answer_takes n bytes y e =
    let a = bind_ok (owner_at bytes) (λ w. strategy_at w.1 >>= λ s. let line : SolutionLine =
    record { identifier = n; winner = w.0; strategy = s.0 } in ok (line, s.1)) y e in
    let b = bind_ok (strategy_at a.0.1) (λ s. let line : SolutionLine = record { identifier = n; winner = a.0.0; strategy = s.0 } in ok (line, s.1)) y a.2 in
    let line : SolutionLine = record { identifier = n; winner = a.0.0; strategy = b.0.0 } in
    subst (IsLine n bytes) (ok_is (line, b.0.1) y b.2) ((a.0.1, owner_takes bytes a.0 a.1, strategy_takes a.0.1 b.0 b.1), refl)

answer_again : (line : SolutionLine) (bytes rest : List ℕ) → Spells bytes (behind_lexemes line) rest → answer_at line.identifier bytes ≡ Ok (line, rest)
unfolding answer_at
answer_again line bytes rest s = rw (owner_again bytes line.winner s.0 s.1, strategy_again line.strategy s.0 rest s.2) refl

-- ---- lines, up to the end

abbrev LineStep : Type 0
LineStep = Step SolutionLine (Unit {0}) × List ℕ

abbrev IsNext : List ℕ → LineStep → Type 0
IsNext bytes (item line, rest) = Spells bytes (answer_lexemes line) rest
IsNext bytes (stop _, rest) = Begins bytes end rest

answer_in_is : (bytes : List ℕ) (x : Lexeme × List ℕ) (y : LineStep) → Begins bytes x.0 x.1 → answer_in bytes x ≡ Ok y → IsNext bytes y
answer_in_is bytes (number n, mid) y begins e =
    let b = bind_ok (answer_at n mid) (λ l. ok (item l.0, l.1)) y e in
    let taken = answer_takes n mid b.0 b.1 in
    subst (IsNext bytes) (ok_is (item b.0.0, b.0.1) y b.2) (mid, subst (λ (k : ℕ). Begins bytes (number k) mid) (sym taken.1) begins, taken.0)
answer_in_is bytes (end, mid) y begins e = subst (IsNext bytes) (ok_is (stop tt, mid) y e) begins
answer_in_is bytes (_, mid) y begins e = absurd cc

next_takes : (bytes : List ℕ) (y : LineStep) → next_answer_at bytes ≡ Ok y → IsNext bytes y
unfolding next_answer_at
next_takes bytes y e =
    let b = bind_ok (token_at bytes) (answer_in bytes) y e in
    answer_in_is bytes b.0 y (token_takes bytes b.0 b.1) b.2

pub line_takes : (bytes : List ℕ) (line : SolutionLine) (rest : List ℕ) → next_answer_at bytes ≡ Ok (item line, rest) → Spells bytes (answer_lexemes line) rest
line_takes bytes line rest e = next_takes bytes (item line, rest) e

pub line_again : (bytes : List ℕ) (line : SolutionLine) (rest : List ℕ) → Spells bytes (answer_lexemes line) rest → next_answer_at bytes ≡ Ok (item line, rest)
unfolding next_answer_at
line_again bytes line rest s = rw (token_again bytes (number line.identifier) s.0 s.1, answer_again line s.0 rest s.2) refl

pub end_takes : (bytes : List ℕ) (u : Unit {0}) (rest : List ℕ) → next_answer_at bytes ≡ Ok (stop u, rest) → Begins bytes end rest
end_takes bytes u rest e = next_takes bytes (stop u, rest) e

pub end_again : (bytes rest : List ℕ) → Begins bytes end rest → next_answer_at bytes ≡ Ok (stop tt, rest)
unfolding next_answer_at
end_again bytes rest b = rw (token_again bytes end rest b) refl

pub line_shrinks : Shrinks next_answer_at
line_shrinks = record {
  shorter = λ bytes line rest e.
      let s = line_takes bytes line rest e in
      omega (arith, begins_shorter bytes (number line.identifier) s.0 (λ e. cc) s.1, spells_within (behind_lexemes line) s.0 rest s.2);
}

-- ---- the header, and the whole

-- the header is read, and the rest stands behind it
abbrev pub header_takes : (bytes : List ℕ) (header : Option ℕ) (start : List ℕ) → clause_at (codes "paritysol") bytes ≡ Ok (header, start)
    → BeginsWithLines bytes [] start
header_takes bytes header start e =
    let taken = clause_takes (codes "paritysol") bytes (header, start) e in
    record {
      header = header;
      spelt = subst (λ (tokens : List Lexeme). Spells bytes tokens start)
          (sym (append-nil (clause_lexemes (codes "paritysol") header))) taken;
    }

-- one line more
abbrev pub begins_more : (bytes : List ℕ) (lines : List SolutionLine) (mid : List ℕ) (line : SolutionLine) (rest : List ℕ)
    → BeginsWithLines bytes lines mid → Spells mid (answer_lexemes line) rest → BeginsWithLines bytes (lines ++ line ∷ []) rest
begins_more bytes lines mid line rest b s =
    let one : flat_map answer_lexemes (lines ++ line ∷ []) ≡ flat_map answer_lexemes lines ++ answer_lexemes line =
    flat_map-append answer_lexemes lines (line ∷ []) ∙ ap (λ (t : List Lexeme). flat_map answer_lexemes lines ++ t)
    (flat_map-cons answer_lexemes line [] ∙ append-nil (answer_lexemes line)) in
    let all : solution_lexemes b.header (lines ++ line ∷ []) ≡ solution_lexemes b.header lines ++ answer_lexemes line =
    ap (λ (t : List Lexeme). clause_lexemes (codes "paritysol") b.header ++ t) one
    ∙ sym (append_assoc (clause_lexemes (codes "paritysol") b.header) (flat_map answer_lexemes lines) (answer_lexemes line)) in
    record {
      header = b.header;
      spelt = subst (λ (tokens : List Lexeme). Spells bytes tokens rest) (sym all)
          (spells_append (solution_lexemes b.header lines) (answer_lexemes line) bytes mid rest b.spelt s);
    }

-- nothing but white space follows
pub lines_end : (bytes : List ℕ) (lines : List SolutionLine) (mid rest : List ℕ) → BeginsWithLines bytes lines mid
    → next_answer_at mid ≡ Ok (stop tt, rest) → AreLines bytes lines
lines_end bytes lines mid rest b e = grind (arith, nat_tests, next_takes mid (stop tt, rest) e)

-- ---- lines up to the end of the text

abbrev pub AreRest : List ℕ → List SolutionLine → Type 0
AreRest bytes lines = Spells bytes (flat_map answer_lexemes lines ++ end ∷ []) []

-- the first of them is read, and the others stand behind it
pub rest_parts : (bytes : List ℕ) (line : SolutionLine) (lines : List SolutionLine) → AreRest bytes (line ∷ lines)
    → (mid : List ℕ) × (next_answer_at bytes ≡ Ok (item line, mid)) × AreRest mid lines
rest_parts bytes line lines s =
    let parts = spells_parts (answer_lexemes line) (flat_map answer_lexemes lines ++ end ∷ []) bytes []
    (subst (λ (tokens : List Lexeme). Spells bytes tokens []) (append_assoc (answer_lexemes line) (flat_map answer_lexemes lines) (end ∷ [])) s) in
    (parts.0, line_again bytes line parts.0 parts.1, parts.2)

item_is : (x y : SolutionLine) → ◌≡◌ {A = Step SolutionLine (Unit {0})} (item x) (item y) → x ≡ y
item_is x y e = cc

no_item : (x : SolutionLine) → ◌≡◌ {A = Step SolutionLine (Unit {0})} (stop tt) (item x) → ⊥
no_item x e = absurd cc

pub same_step : (bytes : List ℕ) (x : SolutionLine) (p : List ℕ) (y : SolutionLine) (q : List ℕ) → next_answer_at bytes ≡ Ok (item x, p)
    → next_answer_at bytes ≡ Ok (item y, q) → (x ≡ y) × (p ≡ q)
same_step bytes x p y q first second =
    let same = same_ok (next_answer_at bytes) (item x, p) (item y, q) first second in
    (item_is x y (ap (λ (s : LineStep). s.0) same), ap (λ (s : LineStep). s.1) same)

pub no_line_at_end : (bytes : List ℕ) (line : SolutionLine) (rest : List ℕ) → Spells bytes (end ∷ []) [] → next_answer_at bytes ≡ Ok (item line, rest) → ⊥
no_line_at_end bytes line rest s e =
    no_item line (ap (λ (s : LineStep). s.0) (same_ok (next_answer_at bytes) (stop tt, s.0) (item line, rest) (end_again bytes s.0 s.1) e))

same_rest : (bytes : List ℕ) (a b : List SolutionLine) → AreRest bytes a → AreRest bytes b → a ≡ b
same_rest bytes [] [] s t = refl
same_rest bytes [] (y ∷ b) s t = absurd (let q = rest_parts bytes y b t in no_line_at_end bytes y q.0 s q.1)
same_rest bytes (x ∷ a) [] s t = absurd (let p = rest_parts bytes x a s in no_line_at_end bytes x p.0 t p.1)
same_rest bytes (x ∷ a) (y ∷ b) s t =
    let p = rest_parts bytes x a s in
    let q = rest_parts bytes y b t in
    let same = same_step bytes x p.0 y q.0 p.1 q.1 in
    let others : a ≡ b = same_rest p.0 a b p.2 (subst (λ (r : List ℕ). AreRest r b) (sym same.1) q.2) in
    rw (same.0, others) refl

heads : (lines : List SolutionLine) (bytes : List ℕ) → AreRest bytes lines → Heads bytes (codes "paritysol")
heads [] bytes s = record { token = end; mid = s.0; begins = s.1; other = λ e. cc }
heads (line ∷ lines) bytes s = record { token = number line.identifier; mid = s.0; begins = s.1; other = λ e. cc }

-- the header of a text is read, and its lines stand behind it
pub header_again : (bytes : List ℕ) (lines : List SolutionLine) → (text : AreLines bytes lines)
    → (start : List ℕ) × (clause_at (codes "paritysol") bytes ≡ Ok (text.begins.header, start)) × AreRest start lines
header_again bytes lines text =
    clause_again (codes "paritysol") text.begins.header (flat_map answer_lexemes lines ++ end ∷ []) bytes [] (heads lines)
    (subst (λ (tokens : List Lexeme). Spells bytes tokens [])
    (append_assoc (clause_lexemes (codes "paritysol") text.begins.header) (flat_map answer_lexemes lines) (end ∷ []))
    (spells_append (solution_lexemes text.begins.header lines) (end ∷ []) bytes text.rest [] text.begins.spelt text.ends))

pub behind_header : (bytes : List ℕ) (header : Option ℕ) (start : List ℕ) (lines : List SolutionLine)
    → clause_at (codes "paritysol") bytes ≡ Ok (header, start) → AreLines bytes lines → AreRest start lines
behind_header bytes header start lines read text =
    let h = header_again bytes lines text in
    let same = same_ok (clause_at (codes "paritysol") bytes) (text.begins.header, h.0) (header, start) h.1 read in
    subst (λ (b : List ℕ). AreRest b lines) (ap (λ (p : Option ℕ × List ℕ). p.1) same) h.2

-- a text has one list of lines
pub same_lines : (bytes : List ℕ) (a b : List SolutionLine) → AreLines bytes a → AreLines bytes b → a ≡ b
same_lines bytes a b s t = (let h = header_again bytes a s in same_rest h.0 a b h.2 (behind_header bytes s.begins.header h.0 b h.1 t))
