-- What the reader of a body does: sets, edges and lines of states, token by token. The laws about it are in proofs/.
use Rattle.std.specs.Prelude.{ℕ, suc, zero, Bool, true, false, ◌==◌, nat_lt, List, [], ◌∷◌, length, Option, Some, None, codes}
use Rattle.std.specs.Prelude.{if◌then◌else◌}
use Rattle.std.specs.List.{list_any}
use Rattle.std.specs.Str.{bytes_eq}
use Rattle.pg_list_lemmas.specs.Rising.{rising}
use Rattle.pg_hoa_syntax.specs.Lexemes.{Lexeme, number, header, string, end, left_bracket, right_bracket, left_brace, right_brace, ampersand}
use Rattle.pg_hoa_syntax.specs.Mirrors.Scan.{first}
use Rattle.pg_hoa_automaton.specs.Mirrors.Steps.{◌>>=◌}
use Rattle.pg_hoa_syntax.specs.declared.formula.FormulaKind.TheVariants.{Label}
use Rattle.pg_hoa_syntax.specs.Mirrors.FormulaRun.{ops_at}
use Rattle.pg_hoa_syntax.specs.Mirrors.Kept.{KeptEdge, KeptLine, kept_edges, greatest_of}

-- the token that must come first, and the tokens after it
unfoldable pub due : List Lexeme → Option (Lexeme × List Lexeme)
due tokens = first tokens >>= λ x. x.0 >>= λ t. Some (t, x.1)

-- ---- numbers

-- the number of a state, which is below the number of states
unfoldable pub state_of : ℕ → Lexeme → Option ℕ
state_of states (number n) = if nat_lt n states then Some n else None
state_of states t = None

-- the number of a state for which no line was seen
unfoldable pub new_state : ℕ → (ℕ → Bool) → Lexeme → Option ℕ
new_state states seen t = state_of states t >>= λ n. if seen n then None else Some n

-- one number between the braces around sets, or none at the last brace
unfoldable pub set_in : ℕ → Lexeme → Option (Option ℕ)
set_in sets (number n) = if nat_lt n sets then Some (Some n) else None
set_in sets right_brace = Some None
set_in sets t = None

abbrev pub behind_set : Option (List ℕ × List Lexeme) → List Lexeme → Option ℕ → Option (List ℕ × List Lexeme)
behind_set more rest None = Some ([], rest)
behind_set more rest (Some n) = more >>= λ x. Some (n ∷ x.0, x.1)

-- the numbers after `{` up to `}`
unfoldable pub sets_at : ℕ → List Lexeme → Option (List ℕ × List Lexeme)
sets_at sets [] = None
sets_at sets (t ∷ rest) = set_in sets t >>= behind_set (sets_at sets rest) rest

-- the numbers after `{` up to `}`, each once and the least first
unfoldable pub rising_sets_at : ℕ → List Lexeme → Option (List ℕ × List Lexeme)
rising_sets_at sets tokens = sets_at sets tokens >>= λ x. Some (rising x.0, x.1)

abbrev pub sets_before : ℕ → List Lexeme → Lexeme × List Lexeme → Option (List ℕ × List Lexeme)
sets_before sets tokens (left_brace, rest) = rising_sets_at sets rest
sets_before sets tokens (t, rest) = Some ([], tokens)

-- the sets if there is a `{`, or else none
unfoldable pub sets_if : ℕ → List Lexeme → Option (List ℕ × List Lexeme)
sets_if sets tokens = due tokens >>= sets_before sets tokens

-- ---- edges

abbrev pub bracket_first : Lexeme × List Lexeme → Option (List Lexeme)
bracket_first (right_bracket, rest) = Some rest
bracket_first (t, rest) = None

-- the tokens after the `]` that must come first
unfoldable pub behind_label : List Lexeme → Option (List Lexeme)
behind_label tokens = due tokens >>= bracket_first

-- a conjunction of states isn't supported
abbrev pub single : ℕ × List Lexeme → Lexeme × List Lexeme → Option (ℕ × List Lexeme)
single target (ampersand, rest) = None
single target (t, rest) = Some target

-- the state that an edge leads to
unfoldable pub target_at : ℕ → List Lexeme → Option (ℕ × List Lexeme)
target_at states tokens = due tokens >>= λ x. state_of states x.0 >>= λ n. due x.1 >>= single (n, x.1)

-- an edge, after its `[`
unfoldable pub edge_at : ℕ → ℕ → ℕ → List Lexeme → Option (KeptEdge × List Lexeme)
edge_at states propositions sets tokens =
    ops_at (Label propositions) tokens >>= λ x. behind_label x.1 >>= λ rest. target_at states rest >>= λ y. sets_if sets y.1 >>= λ z.
    Some (record { label = x.0; target = y.0; sets = z.0 }, z.1)

-- whether an edge begins; a number there is an edge without a label
unfoldable pub begins_edge : Lexeme → Option Bool
begins_edge left_bracket = Some true
begins_edge (number n) = None
begins_edge t = Some false

unfoldable pub edges_within : ℕ → ℕ → ℕ → ℕ → List Lexeme → Option (List KeptEdge × List Lexeme)
edges_within zero states propositions sets tokens = None
edges_within (suc n) states propositions sets tokens =
    due tokens >>= λ t. begins_edge t.0 >>= λ more.
    if more
    then (edge_at states propositions sets t.1 >>= λ x. edges_within n states propositions sets x.1 >>= λ y. Some (x.0 ∷ y.0, y.1))
    else Some ([], tokens)

-- the edges of one state
unfoldable pub edges_at : ℕ → ℕ → ℕ → List Lexeme → Option (List KeptEdge × List Lexeme)
edges_at states propositions sets tokens = edges_within (suc (length tokens)) states propositions sets tokens

-- the edges of one state that are kept, and the greatest of the state and all states that the edges lead to
unfoldable pub kept_edges_at : ℕ → ℕ → ℕ → ℕ → List Lexeme → Option (List KeptEdge × ℕ × List Lexeme)
kept_edges_at state states propositions sets tokens =
    edges_at states propositions sets tokens >>= λ x. Some (kept_edges x.0, greatest_of state x.0, x.1)

-- ---- lines

abbrev pub name_first : List Lexeme → Lexeme × List Lexeme → Option (List Lexeme)
name_first tokens (string s, rest) = Some rest
name_first tokens (t, rest) = Some tokens

-- the tokens after the name of a state, if there is one
unfoldable pub behind_name : List Lexeme → Option (List Lexeme)
behind_name tokens = due tokens >>= name_first tokens

-- a line, after `State:`
unfoldable pub line_at : ℕ → ℕ → ℕ → (ℕ → Bool) → List Lexeme → Option (KeptLine × List Lexeme)
line_at states propositions sets seen tokens =
    due tokens >>= λ t. new_state states seen t.0 >>= λ n. behind_name t.1 >>= λ rest. sets_if sets rest >>= λ x.
    kept_edges_at n states propositions sets x.1 >>= λ y.
    Some (record { state = n; greatest = y.1; sets = x.0; edges = y.0 }, y.2)

-- whether a line begins; otherwise the body ends
unfoldable pub begins_line : Lexeme → Option Bool
begins_line (header w) = if bytes_eq w (codes "State") then Some true else None
begins_line end = Some false
begins_line t = None

abbrev pub is_seen : List ℕ → ℕ → Bool
is_seen seen n = list_any (λ m. m == n) seen

unfoldable pub lines_within : ℕ → ℕ → ℕ → ℕ → List ℕ → List Lexeme → Option (List KeptLine × List Lexeme)
lines_within zero states propositions sets seen tokens = None
lines_within (suc n) states propositions sets seen tokens =
    due tokens >>= λ t. begins_line t.0 >>= λ more.
    if more
    then (line_at states propositions sets (is_seen seen) t.1 >>= λ x.
    lines_within n states propositions sets (x.0.state ∷ seen) x.1 >>= λ y. Some (x.0 ∷ y.0, y.1))
    else Some ([], t.1)

-- the body after `--BODY--`, up to and including `--END--`
unfoldable pub body_at : ℕ → ℕ → ℕ → List Lexeme → Option (List KeptLine × List Lexeme)
body_at states propositions sets tokens = lines_within (suc (length tokens)) states propositions sets [] tokens
