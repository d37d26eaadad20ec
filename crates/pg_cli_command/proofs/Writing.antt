-- What several writes append, and the lines of measures one after another.
use Rattle.pg_cli_command.proofs.Common.{◌≡◌, ℕ, ◌+◌, ◌<◌, ◌≤◌, List, [], ◌∷◌, ◌++◌, length, take, get_or, Option, Some, None, Result, Ok, Err}
use Rattle.pg_cli_command.proofs.Common.{sym, ap, subst, ◌∙◌, arith, append_assoc, append-nil, take_more, take_all, flat_map-append, get_or-zip}
use Rattle.pg_cli_command.proofs.Common.{length-zip, OnOk, flat_map, zip, Appends, GameVertex, nowhere, identifier, MeasureValue, measure_at}
use Rattle.pg_cli_command.proofs.Common.{measure_line}

pub appends_then : (a b c : Option (List ℕ)) (xs ys : List ℕ) → Appends a b xs → Appends b c ys → Appends a c (xs ++ ys)
appends_then None b c xs ys h k = tt
appends_then (Some xs0) None c xs ys h k = absurd h
appends_then (Some xs0) (Some ys0) None xs ys h k = absurd k
appends_then (Some xs0) (Some ys0) (Some zs0) xs ys h k = k ∙ ap (λ l. l ++ ys) h ∙ append_assoc xs0 xs ys

-- where the last of them may fail
pub appends_last : {X E : Type 0} (result : Result X E) (a b c : Option (List ℕ)) (xs ys : List ℕ) → Appends a b xs → OnOk result (Appends b c ys)
    → OnOk result (Appends a c (xs ++ ys))
appends_last (Ok x) a b c xs ys h k = appends_then a b c xs ys h k
appends_last (Err e) a b c xs ys h k = tt

-- a vertex and its measure as a line
abbrev pub pair_line : GameVertex × MeasureValue → List ℕ
pair_line x = measure_line x.0.identifier x.1

-- after the lines of the first i vertices comes that of vertex i
pub lines_more : (game : List GameVertex) (f : List MeasureValue) (i : ℕ) → i < length game → length f ≡ length game
    → flat_map pair_line (take i (zip game f)) ++ measure_line (identifier game i) (measure_at f i) ≡ flat_map pair_line (take (i + 1) (zip game f))
lines_more game f i lt same =
    let within : i < length (zip game f) = omega (arith, length-zip game f) in
    let d : GameVertex × MeasureValue = (nowhere, None) in
    let at : get_or (zip game f) i d ≡ (get_or game i nowhere, get_or f i None) = get_or-zip game f i d lt (omega arith) in
    let last : flat_map pair_line (get_or (zip game f) i d ∷ []) ≡ measure_line (identifier game i) (measure_at f i) =
    append-nil (pair_line (get_or (zip game f) i d)) ∙ ap pair_line at in
    sym (ap (flat_map pair_line) (take_more (zip game f) i d within)
    ∙ flat_map-append pair_line (take i (zip game f)) (get_or (zip game f) i d ∷ [])
    ∙ ap (λ l. flat_map pair_line (take i (zip game f)) ++ l) last)

-- when the lines of the first i vertices were written, and then the line of vertex i
pub written_more : (game : List GameVertex) (f : List MeasureValue) (i n : ℕ) (m : MeasureValue) (a b c : Option (List ℕ)) → i < length game
    → length f ≡ length game
    → n ≡ identifier game i → m ≡ measure_at f i → Appends a b (flat_map pair_line (take i (zip game f))) → Appends b c (measure_line n m)
    → Appends a c (flat_map pair_line (take (i + 1) (zip game f)))
written_more game f i n m a b c lt same is_n is_m before line =
    let text : flat_map pair_line (take i (zip game f)) ++ measure_line n m ≡ flat_map pair_line (take (i + 1) (zip game f)) =
    ap (λ l. flat_map pair_line (take i (zip game f)) ++ measure_line l m) is_n
    ∙ ap (λ l. flat_map pair_line (take i (zip game f)) ++ measure_line (identifier game i) l) is_m
    ∙ lines_more game f i lt same in
    subst (λ (l : List ℕ). Appends a c l) text (appends_then a b c _ _ before line)

-- when the lines of all vertices were written
pub written_all : (game : List GameVertex) (f : List MeasureValue) (i : ℕ) (a b : Option (List ℕ)) → length game ≤ i
    → Appends a b (flat_map pair_line (take i (zip game f))) → Appends a b (flat_map pair_line (zip game f))
written_all game f i a b le h =
    subst (λ (l : List (GameVertex × MeasureValue)). Appends a b (flat_map pair_line l)) (take_all i (zip game f) (omega (arith, length-zip game f))) h
