-- The steps of the lines that are kept are those of the lines as they are written.
use Rattle.pg_hoa.proofs.Common.{◌≡◌, ℕ, Bool, true, false, cond, ◌==◌, List, [], ◌∷◌, ◌++◌, map, refl, sym, ap, ◌∙◌, ◌||◌, filter, bit_at}
use Rattle.pg_hoa.proofs.Common.{list_any-append, rising, has, has_rising, Step, step, holds, Op, No, Edge, StateLine, set_list, KeptEdge}
use Rattle.pg_hoa.proofs.Common.{KeptLine, may_hold, kept_edges, kept_of_edge, kept_of_line, rising_alike, edge_steps, steps_of, says}
use Rattle.pg_hoa.proofs.Common.{says_at, edge_step, kept_edge_steps, kept_steps}
use Rattle.pg_hoa.proofs.Saying.{postfix_says}

-- ---- the edges of a letter

never_says : (ops : List Op) (on : ℕ → Bool) → may_hold ops ≡ false → says ops on ≡ false
never_says (No ∷ []) on e = refl
never_says _ on e = absurd cc

-- an edge that isn't kept is of no letter
kept_filtered : (letter : ℕ) (edges : List KeptEdge) → filter (says_at letter) (kept_edges edges) ≡ filter (says_at letter) edges
kept_filtered letter [] = refl
kept_filtered letter (e ∷ edges) = go (may_hold e.label) refl (kept_filtered letter edges)
  where
    go : (b : Bool) → may_hold e.label ≡ b → filter (says_at letter) (kept_edges edges) ≡ filter (says_at letter) edges
        → filter (says_at letter) (cond b (e ∷ kept_edges edges) (kept_edges edges)) ≡ filter (says_at letter) (e ∷ edges)
    go true h others = ap (λ (es : List KeptEdge). cond (says_at letter e) (e ∷ es) es) others
    go false h others = let never : says_at letter e ≡ false = never_says e.label _ h in rw never others

-- ---- steps

abbrev holds_at : ℕ → Edge → Bool
holds_at letter e = holds e.letter (λ a. bit_at letter a == 1)

abbrev pub written_step : List ℕ → Edge → Step
written_step own e = step e.target (rising (own ++ set_list e.sets))

mapped : {A B : Type 0} (f : A → B) (b : Bool) (x : A) (xs : List A) → map f (cond b (x ∷ xs) xs) ≡ cond b (f x ∷ map f xs) (map f xs)
mapped f true x xs = refl
mapped f false x xs = refl

-- sets that stand once each already
once_more : (own more : List ℕ) → rising (rising own ++ rising more) ≡ rising (own ++ more)
once_more own more = rising_alike (rising own ++ rising more) (own ++ more)
    (λ q. list_any-append (λ n. q == n) (rising own) (rising more) ∙ ap (λ b. b || has q (rising more)) (has_rising q own)
    ∙ ap (λ b. has q own || b) (has_rising q more) ∙ sym (list_any-append (λ n. q == n) own more))

edges_are : (letter : ℕ) (own : List ℕ) (edges : List Edge)
    → map (edge_step (rising own)) (filter (says_at letter) (map kept_of_edge edges))
    ≡ map (written_step own) (filter (holds_at letter) edges)
edges_are letter own [] = refl
edges_are letter own (e ∷ edges) =
    let kept = map kept_of_edge edges in
    let all = filter (says_at letter) kept in
    mapped (edge_step (rising own)) (says_at letter (kept_of_edge e)) (kept_of_edge e) all
    ∙ ap (λ b. cond b (edge_step (rising own) (kept_of_edge e) ∷ map (edge_step (rising own)) all) (map (edge_step (rising own)) all))
    (postfix_says e.letter (λ a. bit_at letter a == 1))
    ∙ ap (λ sets. cond (holds_at letter e) (step e.target sets ∷ map (edge_step (rising own)) all) (map (edge_step (rising own)) all))
    (once_more own (set_list e.sets))
    ∙ ap (λ l. cond (holds_at letter e) (written_step own e ∷ l) l) (edges_are letter own edges)
    ∙ sym (mapped (written_step own) (holds_at letter e) e (filter (holds_at letter) edges))

line_is : (state letter : ℕ) (l : StateLine) → kept_edge_steps state letter (kept_of_line l) ≡ edge_steps state letter l
line_is state letter l =
    let own = set_list l.sets in
    let same = ap (map (edge_step (rising own))) (kept_filtered letter (map kept_of_edge l.edges)) ∙ edges_are letter own l.edges in
    ap (λ (steps : List Step). cond (l.state == state) steps []) same

pub kept_steps_are : (lines : List StateLine) (state letter : ℕ)
    → kept_steps (map kept_of_line lines) state letter ≡ steps_of lines state letter
kept_steps_are [] state letter = refl
kept_steps_are (l ∷ lines) state letter = ap (λ s. s ++ kept_steps (map kept_of_line lines) state letter) (line_is state letter l)
    ∙ ap (λ s. edge_steps state letter l ++ s) (kept_steps_are lines state letter)

pub written_steps : (lines : List StateLine) (kept : List KeptLine) (state letter : ℕ) → map kept_of_line lines ≡ kept
    → kept_steps kept state letter ≡ steps_of lines state letter
written_steps lines kept state letter e = ap (λ (ls : List KeptLine). kept_steps ls state letter) (sym e)
    ∙ kept_steps_are lines state letter
