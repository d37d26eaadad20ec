-- The states that lines name.
use Rattle.pg_hoa_syntax.proofs.Common.{◌≡◌, ◌∙◌, ℕ, suc, max, List, [], ◌∷◌, map, refl, sym, ap, arith, flat_map, fold, fold-append, Edge}
use Rattle.pg_hoa_syntax.proofs.Common.{StateLine, line_numbers, count_of, KeptEdge, KeptLine, kept_of_edge, kept_of_line, count_named}

targets_are : (edges : List Edge) → map (λ (e : KeptEdge). e.target) (map kept_of_edge edges) ≡ map (λ (e : Edge). e.target) edges
targets_are [] = refl
targets_are (e ∷ edges) = ap (λ l. e.target ∷ l) (targets_are edges)

greatest_of_two : (a b : ℕ) (ns : List ℕ) → fold max (max a b) ns ≡ max a (fold max b ns)
greatest_of_two a b [] = refl
greatest_of_two a b (n ∷ ns) =
    let same : max (max a b) n ≡ max a (max b n) = omega arith in
    ap (λ (m : ℕ). fold max m ns) same ∙ greatest_of_two a (max b n) ns

line_greatest : (a : ℕ) (l : StateLine) → max a (kept_of_line l).greatest ≡ fold max a (line_numbers l)
line_greatest a l =
    ap (λ (ns : List ℕ). max a (fold max l.state ns)) (targets_are l.edges)
    ∙ sym (greatest_of_two a l.state (map (λ (e : Edge). e.target) l.edges))

greatest_are : (a : ℕ) (lines : List StateLine)
    → fold max a (map (λ (k : KeptLine). k.greatest) (map kept_of_line lines)) ≡ fold max a (flat_map line_numbers lines)
greatest_are a [] = refl
greatest_are a (l ∷ lines) =
    ap (λ (n : ℕ). fold max n (map (λ (k : KeptLine). k.greatest) (map kept_of_line lines))) (line_greatest a l)
    ∙ greatest_are (fold max a (line_numbers l)) lines
    ∙ sym (fold-append max a (line_numbers l) (flat_map line_numbers lines))

pub count_named_is : (start : ℕ) (lines : List StateLine)
    → count_named start (map kept_of_line lines) ≡ count_of [] (start ∷ flat_map line_numbers lines)
count_named_is start lines = ap suc (greatest_are (max 0 start) lines)
