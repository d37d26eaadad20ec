-- The start is among the states, whether these are counted or only named.
use Rattle.pg_hoa_syntax.proofs.Common.{◌<◌, ◌≤◌, ℕ, suc, max, List, [], ◌∷◌, map, Option, Some, None, arith, AllByRecursion, fold, Edge}
use Rattle.pg_hoa_syntax.proofs.Common.{StateLine, EdgeFits, LineFits, KeptEdge, KeptLine, kept_of_edge, kept_of_line, count_named, StartsBelow}
use Rattle.pg_hoa_syntax.proofs.Common.{bound, states_in}
use Rattle.pg_hoa_syntax.proofs.Lists.{greatest_from}

-- ---- the greatest number of a list

greatest_at_most : (n a : ℕ) (xs : List ℕ) → a ≤ n → AllByRecursion (λ (x : ℕ). x ≤ n) xs → fold max a xs ≤ n
greatest_at_most n a [] low all = low
greatest_at_most n a (x ∷ xs) low all = let here : x ≤ n = all.0 in greatest_at_most n (max a x) xs (omega arith) all.1

-- ---- the states that lines name

targets_low : (n propositions sets : ℕ) (edges : List Edge) → AllByRecursion (EdgeFits (suc n) propositions sets) edges
    → AllByRecursion (λ (x : ℕ). x ≤ n) (map (λ (e : KeptEdge). e.target) (map kept_of_edge edges))
targets_low n propositions sets [] fit = tt
targets_low n propositions sets (e ∷ edges) fit =
    let low : e.target < suc n = fit.0.target in (omega arith, targets_low n propositions sets edges fit.1)

numbers_low : (n propositions sets : ℕ) (lines : List StateLine) → AllByRecursion (LineFits (suc n) propositions sets) lines
    → AllByRecursion (λ (x : ℕ). x ≤ n) (map (λ (k : KeptLine). k.greatest) (map kept_of_line lines))
numbers_low n propositions sets [] fit = tt
numbers_low n propositions sets (l ∷ lines) fit =
    let low : l.state < suc n = fit.0.state in (
      greatest_at_most n l.state (map (λ (e : KeptEdge). e.target) (map kept_of_edge l.edges)) (omega arith)
          (targets_low n propositions sets l.edges fit.0.edges),
      numbers_low n propositions sets lines fit.1,
    )

-- ---- so many states

-- there are few states, and the start is one
pub record AreCounted (states start : ℕ) : Type 0 where
  pub few : states ≤ 65535
  pub start_below : start < states

-- where the states are not counted their numbers are below 65,535
named : (start propositions sets : ℕ) (lines : List StateLine) → start ≤ 65534 → AllByRecursion (LineFits 65535 propositions sets) lines
    → AreCounted (count_named start (map kept_of_line lines)) start
named start propositions sets lines low fit =
    let numbers = map (λ (k : KeptLine). k.greatest) (map kept_of_line lines) in
    let first : max 0 start ≤ fold max (max 0 start) numbers = greatest_from (max 0 start) numbers in
    let last : fold max (max 0 start) numbers ≤ 65534 = greatest_at_most 65534 (max 0 start) numbers (omega arith)
    (numbers_low 65534 propositions sets lines fit) in
    record { few = omega arith; start_below = omega arith }

pub are_counted : (states : Option ℕ) (start propositions sets : ℕ) (lines : List StateLine) → bound states ≤ 65535 → start ≤ 65534
    → StartsBelow start states → AllByRecursion (LineFits (bound states) propositions sets) lines
    → AreCounted (states_in states start (map kept_of_line lines)) start
are_counted None start propositions sets lines few low below fit = named start propositions sets lines low fit
are_counted (Some states) start propositions sets lines few low below fit = record { few = few; start_below = below }
