-- Each number that the lines name is below the count of states.
use Rattle.pg_hoa_syntax.proofs.Common.{◌<◌, ℕ, List, [], ◌∷◌, map, Option, Some, None, sym, subst, arith, nat_tests, flat_map, AllByRecursion}
use Rattle.pg_hoa_syntax.proofs.Common.{Edge, StateLine, EdgeFits, LineFits, line_numbers, count_of, kept_of_line, bound, states_in}
use Rattle.pg_hoa_syntax.proofs.Lists.{all_of_first, all_of_second, all_counted}
use Rattle.pg_hoa_syntax.proofs.KeptEdges.{count_named_is}

-- ---- lines of which each number is below a bound fit that bound

edges_fit : (states high propositions sets : ℕ) (edges : List Edge) → AllByRecursion (EdgeFits high propositions sets) edges
    → AllByRecursion (λ n. n < states) (map (λ e. e.target) edges) → AllByRecursion (EdgeFits states propositions sets) edges
edges_fit states high propositions sets [] fit below = tt
edges_fit states high propositions sets (e ∷ edges) fit below =
    grind (arith, nat_tests, edges_fit states high propositions sets edges fit.1 below.1)

lines_fit : (states high propositions sets : ℕ) (lines : List StateLine) → AllByRecursion (LineFits high propositions sets) lines
    → AllByRecursion (λ n. n < states) (flat_map line_numbers lines) → AllByRecursion (LineFits states propositions sets) lines
lines_fit states high propositions sets [] fit below = tt
lines_fit states high propositions sets (l ∷ lines) fit below =
    let own = all_of_first (λ n. n < states) (line_numbers l) (flat_map line_numbers lines) below in (
      record { state = own.0; own_sets = fit.0.own_sets; edges = edges_fit states high propositions sets l.edges fit.0.edges own.1 },
      lines_fit states high propositions sets lines fit.1
          (all_of_second (λ n. n < states) (line_numbers l) (flat_map line_numbers lines) below),
    )

counted_fit : (start high propositions sets : ℕ) (lines : List StateLine) → AllByRecursion (LineFits high propositions sets) lines
    → AllByRecursion (LineFits (count_of [] (start ∷ flat_map line_numbers lines)) propositions sets) lines
counted_fit start high propositions sets lines fit =
    let all = all_counted 0 (start ∷ flat_map line_numbers lines) in
    lines_fit (count_of [] (start ∷ flat_map line_numbers lines)) high propositions sets lines fit all.1

-- lines that fit the bound of the reader fit the count of states
pub states_fit : (states : Option ℕ) (start propositions sets : ℕ) (lines : List StateLine)
    → AllByRecursion (LineFits (bound states) propositions sets) lines
    → AllByRecursion (LineFits (states_in states start (map kept_of_line lines)) propositions sets) lines
states_fit None start propositions sets lines fit = subst (λ (n : ℕ). AllByRecursion (LineFits n propositions sets) lines)
    (sym (count_named_is start lines)) (counted_fit start 65535 propositions sets lines fit)
states_fit (Some n) start propositions sets lines fit = fit
