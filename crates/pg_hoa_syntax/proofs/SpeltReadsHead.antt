-- What the headers and lines of a text that says an automaton come to.
use Rattle.pg_hoa_syntax.proofs.Common.{◌≡◌, ◌<◌, ◌≤◌, ℕ, List, [], ◌∷◌, map, length, Some, refl, sym, ap, subst, arith, ◌∙◌, nat_tests, All}
use Rattle.pg_hoa_syntax.proofs.Common.{AllByRecursion, flat_map, append-nil, Op, Character, Formula, postfix, Automaton, Written, Says, Edge}
use Rattle.pg_hoa_syntax.proofs.Common.{StateLine, EdgeFits, LineFits, EachBelow, AtMostOne, count_of, line_numbers, character_code}
use Rattle.pg_hoa_syntax.proofs.Common.{state_counts, starts, names, acceptances, controls, kept_of_line, noted, Preamble, IsPreambleOf}
use Rattle.pg_hoa_syntax.proofs.Common.{StartsBelow, listed, marked, bound, states_in}
use Rattle.pg_hoa_syntax.proofs.HeaderHead.{first_written, written_head}
use Rattle.pg_hoa_syntax.proofs.KeptEdges.{count_named_is}
use Rattle.pg_hoa_syntax.proofs.Noting.{marked_noted, below_noted}

-- ---- headers that stand at most once

first_is : (xs : List ℕ) (x : ℕ) → xs ≡ x ∷ [] → first_written xs ≡ Some x
first_is xs x is = ap first_written is

accepted_first : (xs : List (ℕ × Formula)) (n : ℕ) (f : Formula) → xs ≡ (n, f) ∷ []
    → first_written (map {A = ℕ × Formula} {B = ℕ × List Op} (λ x. (x.0, postfix x.1)) xs) ≡ Some (n, postfix f)
accepted_first xs n f is = rw is refl

noted_first : (lists : List (List ℕ)) → AtMostOne lists → noted (flat_map (λ x. x) lists) ≡ listed (first_written (map noted lists))
noted_first [] one = refl
noted_first (ns ∷ []) one = ap noted (append-nil ns)
noted_first (ns ∷ ms ∷ lists) one = absurd (omega arith)

names_first : (lists : List (List (List Character))) → AtMostOne lists
    → map (map character_code) (flat_map (λ x. x) lists) ≡ listed (first_written (map (map (map character_code)) lists))
names_first [] one = refl
names_first (ns ∷ []) one = ap (map (map character_code)) (append-nil ns)
names_first (ns ∷ ms ∷ lists) one = absurd (omega arith)

-- ---- how many states there are

starts_below : (counts named : List ℕ) (start n : ℕ) → n ≡ count_of counts named → start < n → StartsBelow start (first_written counts)
starts_below [] named start n is below = tt
starts_below (m ∷ counts) named start n is below = omega arith

pub within_bound : (counts named : List ℕ) (n : ℕ) → n ≡ count_of counts named → n ≤ 65535 → n ≤ bound (first_written counts)
within_bound [] named n is few = few
within_bound (m ∷ counts) named n is few = omega arith

pub states_are : (counts : List ℕ) (start : ℕ) (lines : List StateLine)
    → states_in (first_written counts) start (map kept_of_line lines) ≡ count_of counts (start ∷ flat_map line_numbers lines)
states_are [] start lines = count_named_is start lines
states_are (n ∷ counts) start lines = refl

-- ---- what the headers say together

abbrev pub written_preamble : Written → Automaton → Preamble
written_preamble w a = record {
  states = first_written (flat_map state_counts w.headers);
  start = a.start;
  names = a.propositions;
  controllable = a.controllable;
  sets = a.sets;
  shape = a.shape;
}

pub says_preamble : (w : Written) (a : Automaton) → Says w a → IsPreambleOf (written_head w.headers) (written_preamble w a)
says_preamble w a s =
    let named : a.propositions ≡ listed (written_head w.headers).names = s.propositions ∙ names_first (flat_map names w.headers) s.named in
    let numbers = flat_map (λ x. x) (flat_map controls w.headers) in
    let controlled : noted numbers ≡ listed (written_head w.headers).controls = noted_first (flat_map controls w.headers) s.controlled in
    let below = below_noted numbers (length a.propositions) s.few_propositions s.controls_below in
    record {
      states = refl;
      start = first_is (flat_map starts w.headers) a.start s.start;
      start_below = starts_below (flat_map state_counts w.headers) _ a.start a.states s.states s.start_below;
      names = named;
      controls_below = subst (λ (ns : List ℕ). All (λ n. n < length (listed (written_head w.headers).names)) ns) controlled
          (subst (λ (ns : List (List ℕ)). EachBelow (length ns) (noted numbers)) named below);
      controllable = s.controllable ∙ sym (marked_noted numbers (length a.propositions) s.few_propositions)
          ∙ ap (λ (ns : List ℕ). marked ns (length a.propositions)) controlled
          ∙ ap (λ (ns : List (List ℕ)). marked (listed (written_head w.headers).controls) (length ns)) named;
      condition = s.condition;
      acceptance = accepted_first (flat_map acceptances w.headers) a.sets s.condition s.accepted;
      shape = s.shape;
    }

-- ---- lines that fit among few states fit among more

edges_fit : (few many propositions sets : ℕ) (edges : List Edge) → few ≤ many → AllByRecursion (EdgeFits few propositions sets) edges
    → AllByRecursion (EdgeFits many propositions sets) edges
edges_fit few many propositions sets [] h fit = tt
edges_fit few many propositions sets (e ∷ edges) h fit = grind (arith, nat_tests, edges_fit few many propositions sets edges h fit.1)

pub lines_fit : (few many propositions sets : ℕ) (lines : List StateLine) → few ≤ many
    → AllByRecursion (LineFits few propositions sets) lines → AllByRecursion (LineFits many propositions sets) lines
lines_fit few many propositions sets [] h fit = tt
lines_fit few many propositions sets (l ∷ lines) h fit =
    grind (arith, nat_tests, edges_fit few many propositions sets l.edges h fit.0.edges, lines_fit few many propositions sets lines h fit.1)
