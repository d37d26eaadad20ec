-- The head that the headers of a text spell, where the text says an automaton.
use Rattle.pg_hoa_syntax.proofs.Common.{◌≡◌, ℕ, ◌≤◌, List, [], ◌∷◌, length, map, Option, Some, None, refl, ap, subst, arith, IfSome, flat_map}
use Rattle.pg_hoa_syntax.proofs.Common.{AllByRecursion, append-nil, length-map, Op, Character, Formula, postfix, Automaton, IsPropositionName}
use Rattle.pg_hoa_syntax.proofs.Common.{Header, Written, Says, AtMostOne, count_of, character_code, state_counts, starts, names, acceptances}
use Rattle.pg_hoa_syntax.proofs.Common.{controls, KeptHead, noted, empty_head}
use Rattle.pg_hoa_syntax.proofs.HeaderParts.{option_list, Adds, IsWithin}
use Rattle.pg_hoa_syntax.proofs.HeaderLaws.{SaysHeaders}

abbrev pub first_written : {A : Type 0} → List A → Option A
first_written [] = None
first_written (x ∷ xs) = Some x

-- what the headers say that come first
abbrev pub written_head : List Header → KeptHead
written_head hs = record {
  states = first_written (flat_map state_counts hs);
  start = first_written (flat_map starts hs);
  names = first_written (map (map (map character_code)) (flat_map names hs));
  controls = first_written (map noted (flat_map controls hs));
  acceptance = first_written (map (λ x. (x.0, postfix x.1)) (flat_map acceptances hs));
}

all_said : {A : Type 0} (xs : List A) → AtMostOne xs → option_list (first_written xs) ≡ xs
all_said [] few = refl
all_said (x ∷ []) few = refl
all_said (x ∷ y ∷ xs) few = absurd (omega arith)

one_at_most : {A : Type 0} (x : A) (xs : List A) → xs ≡ x ∷ [] → AtMostOne xs
one_at_most x xs is = rw is (omega arith)

same_many : {A B : Type 0} (f : A → B) (xs : List A) → AtMostOne xs → AtMostOne (map f xs)
same_many f xs few = omega (arith, length-map xs f)

few_counted : (counts named : List ℕ) (n : ℕ) → n ≡ count_of counts named → n ≤ 65535 → IfSome (first_written counts) (λ m. m ≤ 65535)
few_counted [] named n is few = tt
few_counted (m ∷ counts) named n is few = omega arith

low : (xs : List ℕ) (q : ℕ) → xs ≡ q ∷ [] → q ≤ 65534 → IfSome (first_written xs) (λ m. m ≤ 65534)
low xs q is h = rw is h

few_sets : (xs : List (ℕ × Formula)) (n : ℕ) (f : Formula) → xs ≡ (n, f) ∷ [] → n ≤ 4096
    → IfSome {T = ℕ × List Op} (first_written (map (λ (x : ℕ × Formula). (x.0, postfix x.1)) xs)) (λ x. x.0 ≤ 4096)
few_sets xs n f is h = rw is h

-- the names of propositions, where they are given once at most
abbrev given : List (List (List Character)) → List (List ℕ)
given lists = map (map character_code) (flat_map (λ x. x) lists)

few_names : (lists : List (List (List Character))) → AtMostOne lists → length (given lists) ≤ 16
    → IfSome (first_written (map (map (map character_code)) lists)) (λ ns. length ns ≤ 16)
few_names [] one few = tt
few_names (ns ∷ []) one few = rw (append-nil ns) at few
few_names (ns ∷ ms ∷ lists) one few = absurd (omega arith)

good_names : (lists : List (List (List Character))) → AtMostOne lists → AllByRecursion IsPropositionName (given lists)
    → IfSome (first_written (map (map (map character_code)) lists)) (λ ns. AllByRecursion IsPropositionName ns)
good_names [] one good = tt
good_names (ns ∷ []) one good = rw (append-nil ns) at good
good_names (ns ∷ ms ∷ lists) one good = absurd (omega arith)

pub says_head : (w : Written) (a : Automaton) → Says w a → SaysHeaders w.headers (written_head w.headers)
says_head w a s =
    let hs = w.headers in
    let start_low : a.start ≤ 65534 = omega (arith, s.start_below, s.few_states) in
    let few : length (given (flat_map names hs)) ≤ 16 = omega (arith, ap length s.propositions, s.few_propositions) in
    let adds : Adds empty_head hs (written_head hs) = record {
      states = all_said (flat_map state_counts hs) s.counted;
      start = all_said (flat_map starts hs) (one_at_most a.start (flat_map starts hs) s.start);
      names = all_said _ (same_many (map (map character_code)) (flat_map names hs) s.named);
      controls = all_said _ (same_many noted (flat_map controls hs) s.controlled);
      acceptance = all_said _ (same_many {B = ℕ × List Op} (λ (x : ℕ × Formula). (x.0, postfix x.1)) (flat_map acceptances hs)
          (one_at_most (a.sets, s.condition) (flat_map acceptances hs) s.accepted));
    } in
    let within : IsWithin (written_head hs) = record {
      states = few_counted (flat_map state_counts hs) _ a.states s.states s.few_states;
      start = low (flat_map starts hs) a.start s.start start_low;
      few_names = few_names (flat_map names hs) s.named few;
      good_names = good_names (flat_map names hs) s.named
          (subst (λ (ns : List (List ℕ)). AllByRecursion IsPropositionName ns) s.propositions s.good_names);
      sets = few_sets (flat_map acceptances hs) a.sets s.condition s.accepted s.few_sets;
    } in
    record { adds = adds; within = within }
