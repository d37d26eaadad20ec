-- Automata and certificates, as the code keeps them.
use Rattle.std.specs.Prelude.{◌≡◌, ◌≢◌, ℕ, ◌+◌, ◌*◌, ◌/◌, ◌^◌, ◌≤◌, ◌<◌, ◌⊎◌, List, ◌∷◌, length, Option, Some, None, [], option_map, map, slice_index_or, Contains}
use Rattle.pg_ltl.specs.NormalForms.{NormalForm}
use Rattle.pg_ltl.specs.Tableaux.{Each, IsAmong, choices_of}
use Rattle.pg_means_look.specs.declared.automaton.ParityAutomaton.{ParityAutomaton}
use Rattle.pg_means_look.specs.declared.certificate.Node as kept
use Rattle.pg_means_look.specs.declared.certificate.Level.{Level}
use Rattle.pg_means_look.specs.declared.certificate.Certificate as proposed
use Rattle.pg_means_look.specs.declared.choice.Choice as choice
use Rattle.pg_means_look.specs.Automata.{Automaton}
use Rattle.pg_means_look.specs.Certificates.{Certificate, Goes}
use Rattle.pg_means_look.specs.Mirrors.Tables.{edge_at, row_at, truth_at}
use Rattle.pg_means_look.specs.Mirrors.Choices.{part, parts, choices_in}

abbrev pub automaton_of : ParityAutomaton → Automaton
automaton_of a = record {
  letters = a.letters;
  on = λ l p. truth_at a.truths.items p l;
  start = a.start;
  target = λ q l. (edge_at a.edges.items (q * a.letters + l)).target;
  priority = λ q l. (edge_at a.edges.items (q * a.letters + l)).priority;
  bound = 2 ^ 32;
}

abbrev pub node_at : List kept.Node → ℕ → kept.Node
node_at nodes v = slice_index_or nodes v (record { state = 0; set = 0 })

-- the ranks and the witnesses of the level at this place, or none past the end
abbrev pub ranks_at : List Level → ℕ → List ℕ
ranks_at levels k = slice_index_or (map (λ (level : Level). level.ranks.items) levels) k []

abbrev pub witnesses_at : List Level → ℕ → List (Option ℕ)
witnesses_at levels k = slice_index_or (map (λ (level : Level). level.witnesses.items) levels) k []

abbrev pub rank_in : List ℕ → ℕ → ℕ
rank_in ranks v = slice_index_or ranks v 0

abbrev pub witness_in : List (Option ℕ) → ℕ → Option ℕ
witness_in witnesses rank = slice_index_or witnesses rank None

-- each level speaks of one of two consecutive priorities
abbrev pub certificate_of : List NormalForm → proposed.Certificate → Certificate
certificate_of forms c = record {
  count = length c.nodes.items;
  node = λ v. record { state = (node_at c.nodes.items v).state; asks = parts forms (row_at c.sets.items (node_at c.nodes.items v).set) };
  rank = λ p v. rank_in (ranks_at c.levels.items (p / 2)) v;
  witness = λ p r. option_map (part forms) (witness_in (witnesses_at c.levels.items (p / 2)) r);
}

abbrev pub StaysBy : Option ℕ → ℕ → ℕ → List ℕ → Type 0
StaysBy None p priority puts = priority ≢ p
StaysBy (Some u) p priority puts = Contains puts u

-- what a level must say of an edge from v to w
abbrev pub IsFineAt : List ℕ → List (Option ℕ) → ℕ → ℕ → List ℕ → ℕ → ℕ → Type 0
IsFineAt ranks witnesses p priority puts v w =
    priority ≤ p → (rank_in ranks w < rank_in ranks v)
    ⊎ ((rank_in ranks w ≡ rank_in ranks v) × StaysBy (witness_in witnesses (rank_in ranks v)) p priority puts)

-- each choice at the letter leads from the node to some node
abbrev pub GoesEach : Automaton → Certificate → ℕ → ℕ → ℕ → List NormalForm → List choice.Choice → Type 0
GoesEach a cert parity v l forms list = Each (Goes a cert parity v l) (choices_in forms list)

abbrev pub GoesAt : Automaton → Certificate → ℕ → ℕ → ℕ → Type 0
GoesAt a cert parity v l = Each (Goes a cert parity v l) (choices_of (a.on l) (cert.node v).asks)

-- the first node stands for the start and the formula
pub record StartsAt (a : Automaton) (cert : Certificate) (f : NormalForm) : Type 0 where
  pub some : 0 < cert.count
  pub state : (cert.node 0).state ≡ a.start
  pub fewer : Each (IsAmong (f ∷ [])) (cert.node 0).asks
