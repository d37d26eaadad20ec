-- The product that a certificate describes: edges, and the choices of a node.
use Rattle.std.proofs.Common.{◌≡◌, ℕ, ◌+◌, ◌*◌, ◌%◌, ◌<◌, List, [], ◌∷◌, length, get_or, ap, sym, subst, ◌∙◌}
use Rattle.std.specs.Prelude.{All, Contains}
use Rattle.pg_ltl.specs.NormalForms.{NormalForm}
use Rattle.pg_ltl.specs.Tableaux.{choices_of}
use Rattle.pg_means_look.specs.declared.automaton.ParityEdge.{ParityEdge}
use Rattle.pg_means_look.specs.declared.automaton.ParityAutomaton.{ParityAutomaton}
use Rattle.pg_means_look.specs.declared.certificate.Node as kept
use Rattle.pg_means_look.specs.declared.certificate.Certificate as proposed
use Rattle.pg_means_look.specs.declared.choice.Choice as choice
use Rattle.pg_means_look.specs.Certificates.{IsFine, Goes}
use Rattle.pg_means_look.specs.Mirrors.Tables.{edge_at, row_at, truth_at}
use Rattle.pg_means_look.specs.Mirrors.Choices.{part, parts, choice_of, choices_in, AreCovered}
use Rattle.pg_means_look.specs.Mirrors.Views.{automaton_of, certificate_of, node_at, GoesEach, GoesAt, StartsAt}
use Rattle.pg_means_look.specs.declared.pool.Pooled.{Pooled}
use Rattle.pg_means_look.specs.Mirrors.Pools.{list_at, AreNumbers}
use Rattle.pg_means_look.proofs.Covering.{within_parts}
use Rattle.pg_means_look.proofs.Ranking.{pruning}
use Rattle.pg_means_look.proofs.Steps.{within_same}

pub goes_to : (a : ParityAutomaton) (c : proposed.Certificate) (forms : List NormalForm) (parity v l to : ℕ) (x : choice.Choice) (from next : kept.Node)
    (edge : ParityEdge) (set asks puts : List ℕ) → from ≡ node_at c.nodes.items v → next ≡ node_at c.nodes.items to
    → edge ≡ edge_at a.edges.items (from.state * a.letters + l) → to < length c.nodes.items → next.state ≡ edge.target
    → set ≡ row_at c.sets.items next.set → asks ≡ x.asks.items → All (Contains asks) set → puts ≡ x.puts.items
    → ((forms : List NormalForm) (p : ℕ) → p % 2 ≡ parity → IsFine (certificate_of forms c) p edge.priority (parts forms puts) v to)
    → Goes (automaton_of a) (certificate_of forms c) parity v l (choice_of forms x)
goes_to a c forms parity v l to x from next edge set asks puts is_from is_next is_edge below state is_set is_asks within is_puts fine =
    let at : edge ≡ edge_at a.edges.items ((node_at c.nodes.items v).state * a.letters + l) =
    is_edge ∙ ap (λ (n : kept.Node). edge_at a.edges.items (n.state * a.letters + l)) is_from in
    record {
      to = to;
      below = below;
      state = sym (ap (λ (n : kept.Node). n.state) is_next) ∙ state ∙ ap (λ (e : ParityEdge). e.target) at;
      fewer = within_parts forms (row_at c.sets.items (node_at c.nodes.items to).set) x.asks.items
          (within_same set asks (row_at c.sets.items (node_at c.nodes.items to).set) x.asks.items
          (is_set ∙ ap (λ (n : kept.Node). row_at c.sets.items n.set) is_next) is_asks within);
      fine = λ p good.
          subst (λ (e : ParityEdge). IsFine (certificate_of forms c) p e.priority (parts forms x.puts.items) v to) at
          (subst (λ (ps : List ℕ). IsFine (certificate_of forms c) p edge.priority (parts forms ps) v to) is_puts (fine forms p good));
    }

pub going : (a : ParityAutomaton) (c : proposed.Certificate) (forms : List NormalForm) (parity v l : ℕ) (lists : List Pooled) (numbers : List ℕ)
    (node : kept.Node) (xs : List choice.Choice) → node ≡ node_at c.nodes.items v → node.set < length numbers
    → xs ≡ list_at lists (get_or numbers node.set 0) → AreNumbers (λ p. truth_at a.truths.items p l) forms c.sets.items lists numbers
    → GoesEach (automaton_of a) (certificate_of forms c) parity v l forms xs → GoesAt (automaton_of a) (certificate_of forms c) parity v l
going a c forms parity v l lists numbers node xs is lt ex are goes =
    let letter = λ (p : ℕ). truth_at a.truths.items p l in
    let here = subst (λ (ys : List choice.Choice). AreCovered (choices_in forms ys) (choices_of letter (parts forms (row_at c.sets.items node.set))))
    (sym ex) (are node.set lt).covers in
    pruning (automaton_of a) (certificate_of forms c) parity v l
    (choices_of letter (parts forms (row_at c.sets.items (node_at c.nodes.items v).set))) (choices_in forms xs)
    (subst (λ (n : kept.Node). AreCovered (choices_in forms xs) (choices_of letter (parts forms (row_at c.sets.items n.set)))) is here) goes

pub starts_at : (a : ParityAutomaton) (c : proposed.Certificate) (forms : List NormalForm) (root : ℕ) (first : kept.Node) (set : List ℕ)
    → first ≡ node_at c.nodes.items 0 → 0 < length c.nodes.items → first.state ≡ a.start → set ≡ row_at c.sets.items first.set
    → All (Contains (root ∷ [])) set → StartsAt (automaton_of a) (certificate_of forms c) (part forms root)
starts_at a c forms root first set is some state is_set within =
    record {
      some = some;
      state = sym (ap (λ (n : kept.Node). n.state) is) ∙ state;
      fewer = within_parts forms (row_at c.sets.items (node_at c.nodes.items 0).set) (root ∷ [])
          (subst (λ (xs : List ℕ). All (Contains (root ∷ [])) xs) (is_set ∙ ap (λ (n : kept.Node). row_at c.sets.items n.set) is) within);
    }
