-- What is told of a game is within the ranges of frames.
use Rattle.std.proofs.Common.{◌≡◌, ℕ, ◌^◌, ◌<◌, ◌≤◌, List, length, get_or, sym, arith, subst}
use Rattle.std.specs.Prelude.{All, AllPairs, ◌==◌}
use Rattle.std.proofs.lemmas.List.Sums.{get_or-le-sum_by, count_by-le-length}
use Rattle.std.proofs.lemmas.List.Elements.{Contains-get_or}
use Rattle.std.proofs.lemmas.List.Kept.{AllPairs-from_increasing}
use Rattle.pg_arena.specs.Games.{GameVertex, IsGame, IsWithinLimits, HasPrioritiesUpTo, nowhere, priority, successors}
use Rattle.pg_measure.specs.Measures.{BoundList}
use Rattle.pg_measure.specs.Games.{IsBoundsOf}
use Rattle.pg_measure.specs.Laws.{BoundsAreFew}
use Rattle.pg_wire.specs.Well.{IsWord, IsBound, IsSetup, IsVertexLine}

pub vertex_line_is_well : (game : List GameVertex) (v p o : ℕ) (ss : List ℕ) → IsGame game → IsWithinLimits game
    → HasPrioritiesUpTo 65536 game → v < length game → p ≡ priority game v → o ≤ 1 → ss ≡ successors game v
    → IsVertexLine (record { vertex = v; priority = p; owner = o; successors = ss })
vertex_line_is_well game v p o ss g within top l pe ob se = record {
  vertex = omega (arith, within.vertices);
  priority = subst (λ (x : ℕ). x ≤ 65536) (sym pe) (top v nowhere l);
  owner = ob;
  some = subst (λ (x : List ℕ). 1 ≤ length x) (sym se) (g.goes_on v l);
  countable = subst (λ (x : List ℕ). length x < 2 ^ 32) (sym se) (let most = get_or-le-sum_by
      (λ (x : GameVertex). length x.successors) game v nowhere l in omega (arith, within.edges));
  successors = subst (λ (x : List ℕ). All IsWord x) (sym se)
      (λ i d k. (let below = g.in_range v (get_or (successors game v) i d) (Contains-get_or (successors game v) i d k) in
      omega (arith, within.vertices)));
  rising = subst (λ (x : List ℕ). AllPairs (λ a b. a < b) x) (sym se) (AllPairs-from_increasing (successors game v) (g.successors_rise v));
}

bound_is : (game : List GameVertex) (bounds : BoundList) → IsWithinLimits game → IsBoundsOf game bounds → All (λ b. b.0 ≤ 65535) bounds → All IsBound bounds
bound_is game bounds within b few = λ i d l.
    let exact = ((b.exact ((get_or bounds i d).0) ((get_or bounds i d).1)).0) (Contains-get_or bounds i d l) in
    record {
      odd = exact.0;
      priority = few i d l;
      some = exact.1;
      bound = (let least = count_by-le-length (λ (x : GameVertex). x.priority == (get_or bounds i d).0) game in omega (arith, exact.2, within.vertices));
    }

pub setup_is_well : (game : List GameVertex) (bounds : BoundList) (version n : ℕ) → BoundsAreFew → IsGame game → IsWithinLimits game
    → HasPrioritiesUpTo 65536 game → IsBoundsOf game bounds → (1 ≤ version) × (version ≤ 2) → n ≡ length game
    → IsSetup (record { version = version; vertices = n; bounds = bounds })
setup_is_well game bounds version n few g within top b v e =
    let f = few game bounds b top in
    record {
      version = v;
      vertices = (omega (arith, g.nonempty), omega (arith, within.vertices));
      bounds = record { countable = omega (arith, f.0); bounds = bound_is game bounds within b f.1; falling = b.falling };
    }
