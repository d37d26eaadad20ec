use Rattle.pg_synth.proofs.Common.{◌≡◌, ◌≢◌, ◌⊎◌, ◌<◌, ◌≤◌, ◌++◌, ◌∷◌, [], ℕ, List, Result, Ok, Err, IfErr, Option, Some, get_or, length, map, take, take_all, ap}
use Rattle.pg_synth.proofs.Common.{refl, sym, subst, ◌∙◌, inl, inr, arith, MatchResult, ArenaFault, TooManyEdges, OutOfMemory, GameVertex, Line, IsGameOf, Answers}
use Rattle.pg_synth.proofs.Common.{add_fault, line_at, game_lines}
use Rattle.pg_synth.proofs.Common.{game_identifiers, edges_of, sum_by, sum_by_more, map_more, Automaton, IsAutomaton}
use Rattle.std.proofs.lemmas.Result.{err_from_is_err_and}
use Rattle.pg_synth.proofs.Building.{listed_place, edges_only, few_follow}
use Rattle.pg_synth.proofs.Linked.{linked_game, linked_is}
use Rattle.pg_synth.proofs.lines.built.Goals as goal

pub add_vertex-requires-clause-place : goal.add_vertex-requires-clause-place
add_vertex-requires-clause-place c =
    listed_place c.args.automaton.now c.args.identifiers.now c.loop-identifier.identifier-index c.requires.laid.automaton c.requires.listed c.loop-identifier-test.true

-- what a builder refuses without a reason is memory
refused : (T : Type 0) (fault : ArenaFault) (reason : Option ArenaFault) → Answers {T = T} (Err fault) reason → (fault ≡ OutOfMemory) ⊎ (reason ≡ Some fault)
refused T OutOfMemory reason h = inl refl
refused T _ reason h = inr h

-- a vertex that isn't added has too many edges, or memory ran out
abbrev Cause : Automaton → List ℕ → ArenaFault → Type 0
Cause a ids fault = (fault ≡ OutOfMemory) ⊎ ((fault ≡ TooManyEdges) × (8388608 < sum_by (edges_of a) ids))

cause : (a : Automaton) (ids : List ℕ) (k : ℕ) (lines : List Line) (fault : ArenaFault) → IsAutomaton a → ids ≡ game_identifiers a → k < length ids
    → length ids ≤ 1048576 → lines ≡ map (line_at a) (take k ids)
    → Answers {T = Unit {0}} (Err fault) (add_fault lines (line_at a (get_or ids k 0))) → Cause a ids fault
cause a ids k lines fault is listed lt vertices same answer =
    elim (refused (Unit {0}) fault (add_fault lines (line_at a (get_or ids k 0))) answer) [
      | inl memory ↦ inl memory
      | inr reason ↦ inr (edges_only a ids k fault is listed lt vertices (sym (ap (λ (ls : List Line). add_fault ls (line_at a (get_or ids k 0))) same) ∙ reason))
    ]

many : (a : Automaton) (ids : List ℕ) → Cause a ids TooManyEdges → 8388608 < sum_by (edges_of a) ids
many a ids (inl memory) = absurd (cc memory)
many a ids (inr edges) = edges.1

one_cause : (a : Automaton) (ids : List ℕ) (fault : ArenaFault) → Cause a ids fault → (fault ≡ OutOfMemory) ⊎ (fault ≡ TooManyEdges)
one_cause a ids fault (inl memory) = inl memory
one_cause a ids fault (inr edges) = inr edges.0

same_fault : {T : Type 0} (r : Result T ArenaFault) (e passed : ArenaFault) → r ≡ Err passed → passed ≡ e → r ≡ Err TooManyEdges → e ≡ TooManyEdges
same_fault r e passed is same many = cc (is, same, many)

pub returns-in_err-add_vertex-clause-many : goal.returns-in_err-add_vertex-clause-many
returns-in_err-add_vertex-clause-many c = λ is.
    let a = c.args.automaton.now in
    let ids = c.args.identifiers.now in
    let p = err_from_is_err_and c.from_residual.result c.from_residual.ensures.1 in
    many a ids (subst (Cause a ids) (same_fault _ c.in_err-add_vertex.field-0.0 p.0 p.1 p.2 is)
    (cause a ids c.loop-identifier.identifier-index c.loop-identifier.builder c.in_err-add_vertex.field-0.0 c.requires.laid.automaton c.requires.listed
    c.loop-identifier-test.true c.requires.vertices c.loop-identifier.invariant.lines c.in_err-add_vertex.ensures.answer))

pub returns-in_err-add_vertex-clause-fault : goal.returns-in_err-add_vertex-clause-fault
returns-in_err-add_vertex-clause-fault c =
    let a = c.args.automaton.now in
    let ids = c.args.identifiers.now in
    let p = err_from_is_err_and c.from_residual.result c.from_residual.ensures.1 in
    subst (λ (r : Result (List GameVertex) ArenaFault). IfErr r (λ e. (e ≡ OutOfMemory) ⊎ (e ≡ TooManyEdges))) (sym p.1)
    (subst (λ (e : ArenaFault). (e ≡ OutOfMemory) ⊎ (e ≡ TooManyEdges)) (sym p.2) (one_cause a ids c.in_err-add_vertex.field-0.0
    (cause a ids c.loop-identifier.identifier-index c.loop-identifier.builder c.in_err-add_vertex.field-0.0 c.requires.laid.automaton c.requires.listed
    c.loop-identifier-test.true c.requires.vertices c.loop-identifier.invariant.lines c.in_err-add_vertex.ensures.answer)))

pub loop-identifier-preserved : goal.loop-identifier-preserved
loop-identifier-preserved c =
    let a = c.args.automaton.now in
    let ids = c.args.identifiers.now in
    let k = c.loop-identifier.identifier-index in
    let line = line_at a (get_or ids k 0) in
    let follows = few_follow a ids k (sym (ap (λ (ls : List Line). add_fault ls line) c.loop-identifier.invariant.lines) ∙ c.in_ok-add_vertex.ensures.answer) in
    record {
      lines = c.in_ok-add_vertex.ensures.added ∙ ap (λ (ls : List Line). ls ++ line ∷ []) c.loop-identifier.invariant.lines
          ∙ sym (map_more (line_at a) ids k 0 c.loop-identifier-test.true);
      few = omega (arith, sum_by_more (edges_of a) ids k 0 c.loop-identifier-test.true, follows);
    }

only_memory : (r : Result (List GameVertex) ArenaFault) (game : List GameVertex) → MatchResult r (λ g. g ≡ game) (λ e. e ≡ OutOfMemory)
    → IfErr r (λ e. e ≡ OutOfMemory)
only_memory (Ok g) game h = tt
only_memory (Err e) game h = h

-- once all vertices are added, only memory can be refused
finished : (a : Automaton) (ids : List ℕ) (lines : List Line) (k : ℕ) (r : Result (List GameVertex) ArenaFault) → IsAutomaton a → ids ≡ game_identifiers a
    → lines ≡ map (line_at a) (take k ids) → length ids ≤ k
    → ((game : List GameVertex) → IsGameOf lines game → MatchResult r (λ g. g ≡ game) (λ e. e ≡ OutOfMemory)) → IfErr r (λ e. e ≡ OutOfMemory)
finished a ids lines k r is listed added end only =
    let all : lines ≡ game_lines a = added ∙ ap (map (line_at a)) (take_all k ids end ∙ listed) in
    only_memory r (linked_game a) (only (linked_game a) (subst (λ (ls : List Line). IsGameOf ls (linked_game a)) (sym all) (linked_is a is)))

not_many : (r : Result (List GameVertex) ArenaFault) → IfErr r (λ e. e ≡ OutOfMemory) → r ≢ Err TooManyEdges
not_many (Ok g) h = λ is. cc is
not_many (Err e) h = λ is. cc (h, is)

memory_first : (r : Result (List GameVertex) ArenaFault) → IfErr r (λ e. e ≡ OutOfMemory) → IfErr r (λ e. (e ≡ OutOfMemory) ⊎ (e ≡ TooManyEdges))
memory_first (Ok g) h = tt
memory_first (Err e) h = inl h

pub returns-clause-many : goal.returns-clause-many
returns-clause-many c = λ is. absurd (not_many c.finish.result (finished c.args.automaton.now c.args.identifiers.now c.loop-identifier.builder
    c.loop-identifier.identifier-index c.finish.result c.requires.laid.automaton c.requires.listed c.loop-identifier.invariant.lines
    c.loop-identifier-test.false c.finish.ensures.only) is)

pub returns-clause-fault : goal.returns-clause-fault
returns-clause-fault c = memory_first c.finish.result (finished c.args.automaton.now c.args.identifiers.now c.loop-identifier.builder
    c.loop-identifier.identifier-index c.finish.result c.requires.laid.automaton c.requires.listed c.loop-identifier.invariant.lines
    c.loop-identifier-test.false c.finish.ensures.only)
