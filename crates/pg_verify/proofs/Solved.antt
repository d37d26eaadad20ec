-- Where Even wins from the start, each word is accepted.
use Rattle.std.proofs.Common.{◌≡◌, ℕ, zero, suc, ◌+◌, ◌<◌, ◌⊎◌, inl, inr, List, length, Some, None}
use Rattle.std.proofs.Common.{arith, refl, sym, subst, ap, ◌∙◌}
use Rattle.pg_arena.specs.declared.player.Player.TheVariants.{Even}
use Rattle.pg_arena.specs.Games.{GameVertex, IsEdge, owner, opponent, priority}
use Rattle.pg_check.specs.Plays.{IsPlay, WinsPlay}
use Rattle.pg_check.specs.Soundness.{Counts, IsSound}
use Rattle.pg_check.proofs.Cycles.{edge_from, safe_from_sound}
use Rattle.pg_check.proofs.Wins.{wins}
use Rattle.pg_text.specs.declared.answer.Answer as solutions
use Rattle.pg_text.specs.Solutions.{IsSolution, winner, loser, choice}
use Rattle.pg_hoa_automaton.specs.Automata.{Automaton, IsAutomaton, next}
use Rattle.pg_synth.specs.Answers.{IsSynthGame}
use Rattle.pg_synth.specs.AutomatonGames.{IsGameOfAutomaton, Moves, StandsFor, arrival_of, output_letters}
use Rattle.pg_synth.specs.Letters.{joined}
use Rattle.pg_synth.specs.Laws.{TracesOnePlay}
use Rattle.pg_synth.specs.Tracing.{Traces}
use Rattle.pg_synth.specs.declared.place.Place.{Place}
use Rattle.pg_synth.specs.declared.place.Place.TheVariants.{Dead, Arrival, Answer}
use Rattle.pg_synth.proofs.Deciding.{traces_one}
use Rattle.pg_synth.proofs.Trace.{one_vertex}
use Rattle.pg_verify.specs.Mirrors.Lassos.{AcceptsEach}

-- the dead place and answers
abbrev pub IsSingle : Place → Type 0
IsSingle Dead = Unit {0}
IsSingle (Answer q i) = Unit {0}
IsSingle (Arrival q set) = ⊥

one_move : (p : Automaton) (x y z : Place) → output_letters p ≡ 1 → IsSingle x → Moves p x y → Moves p x z → y ≡ z
one_move p Dead y z one h m n = m ∙ sym n
one_move p (Answer q i) y z one h (o, lt, e) (o', lt', e') =
    let same : o ≡ o' = omega arith in e ∙ ap (λ o. arrival_of p.shape (next p q (joined p.controllable i o))) same ∙ sym e'
one_move p (Arrival q set) y z one h m n = absurd h

pub one_way : (p : Automaton) (game : List GameVertex) (v w u : ℕ) (x : Place) → IsGameOfAutomaton p game → output_letters p ≡ 1
    → StandsFor p game v x → IsSingle x → IsEdge game v w → IsEdge game v u → w ≡ u
one_way p game v w u x g one s single e f =
    let a = (g.edges v w x s).0 e in
    let b = (g.edges v u x s).0 f in
    one_vertex p game g.is_game w u a.0 a.2 (subst (StandsFor p game u) (one_move p x b.0 a.0 one single b.1 a.1) b.2)

-- where Even wins, every edge counts
even_counts : (p : Automaton) (game : List GameVertex) (solution : List solutions.Answer) → IsGameOfAutomaton p game → output_letters p ≡ 1
    → IsSolution game solution → (v w : ℕ) → winner solution v ≡ Even → IsEdge game v w → Counts game solution v w
even_counts p game solution g one sol v w even e = (e, go x.0 x.1)
  where
    lt : v < length game
    lt = edge_from game v w e

    x : (x : Place) × StandsFor p game v x
    x = g.each_vertex v lt

    go : (x : Place) → StandsFor p game v x → (owner game v ≡ loser solution v) ⊎ (choice solution v ≡ Some w)
    go Dead s = inl (s.owned ∙ sym (ap opponent even))
    go (Arrival q set) s = inl (s.owned ∙ sym (ap opponent even))
    go (Answer q i) s =
        let c = sol.chosen v lt (s.owned ∙ sym even) in
        inr (c.1 ∙ ap Some (one_way p game v c.0 w (Answer q i) g one s tt c.2 e))

pub accepts_each : (p : Automaton) (game : List GameVertex) (initial : ℕ) (solution : List solutions.Answer) → IsAutomaton p
    → IsSynthGame p game initial → output_letters p ≡ 1 → IsSolution game solution → IsSound game solution → winner solution initial ≡ Even
    → AcceptsEach p
accepts_each p game initial solution is synth one sol sound even condition fits word letters_in =
    (traced.decides condition fits play tr).1
    (subst (λ q. WinsPlay q (λ u. priority game (play u))) start_even (wins game solution g.is_game sound (play 0) play refl follows).1)
  where
    g : IsGameOfAutomaton p game
    g = synth.is_game_of

    traced : TracesOnePlay p game word
    traced = traces_one p game word is g letters_in

    play : ℕ → ℕ
    play = traced.traced.0

    tr : Traces p game word play
    tr = traced.traced.1

    start_even : winner solution (play 0) ≡ Even
    start_even = ap (winner solution) (one_vertex p game g.is_game (play 0) initial (Arrival p.start None) (tr.arrivals 0) synth.begins) ∙ even

    stays : (u : ℕ) → winner solution (play u) ≡ Even
    stays zero = start_even
    stays (suc u) =
        let f : u + 1 ≡ suc u = omega arith in
        subst (λ x. winner solution (play x) ≡ Even) f
        ((safe_from_sound game solution sound).none_leaves (play u) (play (u + 1))
        (even_counts p game solution g one sol (play u) (play (u + 1)) (stays u) (tr.goes_on u)) ∙ stays u)

    follows : IsPlay (Counts game solution) play
    follows u = even_counts p game solution g one sol (play u) (play (u + 1)) (stays u) (tr.goes_on u)
