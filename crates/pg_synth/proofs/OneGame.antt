-- An automaton has at most one game.
use Rattle.pg_synth.proofs.Common.{◌≡◌, ℕ, suc, ◌<◌, List, [], ◌∷◌, length, slice_index_or, arith, refl, sym, subst, ap, ◌∙◌}
use Rattle.pg_synth.proofs.Common.{Contains, get_or_default, Contains-get_or}
use Rattle.pg_synth.proofs.Common.{GameVertex, IsEdge, vertex_at, identifiers, successors, rising_same, same_vertex, Automaton, StandsFor}
use Rattle.pg_synth.proofs.Common.{IsGameOfAutomaton, Place}
use Rattle.pg_synth.proofs.Trace.{identifiers_long, identifier_at, one_number}

same_list : (xs ys : List GameVertex) → length xs ≡ length ys → ((v : ℕ) → v < length xs → vertex_at xs v ≡ vertex_at ys v) → xs ≡ ys
same_list [] [] long same = refl
same_list [] (y ∷ ys) long same = absurd (omega arith)
same_list (x ∷ xs) [] long same = absurd (omega arith)
same_list (x ∷ xs) (y ∷ ys) long same =
    let one : x ≡ y = same 0 (omega arith) in
    let others : xs ≡ ys = same_list xs ys (omega arith) (λ v l. same (suc v) (omega arith)) in
    rw (one, others) refl

-- a number of the one is a number of the other
passes : (a : Automaton) (game other : List GameVertex) → IsGameOfAutomaton a game → IsGameOfAutomaton a other → (q : ℕ)
    → Contains (identifiers game) q → Contains (identifiers other) q
passes a game other g o q (v, l, e) =
    let long = identifiers_long game in
    let below : v < length game = omega arith in
    let x = g.each_vertex v below in
    let w = o.each_place x.0 x.1.is_place in
    let at : slice_index_or (identifiers game) v 0 ≡ (vertex_at game v).identifier = identifier_at game v below in
    let at' : slice_index_or (identifiers other) w.0 0 ≡ (vertex_at other w.0).identifier = identifier_at other w.0 w.1.in_game in
    let is : slice_index_or (identifiers game) v 0 ≡ q = get_or_default (identifiers game) v 0 q l ∙ e in
    let long' = identifiers_long other in
    let within : w.0 < length (identifiers other) = omega (arith, w.1.in_game) in
    subst (Contains (identifiers other)) (at' ∙ w.1.identified ∙ sym x.1.identified ∙ sym at ∙ is)
    (Contains-get_or (identifiers other) w.0 0 within)

same_identifiers : (a : Automaton) (game other : List GameVertex) → IsGameOfAutomaton a game → IsGameOfAutomaton a other → identifiers game ≡ identifiers other
same_identifiers a game other g o =
    rising_same (identifiers game) (identifiers other) g.is_game.rising o.is_game.rising
    (passes a game other g o) (passes a other game o g)

-- what a vertex stands for in the one it stands for in the other
also : (a : Automaton) (game other : List GameVertex) → IsGameOfAutomaton a game → IsGameOfAutomaton a other → (v : ℕ) (x : Place)
    → StandsFor a game v x → StandsFor a other v x
also a game other g o v x s =
    let w = o.each_place x s.is_place in
    let ids = same_identifiers a game other g o in
    let long = identifiers_long game in
    let long' = identifiers_long other in
    let same_long : length (identifiers game) ≡ length (identifiers other) = ap length ids in
    let below : v < length game = s.in_game in
    let below' : w.0 < length other = w.1.in_game in
    let y = o.each_vertex v (omega arith) in
    let e : (vertex_at other v).identifier ≡ (vertex_at other w.0).identifier =
    sym (identifier_at other v y.1.in_game) ∙ ap (λ i. slice_index_or i v 0) (sym ids) ∙ identifier_at game v below ∙ s.identified ∙ sym w.1.identified in
    subst (λ u. StandsFor a other u x) (sym (one_number other o.is_game v w.0 y.1.in_game below' e)) w.1

same_edges : (a : Automaton) (game other : List GameVertex) → IsGameOfAutomaton a game → IsGameOfAutomaton a other → (v w : ℕ) → v < length game
    → IsEdge game v w → IsEdge other v w
same_edges a game other g o v w l h =
    let x = g.each_vertex v l in
    let y = (g.edges v w x.0 x.1).0 h in
    (o.edges v w x.0 (also a game other g o v x.0 x.1)).1 (y.0, y.1, also a game other g o w y.0 y.2)

pub one_game : (a : Automaton) (first second : List GameVertex) → IsGameOfAutomaton a first → IsGameOfAutomaton a second → first ≡ second
one_game a first second g o =
    let long : length first ≡ length second = sym (identifiers_long first) ∙ ap length (same_identifiers a first second g o) ∙ identifiers_long second in
    same_list first second long (λ v l.
    let x = g.each_vertex v l in
    let s = x.1 in
    let t = also a first second g o v x.0 s in
    same_vertex (vertex_at first v) (vertex_at second v) (s.identified ∙ sym t.identified) (s.prioritised ∙ sym t.prioritised)
    (s.owned ∙ sym t.owned)
    (rising_same (successors first v) (successors second v) (g.is_game.successors_rise v) (o.is_game.successors_rise v)
    (λ w h. same_edges a first second g o v w l h) (λ w h. same_edges a second first o g v w t.in_game h))
    (s.named ∙ sym t.named))
