-- The answers of `measure`, `solve`, `synth`, `replay` and `game` are functions of the input.
use Rattle.pg_cli_command.proofs.Common.{◌≡◌, ◌⊎◌, ℕ, ◌<◌, ◌≤◌, List, length, Option, Some, None, refl, sym, ap, ap₂, subst, inl, inr, ◌∙◌}
use Rattle.pg_cli_command.proofs.Common.{arith, IsSome, same_lists, get_or_default, Player, Even, Odd, GameVertex, IsWithinLimits, opponent}
use Rattle.pg_cli_command.proofs.Common.{owner, identifier, dual, BoundList, MeasureValue, OneListOfBounds, game_line, MapValue, measure_at}
use Rattle.pg_cli_command.proofs.Common.{IsLeastProgressMeasure, ClosedIsLeast, Answer, SpellsOneGame, answer_at, unanswered, solution_text}
use Rattle.pg_cli_command.proofs.Common.{HasList, IsChoiceFor, IsAnswerOf, IsSolutionOf, IsLeastUndecided, IsMeasureOf, IsMeasured}
use Rattle.pg_cli_command.proofs.Common.{measures_text, IsSolvedBy, IsUndecidedIn, IsGameFor, IsSynthesised, OneAnswer, Automaton, OneReading}
use Rattle.pg_cli_command.proofs.Common.{IsGameOfAutomaton, game_text}
use Rattle.pg_cli_command.proofs.OneWorld as world
use Rattle.pg_synth.proofs.OneGame as synth

module _ (one_bounds : OneListOfBounds) (least : ClosedIsLeast) where
  -- two equal games have one least progress measure
  one_map : (game other : List GameVertex) (f g : MapValue) → game ≡ other → IsMeasureOf game f → IsMeasureOf other g → f ≡ g
  one_map game other f g same of of_other =
      let of' : IsMeasureOf game g = subst (λ (x : List GameVertex). IsMeasureOf x g) (sym same) of_other in
      let bounds : f.bounds ≡ g.bounds = one_bounds game f.bounds g.bounds of.bounds of'.bounds in
      let is_least : IsLeastProgressMeasure f.bounds (length game) (game_line game) g.measures =
      subst (λ (b : BoundList). IsLeastProgressMeasure b (length game) (game_line game) g.measures) (sym bounds) of'.least in
      let measures : f.measures ≡ g.measures = least.one f.bounds (game_line game) (length game) f.measures g.measures of.least is_least in
      ap₂ (λ (b : BoundList) (m : List MeasureValue). record { bounds = b; measures = m }) bounds measures

  pub one_measured : SpellsOneGame → (input first second : List ℕ) → IsMeasured IsMeasureOf input first → IsMeasured IsMeasureOf input second → first ≡ second
  one_measured one_game input first second p q =
      let same : p.game ≡ q.game = one_game input q.game p.game q.spelt p.spelt in
      let map : p.map ≡ q.map = one_map p.game q.game p.map q.map same p.found q.found in
      p.printed ∙ ap₂ (λ (x : List GameVertex) (f : MapValue). measures_text x f.measures) same map ∙ sym q.printed

-- a player is this one or the other
one_of : (own won : Player) → (own ≡ won) ⊎ (own ≡ opponent won)
one_of Even Even = inl refl
one_of Odd Odd = inl refl
one_of Even Odd = inr refl
one_of Odd Even = inr refl

-- two maps give a vertex one answer
one_answer_at : (game : List GameVertex) (f g : MapValue) (v : ℕ) (a b : Answer) → IsAnswerOf game f g v a → IsAnswerOf game f g v b → a ≡ b
one_answer_at game f g v a b p q =
    ap₂ (λ (w : Player) (c : Option ℕ). record { winner = w; choice = c }) (sym won) (chosen (one_of (owner game v) a.winner))
  where
    won : b.winner ≡ a.winner
    won = (q.wins a.winner).1 ((p.wins a.winner).0 refl)

    chosen : (owner game v ≡ a.winner) ⊎ (owner game v ≡ opponent a.winner) → a.choice ≡ b.choice
    chosen (inl own) =
        let c = p.chosen own in
        let d = q.chosen (own ∙ sym won) in
        let first : IsChoiceFor a.winner game f g v c.0 = c.2 in
        let other : IsChoiceFor a.winner game f g v d.0 = subst (λ (w : Player). IsChoiceFor w game f g v d.0) won d.2 in
        let below : c.0 ≤ d.0 = first.first d.0 other.follows other.serves in
        let above : d.0 ≤ c.0 = other.first c.0 first.follows first.serves in
        let same : c.0 ≡ d.0 = omega arith in
        c.1 ∙ ap Some same ∙ sym d.1
    chosen (inr other) =
        p.elsewhere other ∙ sym (q.elsewhere (other ∙ ap opponent (sym won)))

one_solution : (game : List GameVertex) (f g : MapValue) (s t : List Answer) → IsSolutionOf game f g s → IsSolutionOf game f g t → s ≡ t
one_solution game f g s t p q =
    same_lists s t (p.whole ∙ sym q.whole) (λ k d lt.
    let within : k < length game = omega (arith, p.whole) in
    let there : k < length t = omega (arith, q.whole) in
    sym (get_or_default s k unanswered d lt)
    ∙ one_answer_at game f g k (answer_at s k) (answer_at t k) (p.answers k within) (q.answers k within)
    ∙ get_or_default t k unanswered d there)

-- no player has a list where both measures are top
no_list : (player : Player) (f g : MapValue) (v : ℕ) → measure_at f.measures v ≡ None → measure_at g.measures v ≡ None → ¬ HasList player f g v
no_list Even f g v even odd has = let bad : IsSome {T = List ℕ} None = subst (λ (m : MeasureValue). IsSome m) even has in (cc)
no_list Odd f g v even odd has = let bad : IsSome {T = List ℕ} None = subst (λ (m : MeasureValue). IsSome m) odd has in (cc)

decided_by : (game : List GameVertex) (f g : MapValue) (solution : List Answer) (id : ℕ) → IsSolutionOf game f g solution → ¬ IsLeastUndecided game f g id
decided_by game f g solution id of least =
    let v = least.vertex in
    let at = of.answers v least.undecided.within in
    let won : Player = (answer_at solution v).winner in
    no_list won f g v least.undecided.game_map least.undecided.dual_map ((at.wins won).0 refl)

one_undecided : (game : List GameVertex) (f g : MapValue) (id other : ℕ) → IsLeastUndecided game f g id → IsLeastUndecided game f g other → id ≡ other
one_undecided game f g id other p q =
    let below = p.least q.vertex q.undecided in
    let above = q.least p.vertex p.undecided in
    let same : p.vertex ≡ q.vertex = omega arith in
    p.named ∙ ap (identifier game) same ∙ sym q.named

module _ (one_bounds : OneListOfBounds) (least : ClosedIsLeast) where
  -- a game has one solution of its least progress measures
  pub one_solved : (game : List GameVertex) (first second : List Answer) → IsSolvedBy IsMeasureOf game first → IsSolvedBy IsMeasureOf game second
      → first ≡ second
  one_solved game first second p q =
      let even = one_map one_bounds least game game p.even q.even refl p.even_found q.even_found in
      let odd = one_map one_bounds least (dual game) (dual game) p.odd q.odd refl p.odd_found q.odd_found in
      one_solution game p.even p.odd first second p.solution_of
      (subst (λ (f : MapValue). IsSolutionOf game f p.odd second) (sym even)
      (subst (λ (g : MapValue). IsSolutionOf game q.even g second) (sym odd) q.solution_of))

  pub decided_in : (game : List GameVertex) (solution : List Answer) (id : ℕ) → IsSolvedBy IsMeasureOf game solution → ¬ IsUndecidedIn IsMeasureOf game id
  decided_in game solution id p q =
      let even = one_map one_bounds least game game p.even q.even refl p.even_found q.even_found in
      let odd = one_map one_bounds least (dual game) (dual game) p.odd q.odd refl p.odd_found q.odd_found in
      decided_by game p.even p.odd solution id p.solution_of
      (subst (λ (f : MapValue). IsLeastUndecided game f p.odd id) (sym even)
      (subst (λ (g : MapValue). IsLeastUndecided game q.even g id) (sym odd) q.undecided))

  one_undecided_in : (game : List GameVertex) (first second : ℕ) → IsUndecidedIn IsMeasureOf game first → IsUndecidedIn IsMeasureOf game second → first ≡ second
  one_undecided_in game first second p q =
      let even = one_map one_bounds least game game p.even q.even refl p.even_found q.even_found in
      let odd = one_map one_bounds least (dual game) (dual game) p.odd q.odd refl p.odd_found q.odd_found in
      one_undecided game p.even p.odd first second p.undecided
      (subst (λ (f : MapValue). IsLeastUndecided game f p.odd second) (sym even)
      (subst (λ (g : MapValue). IsLeastUndecided game q.even g second) (sym odd) q.undecided))

-- an input has one game
pub one_made : OneReading → (input : List ℕ) (game other : List GameVertex) → IsGameFor input game → IsGameFor input other → game ≡ other
one_made reading input game other p q =
    let same : q.automaton ≡ p.automaton = (reading input).automaton q.automaton p.automaton q.spelt p.spelt in
    synth.one_game p.automaton game other p.game_of
    (subst (λ (a : Automaton). IsGameOfAutomaton a other) same q.game_of)

pub one_answer : SpellsOneGame → OneListOfBounds → ClosedIsLeast → OneReading → world.Laws
    → ((input first second : List ℕ) → IsSynthesised IsMeasureOf input first → IsSynthesised IsMeasureOf input second → first ≡ second)
    → OneAnswer
one_answer one_game one_bounds least reading laws synthesised = record {
  measured = one_measured one_bounds least one_game;
  solved = λ input first second p q.
      let same : p.game ≡ q.game = one_game input q.game p.game q.spelt p.spelt in
      let solution : p.solution ≡ q.solution =
      one_solved one_bounds least p.game p.solution q.solution p.solved
      (subst (λ (x : List GameVertex). IsSolvedBy IsMeasureOf x q.solution) (sym same) q.solved) in
      p.printed ∙ ap₂ (λ (x : List GameVertex) (s : List Answer). solution_text x s) same solution ∙ sym q.printed;
  decided = λ input output id p q.
      let same : p.game ≡ q.game = one_game input q.game p.game q.spelt p.spelt in
      decided_in one_bounds least p.game p.solution id p.solved
      (subst (λ (x : List GameVertex). IsUndecidedIn IsMeasureOf x id) (sym same) q.undecided);
  undecided = λ input first second p q.
      let same : p.game ≡ q.game = one_game input q.game p.game q.spelt p.spelt in
      one_undecided_in one_bounds least p.game first second p.undecided
      (subst (λ (x : List GameVertex). IsUndecidedIn IsMeasureOf x second) (sym same) q.undecided);
  synthesised = synthesised;
  replayed = world.one_replayed laws;
  unrefused = world.unrefused laws;
  stopped = world.one_stop laws;
  made = λ input first second p q.
      p.printed ∙ ap game_text (one_made reading input p.game q.game p.made q.made) ∙ sym q.printed;
  within = λ input output p q.
      q.over (subst IsWithinLimits (one_made reading input p.game q.game p.made q.made) p.limits);
}
