-- Which automaton a text spells.
use Rattle.std.specs.Prelude.{◌≡◌, ℕ, ◌^◌, ◌<◌, ◌==◌, List, [], ◌∷◌, ◌++◌, length, map, Option, Some, None, if◌then◌else◌}
use Rattle.std.specs.List.{flat_map, filter, All}
use Rattle.std.specs.Int.{bit_at}
use Rattle.pg_list_lemmas.specs.Rising.{rising}
use Rattle.pg_hoa_automaton.specs.Formulas.{holds}
use Rattle.pg_hoa_automaton.specs.declared.shape.Shape.{Shape}
use Rattle.pg_hoa_automaton.specs.Automata.{Step, Automaton, letters, rows, next, deciding}
use Rattle.pg_hoa_syntax.specs.Syntax.{StateLine, Written, IsText, Says, SaysNone, set_list}
use Rattle.pg_hoa.specs.declared.fault.HoaFault.{HoaFault}
use Rattle.pg_hoa.specs.declared.fault.HoaFault.TheVariants.{OutOfMemory, NotDeterministic}

-- the steps of the edges of these lines that leave the state by the letter, in the order of the text
abbrev pub edge_steps : ℕ → ℕ → StateLine → List Step
edge_steps state letter l =
    if l.state == state
    then map (λ e. record { target = e.target; sets = rising (set_list l.sets ++ set_list e.sets) })
    (filter (λ e. holds e.letter (λ a. bit_at letter a == 1)) l.edges)
    else []

abbrev pub steps_of : List StateLine → ℕ → ℕ → List Step
steps_of lines state letter = flat_map (edge_steps state letter) lines

abbrev pub head : List Step → Option Step
head [] = None
head (s ∷ steps) = Some s

-- all matching edges agree on the target and on the set that counts
abbrev pub Agree : Shape → List Step → Type 0
Agree shape steps = All (λ s. All (λ t. (s.target ≡ t.target) × (deciding shape s.sets ≡ deciding shape t.sets)) steps) steps

abbrev pub IsDeterministicAt : Automaton → List StateLine → ℕ → ℕ → Type 0
IsDeterministicAt a lines state letter = Agree a.shape (steps_of lines state letter)

-- the bytes spell the automaton: it is deterministic, each step is that of the first edge that matches, and there are
-- no others
pub record Spelt (bytes : List ℕ) (a : Automaton) : Type 0 where
  pub written : Written
  pub text : IsText bytes written
  pub says : Says written a
  pub deterministic : (state letter : ℕ) → state < a.states → letter < 2 ^ length a.propositions
      → IsDeterministicAt a written.lines state letter
  pub leads : (state letter : ℕ) → state < a.states → letter < 2 ^ length a.propositions
      → next a state letter ≡ head (steps_of written.lines state letter)
  pub all : a.steps ≡ rows (next a) a.states (letters a)

-- the bytes are a text that is good except for its determinism, which fails at the state and letter and nowhere before
pub record IsUndetermined (bytes : List ℕ) (state letter : ℕ) : Type 0 where
  pub written : Written
  pub automaton : Automaton
  pub text : IsText bytes written
  pub says : Says written automaton
  pub state_below : state < automaton.states
  pub letter_below : letter < 2 ^ length automaton.propositions
  pub fails : IsDeterministicAt automaton written.lines state letter → ⊥
  pub before_state : (q l : ℕ) → q < state → l < 2 ^ length automaton.propositions → IsDeterministicAt automaton written.lines q l
  pub before_letter : (l : ℕ) → l < letter → IsDeterministicAt automaton written.lines state l

-- ---- what is refused

-- the bytes spell no automaton
abbrev pub SpellsNone : List ℕ → Type 0
SpellsNone bytes = (a : Automaton) → Spelt bytes a → ⊥

-- Memory may run out for any text. NotDeterministic comes if nothing else is wrong, and says where; each other fault
-- comes if something else is wrong.
abbrev pub IsRefused : List ℕ → HoaFault → Type 0
IsRefused bytes OutOfMemory = Unit {0}
IsRefused bytes (NotDeterministic state letter) = IsUndetermined bytes state letter × SpellsNone bytes
IsRefused bytes fault = SaysNone bytes × SpellsNone bytes
