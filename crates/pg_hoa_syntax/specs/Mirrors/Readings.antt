-- What the reader keeps of a whole text, and what that says.
use Rattle.std.specs.Prelude.{◌≡◌, ℕ, ◌*◌, ◌^◌, ◌≤◌, Bool, List, [], length, map, Option, Some, None}
use Rattle.pg_hoa_automaton.specs.declared.shape.Shape.{Shape}
use Rattle.pg_hoa_automaton.specs.Automata.{Automaton}
use Rattle.pg_hoa_syntax.specs.declared.fault.PartRefusal.{PartRefusal}
use Rattle.pg_hoa_syntax.specs.declared.fault.PartRefusal.TheVariants.{Memory, Wrong}
use Rattle.pg_hoa_syntax.specs.declared.syntax.Syntax.{Syntax}
use Rattle.pg_hoa_syntax.specs.Lexemes.{Lexeme}
use Rattle.pg_hoa_syntax.specs.Syntax.{Written, IsText, Says, SaysNone}
use Rattle.pg_hoa_syntax.specs.Mirrors.Kept.{KeptHead, KeptLine, count_named, line_in, kept_of_line}
use Rattle.pg_hoa_syntax.specs.Mirrors.HeaderScan.{headers_at}
use Rattle.pg_hoa_syntax.specs.Mirrors.BodyScan.{body_at}
use Rattle.pg_hoa_syntax.specs.Mirrors.Preambles.{Preamble, IsPreambleOf}

-- a state's number is below this
abbrev pub bound : Option ℕ → ℕ
bound None = 65535
bound (Some states) = states

-- the tokens are these headers and lines
pub record Reads (tokens : List Lexeme) (h : KeptHead) (s : Preamble) (lines : List KeptLine) : Type 0 where
  pub behind : List Lexeme
  pub headers : headers_at tokens ≡ Some (h, behind)
  pub preamble : IsPreambleOf h s
  pub body : body_at (bound s.states) (length s.names) s.sets behind ≡ Some (lines, [])

-- only running out of memory refuses tokens that can be read
abbrev pub NeverReads : List Lexeme → PartRefusal → Type 0
NeverReads tokens Memory = Unit {0}
NeverReads tokens (Wrong fault) = (h : KeptHead) (s : Preamble) (lines : List KeptLine) → Reads tokens h s lines → ⊥

-- the number of states is given, or else it is one more than the greatest number that is named
abbrev pub states_in : Option ℕ → ℕ → List KeptLine → ℕ
states_in None start lines = count_named start lines
states_in (Some states) start lines = states

abbrev pub state_count : Preamble → List KeptLine → ℕ
state_count s lines = states_in s.states s.start lines

abbrev pub letter_count : Preamble → ℕ
letter_count s = 2 ^ length s.names

-- few enough states and letters for a table
abbrev pub AreFew : Preamble → List KeptLine → Type 0
AreFew s lines = state_count s lines * letter_count s ≤ 16777216

-- ---- what a text says

-- an automaton without its steps
abbrev pub bare_automaton : ℕ → ℕ → List (List ℕ) → List Bool → ℕ → Shape → Automaton
bare_automaton states start propositions controllable sets shape = record {
  states = states;
  start = start;
  propositions = propositions;
  controllable = controllable;
  sets = sets;
  shape = shape;
  steps = [];
}

abbrev pub automaton : Syntax → Automaton
automaton s = bare_automaton s.states s.start (map (λ name. name.items) s.names.items) s.controllable.items s.sets s.shape

-- the bytes are a text that says this automaton, except for its steps, and these lines are kept of the text
pub record Declares (bytes : List ℕ) (a : Automaton) (lines : List KeptLine) : Type 0 where
  pub written : Written
  pub text : IsText bytes written
  pub says : Says written a
  pub kept : map kept_of_line written.lines ≡ lines

abbrev pub IsSyntaxOf : List ℕ → Syntax → Type 0
IsSyntaxOf bytes s = Declares bytes (automaton s) (map line_in s.lines.items)

-- only running out of memory refuses bytes that say an automaton
abbrev pub SaysNothing : List ℕ → PartRefusal → Type 0
SaysNothing bytes Memory = Unit {0}
SaysNothing bytes (Wrong fault) = SaysNone bytes
