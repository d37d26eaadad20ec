-- An automaton made of what a text says and a table of steps.
use Rattle.pg_hoa.proofs.Common.{◌≡◌, ◌∙◌, ◌≤◌, ◌<◌, ◌*◌, ◌^◌, ℕ, Bool, List, [], ◌∷◌, length, map, sym, ap, subst, arith, nat_tests, ◌==◌}
use Rattle.pg_hoa.proofs.Common.{All, AllByRecursion, flat_map, list_any, All-from_recursion, length-map-range_with_len, Shape, Table}
use Rattle.pg_hoa.proofs.Common.{Formula, FitsShape, Automaton, IsAutomaton, IsPropositionName, IsStepOf, letters, rows, next, StateLine}
use Rattle.pg_hoa.proofs.Common.{LineFits, Written, Says, controls, KeptLine, kept_of_line, Declares, bare_automaton, Spelt, IsUndetermined}
use Rattle.pg_hoa.proofs.Common.{Agree, head, steps_of, kept_steps, IsTableOf, IsFirstConflict}
use Rattle.pg_hoa_automaton.specs.Mirrors.Tables as tables
use Rattle.pg_hoa.proofs.TableLaws.{written_steps}
use Rattle.pg_hoa.proofs.GoodSteps.{kept_good}

-- an automaton like this one, with the steps of a table
pub record IsOf (b : Automaton) (t : Table) (a : Automaton) : Type 0 where
  pub states : a.states ≡ t.states
  pub start : a.start ≡ b.start
  pub propositions : a.propositions ≡ b.propositions
  pub controllable : a.controllable ≡ b.controllable
  pub sets : a.sets ≡ b.sets
  pub shape : a.shape ≡ b.shape
  pub steps : (q l : ℕ) → next a q l ≡ tables.next t q l
  pub all : a.steps ≡ rows (tables.next t) t.states t.letters

-- ---- what a text says is good for a table

states_kept : (n propositions sets : ℕ) (lines : List StateLine) → AllByRecursion (LineFits n propositions sets) lines
    → AllByRecursion (λ (l : KeptLine). l.state < n) (map kept_of_line lines)
states_kept n propositions sets [] fit = tt
states_kept n propositions sets (l ∷ lines) fit = (fit.0.state, states_kept n propositions sets lines fit.1)

-- each line is of a state
pub lines_below : (bytes : List ℕ) (b : Automaton) (lines : List KeptLine) → Declares bytes b lines → All (λ l. l.state < b.states) lines
lines_below bytes b lines d = subst (All (λ (l : KeptLine). l.state < b.states)) d.kept
    (All-from_recursion (λ (l : KeptLine). l.state < b.states) (map kept_of_line d.written.lines)
    (states_kept b.states (length b.propositions) b.sets d.written.lines d.says.lines))

-- ---- an automaton

-- what a table makes an automaton of
record CanAssemble (b : Automaton) (lines : List KeptLine) : Type 0 where
  start_below : b.start < b.states
  few_states : b.states ≤ 65535
  few_propositions : length b.propositions ≤ 16
  few_sets : b.sets ≤ 4096
  few_steps : b.states * 2 ^ length b.propositions ≤ 16777216
  marks : length b.controllable ≡ length b.propositions
  names : AllByRecursion IsPropositionName b.propositions
  condition : Formula
  shape : FitsShape condition b.sets b.shape
  steps : (state letter : ℕ) → AllByRecursion (IsStepOf b.states b.sets) (kept_steps lines state letter)

can_assemble : (bytes : List ℕ) (b : Automaton) (lines : List KeptLine) → Declares bytes b lines → CanAssemble b lines
can_assemble bytes b lines d =
    let says = d.says in
    let numbers : List ℕ = flat_map (λ x. x) (flat_map controls d.written.headers) in
    record {
      start_below = says.start_below;
      few_states = says.few_states;
      few_propositions = says.few_propositions;
      few_sets = says.few_sets;
      few_steps = says.few_steps;
      marks = ap length says.controllable
          ∙ length-map-range_with_len (λ (p : ℕ). list_any (λ (n : ℕ). n == p) numbers) 0 (length b.propositions);
      names = says.good_names;
      condition = says.condition;
      shape = says.shape.fits;
      steps = λ state letter. kept_good b.states (length b.propositions) b.sets state letter d.written.lines lines d.kept says.lines;
    }

assembles : (b : Automaton) (lines : List KeptLine) (t : Table) (a : Automaton) → CanAssemble b lines
    → IsTableOf b.shape lines b.states (2 ^ length b.propositions) t → IsOf b t a → IsAutomaton a
assembles b lines t a can table is = grind (arith, nat_tests)

pub table_is_automaton : (bytes : List ℕ) (b : Automaton) (lines : List KeptLine) (t : Table) (a : Automaton) → Declares bytes b lines
    → IsTableOf b.shape lines b.states (2 ^ length b.propositions) t → IsOf b t a → IsAutomaton a
table_is_automaton bytes b lines t a d table is = assembles b lines t a (can_assemble bytes b lines d) table is

-- ---- the one that is spelt

same_automaton : (states states2 start start2 : ℕ) (propositions propositions2 : List (List ℕ)) (controllable controllable2 : List Bool)
    (sets sets2 : ℕ) (shape shape2 : Shape)
    → states ≡ states2 → start ≡ start2 → propositions ≡ propositions2 → controllable ≡ controllable2 → sets ≡ sets2 → shape ≡ shape2
    → bare_automaton states start propositions controllable sets shape
    ≡ bare_automaton states2 start2 propositions2 controllable2 sets2 shape2
same_automaton states states2 start start2 propositions propositions2 controllable controllable2 sets sets2 shape shape2 p q r s t u = cc

table_says : (w : Written) (b : Automaton) (t : Table) (a : Automaton) → t.states ≡ b.states → IsOf b t a → Says w b → Says w a
table_says w b t a e is says =
    grind (
      arith,
      nat_tests,
      same_automaton
          b.states a.states b.start a.start b.propositions a.propositions b.controllable a.controllable b.sets a.sets b.shape a.shape
          (sym (is.states ∙ e)) (sym is.start) (sym is.propositions) (sym is.controllable) (sym is.sets) (sym is.shape),
    )

-- all steps of the automaton
all_steps : (b : Automaton) (lines : List KeptLine) (t : Table) (a : Automaton)
    → IsTableOf b.shape lines b.states (2 ^ length b.propositions) t
    → IsOf b t a → a.steps ≡ rows (next a) a.states (letters a)
all_steps b lines t a table is = grind (arith, nat_tests)

pub table_spelt : (bytes : List ℕ) (b : Automaton) (lines : List KeptLine) (t : Table) (a : Automaton) → Declares bytes b lines
    → IsTableOf b.shape lines b.states (2 ^ length b.propositions) t → IsOf b t a → Spelt bytes a
table_spelt bytes b lines t a d table is =
    let same = λ (q l : ℕ). written_steps d.written.lines lines q l d.kept in
    let states : a.states ≡ b.states = is.states ∙ table.states_are in
    let letter_of = λ (letter : ℕ) (below : letter < 2 ^ length a.propositions).
    subst (λ (ns : List (List ℕ)). letter < 2 ^ length ns) is.propositions below in
    let state_of = λ (state : ℕ) (below : state < a.states). subst (λ (n : ℕ). state < n) states below in
    record {
      written = d.written;
      text = d.text;
      says = table_says d.written b t a table.states_are is d.says;
      deterministic = λ state letter below letter_below.
          subst (λ (shape : Shape). Agree shape (steps_of d.written.lines state letter)) (sym is.shape)
          (subst (Agree b.shape) (same state letter) (table.agrees state letter (state_of state below) (letter_of letter letter_below)));
      leads = λ state letter below letter_below.
          is.steps state letter ∙ table.next_is state letter (state_of state below) (letter_of letter letter_below)
          ∙ ap head (same state letter);
      all = all_steps b lines t a table is;
    }

pub first_undetermined : (bytes : List ℕ) (b : Automaton) (lines : List KeptLine) (state letter : ℕ) → Declares bytes b lines
    → IsFirstConflict b.shape lines b.states (2 ^ length b.propositions) state letter → IsUndetermined bytes state letter
first_undetermined bytes b lines state letter d conflict =
    let same = λ (q l : ℕ). written_steps d.written.lines lines q l d.kept in
    record {
      written = d.written;
      automaton = b;
      text = d.text;
      says = d.says;
      state_below = conflict.state_below;
      letter_below = conflict.letter_below;
      fails = λ agree. conflict.fails (subst (Agree b.shape) (sym (same state letter)) agree);
      before_state = λ q l before below. subst (Agree b.shape) (same q l) (conflict.before_state q l before below);
      before_letter = λ l before. subst (Agree b.shape) (same state l) (conflict.before_letter l before);
    }
