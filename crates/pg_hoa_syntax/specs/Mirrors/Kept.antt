-- What the reader keeps of headers and lines: labels and conditions as operations, and no names of states.
use Rattle.std.specs.Prelude.{ℕ, suc, max, Bool, true, false, List, [], ◌∷◌, map, Option, Some, None}
use Rattle.std.specs.List.{fold, filter}
use Rattle.pg_hoa_syntax.specs.declared.formula.Op.{Op}
use Rattle.pg_hoa_syntax.specs.declared.formula.Op.TheVariants.{No}
use Rattle.pg_hoa_syntax.specs.declared.body.ReadEdge as read_edge
use Rattle.pg_hoa_syntax.specs.declared.body.ReadState as read_line
use Rattle.pg_hoa_syntax.specs.declared.header.Head as read_head
use Rattle.pg_hoa_syntax.specs.Mirrors.FormulaRun.{postfix}
use Rattle.pg_hoa_syntax.specs.Syntax.{Edge, StateLine, set_list}
use Rattle.pg_list_lemmas.specs.Rising.{rising}

pub record KeptEdge : Type 0 where
  pub label : List Op
  pub target : ℕ
  pub sets : List ℕ

-- `greatest` is the greatest state that the line names
pub record KeptLine : Type 0 where
  pub state : ℕ
  pub greatest : ℕ
  pub sets : List ℕ
  pub edges : List KeptEdge

abbrev pub edge_in : read_edge.ReadEdge → KeptEdge
edge_in e = record { label = e.label.items; target = e.target; sets = e.sets.items }

abbrev pub line_in : read_line.ReadState → KeptLine
line_in l = record { state = l.state; greatest = l.greatest; sets = l.sets.items; edges = map edge_in l.edges.items }

-- a letter may match the label: it isn't the constant that no letter matches
abbrev pub may_hold : List Op → Bool
may_hold (No ∷ []) = false
may_hold ops = true

-- the edges of a state that are kept: those whose labels a letter may match
abbrev pub kept_edges : List KeptEdge → List KeptEdge
kept_edges edges = filter (λ e. may_hold e.label) edges

-- the greatest of the state and the states that the edges lead to
abbrev pub greatest_of : ℕ → List KeptEdge → ℕ
greatest_of state edges = fold max state (map (λ e. e.target) edges)

-- what is kept of an edge and a line as they are written
abbrev pub kept_of_edge : Edge → KeptEdge
kept_of_edge e = record { label = postfix e.letter; target = e.target; sets = rising (set_list e.sets) }

abbrev pub kept_of_line : StateLine → KeptLine
kept_of_line l = record {
  state = l.state;
  greatest = greatest_of l.state (map kept_of_edge l.edges);
  sets = rising (set_list l.sets);
  edges = kept_edges (map kept_of_edge l.edges);
}

abbrev pub count_named : ℕ → List KeptLine → ℕ
count_named start lines = suc (fold max 0 (start ∷ map (λ l. l.greatest) lines))

-- the contents of each header that comes at most once
pub record KeptHead : Type 0 where
  pub states : Option ℕ
  pub start : Option ℕ
  pub names : Option (List (List ℕ))
  pub controls : Option (List ℕ)
  pub acceptance : Option (ℕ × List Op)

abbrev pub option_with : {A B : Type 0} → (A → B) → Option A → Option B
option_with f None = None
option_with f (Some x) = Some (f x)

abbrev pub head_in : read_head.Head → KeptHead
head_in h = record {
  states = h.states;
  start = option_with (λ x. x.0) h.start;
  names = option_with (λ v. map (λ name. name.items) v.items) h.names;
  controls = option_with (λ v. map (λ x. x.0) v.items) h.controls;
  acceptance = option_with (λ x. (x.0, x.1.items)) h.acceptance;
}
