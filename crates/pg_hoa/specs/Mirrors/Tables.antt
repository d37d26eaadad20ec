-- The steps that the lines of a text give, and a table of them by state and letter.
use Rattle.std.specs.Prelude.{◌≡◌, ℕ, zero, suc, ◌+◌, ◌-◌, ◌*◌, ◌/◌, ◌%◌, ◌^◌, ◌<◌, ◌≤◌, ◌==◌, nat_lt, nat_le, min, max, Bool, true, false}
use Rattle.std.specs.Prelude.{◌&&◌, List, [], ◌∷◌, ◌++◌, map, length, get_or, slice_get, Option, Some, None, if◌then◌else◌}
use Rattle.std.specs.List.{filter, flat_map, list_any}
use Rattle.std.specs.Int.{bit_at}
use Rattle.pg_hoa_automaton.specs.declared.shape.Shape.{Shape}
use Rattle.pg_hoa_automaton.specs.declared.shape.Shape.TheVariants.{MinEven, MinOdd}
use Rattle.pg_hoa.specs.declared.fault.Conflict.{Conflict}
use Rattle.pg_hoa.specs.declared.fault.Conflict.TheVariants.{Memory, NotDeterministic}
use Rattle.pg_hoa_automaton.specs.declared.table.Stored.{Stored}
use Rattle.pg_hoa.specs.declared.table.Covered.{Covered}
use Rattle.pg_hoa.specs.declared.table.Row.{Row}
use Rattle.pg_hoa.specs.declared.table.Filling.{Filling}
use Rattle.pg_hoa.specs.declared.table.Way.{Way}
use Rattle.pg_hoa_automaton.specs.declared.table.Table.{Table}
use Rattle.pg_hoa_syntax.specs.declared.formula.Op.{Op}
use Rattle.pg_hoa_automaton.specs.Automata.{Step, deciding, step}
use Rattle.pg_hoa.specs.AutomatonText.{Agree, head}
use Rattle.pg_hoa_automaton.specs.Mirrors.Tables.{numbered, next}
use Rattle.pg_list_lemmas.specs.Rising.{rising}
use Rattle.pg_hoa_syntax.specs.Mirrors.Kept.{KeptEdge, KeptLine}
use Rattle.pg_hoa.specs.Mirrors.Saying.{says}
use Rattle.pg_hoa.specs.Mirrors.Letters.{truth}

-- ---- what lines give

abbrev pub says_at : ℕ → KeptEdge → Bool
says_at letter e = says e.label (λ a. bit_at letter a == 1)

abbrev pub edge_step : List ℕ → KeptEdge → Step
edge_step own e = step e.target (rising (own ++ e.sets))

abbrev pub kept_edge_steps : ℕ → ℕ → KeptLine → List Step
kept_edge_steps state letter l =
    if l.state == state then map (edge_step l.sets) (filter (says_at letter) l.edges) else []

-- the steps of the edges of these lines that leave the state by the letter, in the order of the text
abbrev pub kept_steps : List KeptLine → ℕ → ℕ → List Step
kept_steps lines state letter = flat_map (kept_edge_steps state letter) lines

-- the set that counts, with one more
abbrev pub with_set : Shape → Option ℕ → ℕ → Option ℕ
with_set shape None set = Some set
with_set MinEven (Some n) set = Some (min n set)
with_set MinOdd (Some n) set = Some (min n set)
with_set shape (Some n) set = Some (max n set)

-- the set that counts, with all of these sets
abbrev pub with_sets : Shape → Option ℕ → List ℕ → Option ℕ
with_sets shape counts [] = counts
with_sets shape counts (set ∷ sets) = with_sets shape (with_set shape counts set) sets

-- ---- filling

-- a table that is being filled, its first slot where steps don't agree, or the number of slots, and the letters that
-- are covered
pub record Stage : Type 0 where
  pub slots : List ℕ
  pub steps : List Stored
  pub lists : List (List ℕ)
  pub conflict : ℕ
  pub covered : Covered

abbrev pub stage : Filling → Stage
stage f =
    record {
      slots = f.slots.items;
      steps = f.steps.items;
      lists = map (λ v. v.items) f.lists.items;
      conflict = f.conflict;
      covered = f.covered;
    }

-- a number that is 0 or stands for the step
abbrev pub MayNumber : Stage → ℕ → Step → Type 0
MayNumber t zero s = Unit {0}
MayNumber t (suc k) s = numbered t.steps t.lists (suc k) ≡ Some s

-- the number in a slot stands for the first of the steps
abbrev pub Leads : Stage → ℕ → List Step → Type 0
Leads t n [] = n ≡ 0
Leads t n (s ∷ steps) = numbered t.steps t.lists n ≡ Some s

-- the lists of sets keep their places
abbrev pub KeepsLists : Stage → Stage → Type 0
KeepsLists t u = (place : ℕ) (list : List ℕ) → slice_get t.lists place ≡ Some list → slice_get u.lists place ≡ Some list

-- only steps and lists are added
pub record Extends (t u : Stage) : Type 0 where
  pub slots : u.slots ≡ t.slots
  pub conflict : u.conflict ≡ t.conflict
  pub covered : u.covered ≡ t.covered
  pub numbers : (n : ℕ) (s : Step) → numbered t.steps t.lists n ≡ Some s → numbered u.steps u.lists n ≡ Some s
  pub lists : KeepsLists t u

abbrev pub same_set : Option ℕ → Option ℕ → Bool
same_set None None = true
same_set (Some a) (Some b) = a == b
same_set _ _ = false

-- the step leads to the target, and this set counts
abbrev pub has_key : Shape → ℕ → Option ℕ → Step → Bool
has_key shape target counts s = (s.target == target) && same_set (deciding shape s.sets) counts

-- two steps lead to one state, and the same set counts
abbrev pub agree : Shape → Step → Step → Bool
agree shape s t = has_key shape t.target (deciding shape t.sets) s

-- the same edges in another order, with the edges of one key in their own order
abbrev pub IsRegrouped : Shape → List ℕ → List KeptEdge → List KeptEdge → Type 0
IsRegrouped shape own edges order = (target : ℕ) (counts : Option ℕ)
    → filter (λ e. has_key shape target counts (edge_step own e)) order ≡ filter (λ e. has_key shape target counts (edge_step own e)) edges

abbrev pub way_step : Way → Step
way_step w = step w.target (rising (w.own.now ++ w.more.now))

-- the set of the way that counts is known
abbrev pub IsDecided : Way → Type 0
IsDecided w = w.counts ≡ deciding w.shape (way_step w).sets

-- the list of the state's own sets is in its place
abbrev pub IsPlaced : Stage → Way → Type 0
IsPlaced t w = slice_get t.lists w.place ≡ Some (rising w.own.now)

-- one of the steps has this key
abbrev pub HasKey : Shape → ℕ → Option ℕ → List Step → Type 0
HasKey shape target counts steps = list_any (has_key shape target counts) steps ≡ true

-- each slot that is covered has a step of the key
abbrev pub Covers : Shape → Covered → (ℕ → List Step) → Type 0
Covers shape c given = (b j : ℕ) → j < 64 → truth (get_or c.words.items b 0) j ≡ true
    → HasKey shape c.target c.counts (given (c.first + (b * 64 + j)))

-- each slot before the conflict has the first of its steps, and the conflict is the first slot whose steps don't agree
pub record IsFilled (shape : Shape) (t : Stage) (given : ℕ → List Step) : Type 0 where
  pub leads : (i : ℕ) → i < t.conflict → Leads t (get_or t.slots i 0) (given i)
  pub conflict_within : t.conflict ≤ length t.slots
  pub agree_before : (i : ℕ) → i < t.conflict → Agree shape (given i)
  pub not_there : t.conflict < length t.slots → Agree shape (given t.conflict) → ⊥
  pub covers : Covers shape t.covered given

-- from one stage to another each slot was given these steps
pub record Adds (shape : Shape) (more : ℕ → List Step) (t u : Stage) : Type 0 where
  pub as_many : length u.slots ≡ length t.slots
  pub sinks : u.conflict ≤ t.conflict
  pub lists : KeepsLists t u
  pub fills : (given : ℕ → List Step) → IsFilled shape t given → IsFilled shape u (λ i. given i ++ more i)

-- the slot has a step of the way's key already
abbrev pub IsCovered : Way → Stage → ℕ → Type 0
IsCovered w t i = (given : ℕ → List Step) → IsFilled w.shape t given → HasKey w.shape w.target w.counts (given i)

-- the letters that are covered are those of the way's state and key
pub record IsOf (c : Covered) (w : Way) : Type 0 where
  pub first : c.first ≡ w.row.first
  pub target : c.target ≡ w.target
  pub counts : c.counts ≡ w.counts

-- the slots of a state's letters, within the given number of slots
pub record IsRow (slots : ℕ) (r : Row) : Type 0 where
  pub within : r.first + r.blocks * r.width ≤ slots
  pub few : r.blocks ≤ 1024
  pub narrow : r.width ≤ 64
  pub some : 0 < r.blocks
  pub whole : (block : ℕ) → block < r.blocks → block * r.width ≡ block * 64

abbrev pub when : Bool → Step → List Step
when b s = if b then s ∷ [] else []

-- the letters of the given number of propositions, in the given number of blocks of one width
pub record IsSplit (propositions blocks width : ℕ) : Type 0 where
  pub all : blocks * width ≡ 2 ^ propositions
  pub few : blocks ≤ 1024
  pub narrow : width ≤ 64
  pub some : 0 < blocks
  pub whole : (block : ℕ) → block < blocks → block * width ≡ block * 64

abbrev pub within : ℕ → ℕ → ℕ → Bool
within first width i = nat_le first i && nat_lt i (first + width)

-- the step at one slot, at the slots at the bits of a word, and at the slots of a state
abbrev pub at_slot : ℕ → Step → ℕ → List Step
at_slot slot s i = when (i == slot) s

abbrev pub at_word : ℕ → ℕ → ℕ → Step → ℕ → List Step
at_word first width word s i = when (within first width i && (bit_at word (i - first) == 1)) s

abbrev pub at_letters : ℕ → ℕ → List Op → Step → ℕ → List Step
at_letters first width label s i = when (within first width i && says label (λ a. bit_at (i - first) a == 1)) s

-- the steps of a line, and of lines, at each slot, where a state has the given number of letters
abbrev pub at_line : ℕ → KeptLine → ℕ → List Step
at_line letters l i = kept_edge_steps (i / letters) (i % letters) l

abbrev pub at_lines : ℕ → List KeptLine → ℕ → List Step
at_lines letters lines i = kept_steps lines (i / letters) (i % letters)

-- ---- what is answered

-- the table has the first of the steps at each state and letter, and they agree
pub record IsTableOf (shape : Shape) (lines : List KeptLine) (states letters : ℕ) (t : Table) : Type 0 where
  pub states_are : t.states ≡ states
  pub letters_are : t.letters ≡ letters
  pub next_is : (state letter : ℕ) → state < states → letter < letters → next t state letter ≡ head (kept_steps lines state letter)
  pub agrees : (state letter : ℕ) → state < states → letter < letters → Agree shape (kept_steps lines state letter)

-- the steps don't agree at this state and letter, and agree at all before
pub record IsFirstConflict (shape : Shape) (lines : List KeptLine) (states letters state letter : ℕ) : Type 0 where
  pub state_below : state < states
  pub letter_below : letter < letters
  pub fails : Agree shape (kept_steps lines state letter) → ⊥
  pub before_state : (q l : ℕ) → q < state → l < letters → Agree shape (kept_steps lines q l)
  pub before_letter : (l : ℕ) → l < letter → Agree shape (kept_steps lines state l)

abbrev pub IsConflictOf : Shape → List KeptLine → ℕ → ℕ → Conflict → Type 0
IsConflictOf shape lines states letters Memory = Unit {0}
IsConflictOf shape lines states letters (NotDeterministic state letter) = IsFirstConflict shape lines states letters state letter
