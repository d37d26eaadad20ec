use Rattle.pg_hoa.proofs.Common.{◌≡◌, ◌∙◌, ◌<◌, ◌^◌, ℕ, List, length, map, refl, sym, subst, arith, nat_tests, get_or-map, length-map}
use Rattle.pg_hoa.proofs.Common.{err_from_is_err_and, Vec, Global, vec_len, All, Table, viewed, next_viewed, ReadState, KeptLine, line_in}
use Rattle.pg_hoa.proofs.Common.{automaton, Conflict, IsTableOf, IsConflictOf}
use Rattle.pg_hoa_syntax.specs.declared.syntax.Syntax.{Syntax}
use Rattle.pg_hoa.proofs.Assembling.{IsOf, lines_below, table_is_automaton, table_spelt}
use Rattle.pg_hoa.proofs.Refusing.{refusal_refused, conflict_refused}
use Rattle.pg_hoa.proofs.reader.read_automaton.Goals as goal

-- how many propositions there are
named : (names : Vec (Vec ℕ Global) Global) (count : ℕ) → count ≡ vec_len names → count ≡ length (map (λ name. name.items) names.items)
named names count e = e ∙ names.ok.0 ∙ sym (length-map names.items (λ name. name.items))

-- each line that was read is of a state
states_below : (lines : List ReadState) (states : ℕ) → All (λ (l : KeptLine). l.state < states) (map line_in lines)
    → All (λ (l : ReadState). l.state < states) lines
states_below lines states all k d lt = grind (arith, nat_tests, length-map lines line_in, get_or-map line_in lines k d)

-- what is said of the lines and of so many letters is said of the syntax
of_syntax : (P : List ReadState → ℕ → Type 0) (s : Syntax) (lines : List ReadState) (count : ℕ) → lines ≡ s.lines.items
    → count ≡ length (automaton s).propositions → P lines (2 ^ count) → P s.lines.items (2 ^ length (automaton s).propositions)
of_syntax P s lines count e n p =
    subst (λ (ls : List ReadState). P ls (2 ^ length (automaton s).propositions)) e (subst (λ (m : ℕ). P lines (2 ^ m)) n p)

table_of_syntax : (s : Syntax) (lines : List ReadState) (count : ℕ) (t : Table) → lines ≡ s.lines.items
    → count ≡ length (automaton s).propositions
    → IsTableOf s.shape (map line_in lines) s.states (2 ^ count) t
    → IsTableOf s.shape (map line_in s.lines.items) s.states (2 ^ length (automaton s).propositions) t
table_of_syntax s lines count t = of_syntax (λ ls letters. IsTableOf s.shape (map line_in ls) s.states letters t) s lines count

conflict_of_syntax : (s : Syntax) (lines : List ReadState) (count : ℕ) (conflict : Conflict) → lines ≡ s.lines.items
    → count ≡ length (automaton s).propositions → IsConflictOf s.shape (map line_in lines) s.states (2 ^ count) conflict
    → IsConflictOf s.shape (map line_in s.lines.items) s.states (2 ^ length (automaton s).propositions) conflict
conflict_of_syntax s lines count conflict =
    of_syntax (λ ls letters. IsConflictOf s.shape (map line_in ls) s.states letters conflict) s lines count

-- the automaton that is made is that of the syntax and the table
made : (s : Syntax) (t : Table) → IsOf (automaton s) t (viewed s.start s.names.items s.controllable.items s.sets s.shape t)
made s t = record {
  states = refl;
  start = refl;
  propositions = refl;
  controllable = refl;
  sets = refl;
  shape = refl;
  steps = λ q l. sym (next_viewed t q l);
  all = refl;
}

pub returns-in-Err-clause-refused : goal.returns-in-Err-clause-refused
returns-in-Err-clause-refused c =
    grind (arith, nat_tests, refusal_refused c.args.bytes.now (length c.args.bytes.now) c.in-Err.refusal c.in-Err.ensures.refused)

pub table_of-requires-clause-below : goal.table_of-requires-clause-below
table_of-requires-clause-below c =
    let s = c.in-Ok.syntax in
    subst (All (λ (l : ReadState). l.state < s.states)) (sym c.deref.ensures.value)
    (states_below s.lines.items s.states (lines_below c.args.bytes.now (automaton s) (map line_in s.lines.items) c.in-Ok.ensures.found))

pub returns-in_err-table-clause-refused : goal.returns-in_err-table-clause-refused
returns-in_err-table-clause-refused c =
    let p = err_from_is_err_and c.from_residual.result c.from_residual.ensures.1 in
    let s = c.in-Ok.syntax in
    rw (p.1, p.2) (conflict_refused c.args.bytes.now (automaton s) (map line_in s.lines.items) c.in_err-table.field-0.0
    c.in-Ok.ensures.found
    (conflict_of_syntax s _ c.len-propositions.result c.in_err-table.field-0.0 c.deref.ensures.value
    (named s.names c.len-propositions.result c.len-propositions.ensures) c.in_err-table.ensures.refused))

pub from_parts-requires : goal.from_parts-requires
from_parts-requires c =
    let s = c.in-Ok.syntax in
    let t = c.in_ok-table.table in
    table_is_automaton c.args.bytes.now (automaton s) (map line_in s.lines.items) t
    (viewed s.start s.names.items s.controllable.items s.sets s.shape t) c.in-Ok.ensures.found
    (table_of_syntax s _ c.len-propositions.result t c.deref.ensures.value
    (named s.names c.len-propositions.result c.len-propositions.ensures) c.in_ok-table.ensures.found) (made s t)

pub returns-clause-found : goal.returns-clause-found
returns-clause-found c =
    let s = c.in-Ok.syntax in
    let t = c.in_ok-table.table in
    rw c.from_parts.ensures
    (table_spelt c.args.bytes.now (automaton s) (map line_in s.lines.items) t
    (viewed s.start s.names.items s.controllable.items s.sets s.shape t) c.in-Ok.ensures.found
    (table_of_syntax s _ c.len-propositions.result t c.deref.ensures.value
    (named s.names c.len-propositions.result c.len-propositions.ensures) c.in_ok-table.ensures.found) (made s t))
