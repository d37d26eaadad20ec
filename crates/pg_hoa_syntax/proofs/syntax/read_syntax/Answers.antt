use Rattle.pg_hoa_syntax.proofs.Common.{◌≡◌, ◌∙◌, ◌≤◌, ◌<◌, ◌*◌, ◌^◌, ℕ, List, length, map, sym, subst, arith, length-map, err_from_is_err_and}
use Rattle.pg_hoa_syntax.proofs.Common.{Vec, Global, vec_len, ReadState, SaysNone, lex, KeptHead, KeptLine, line_in, preamble_in, Preamble}
use Rattle.pg_hoa_syntax.proofs.Common.{Declares, Reads, bare_automaton, state_count}
use Rattle.pg_hoa_syntax.specs.declared.preamble.Preamble as rust
use Rattle.pg_hoa_syntax.proofs.ReadParts.{reads_within}
use Rattle.pg_hoa_syntax.proofs.ReadSpelt.{reads_declare}
use Rattle.pg_hoa_syntax.proofs.SpeltReads.{says_nothing, many_say_none}
use Rattle.pg_hoa_syntax.proofs.syntax.read_syntax.Goals as goal

-- how many states there are
counted : (bytes : List ℕ) (h : KeptHead) (s : Preamble) (lines : List KeptLine) (states : ℕ) → Reads (lex bytes) h s lines
    → (state_count s lines < 2 ^ 32 → states ≡ state_count s lines) → states ≡ state_count s lines
counted bytes h s lines states r e = let few = (reads_within (lex bytes) h s lines r).few_states in e (omega arith)

-- how many propositions there are
named : (names : Vec (Vec ℕ Global) Global) (count : ℕ) → count ≡ vec_len names → count ≡ length (map (λ name. name.items) names.items)
named names count e = e ∙ names.ok.0 ∙ sym (length-map names.items (λ name. name.items))

too_many : (bytes : List ℕ) (h : KeptHead) (s : Preamble) (lines : List KeptLine) (states propositions : ℕ) → Reads (lex bytes) h s lines
    → states ≡ state_count s lines → propositions ≡ length s.names → (states * 2 ^ propositions ≤ 16777216 → ⊥) → SaysNone bytes
too_many bytes h s lines states propositions r e p many = many_say_none bytes h s lines r (λ few. many (rw (e, p) few))

declared : (bytes : List ℕ) (h : KeptHead) (s : Preamble) (lines : List KeptLine) (states propositions : ℕ) → Reads (lex bytes) h s lines
    → states ≡ state_count s lines → propositions ≡ length s.names → states * 2 ^ propositions ≤ 16777216
    → Declares bytes (bare_automaton states s.start s.names s.controllable s.sets s.shape) lines
declared bytes h s lines states propositions r e p few =
    subst (λ (n : ℕ). Declares bytes (bare_automaton n s.start s.names s.controllable s.sets s.shape) lines) (sym e)
    (reads_declare bytes h s lines r (rw (← e, ← p) few))

-- the lines that were read are those that are counted
read_lines : (s : rust.Preamble) (states : ℕ) (lines more : List ReadState) → more ≡ lines
    → (state_count (preamble_in s) (map line_in more) < 2 ^ 32 → states ≡ state_count (preamble_in s) (map line_in more))
    → state_count (preamble_in s) (map line_in lines) < 2 ^ 32 → states ≡ state_count (preamble_in s) (map line_in lines)
read_lines s states lines more e h =
    subst (λ (ls : List ReadState). state_count (preamble_in s) (map line_in ls) < 2 ^ 32 → states ≡ state_count (preamble_in s)
    (map line_in ls)) e h

pub returns-in_err-preamble-clause-refused : goal.returns-in_err-preamble-clause-refused
returns-in_err-preamble-clause-refused c =
    let p = err_from_is_err_and c.from_residual.result c.from_residual.ensures.1 in
    rw (p.1, p.2) (says_nothing c.args.bytes.now c.in_err-preamble.field-0.0 c.in_err-preamble.ensures.refused)

pub overflow_cast-len : goal.overflow_cast-len
overflow_cast-len c =
    let r = c.in_ok-preamble.ensures.found in
    let few =
    (reads_within (lex c.args.bytes.now) r.0 (preamble_in c.in_ok-preamble.preamble) (map line_in c.in_ok-preamble.lines.items)
    r.1).few_propositions in
    let count = named c.in_ok-preamble.preamble.names c.len.result c.len.ensures in
    omega arith

pub are_few-requires : goal.are_few-requires
are_few-requires c =
    let r = c.in_ok-preamble.ensures.found in
    rw (named c.in_ok-preamble.preamble.names c.len.result c.len.ensures)
    (reads_within (lex c.args.bytes.now) r.0 (preamble_in c.in_ok-preamble.preamble) (map line_in c.in_ok-preamble.lines.items)
    r.1).few_propositions

pub returns-then-not-are_few-clause-refused : goal.returns-then-not-are_few-clause-refused
returns-then-not-are_few-clause-refused c =
    let r = c.in_ok-preamble.ensures.found in
    let s = c.in_ok-preamble.preamble in
    let lines = c.in_ok-preamble.lines.items in
    too_many c.args.bytes.now r.0 (preamble_in s) (map line_in lines) c.states_of-states.result c.len.result r.1
    (counted c.args.bytes.now r.0 (preamble_in s) (map line_in lines) c.states_of-states.result r.1
    (read_lines s c.states_of-states.result lines _ c.deref.ensures.value c.states_of-states.ensures))
    (named s.names c.len.result c.len.ensures) c.if-not-are_few.ensures

pub returns-clause-found : goal.returns-clause-found
returns-clause-found c =
    let r = c.in_ok-preamble.ensures.found in
    let s = c.in_ok-preamble.preamble in
    let lines = c.in_ok-preamble.lines.items in
    declared c.args.bytes.now r.0 (preamble_in s) (map line_in lines) c.states_of-states.result c.len.result r.1
    (counted c.args.bytes.now r.0 (preamble_in s) (map line_in lines) c.states_of-states.result r.1
    (read_lines s c.states_of-states.result lines _ c.deref.ensures.value c.states_of-states.ensures))
    (named s.names c.len.result c.len.ensures) c.if-not-are_few.ensures
