use Rattle.pg_hoa_syntax.proofs.Common.{◌≡◌, ◌∙◌, sym, subst, List, map, length, arith, nat_tests, length-map, err_from_is_err_and, Ranges}
use Rattle.pg_hoa_syntax.proofs.Common.{Lexeme, lex, head_in, line_in, preamble_in, body_at, Fails, bound}
use Rattle.pg_hoa_syntax.specs.declared.preamble.Preamble as rust
use Rattle.pg_hoa_syntax.proofs.ReadParts.{head_condition, few_names, few_states, headers_never, preamble_never, body_never, end_never}
use Rattle.pg_hoa_syntax.proofs.ReadParts.{all_read}
use Rattle.pg_hoa_syntax.proofs.syntax.parts.Goals as goal

pub preamble_of-requires : goal.preamble_of-requires
preamble_of-requires c = head_condition (lex c.args.bytes.now) (head_in c.in_ok-head.head, lex c.in_ok-head.rest.now) c.in_ok-head.ensures

pub ranges-requires : goal.ranges-requires
ranges-requires c =
    let s = c.in_ok-preamble.preamble in
    let few = few_names (lex c.args.bytes.now) (head_in c.in_ok-head.head, lex c.in_ok-head.rest.now)
    (preamble_in s) c.in_ok-head.ensures c.in_ok-preamble.ensures.found in
    omega (arith, few, length-map s.names.items (λ name. name.items))

pub read_body-requires : goal.read_body-requires
read_body-requires c =
    let s = c.in_ok-preamble.preamble in
    let few = few_states (lex c.args.bytes.now) (head_in c.in_ok-head.head, lex c.in_ok-head.rest.now)
    (preamble_in s) c.in_ok-head.ensures c.in_ok-preamble.ensures.found in
    rw c.ranges-2.ensures.states few

pub returns-in_err-head-clause-refused : goal.returns-in_err-head-clause-refused
returns-in_err-head-clause-refused c = grind (
  arith,
  nat_tests,
  err_from_is_err_and c.from_residual.result c.from_residual.ensures.1,
  headers_never c.in_err-head.field-0.0 (lex c.args.bytes.now) c.in_err-head.ensures,
)

pub returns-in_err-preamble-clause-refused : goal.returns-in_err-preamble-clause-refused
returns-in_err-preamble-clause-refused c =
    let p = err_from_is_err_and c.from_residual-in_err-preamble.result c.from_residual-in_err-preamble.ensures.1 in
    rw (p.1, p.2) (preamble_never c.in_err-preamble.field-0.0 (lex c.args.bytes.now) (lex c.in_ok-head.rest.now)
    (head_in c.in_ok-head.head) c.in_ok-head.ensures c.in_err-preamble.ensures.refused)

-- the body is read in the ranges that the headers say
ranged : (s : rust.Preamble) (r : Ranges) (behind : List Lexeme) → r.states ≡ bound s.states → r.propositions ≡ length s.names.items
    → r.sets ≡ s.sets → body_at (bound (preamble_in s).states) (length (preamble_in s).names) (preamble_in s).sets behind
    ≡ body_at r.states r.propositions r.sets behind
ranged s r behind a b d = let count = length-map s.names.items (λ name. name.items) in cc

pub returns-in_err-lines-clause-refused : goal.returns-in_err-lines-clause-refused
returns-in_err-lines-clause-refused c =
    let p = err_from_is_err_and c.from_residual-in_err-lines.result c.from_residual-in_err-lines.ensures.1 in
    let s = c.in_ok-preamble.preamble in
    let tokens = lex c.args.bytes.now in
    let behind = lex c.in_ok-head.rest.now in
    let same = ranged s c.ranges-2.result behind c.ranges-2.ensures.states c.ranges-2.ensures.propositions c.ranges-2.ensures.sets in
    rw (p.1, p.2) (body_never c.in_err-lines.field-0.0 tokens behind (head_in c.in_ok-head.head)
    (preamble_in s) c.in_ok-head.ensures c.in_ok-preamble.ensures.found
    (subst (Fails c.in_err-lines.field-0.0) (sym same) c.in_err-lines.ensures))

pub returns-in_err-end-clause-refused : goal.returns-in_err-end-clause-refused
returns-in_err-end-clause-refused c =
    let p = err_from_is_err_and c.from_residual-in_err-end.result c.from_residual-in_err-end.ensures.1 in
    let s = c.in_ok-preamble.preamble in
    let tokens = lex c.args.bytes.now in
    let behind = lex c.in_ok-head.rest.now in
    let same = ranged s c.ranges-2.result behind c.ranges-2.ensures.states c.ranges-2.ensures.propositions c.ranges-2.ensures.sets in
    rw (p.1, p.2) (end_never c.in_err-end.field-0.0 tokens behind (lex c.in_ok-lines.rest.now) (head_in c.in_ok-head.head) (preamble_in s)
    (map line_in c.in_ok-lines.lines.items) c.in_ok-head.ensures c.in_ok-preamble.ensures.found
    (same ∙ c.in_ok-lines.ensures) c.in_err-end.ensures)

pub returns-clause-found : goal.returns-clause-found
returns-clause-found c =
    let s = c.in_ok-preamble.preamble in
    let tokens = lex c.args.bytes.now in
    let behind = lex c.in_ok-head.rest.now in
    let same = ranged s c.ranges-2.result behind c.ranges-2.ensures.states c.ranges-2.ensures.propositions c.ranges-2.ensures.sets in (
      head_in c.in_ok-head.head,
      all_read tokens behind (lex c.in_ok-lines.rest.now) (head_in c.in_ok-head.head) (preamble_in s)
          (map line_in c.in_ok-lines.lines.items) c.in_ok-head.ensures c.in_ok-preamble.ensures.found
          (same ∙ c.in_ok-lines.ensures) c.in_ok-end.ensures,
    )
