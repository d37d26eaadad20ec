use Rattle.pg_hoa_syntax.proofs.Common.{◌∙◌, ◌-◌, ◌+◌, sym, ap, map, List, [], ◌∷◌, ℕ, arith, nat_tests, map-append, err_from_is_err_and, lex}
use Rattle.pg_hoa_syntax.proofs.Common.{names_from}
use Rattle.std.proofs.Common.{Vec, Global}
use Rattle.pg_hoa_syntax.proofs.HeaderTurns.{names_fail, names_more, names_end}
use Rattle.pg_hoa_syntax.proofs.header.read_names.Goals as goal

abbrev bytes_of : List (Vec ℕ Global) → List (List ℕ)
bytes_of names = map (λ name. name.items) names

pub returns-in_err-name : goal.returns-in_err-name
returns-in_err-name c = grind (
  arith,
  nat_tests,
  err_from_is_err_and c.from_residual.result c.from_residual.ensures.1,
  names_fail c.in_err-name.field-0.0 (c.args.count - c.names.proposition) (c.args.count - (c.names.proposition + 1))
      (bytes_of c.names.names.items) (lex c.names.rest.now) (omega arith) c.in_err-name.ensures,
)

pub names-preserved : goal.names-preserved
names-preserved c =
    let pushed = ap (λ (l : List (Vec ℕ Global)). bytes_of l) c.in_ok-push.ensures.items
    ∙ map-append (λ (name : Vec ℕ Global). name.items) c.names.names.items (c.in_ok-name.name ∷ []) in
    ap (λ (l : List (List ℕ)). names_from (c.args.count - (c.names.proposition + 1)) l (lex c.in_ok-name.after.now)) pushed
    ∙ sym (names_more (c.args.count - c.names.proposition) (c.args.count - (c.names.proposition + 1)) (bytes_of c.names.names.items)
    (lex c.names.rest.now) (c.in_ok-name.name.items, lex c.in_ok-name.after.now) (omega arith) c.in_ok-name.ensures)
    ∙ c.names.invariant

pub returns : goal.returns
returns c = sym c.names.invariant
    ∙ names_end (c.args.count - c.names.proposition) (bytes_of c.names.names.items) (lex c.names.rest.now) (omega arith)
