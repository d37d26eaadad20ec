use Rattle.pg_hoa_syntax.proofs.Common.{◌≡◌, ◌-◌, [], map, lex, names_from}
use Rattle.pg_hoa_syntax.proofs.header.read_names.Given as goal

-- the names that are left, behind those so far, give the same
abbrev pub invariant-names : goal.invariant-names
invariant-names l =
    names_from (l.count - l.proposition) (map (λ name. name.items) l.names.items) (lex l.rest) ≡ names_from l.count [] (lex l.bytes)
