use Rattle.std.proofs.Common.{◌≡◌, drop, map, max, fold}
use Rattle.pg_hoa_syntax.specs.Mirrors.Kept.{KeptLine, line_in}
use Rattle.pg_hoa_syntax.proofs.syntax.states_named.Given as goal

-- what is left gives the same
abbrev pub invariant-loop-line : goal.invariant-loop-line
invariant-loop-line l =
    fold max l.greatest (map (λ (k : KeptLine). k.greatest) (map line_in (drop l.line-index l.lines)))
    ≡ fold max l.start (map (λ (k : KeptLine). k.greatest) (map line_in l.lines))
