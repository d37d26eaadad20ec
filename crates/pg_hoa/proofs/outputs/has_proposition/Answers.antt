use Rattle.pg_hoa.proofs.Common.{◌≡◌, ◌∙◌, false, sym, rules}
use Rattle.std.specs.Str.{bytes_eq}
use Rattle.pg_hoa.proofs.NamedOutputs.{unnamed_more}
use Rattle.pg_hoa.proofs.outputs.has_proposition.Goals as goal

pub loop-a-preserved : goal.loop-a-preserved
loop-a-preserved c =
    let found = c.proposition.result.now in
    let differs : bytes_eq found c.args.name.now ≡ false = sym c.eq.ensures ∙ c.if-eq.false in
    unnamed_more c.args.automaton.now.propositions c.args.name.now found c.loop-a.a (search rules) c.proposition.ensures differs
    c.loop-a.invariant
