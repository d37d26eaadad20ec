use Rattle.std.proofs.Common.{List, Bool, subst}
use Rattle.std.specs.Bool.{OnTrue}
use Rattle.pg_ltl.specs.declared.normal.NormalNode.{NormalNode}
use Rattle.pg_ltl.specs.Mirrors.Nodes.{normal_in, normals_of}
use Rattle.pg_means_look.specs.Certificates.{IsEmptyBy}
use Rattle.pg_means_look.specs.Mirrors.Views.{automaton_of, certificate_of}
use Rattle.pg_means.proofs.verdict.word_of.Goals as goal

pub returns-then-empty : goal.returns-then-empty
returns-then-empty c =
    let empty = subst (λ (b : Bool). OnTrue b (IsEmptyBy (automaton_of c.args.automaton.now)
    (normal_in c.deref-in-Empty.result.now c.args.formula.now.root) c.args.parity
    (certificate_of (normals_of c.deref-in-Empty.result.now) c.in-Empty.proposal.certificate)))
    c.if-empty.true c.in_ok-empty-in-Empty.ensures in (
      certificate_of (normals_of c.deref-in-Empty.result.now) c.in-Empty.proposal.certificate,
      subst (λ (ns : List NormalNode). IsEmptyBy (automaton_of c.args.automaton.now) (normal_in ns c.args.formula.now.root) c.args.parity
          (certificate_of (normals_of c.deref-in-Empty.result.now) c.in-Empty.proposal.certificate)) c.deref-in-Empty.ensures.value empty,
    )
