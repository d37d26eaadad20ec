use Rattle.pg_aiger.proofs.Common.{rules, ◌≡◌, ◌+◌, ◌*◌, length, arith, sym, subst, refl, IsLiteral, HasRoom, Extends}
use Rattle.pg_aiger.proofs.Pushes.{pushed_draft, pushed_extends, pushed_means}
use Rattle.pg_aiger.proofs.Exact.{gate_made}
use Rattle.pg_aiger.proofs.draft.Draft.gate.Goals as goal

pub invariant_of-self-2 : goal.invariant_of-self-2
invariant_of-self-2 c =
    let n : c.len.result ≡ length c.self.inside.gates.items = search rules in
    let room = subst (λ d. HasRoom d 1) (sym c.self.view_is) c.requires.room in
    let x_in = subst (λ d. IsLiteral d c.args.x) (sym c.self.view_is) c.requires.x_in in
    let y_in = subst (λ d. IsLiteral d c.args.y) (sym c.self.view_is) c.requires.y_in in
    pushed_draft c.self.inside.base c.self.inside.gates.items c.push.new.self.items
    (record { lhs = 2 * (c.self.inside.base + c.len.result); rhs0 = c.max.result; rhs1 = c.min.result })
    c.self.invariant room c.in_ok-push.ensures.items (omega (arith, n))
    (omega (arith, x_in, y_in, c.max.ensures)) (omega (arith, c.max.ensures, c.min.ensures))

pub returns-clause-extends : goal.returns-clause-extends
returns-clause-extends c =
    subst (λ d. Extends 1 d (record { base = c.self.inside.base; gates = c.push.new.self.items })) c.self.view_is
    (pushed_extends c.self.inside.base c.self.inside.gates.items c.push.new.self.items
    (record { lhs = 2 * (c.self.inside.base + c.len.result); rhs0 = c.max.result; rhs1 = c.min.result })
    c.in_ok-push.ensures.items)

pub returns-clause-meaning : goal.returns-clause-meaning
returns-clause-meaning c v constant s =
    pushed_means c.self.inside.gates.items c.push.new.self.items
    (record { lhs = 2 * (c.self.inside.base + c.len.result); rhs0 = c.max.result; rhs1 = c.min.result })
    c.args.x c.args.y (2 * (c.self.inside.base + c.len.result))
    c.in_ok-push.ensures.items (search rules) (search rules) refl v s

pub returns-clause-made : goal.returns-clause-made
returns-clause-made c =
    gate_made c.args.self.now c.args.x c.args.y c.self.inside.base c.len.result c.max.result c.min.result c.self.inside.gates.items
    c.push.new.self.items c.self.view_is (search rules) (search rules) (search rules) c.in_ok-push.ensures.items
