use Rattle.std.proofs.Common.{◌≡◌, ◌≤◌, ℕ, List, inl, inr, arith, sym, ap, ◌∙◌}
use Rattle.std.proofs.lemmas.Result.{IfOk-weaker}
use Rattle.std.specs.declared.vec.Vec.{Vec}
use Rattle.std.specs.declared.alloc.Global.{Global}
use Rattle.pg_ltl.specs.declared.normal.NormalNode.{NormalNode}
use Rattle.pg_ltl.specs.declared.normal.NormalNode.TheVariants.{Both, Either, Next, Until}
use Rattle.pg_ltl.specs.Mirrors.Nodes.{normal_node_in, normal_reach}
use Rattle.pg_satisfies_promises.proofs.Rows.{alternatives_alone, alternatives_either, node_reach}
use Rattle.pg_satisfies_promises.proofs.alternatives.split.Goals as goal

-- the node that was read is the one at the place
is_there : (list seen : List NormalNode) (place : ℕ) (read node : NormalNode) → seen ≡ list → read ≡ normal_node_in seen place → read ≡ node
    → normal_node_in list place ≡ node
is_there list seen place read node e f g = ap (λ ns. normal_node_in ns place) (sym e) ∙ sym f ∙ g

pub returns-then-not-is_needed : goal.returns-then-not-is_needed
returns-then-not-is_needed c =
    IfOk-weaker c.alone.result _ _
    (λ (list : Vec ℕ Global) e.
    alternatives_alone c.args.nodes.now.items c.args.rows.now c.args.place list.items c.requires.ordered c.requires.place e)
    c.alone.ensures

pub split_either-requires : goal.split_either-requires
split_either-requires c =
    let is = is_there c.args.nodes.now.items c.deref.result.now c.args.place c.node_at.result (Either c.in-Either.a c.in-Either.b) c.deref.ensures.value
    c.node_at.ensures c.in-Either.is in
    let reach : normal_reach (Either c.in-Either.a c.in-Either.b) ≤ c.args.place =
    node_reach c.args.nodes.now.items c.args.place (Either c.in-Either.a c.in-Either.b) c.requires.ordered c.requires.place is in
    record { left = omega (arith, reach, c.requires.before); right = omega (arith, reach, c.requires.before) }

pub returns-in-Either : goal.returns-in-Either
returns-in-Either c =
    let list = c.args.nodes.now.items in
    let is = is_there c.args.nodes.now.items c.deref.result.now c.args.place c.node_at.result (Either c.in-Either.a c.in-Either.b) c.deref.ensures.value
    c.node_at.ensures c.in-Either.is in
    let reach : normal_reach (Either c.in-Either.a c.in-Either.b) ≤ c.args.place =
    node_reach c.args.nodes.now.items c.args.place (Either c.in-Either.a c.in-Either.b) c.requires.ordered c.requires.place is in
    IfOk-weaker c.split_either.result _ _
    (λ (made : Vec ℕ Global) cases. elim cases [
      | inl e ↦ alternatives_alone list c.args.rows.now c.args.place made.items c.requires.ordered c.requires.place e
      | inr e ↦
          alternatives_either list c.args.rows.now c.args.place c.in-Either.a c.in-Either.b made.items (omega (arith, reach, c.requires.before))
          (omega (arith, reach, c.requires.before)) c.requires.place is c.requires.ordered c.requires.rows e
    ])
    c.split_either.ensures

pub split_both-requires : goal.split_both-requires
split_both-requires c =
    let is = is_there c.args.nodes.now.items c.deref.result.now c.args.place c.node_at.result (Both c.in-Both.a c.in-Both.b) c.deref.ensures.value
    c.node_at.ensures c.in-Both.is in
    let reach : normal_reach (Both c.in-Both.a c.in-Both.b) ≤ c.args.place =
    node_reach c.args.nodes.now.items c.args.place (Both c.in-Both.a c.in-Both.b) c.requires.ordered c.requires.place is in
    record {
      ordered = c.requires.ordered;
      place = c.requires.place;
      rows = c.requires.rows;
      left = omega (arith, reach, c.requires.before);
      right = omega (arith, reach, c.requires.before);
      is = is;
    }

pub split_operand-requires : goal.split_operand-requires
split_operand-requires c =
    let is = is_there c.args.nodes.now.items c.deref.result.now c.args.place c.node_at.result (Next c.in-Next.a) c.deref.ensures.value c.node_at.ensures
    c.in-Next.is in
    let reach : normal_reach (Next c.in-Next.a) ≤ c.args.place =
    node_reach c.args.nodes.now.items c.args.place (Next c.in-Next.a) c.requires.ordered c.requires.place is in
    record {
      ordered = c.requires.ordered;
      place = c.requires.place;
      rows = c.requires.rows;
      operand = omega (arith, reach, c.requires.before);
      is = is;
    }

pub split_operand-requires-in-Until : goal.split_operand-requires-in-Until
split_operand-requires-in-Until c =
    let is = is_there c.args.nodes.now.items c.deref.result.now c.args.place c.node_at.result (Until c.in-Until.a c.in-Until.b) c.deref.ensures.value
    c.node_at.ensures c.in-Until.is in
    let reach : normal_reach (Until c.in-Until.a c.in-Until.b) ≤ c.args.place =
    node_reach c.args.nodes.now.items c.args.place (Until c.in-Until.a c.in-Until.b) c.requires.ordered c.requires.place is in
    record {
      ordered = c.requires.ordered;
      place = c.requires.place;
      rows = c.requires.rows;
      operand = omega (arith, reach, c.requires.before);
      is = is;
    }
