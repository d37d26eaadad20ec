use Rattle.std.proofs.Common.{◌≡◌, ◌++◌, ◌∷◌, [], get_or, sym, subst}
use Rattle.std.specs.Prelude.{All, Contains}
use Rattle.std.proofs.lemmas.List.Elements.{All-push, Contains-get_or}
use Rattle.pg_aiger.specs.declared.gate.Gate.{Gate}
use Rattle.pg_aiger_netlist.proofs.order.picked.Goals.{then-at-gates+in_ok-push, else-at-gates}
use Rattle.pg_aiger_netlist.proofs.order.picked.Goals as goal

pub loop-place-preserved : goal.loop-place-preserved
loop-place-preserved c =
    let g : Gate = get_or c.args.gates.now (get_or c.args.places.now c.loop-place.place-index 0) (record { lhs = 0; rhs0 = 0; rhs1 = 0 }) in
    elim c.if-at-gates.branch [
      | then-at-gates+in_ok-push w ↦
          let more : c.if-at-gates.list.items ≡ c.loop-place.list.items ++ g ∷ [] = cc (w.list-is, w.in_ok-push.ensures.items) in
          subst (All (Contains c.args.gates.now)) (sym more)
          (All-push (Contains c.args.gates.now) c.loop-place.list.items g c.loop-place.invariant
          (Contains-get_or c.args.gates.now (get_or c.args.places.now c.loop-place.place-index 0) (record { lhs = 0; rhs0 = 0; rhs1 = 0 })
          w.if-at-gates.true))
      | else-at-gates w ↦
          let same : c.if-at-gates.list.items ≡ c.loop-place.list.items = cc w.list-is in
          subst (All (Contains c.args.gates.now)) (sym same) c.loop-place.invariant
    ]
