use Rattle.pg_aiger_reader.proofs.Common.{◌≡◌, ◌∙◌, ◌<◌, ◌++◌, ◌∷◌, [], ap, sym, arith, length, map_push}
use Rattle.pg_aiger.proofs.Printing.{names_taken, names_left}
use Rattle.pg_aiger_reader.specs.Mirrors.Places.{texts}
use Rattle.pg_aiger_reader.proofs.ties.names_of.Goals.{then-controllable-controlled+in_ok-push, else-controllable-controlled}
use Rattle.pg_aiger_reader.proofs.ties.names_of.Goals as goal

pub loop-a-preserved : goal.loop-a-preserved
loop-a-preserved c =
    let a = c.args.automaton.now in
    let within : c.loop-a.a < length c.args.automaton.now.propositions =
    (let same = c.propositions-a-end.ensures in let lt = c.loop-a-test.true in omega (arith, same, lt)) in
    elim c.if-controllable-controlled.branch [
      | then-controllable-controlled+in_ok-push w ↦
          let name = w.proposition.result in
          let more = names_taken a c.loop-a.a c.args.controlled c.controllable.result name.now c.requires within c.controllable.ensures
          w.proposition.ensures w.if-controllable-controlled.true in
          let push : texts w.push.new.self.items ≡ texts c.loop-a.names.items ++ name.now ∷ [] =
          rw w.in_ok-push.ensures.items (map_push (λ n. n.now) c.loop-a.names.items name) in
          rw w.names-is (push ∙ ap (λ ns. ns ++ name.now ∷ []) c.loop-a.invariant ∙ sym more)
      | else-controllable-controlled w ↦
          let same = names_left a c.loop-a.a c.args.controlled c.controllable.result c.requires within c.controllable.ensures
          w.if-controllable-controlled.false in
          rw w.names-is (c.loop-a.invariant ∙ sym same)
    ]
