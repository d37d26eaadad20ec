use Rattle.std.proofs.Common.{rules, ◌≡◌, ℕ, ◌+◌, ◌<◌, ◌/◌, inl, inr, Bool, true, false, List, [], ◌∷◌, ◌++◌, length, get_or, set, take, arith, refl, sym, subst, ap, ◌∙◌}
use Rattle.std.proofs.lemmas.List.{take_more}
use Rattle.pg_aiger.specs.declared.gate.Gate.{Gate}
use Rattle.pg_aiger_netlist.specs.Netlists.{variable, IsUsedBy}
use Rattle.pg_aiger_netlist.specs.Mirrors.Marks.{marked, variable_of, HasPassed, IsStuck}
use Rattle.pg_aiger_netlist.proofs.Passing.{passed_over, passed_waits, passed_placed}
use Rattle.pg_aiger_netlist.proofs.order.place.Goals.{then-not-known-x+then-is_marked+then-is_marked-2+in_ok-push, then-not-known-x+else-is_marked+in_ok-push-2}
use Rattle.pg_aiger_netlist.proofs.order.place.Goals.{else-is_marked-via-then-is_marked+else-is_marked-2, else-is_marked-via-else-is_marked, else-not-known-x}
use Rattle.pg_aiger_netlist.proofs.order.place.Goals as goal

-- one gate more, and what it makes
more : (old : List Bool) (before gates : List Gate) (i : ℕ) (known now : List Bool) (ordered behind waiting rest : List Gate) → i < length gates
    → now ≡ known → behind ≡ ordered → rest ≡ waiting → HasPassed old before (take i gates ++ get_or gates i (record { lhs = 0; rhs0 = 0; rhs1 = 0 }) ∷ []) known ordered waiting
    → HasPassed old before (take (i + 1) gates) now behind rest
more old before gates i known now ordered behind waiting rest l e f g p =
    subst (λ gs. HasPassed old before gs now behind rest) (sym (take_more gates i (record { lhs = 0; rhs0 = 0; rhs1 = 0 }) l))
    (rw (e, f, g) p)

unmarked : (known : List Bool) (gate : Gate) (x : ℕ) → IsUsedBy gate x → marked known (variable_of gate) ≡ false → marked known x ≡ false → IsStuck known gate
unmarked known gate x u un e = record { unknown = un; used = x; uses = u; waits = e }

pub loop-gate-preserved : goal.loop-gate-preserved
loop-gate-preserved c =
    let g : Gate = get_or c.args.gates.now c.loop-gate.gate-index (record { lhs = 0; rhs0 = 0; rhs1 = 0 }) in
    elim c.if-not-known-x.branch [
      | then-not-known-x+then-is_marked+then-is_marked-2+in_ok-push w ↦
          let un : marked c.loop-gate.known (variable_of g) ≡ false = grind arith in
          let lt : variable_of g < length c.loop-gate.known =
          (let n = c.loop-gate.auto.known in let h = c.requires c.loop-gate.gate-index (record { lhs = 0; rhs0 = 0; rhs1 = 0 }) c.loop-gate-test.true in omega (arith, n, h)) in
          let one : marked c.loop-gate.known (variable g.rhs0) ≡ true = sym w.is_marked.ensures ∙ w.if-is_marked.true in
          let two : marked c.loop-gate.known (variable g.rhs1) ≡ true = sym w.is_marked-then-is_marked.ensures ∙ w.if-is_marked-2.true in
          let behind : c.if-not-known-x.ordered.items ≡ c.loop-gate.ordered.items ++ g ∷ [] = cc (w.ordered-is, w.in_ok-push.ensures.items) in
          let rest : c.if-not-known-x.waiting.items ≡ c.loop-gate.waiting.items = cc w.waiting-is in
          more c.args.known.now c.args.ordered.now.items c.args.gates.now c.loop-gate.gate-index (set c.loop-gate.known (variable_of g) true)
          c.if-not-known-x.known (c.loop-gate.ordered.items ++ g ∷ []) c.if-not-known-x.ordered.items c.loop-gate.waiting.items
          c.if-not-known-x.waiting.items c.loop-gate-test.true w.known-is behind rest
          (passed_placed c.args.known.now c.args.ordered.now.items (take c.loop-gate.gate-index c.args.gates.now) c.loop-gate.known
          c.loop-gate.ordered.items c.loop-gate.waiting.items g un lt
          (λ x u. elim u [
            | inl e ↦ subst (λ y. marked c.loop-gate.known y ≡ true) e one
            | inr e ↦ subst (λ y. marked c.loop-gate.known y ≡ true) e two
          ]) c.loop-gate.invariant)
      | then-not-known-x+else-is_marked+in_ok-push-2 w ↦
          let un : marked c.loop-gate.known (variable_of g) ≡ false = grind arith in
          let stuck : IsStuck c.loop-gate.known g = elim w.else-is_marked.branch [
            | else-is_marked-via-then-is_marked+else-is_marked-2 v ↦
                unmarked c.loop-gate.known g (variable g.rhs1) (inr refl) un (sym v.is_marked-then-is_marked.ensures ∙ v.if-is_marked-2.false)
            | else-is_marked-via-else-is_marked v ↦
                unmarked c.loop-gate.known g (variable g.rhs0) (inl refl) un (sym w.is_marked.ensures ∙ v.if-is_marked.false)
          ] in
          let behind : c.if-not-known-x.ordered.items ≡ c.loop-gate.ordered.items = cc w.ordered-is in
          let rest : c.if-not-known-x.waiting.items ≡ c.loop-gate.waiting.items ++ g ∷ [] = cc (w.waiting-is, w.in_ok-push-2.ensures.items) in
          more c.args.known.now c.args.ordered.now.items c.args.gates.now c.loop-gate.gate-index c.loop-gate.known c.if-not-known-x.known
          c.loop-gate.ordered.items c.if-not-known-x.ordered.items (c.loop-gate.waiting.items ++ g ∷ []) c.if-not-known-x.waiting.items
          c.loop-gate-test.true w.known-is behind rest
          (passed_waits c.args.known.now c.args.ordered.now.items (take c.loop-gate.gate-index c.args.gates.now) c.loop-gate.known
          c.loop-gate.ordered.items c.loop-gate.waiting.items g stuck c.loop-gate.invariant)
      | else-not-known-x w ↦
          let so : marked c.loop-gate.known (variable_of g) ≡ true = grind arith in
          let behind : c.if-not-known-x.ordered.items ≡ c.loop-gate.ordered.items = cc w.ordered-is in
          let rest : c.if-not-known-x.waiting.items ≡ c.loop-gate.waiting.items = cc w.waiting-is in
          more c.args.known.now c.args.ordered.now.items c.args.gates.now c.loop-gate.gate-index c.loop-gate.known c.if-not-known-x.known
          c.loop-gate.ordered.items c.if-not-known-x.ordered.items c.loop-gate.waiting.items c.if-not-known-x.waiting.items
          c.loop-gate-test.true w.known-is behind rest
          (passed_over c.args.known.now c.args.ordered.now.items (take c.loop-gate.gate-index c.args.gates.now) c.loop-gate.known
          c.loop-gate.ordered.items c.loop-gate.waiting.items g so c.loop-gate.invariant)
    ]
