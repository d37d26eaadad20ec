use Rattle.std.proofs.Common.{◌≡◌, ℕ, arith, inl, inr, sym, subst}
use Rattle.std.specs.Prelude.{IsSome}
use Rattle.std.proofs.lemmas.Bool.{cases_lt}
use Rattle.pg_map.specs.Lines.{line_at}
use Rattle.pg_map_lift.specs.Mirrors.Watches.{IsListed}
use Rattle.pg_map_lift.proofs.predecessors.Predecessors.list_all.Goals as goal
use Rattle.pg_map_lift.proofs.predecessors.Predecessors.list_all.Goals.{else-holds-via-then-holds+else-not-list, else-holds-via-else-holds}

pub loop-number-preserved : goal.loop-number-preserved
loop-number-preserved g c = λ u lt s.
    let p = c.args.self.now in
    let line = g.G.Lines.line c.args.lines.now in
    let n = c.loop-number.number in
    elim (cases_lt u n) [
      | inl less ↦ c.loop-number.invariant u less s
      | inr le ↦
          let q : n ≡ u = omega arith in
          elim c.else-holds.branch [
            | else-holds-via-then-holds+else-not-list w ↦
                let listed : IsListed p.starts.items p.sources.items n (line_at line n).successors = rw w.successors.ensures at w.if-not-list.ensures in
                subst (λ (v : ℕ). IsListed p.starts.items p.sources.items v (line_at line v).successors) q listed
            | else-holds-via-else-holds w ↦ absurd (cc (w.if-holds.false, c.holds.ensures.1 (subst (λ (v : ℕ). IsSome (line v)) (sym q) s)))
          ]
    ]
