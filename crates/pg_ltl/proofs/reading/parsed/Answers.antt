use Rattle.std.proofs.Common.{ℕ, ◌<◌, ◌≤◌, length, Option, sym, refl, ap, ◌∙◌, arith, option_map}
use Rattle.std.specs.declared.vec.Vec.{Vec}
use Rattle.std.specs.declared.alloc.Global.{Global}
use Rattle.pg_ltl.specs.declared.formula.FormulaNode.{FormulaNode}
use Rattle.pg_ltl.specs.declared.reading.Reading.{Reading}
use Rattle.pg_ltl.specs.Mirrors.Run.{view, starting, parse_at}
use Rattle.pg_ltl.proofs.Turning.{run_more, run_stuck, run_ends, steps_more, starts, stuck_there, stuck_behind}
use Rattle.pg_ltl.proofs.reading.parsed.Goals as goal

pub loop-place-init : goal.loop-place-init
unfolding parse_at
loop-place-init c = rw (c.new.ensures.items, c.new-2.ensures.items) (record { rest = refl; reached = starts starting })

pub returns-in-None-clause-value : goal.returns-in-None-clause-value
returns-in-None-clause-value c =
    let lt : c.loop-place.place < length c.args.tokens.now = omega arith in
    sym c.loop-place.invariant.rest
    ∙ run_stuck (view c.loop-place.reading) c.args.tokens.now c.loop-place.place _ lt
    (sym c.in_ok-next.ensures ∙ ap (λ (o : Option Reading). option_map view o) c.in-None.is)

pub returns-in-None-clause-stops : goal.returns-in-None-clause-stops
returns-in-None-clause-stops c =
    let lt : c.loop-place.place < length c.args.tokens.now = omega arith in
    stuck_there c.args.tokens.now c.loop-place.place (view c.loop-place.reading) _ lt c.loop-place.invariant.reached
    (sym c.in_ok-next.ensures ∙ ap (λ (o : Option Reading). option_map view o) c.in-None.is)

pub loop-place-preserved : goal.loop-place-preserved
loop-place-preserved c =
    let lt : c.loop-place.place < length c.args.tokens.now = omega arith in
    let next = sym c.in_ok-next.ensures ∙ ap (λ (o : Option Reading). option_map view o) c.in-Some.is in
    record {
      rest = run_more (view c.loop-place.reading) (view c.in-Some.next) c.args.tokens.now c.loop-place.place _ lt next
          ∙ c.loop-place.invariant.rest;
      reached = steps_more c.args.tokens.now c.loop-place.place starting (view c.loop-place.reading) (view c.in-Some.next) _ lt
          c.loop-place.invariant.reached next;
    }

pub returns-in-Some-2-clause-value : goal.returns-in-Some-2-clause-value
returns-in-Some-2-clause-value c =
    let le : length c.args.tokens.now ≤ c.loop-place.place = omega arith in
    sym c.loop-place.invariant.rest
    ∙ run_ends (view c.loop-place.reading) c.args.tokens.now c.loop-place.place le
    ∙ sym c.in_ok-found.ensures
    ∙ ap (λ (o : Option (Vec FormulaNode Global × ℕ)). option_map (λ x. (x.0.items, x.1)) o) c.in-Some-2.is

pub returns-in-None-2-clause-value : goal.returns-in-None-2-clause-value
returns-in-None-2-clause-value c =
    let le : length c.args.tokens.now ≤ c.loop-place.place = omega arith in
    sym c.loop-place.invariant.rest
    ∙ run_ends (view c.loop-place.reading) c.args.tokens.now c.loop-place.place le
    ∙ sym c.in_ok-found.ensures
    ∙ ap (λ (o : Option (Vec FormulaNode Global × ℕ)). option_map (λ x. (x.0.items, x.1)) o) c.in-None-2.is

pub returns-in-None-2-clause-stops : goal.returns-in-None-2-clause-stops
returns-in-None-2-clause-stops c =
    let ge : length c.args.tokens.now ≤ c.loop-place.place = omega arith in
    let le : c.loop-place.place ≤ length c.args.tokens.now = omega arith in
    stuck_behind c.args.tokens.now c.loop-place.place (view c.loop-place.reading) le ge c.loop-place.invariant.reached
