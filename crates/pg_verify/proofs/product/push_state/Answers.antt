use Rattle.std.proofs.Common.{◌≡◌, ◌≢◌, ℕ, ◌+◌, ◌*◌, ◌/◌, ◌%◌, ◌<◌, ◌≤◌, length, arith, refl, sym, subst, ap, ◌∙◌}
use Rattle.std.specs.Prelude.{map}
use Rattle.std.proofs.Math.Nat.{mul-le-mul_right}
use Rattle.std.proofs.lemmas.List.{length-map}
use Rattle.pg_synth.proofs.Letters.{both_parts}
use Rattle.pg_aiger_netlist.specs.Steps.{AreValues}
use Rattle.pg_verify.specs.Mirrors.Products.{Pair, pair_of, pair_at, AreFilled}
use Rattle.pg_verify.proofs.Drafts.{longer}
use Rattle.pg_verify.proofs.Reaching.{pair_along}
use Rattle.pg_verify.proofs.product.push_state.Goals as goal

pub fill-requires-clause-inputs : goal.fill-requires-clause-inputs
fill-requires-clause-inputs c =
    let b = both_parts c.args.automaton.now.controllable in
    let m = c.requires.automaton.marks in
    let f = c.requires.automaton.few_propositions in
    let o = c.requires.inputs in omega (arith, b, m, f, o)

pub fill-requires-clause-before : goal.fill-requires-clause-before
fill-requires-clause-before c = λ ne.
    subst (λ rows. AreFilled c.args.netlist.now (pair_at (map pair_of rows) c.args.k).latches c.loop-input.input c.loop-input.values)
    (sym c.listed-rows.ensures.same) (c.loop-input.invariant.filled ne)

pub push_step-requires-clause-values : goal.push_step-requires-clause-values
push_step-requires-clause-values c =
    let filled : AreFilled c.args.netlist.now (pair_at (map pair_of c.loop-input.draft.rows.keys) c.args.k).latches c.loop-input.input c.fill.new.values =
    subst (λ rows. AreFilled c.args.netlist.now (pair_at (map pair_of rows) c.args.k).latches c.loop-input.input c.fill.new.values)
    c.listed-rows.ensures.same c.fill.ensures in
    let e : c.loop-input.input / 64 * 64 + c.loop-input.input % 64 ≡ c.loop-input.input = omega arith in
    subst (λ m. AreValues c.args.netlist.now (pair_at (map pair_of c.loop-input.draft.rows.keys) c.args.k).latches m (c.loop-input.input % 64)
    c.fill.new.values) e (filled (c.loop-input.input % 64) (omega arith))

pub push_step-requires-clause-few_slots : goal.push_step-requires-clause-few_slots
push_step-requires-clause-few_slots c =
    let m : c.args.k * c.args.letters ≤ 65534 * c.args.letters = mul-le-mul_right c.args.letters (omega arith) in
    let p = c.loop-input.invariant.place in omega (arith, m, p)

same_block : (i : ℕ) → (i + 1) % 64 ≢ 0 → (i + 1) / 64 ≡ i / 64
same_block i ne = omega (arith, ne)

pub loop-input-preserved : goal.loop-input-preserved
loop-input-preserved c =
    let more = longer (map pair_of c.loop-input.draft.rows.keys) (map pair_of c.push_step.new.draft.rows.keys) c.in_ok-push_step.ensures.grown in
    let a = length-map c.loop-input.draft.rows.keys pair_of in
    let b = length-map c.push_step.new.draft.rows.keys pair_of in
    let w = c.loop-input.invariant.within in
    let k_in : c.args.k < length (map pair_of c.loop-input.draft.rows.keys) = omega (arith, a, w) in
    let same : pair_at (map pair_of c.push_step.new.draft.rows.keys) c.args.k ≡ pair_at (map pair_of c.loop-input.draft.rows.keys) c.args.k =
    pair_along (map pair_of c.loop-input.draft.rows.keys) (map pair_of c.push_step.new.draft.rows.keys) c.args.k c.in_ok-push_step.ensures.grown k_in in
    let filled : AreFilled c.args.netlist.now (pair_at (map pair_of c.loop-input.draft.rows.keys) c.args.k).latches c.loop-input.input c.fill.new.values =
    subst (λ rows. AreFilled c.args.netlist.now (pair_at (map pair_of rows) c.args.k).latches c.loop-input.input c.fill.new.values)
    c.listed-rows.ensures.same c.fill.ensures in
    record {
      draft = c.in_ok-push_step.ensures.draft;
      wide = c.in_ok-push_step.ensures.wide;
      place = (let p = c.in_ok-push_step.ensures.place in let q = c.loop-input.invariant.place in omega (arith, p, q));
      within = omega (arith, more, a, b, w);
      few = (let f = c.loop-input.invariant.few in let o = c.in_ok-push_step.ensures.one_row in omega (arith, f, o));
      room = (let r = c.loop-input.invariant.room in let f = c.fill.auto.values in omega (arith, r, f));
      latches = (let r = c.loop-input.invariant.latches in let f = c.push_step.auto.latches in omega (arith, r, f));
      filled = λ ne.
          subst (λ (y : Pair). (lane : ℕ) → lane < 64
          → AreValues c.args.netlist.now y.latches ((c.loop-input.input + 1) / 64 * 64 + lane) lane c.fill.new.values) (sym same)
          (subst (λ m. (lane : ℕ) → lane < 64
          → AreValues c.args.netlist.now (pair_at (map pair_of c.loop-input.draft.rows.keys) c.args.k).latches (m * 64 + lane) lane c.fill.new.values)
          (sym (same_block c.loop-input.input ne)) filled);
    }
