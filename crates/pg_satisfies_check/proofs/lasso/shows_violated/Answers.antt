use Rattle.std.proofs.Common.{◌≡◌, ℕ, ◌+◌, ◌<◌, Bool, List, length, get_or, arith, ap, subst, ◌∙◌}
use Rattle.std.specs.declared.vec.Vec.{Vec}
use Rattle.std.specs.declared.alloc.Global.{Global}
use Rattle.std.proofs.lemmas.Result.{IfOk-weaker}
use Rattle.pg_aiger.specs.Circuits.{Circuit}
use Rattle.pg_aiger.specs.Runs.{Valuation}
use Rattle.pg_ltl.specs.NormalForms.{Holds}
use Rattle.pg_ltl.specs.Mirrors.Nodes.{normal_in}
use Rattle.pg_means_look.specs.Lassos.{lasso}
use Rattle.pg_means_look.specs.Mirrors.Tables.{row_at}
use Rattle.pg_means_look.specs.Mirrors.Places.{word_of}
use Rattle.pg_satisfies_check.specs.Satisfaction.{IsEndlessRun, IsPartOf, run_word}
use Rattle.pg_satisfies_check.specs.Mirrors.Steps.{circuit_of, Rows}
use Rattle.pg_satisfies_check.specs.Mirrors.Lassos.{AreLinked, AreToldOn, truth_on, letters_of}
use Rattle.pg_satisfies_check.proofs.Stepping.{on_true_weaker, of_true}
use Rattle.pg_satisfies_check.proofs.Linking.{holds_by}
use Rattle.pg_satisfies_check.proofs.lasso.shows_violated.Goals as goal

pub returns : goal.returns
returns c =
    let s = c.args.system.now in
    let inputs = c.args.inputs.now in
    let letters = c.args.letters.now in
    let back = c.args.back in
    let form = normal_in c.args.nodes.now c.args.root in
    let rows = c.in-Some.rows.items in
    let truths = c.deref-4.result.now in
    let places = c.deref-5.result.now in
    let long : length rows ≡ length letters = omega (arith, c.len.ensures, c.if-len-count.false, c.in-Some.rows.ok.0) in
    let comes_round : back < length letters = omega arith in
    let count : length places ≡ length letters = omega (arith, ap length c.deref-5.ensures.value, c.in_ok-places.ensures.long) in
    let linked = subst (λ (rs : Rows). AreLinked s inputs letters rs back) c.deref.ensures.value
    (of_true c.in_ok-are_linked.field-0 (AreLinked s inputs letters c.deref.result.now back) c.in_ok-are_linked.ensures c.if-not-branch.false) in
    let told = subst (λ (rs : Rows). AreToldOn s rs form) c.deref-2.ensures.value
    (of_true c.in_ok-knows_each.field-0 (AreToldOn s c.deref-2.result.now form) c.in_ok-knows_each.ensures c.if-not-branch-2.false) in
    IfOk-weaker c.holds_on.result _ _ (λ yes h. on_true_weaker yes (Holds (word_of truths places back) form 0)
    ((circuit : Circuit) (run : ℕ → Valuation) → IsPartOf (circuit_of s) circuit → circuit.inputs ≡ inputs
    → IsEndlessRun circuit (lasso (letters_of letters) back) run → Holds (run_word s.literals.items run) form 0)
    (λ holds circuit run part same endless.
    holds_by s inputs letters rows back linked long comes_round truths places count
    (λ i lt. ap (λ (xs : List ℕ). get_or xs i 0) c.deref-5.ensures.value ∙ c.in_ok-places.ensures.same i lt)
    (λ p lt. ap (λ (ts : List (Vec Bool Global)). row_at ts p) c.deref-4.ensures.value ∙ c.in_ok-truths.ensures p lt
    ∙ ap (λ (rs : Rows). truth_on rs (length s.latches.items + p)) c.deref-3.ensures.value)
    circuit run part same endless form told holds) h) c.holds_on.ensures
