use Rattle.pg_aiger.proofs.Common.{◌≡◌, ℕ, ◌*◌, ◌/◌, ◌%◌, ◌^◌, ◌<◌, ◌++◌, [], ◌∷◌, arith, sym, ap, ◌∙◌, map-range_with_len_more, pow-lt}
use Rattle.pg_aiger.proofs.Common.{reply, outputs_below, nexts_below, reply_of}
use Rattle.pg_aiger.proofs.circuit.replies.Goals as goal

pub loop-place-preserved : goal.loop-place-preserved
loop-place-preserved c =
    let machine = c.args.machine.now in
    let place = c.loop-place.place in
    let inputs = c.inputs-inputs.result in
    let few : c.inputs-inputs.result < 17 = (let same = c.inputs-inputs.ensures in let f = c.requires.few_propositions in omega (arith, same, f)) in
    let fits : 1 * 2 ^ c.inputs-inputs.result % 4294967296 ≡ 2 ^ c.inputs-inputs.result = (let lt = pow-lt few in omega (arith, lt)) in
    let output : c.step-output.result.0 ≡ (reply_of machine place).output =
    c.step-output.ensures.output ∙ ap (λ (w : ℕ). (reply machine (place / 2 ^ inputs) (place % w)).output) fits
    ∙ ap (λ (k : ℕ). (reply machine (place / 2 ^ k) (place % 2 ^ k)).output) c.inputs-inputs.ensures in
    let next : c.step-output.result.1 ≡ (reply_of machine place).next =
    c.step-output.ensures.next ∙ ap (λ (w : ℕ). (reply machine (place / 2 ^ inputs) (place % w)).next) fits
    ∙ ap (λ (k : ℕ). (reply machine (place / 2 ^ k) (place % 2 ^ k)).next) c.inputs-inputs.ensures in (
      c.in_ok-push.ensures.items ∙ ap (λ l. l ++ c.step-output.result.0 ∷ []) c.loop-place.invariant.0
          ∙ ap (λ o. outputs_below machine place ++ o ∷ []) output
          ∙ sym (map-range_with_len_more (λ p. (reply_of machine p).output) 0 place place (omega arith)),
      c.in_ok-push-2.ensures.items ∙ ap (λ l. l ++ c.step-output.result.1 ∷ []) c.loop-place.invariant.1
          ∙ ap (λ o. nexts_below machine place ++ o ∷ []) next
          ∙ sym (map-range_with_len_more (λ p. (reply_of machine p).next) 0 place place (omega arith)),
    )
