use Rattle.pg_hoa.proofs.Common.{◌≡◌, ◌∙◌, sym, ap, arith, [], nil_from_length, top, under, truths}
use Rattle.pg_hoa.proofs.TableWords.{truths_push, truths_none, zeros_say}
use Rattle.pg_hoa.proofs.letters.pop.Goals as goal

pub returns-in-Some : goal.returns-in-Some
returns-in-Some c = record {
  top = λ k j h. sym (ap (λ s. top (truths k j s)) c.in-Some.ensures.items ∙ ap top (truths_push k j c.pop.new.self.items c.in-Some.words));
  under = λ k j. sym (ap (λ s. under (truths k j s)) c.in-Some.ensures.items ∙ ap under
      (truths_push k j c.pop.new.self.items c.in-Some.words));
}

pub returns-in-None : goal.returns-in-None
returns-in-None c =
    let new : c.pop.new.self.items ≡ [] =
    nil_from_length c.pop.new.self.items (omega (arith, c.pop.new.self.ok.0, c.in-None.ensures.cases.1)) in
    let old : c.args.stack.now.items ≡ [] =
    nil_from_length c.args.stack.now.items (omega (arith, c.args.stack.now.ok.0, c.in-None.ensures.cases.0)) in
    record {
      top = λ k j h. zeros_say 16 k j h ∙ sym (ap (λ s. top (truths k j s)) old ∙ ap top (truths_none k j));
      under = λ k j. ap (truths k j) new ∙ truths_none k j ∙ sym (ap (λ s. under (truths k j s)) old ∙ ap under (truths_none k j));
    }
