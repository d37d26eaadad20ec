use Rattle.pg_hoa.proofs.Common.{◌∙◌, ◌+◌, ◌*◌, ◌∷◌, ap, truths, fits}
use Rattle.pg_hoa.proofs.TableWords.{truths_push}
use Rattle.pg_hoa.proofs.letters.execute.Goals as goal

pub returns-in_ok-push-in-Put : goal.returns-in_ok-push-in-Put
returns-in_ok-push-in-Put c = λ k j h small. rw c.in-Put.is
    (ap (λ x. x ∷ truths k j c.push.new.self.items) (c.term_words.ensures k j h)
    ∙ ap (λ s. fits (c.args.run * 16 + k) j c.in-Put.term ∷ s)
    (ap (truths k j) c.in_ok-push-in-Put.ensures.items ∙ truths_push k j c.args.stack.now.items c.args.top.now))
