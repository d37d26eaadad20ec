use Rattle.pg_coord_rounds.proofs.Common.{ℕ, ◌+◌, ◌∙◌, [], true, false, ap, sym, arith, ◌≡◌, measure_in, few_components}
use Rattle.pg_coord_rounds.proofs.Measuring.{pushed}
use Rattle.pg_coord_rounds.proofs.values.push_next.Goals as goal

pub push-requires : goal.push-requires
push-requires c = few_components c.args.map.now.bounds (measure_in c.get.result) c.get.ensures.fits c.requires.few

pub returns-then-fits-clause-written : goal.returns-then-fits-clause-written
returns-then-fits-clause-written c = λ ms h.
    let at : c.from.result ≡ c.args.v = c.from.ensures ∙ c.v.view_is in
    let past = c.if-from-next.false in
    pushed c.in_ok-fits.fits c.args.map.now c.args.writer.now c.push.new.writer c.args.next.now (c.from-then-fits.result + 1) c.args.v
    (measure_in c.get.result) ms c.args.out.now.items c.push.new.out.items
    (omega arith) c.requires.v c.get.ensures.value c.get.ensures.fits
    (λ e. ap (λ (n : ℕ). n + 1) (c.from-then-fits.ensures ∙ c.v-2.view_is))
    (λ e. let no : true ≡ false = sym c.if-fits.true ∙ e in cc) h (c.in_ok-fits.ensures.added [] ms h.writing)
