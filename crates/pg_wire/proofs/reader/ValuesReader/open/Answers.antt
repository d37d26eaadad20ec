use Rattle.pg_wire.proofs.Common.{ℕ, List, get_or, sym, ap, refl, ◌∙◌, subst, Frame, Spells, kind_number}
use Rattle.pg_wire.proofs.Lengths.{kind_and_after}
use Rattle.pg_wire.proofs.Tells.{kinded}
use Rattle.pg_wire.proofs.Skip.{measures_left, spelled_body}
use Rattle.pg_wire.proofs.reader.ValuesReader.open.Goals as goal

pub returns-in_err-kind-in-len1-up-clause-all : goal.returns-in_err-kind-in-len1-up-clause-all
returns-in_err-kind-in-len1-up-clause-all c = λ f tells s none.
    let k = kinded f tells in
    let whole = spelled_body c.args.bytes.now c.in_ok-body_of.field-0.now f c.in_ok-body_of.ensures.found s in
    c.in_err-kind-in-len1-up.ensures.all k.0 (sym k.1 ∙ ap (λ (bs : List ℕ). get_or bs 0 0) (sym whole)) refl

pub returns-in-Ok-within-clause-found : goal.returns-in-Ok-within-clause-found
returns-in-Ok-within-clause-found c =
    let kind = c.in_ok-kind-in-len1-up.kind in
    let p = c.in_ok-body_of.ensures.found in
    let q = measures_left kind p.0 c.in-Ok.width _ _ c.in-Ok.list.now c.in-Ok-within.bytes p.1.well
    (kind_and_after _ (kind_number kind) c.in-len1-up.len_at_least (sym c.in_ok-kind-in-len1-up.ensures.found) ∙ p.2)
    c.in-Ok.ensures.read c.in-Ok-within.ensures.read in
    (q.0, subst (λ (f : Frame). Spells f c.args.bytes.now) q.1 p.1, q.2)
