use Rattle.pg_hoa.proofs.Common.{◌∙◌, ◌∷◌, [], sym, refl, ap, map, append-nil, map-append, stage}
use Rattle.pg_hoa.proofs.TableNumbers.{extends_by}
use Rattle.pg_hoa.proofs.table.place_of.Goals as goal

pub returns-clause-keeps : goal.returns-clause-keeps
returns-clause-keeps c =
    extends_by (stage c.args.filling.now) _ [] (c.args.sets.items ∷ []) refl refl refl (sym (append-nil c.args.filling.now.steps.items))
    (ap (map (λ v. v.items)) c.in_ok-push.ensures.items ∙ map-append (λ v. v.items) c.args.filling.now.lists.items (c.args.sets ∷ []))
