use Rattle.pg_hoa_syntax.proofs.Common.{◌∙◌, subst, ℕ, List, Result, Ok, Err, nat_cmp, IsBinarySearchResult}
use Rattle.pg_hoa_syntax.proofs.SetLists.{put_found, put_missing}
use Rattle.pg_hoa_syntax.proofs.body.put.Goals as goal

pub returns-in-Ok : goal.returns-in-Ok
returns-in-Ok c =
    let r : Result ℕ ℕ = Ok c.in-Ok.field-0 in
    put_found c.args.numbers.now.items c.args.number c.requires c.in-Ok.field-0
    (subst (λ (ns : List ℕ). IsBinarySearchResult (λ y. nat_cmp y c.args.number) ns r) c.deref.ensures.value c.in-Ok.ensures.position)

pub returns-in_ok-insert-in-Err : goal.returns-in_ok-insert-in-Err
returns-in_ok-insert-in-Err c =
    let r : Result ℕ ℕ = Err c.in-Err.place in
    c.in_ok-insert-in-Err.ensures.items
    ∙ put_missing c.args.numbers.now.items c.args.number c.requires c.in-Err.place
    (subst (λ (ns : List ℕ). IsBinarySearchResult (λ y. nat_cmp y c.args.number) ns r) c.deref.ensures.value c.in-Err.ensures.position)
