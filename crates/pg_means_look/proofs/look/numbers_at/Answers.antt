use Rattle.std.proofs.Common.{ℕ, Bool, List, sym, subst}
use Rattle.std.proofs.lemmas.Result.{IfOk-weaker}
use Rattle.std.specs.declared.vec.Vec.{Vec}
use Rattle.std.specs.declared.alloc.Global.{Global}
use Rattle.pg_means_look.specs.Mirrors.Tables.{truth_at}
use Rattle.pg_means_look.specs.Mirrors.Pools.{IsPool, AreRows}
use Rattle.pg_means_look.proofs.look.numbers_at.Goals as goal

pub returns : goal.returns
returns c =
    IfOk-weaker c.numbers.result _ _ (λ numbers h forms are is.
    let on = λ (truths : List (Vec Bool Global)) (p : ℕ). truth_at truths p c.args.letter in
    let lists = c.rows.new.self.lists.items in
    let rows = subst (λ (truths : List (Vec Bool Global)). IsPool forms lists × AreRows (on truths) forms lists c.in_ok-rows.rows.items)
    c.deref.ensures.value (c.in_ok-rows.ensures.rows forms are (c.clear_if_full.ensures forms is)) in
    h forms (on c.args.automaton.now.truths.items) rows.0
    (subst (AreRows (on c.args.automaton.now.truths.items) forms lists) (sym c.deref-2.ensures.value) rows.1)) c.numbers.ensures
