use Rattle.pg_world.proofs.Common.{◌≡◌, ◌<◌, ◌∙◌, List, ℕ, [], length, drop, replicate, get_or, ap, sym, arith, subst, map, length-set}
use Rattle.pg_world.proofs.Common.{drop_all, get_or-map, Update, NO_UPDATE, UpdateValue, update_value, ComeFrom}
use Rattle.pg_world.proofs.Showing.{one_cleared, all_cleared}
use Rattle.pg_world.proofs.replica.clear.Goals as goal

pub loop-number-preserved : goal.loop-number-preserved
loop-number-preserved c =
    let us : List Update = c.args.updates.now in
    let ks : List ℕ = c.args.taken.now in
    let gs : List ℕ = c.loop-number.greatest in
    let i : ℕ = c.loop-number.number-index in
    let n : ℕ = get_or ks i 0 in
    let u : Update = c.index-updates-number.result in
    let below : n < length us = c.requires.taken i 0 c.loop-number-test.true in
    let there : get_or (map update_value us) n (update_value u) ≡ update_value u = get_or-map update_value us n u (update_value u) below
    ∙ ap update_value (sym c.index-updates-number.is) in
    let at : u.vertex ≡ (get_or (map update_value us) n (update_value u)).vertex = sym (ap (λ (x : UpdateValue). x.vertex) there) in
    let v_is : c.v.inside.0 ≡ u.vertex = c.v.view_is ∙ ap (λ (x : Update). x.vertex) (sym c.index-updates-number.is) in
    let here : u.vertex < length c.args.greatest.now = rw c.index-updates-number.is (c.requires.vertices n u below) in
    let within : c.v.inside.0 < length gs = omega (arith, here, v_is, c.loop-number.invariant.size) in
    record {
      size = length-set gs c.v.inside.0 NO_UPDATE ∙ c.loop-number.invariant.size;
      from = one_cleared (map update_value us) ks gs i c.v.inside.0 (update_value u) c.loop-number-test.true (v_is ∙ at) within c.loop-number.invariant.from;
    }

pub returns : goal.returns
returns c =
    let e : drop c.loop-number.number-index c.args.taken.now ≡ [] = drop_all c.loop-number.number-index c.args.taken.now (omega arith) in
    let from : ComeFrom (map update_value c.args.updates.now) [] c.loop-number.greatest =
    subst (λ (ks : List ℕ). ComeFrom (map update_value c.args.updates.now) ks c.loop-number.greatest) e c.loop-number.invariant.from in
    all_cleared (map update_value c.args.updates.now) c.loop-number.greatest from ∙ ap (λ (n : ℕ). replicate n NO_UPDATE) c.loop-number.invariant.size
