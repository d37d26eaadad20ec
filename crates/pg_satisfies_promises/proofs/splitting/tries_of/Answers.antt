use Rattle.std.proofs.Common.{◌≡◌, ◌<◌, ℕ, List, length, subst, sym}
use Rattle.std.specs.Prelude.{All, Contains}
use Rattle.std.proofs.lemmas.List.Elements.{All-nil}
use Rattle.pg_ltl.specs.declared.normal.NormalNode.{NormalNode}
use Rattle.pg_ltl.specs.Mirrors.Nodes.{AreNormalNodes}
use Rattle.pg_satisfies_promises.specs.Mirrors.Growing.{AreWithin, Gives, AddsTries}
use Rattle.pg_satisfies_promises.proofs.NodeLists.{within_among, within_kept}
use Rattle.pg_satisfies_promises.proofs.Tries.{tries_given}
use Rattle.pg_satisfies_promises.proofs.splitting.tries_of.Goals as goal

pub conjuncts_of-requires : goal.conjuncts_of-requires
conjuncts_of-requires c =
    let e : c.deref.result.now ≡ c.args.nodes.now.items = c.deref.ensures.value in
    record {
      ordered = subst AreNormalNodes (sym e) c.requires.ordered;
      whole = subst (λ (nodes : List NormalNode). c.args.alternative < length nodes) (sym e) c.requires.alternative;
    }

-- what was kept of the conjuncts is within the list
few_within : (nodes seen : List NormalNode) (whole : ℕ) (conjuncts copy few read : List ℕ) → seen ≡ nodes → Gives seen whole conjuncts
    → copy ≡ conjuncts → All (Contains copy) few → read ≡ few → AreWithin nodes read
few_within nodes seen whole conjuncts copy few read e gives f among g =
    subst (AreWithin nodes) (sym g)
    (within_among nodes conjuncts few (subst (λ (xs : List ℕ). All (Contains xs) few) f among)
    (subst (λ (ns : List NormalNode). AreWithin ns conjuncts) e gives.within))

pub add_try-requires : goal.add_try-requires
add_try-requires c =
    record {
      ordered = c.requires.ordered;
      few =
          few_within c.args.nodes.now.items c.deref.result.now c.args.alternative c.in_ok-conjuncts.conjuncts.items c.deref-4.result.now
          c.in_ok-near.near.items c.deref-6.result.now c.deref.ensures.value c.in_ok-conjuncts.ensures c.deref-4.ensures.value c.in_ok-near.ensures
          c.deref-6.ensures.value;
      tries = subst (AreWithin c.args.nodes.now.items) (sym c.new-tries.ensures.items) (All-nil (λ p. p < length c.args.nodes.now.items));
    }

pub add_try-requires-2 : goal.add_try-requires-2
add_try-requires-2 c =
    let so = c.in_ok-add_try.ensures in
    record {
      ordered = so.ordered;
      few =
          within_kept c.args.nodes.now.items c.add_try.new.nodes.items so.grown c.deref-7.result.now
          (few_within c.args.nodes.now.items c.deref.result.now c.args.alternative c.in_ok-conjuncts.conjuncts.items c.deref-5.result.now
          c.in_ok-linked.linked.items c.deref-7.result.now c.deref.ensures.value c.in_ok-conjuncts.ensures c.deref-5.ensures.value
          c.in_ok-linked.ensures c.deref-7.ensures.value);
      tries = so.within;
    }

pub returns : goal.returns
returns c =
    let old = c.args.nodes.now.items in
    let mid = c.add_try.new.nodes.items in
    let new = c.add_try-2.new.nodes.items in
    let conjuncts = c.in_ok-conjuncts.conjuncts.items in
    let near = c.in_ok-near.near.items in
    let linked = c.in_ok-linked.linked.items in
    tries_given old mid new c.args.alternative conjuncts near linked c.new-tries.result.items c.add_try.new.tries.items c.add_try-2.new.tries.items
    c.push.new.self.items
    (subst (λ (nodes : List NormalNode). Gives nodes c.args.alternative conjuncts) c.deref.ensures.value c.in_ok-conjuncts.ensures)
    (subst (λ (xs : List ℕ). All (Contains xs) near) c.deref-4.ensures.value c.in_ok-near.ensures)
    (subst (λ (xs : List ℕ). All (Contains xs) linked) c.deref-5.ensures.value c.in_ok-linked.ensures)
    c.new-tries.ensures.items
    (subst (λ (xs : List ℕ). AddsTries old mid xs c.new-tries.result.items c.add_try.new.tries.items) c.deref-6.ensures.value c.in_ok-add_try.ensures)
    (subst (λ (xs : List ℕ). AddsTries mid new xs c.add_try.new.tries.items c.add_try-2.new.tries.items) c.deref-7.ensures.value
    c.in_ok-add_try-2.ensures)
    c.requires.alternative c.in_ok-push.ensures.items
