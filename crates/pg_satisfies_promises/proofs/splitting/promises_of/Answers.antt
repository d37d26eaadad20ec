use Rattle.std.proofs.Common.{◌≡◌, subst, sym}
use Rattle.pg_ltl.proofs.Nodes.{extends_twice, normal_in-extends}
use Rattle.pg_satisfies_promises.specs.Mirrors.Growing.{AreWithin}
use Rattle.pg_satisfies_promises.specs.Mirrors.Alternatives.{AddsAllAlternatives}
use Rattle.pg_satisfies_promises.proofs.NodeLists.{within_kept}
use Rattle.pg_satisfies_promises.proofs.Tries.{promises_none, promises_more, all_promises, all_implied}
use Rattle.pg_satisfies_promises.proofs.splitting.promises_of.Goals as goal

pub alternatives_of-requires : goal.alternatives_of-requires
alternatives_of-requires c = record { ordered = c.args.form.ordered; root = c.args.form.within }

pub loop-alternative-init : goal.loop-alternative-init
loop-alternative-init c =
    promises_none c.alternatives_of.new.nodes.items c.deref-alternative-items.result.now c.new-promises.result.items c.new-promises.ensures.items
    c.in_ok-alternatives.ensures.ordered

pub tries_of-requires : goal.tries_of-requires
tries_of-requires c =
    let mid = c.alternatives_of.new.nodes.items in
    let list = c.deref-alternative-items.result.now in
    let e : list ≡ c.in_ok-alternatives.alternatives.items = c.deref-alternative-items.ensures.value in
    record {
      ordered = c.loop-alternative.invariant.ordered;
      alternative =
          within_kept mid c.loop-alternative.nodes.items c.loop-alternative.invariant.grown list
          (subst (AreWithin mid) (sym e) c.in_ok-alternatives.ensures.within) c.loop-alternative.alternative-index 0 c.loop-alternative-test.true;
    }

pub loop-alternative-preserved : goal.loop-alternative-preserved
loop-alternative-preserved c =
    promises_more c.alternatives_of.new.nodes.items c.loop-alternative.nodes.items c.tries_of.new.nodes.items c.deref-alternative-items.result.now
    c.loop-alternative.alternative-index c.loop-alternative.promises.items c.push.new.self.items c.in_ok-tries.tries c.loop-alternative-test.true
    c.loop-alternative.invariant c.in_ok-tries.ensures c.in_ok-push.ensures.items

pub invariant_of-result : goal.invariant_of-result
invariant_of-result c = record { ordered = c.loop-alternative.invariant.ordered; within = c.loop-alternative.invariant.within }

pub returns : goal.returns
returns c =
    let old = c.args.form.nodes.items in
    let mid = c.alternatives_of.new.nodes.items in
    let new = c.loop-alternative.nodes.items in
    let list = c.deref-alternative-items.result.now in
    let adds : AddsAllAlternatives old mid c.args.form.root list =
    subst (AddsAllAlternatives old mid c.args.form.root) (sym c.deref-alternative-items.ensures.value) c.in_ok-alternatives.ensures in
    record {
      keeps = λ place. normal_in-extends old new place (extends_twice old mid new adds.grown c.loop-alternative.invariant.grown);
      splits =
          all_promises old mid new c.args.form.root list c.loop-alternative.alternative-index c.loop-alternative.promises.items adds
          c.loop-alternative.invariant c.loop-alternative-test.false;
      implied =
          all_implied old mid new c.args.form.root list c.loop-alternative.alternative-index c.loop-alternative.promises.items adds
          c.loop-alternative.invariant;
    }
