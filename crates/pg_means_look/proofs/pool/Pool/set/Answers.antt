use Rattle.std.proofs.Common.{◌≡◌, ℕ, ◌-◌, ◌<◌, List, ◌∷◌, length, get_or, drop, arith, ap, sym, subst, ◌∙◌}
use Rattle.std.proofs.Math.ListN.{drop_of_length-le}
use Rattle.std.proofs.lemmas.List.{drop_more}
use Rattle.pg_ltl.specs.Tableaux.{choices, choices_of}
use Rattle.pg_means_look.specs.Mirrors.Choices.{part, parts}
use Rattle.pg_means_look.specs.Mirrors.Pools.{Has}
use Rattle.pg_means_look.proofs.Pooling.{stands_on, has_on}
use Rattle.pg_means_look.proofs.pool.Pool.set.Goals as goal

pub loop-i-init : goal.loop-i-init
loop-i-init c =
    record {
      within = omega arith;
      has = λ forms letter is rows.
          subst (λ (xs : List ℕ). Has forms c.args.self.now.lists.items c.number.new.self.lists.items (choices_of letter (parts forms xs))
          c.in_ok-number.number) (sym (drop_of_length-le c.args.set.now (omega arith))) (c.in_ok-number.ensures forms is tt);
    }

pub loop-i-preserved : goal.loop-i-preserved
loop-i-preserved c =
    record {
      within = omega (arith, c.loop-i.invariant.within);
      has = λ forms letter is rows.
          let set = c.args.set.now in
          let j : ℕ = c.loop-i.i - 1 in
          let place = get_or set j 0 in
          let below : place < length c.args.rows.now = c.requires j 0 (omega (arith, c.loop-i.invariant.within)) in
          let rest : drop j set ≡ place ∷ drop c.loop-i.i set =
          drop_more set j 0 (omega (arith, c.loop-i.invariant.within)) ∙ ap (λ n. place ∷ drop n set) (omega arith) in
          let before = c.loop-i.invariant.has forms letter is rows in
          subst (λ (ps : List ℕ). Has forms c.args.self.now.lists.items c.product.new.self.lists.items (choices_of letter (parts forms ps))
          c.in_ok-number-2.number) (sym rest)
          (has_on before.grows
          (c.in_ok-number-2.ensures forms (choices letter (part forms place)) (choices_of letter (parts forms (drop c.loop-i.i set))) before.is
          (stands_on before.grows (rows place below)) before.stands));
    }

pub returns : goal.returns
returns c forms letter is rows =
    let none : c.loop-i.i ≡ 0 = omega arith in
    subst (λ i. Has forms c.args.self.now.lists.items c.loop-i.self.lists.items (choices_of letter (parts forms (drop i c.args.set.now)))
    c.loop-i.number) none (c.loop-i.invariant.has forms letter is rows)
