use Rattle.pg_hoa.proofs.Common.{◌≡◌, ◌∙◌, ◌+◌, ◌*◌, ◌<◌, true, get_or, length, sym, ap, subst, inl, inr, arith, get_or_read, truth}
use Rattle.pg_hoa.proofs.Common.{truth_in}
use Rattle.pg_hoa.proofs.TablePlaces.{before_or_behind}
use Rattle.pg_hoa.proofs.table.are_covered.Goals as goal

pub loop-k-preserved : goal.loop-k-preserved
loop-k-preserved c = λ i j below small bit. elim (before_or_behind i c.loop-k.k) [
  | inl before ↦ c.loop-k.invariant i j before small bit
  | inr behind ↦
      let is : c.loop-k.k ≡ i = omega (arith, below, behind) in
      let items = c.args.filling.now.covered.words.items in
      let within : c.args.run * 16 + c.loop-k.k < length items =
      omega (arith, c.if-len-from.false, c.loop-k-test.true, c.args.filling.now.covered.words.ok.0, c.len.ensures) in
      let here : truth c.index.result.now j ≡ true =
      c.is_within.ensures c.if-not-is_within.false j small (ap (λ n. truth_in c.args.words.now n j) is ∙ bit) in
      let there : c.index.result.now ≡ get_or items (c.args.run * 16 + c.loop-k.k) 0 =
      get_or_read items (c.args.run * 16 + c.loop-k.k) c.index.result.now within c.index.ensures 0 in
      subst (λ n. truth (get_or items (c.args.run * 16 + n) 0) j ≡ true) is (sym (ap (λ n. truth n j) there) ∙ here)
]
