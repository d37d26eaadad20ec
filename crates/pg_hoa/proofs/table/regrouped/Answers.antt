use Rattle.pg_hoa.proofs.Common.{◌≡◌, ◌∙◌, ℕ, ◌++◌, ◌==◌, ◌&&◌, map, ap, Bor, rules, Option, filter, ties, is_lt, take_all}
use Rattle.pg_hoa.proofs.Common.{always_returns_same, deciding, rising, KeptEdge, edge_in, has_key, edge_step, same_set, with_sets}
use Rattle.pg_hoa_syntax.specs.declared.body.ReadEdge.{ReadEdge}
use Rattle.pg_hoa.proofs.Counting.{all_count}
use Rattle.pg_hoa.proofs.TableRegrouped.{stable_test, filter_mapped_as, mapped_twice, key_cmp, same_ties}
use Rattle.pg_hoa.proofs.table.regrouped.Goals as goal

pub returns : goal.returns
returns c = λ own d target counts.
    let key : Bor ReadEdge → ℕ × Option ℕ = λ e. (e.now.target, with_sets c.args.shape c.args.counts e.now.sets.items) in
    let p = λ (e : KeptEdge). has_key c.args.shape target counts (edge_step own e) in
    let sets : (e : Bor ReadEdge)
    → with_sets c.args.shape c.args.counts e.now.sets.items ≡ deciding c.args.shape (rising (own ++ e.now.sets.items)) =
    λ e. all_count c.args.shape c.args.counts own e.now.sets.items d in
    let kept = λ (e : Bor ReadEdge). edge_in e.now in
    let before = c.loop-edge.order.items in
    let after = c.sort_by_key.new.self.items in
    let all : map (λ (e : Bor ReadEdge). e.now) before ≡ c.args.edges.now = c.loop-edge.invariant
    ∙ take_all c.loop-edge.edge-index c.args.edges.now c.loop-edge-test.false in
    let stable = c.in_ok-sort_by_key.ensures.stable key (always_returns_same _ _ _ (λ a r f h. search rules)) in
    let same : filter (λ e. p (kept e)) after ≡ filter (λ e. p (kept e)) before =
    stable_test (λ e. p (kept e)) (ties (λ a b. is_lt (key_cmp (key a) (key b)))) before after
    (λ x y e. same_ties key target counts x y (ap (λ n. (x.now.target == target) && same_set n counts) (sets x) ∙ e)
    ∙ ap (λ n. (y.now.target == target) && same_set n counts) (sets y)) stable in
    filter_mapped_as kept kept p after before (ap (map kept) same)
    ∙ ap (filter p) (mapped_twice (λ (e : Bor ReadEdge). e.now) edge_in before)
    ∙ ap (λ l. filter p (map edge_in l)) all
