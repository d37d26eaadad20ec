use Rattle.pg_hoa.proofs.Common.{◌≡◌, ◌∙◌, ℕ, [], ◌∷◌, ◌++◌, ◌*◌, ◌%◌, ◌+◌, ◌^◌, ◌<◌, map, take, length, None, refl, ap, subst, Bor, arith}
use Rattle.pg_hoa.proofs.Common.{shl_whole, pow_pos, append-nil, take_all, rising, some, step, edge_in, stage, Adds, IsRegrouped, at_line}
use Rattle.pg_hoa.proofs.Common.{at_letters}
use Rattle.pg_hoa_syntax.specs.declared.body.ReadEdge.{ReadEdge}
use Rattle.pg_hoa.proofs.Counting.{none_counts, all_count}
use Rattle.pg_hoa.proofs.TableFilling.{adds_none, adds_then, adds_extended}
use Rattle.pg_hoa.proofs.TablePlaces.{line_of, no_edges, edge_added, more_items}
use Rattle.pg_hoa.proofs.TableRegrouped.{adds_regrouped}
use Rattle.pg_hoa.proofs.table.add_line.Goals as goal

pub loop-edge-init : goal.loop-edge-init
loop-edge-init c = adds_none c.args.shape _ (stage c.place_of.new.filling)
    (λ i. no_edges (2 ^ c.args.propositions) c.args.line.now.state c.args.line.now.sets.items i)

pub add_edge-requires-clause-placed : goal.add_edge-requires-clause-placed
add_edge-requires-clause-placed c =
    let own = c.as_slice-own.result.now in
    c.loop-edge.invariant.lists c.in_ok-place.place (rising own)
    (c.in_ok-place.ensures.there ∙ ap some (c.in_ok-sets.ensures ∙ ap rising (append-nil own)))

pub add_edge-requires-clause-decided : goal.add_edge-requires-clause-decided
add_edge-requires-clause-decided c =
    c.counts_with.ensures ∙ all_count c.args.shape c.counts_with-counts.result c.as_slice-own.result.now c.as_slice-more.result.now
    (c.counts_with-counts.ensures ∙ all_count c.args.shape None [] c.as_slice-own.result.now (none_counts c.args.shape))

pub loop-edge-preserved : goal.loop-edge-preserved
loop-edge-preserved c =
    let e = c.edge-item.result in
    let l = c.args.line.now in
    let i = c.loop-edge.edge-index in
    let items = c.deref-edge-items.result.now in
    let letters : ℕ = 2 ^ c.args.propositions in
    let here : i < length items = omega (arith, c.loop-edge-test.true) in
    let before = map (λ (r : Bor ReadEdge). edge_in r.now) (take i items) in
    let behind = map (λ (r : Bor ReadEdge). edge_in r.now) (take (i + 1) items) in
    let all : before ++ (edge_in e.now ∷ []) ≡ behind = more_items (λ (r : Bor ReadEdge). edge_in r.now) items i e here c.edge-item.is in
    let first : l.state * letters % 18446744073709551616 ≡ l.state * letters =
    shl_whole l.state 32 c.args.propositions 64 (omega arith) (omega arith) in
    let sets : rising (c.as_slice-own.result.now ++ c.as_slice-more.result.now) ≡ rising (l.sets.items ++ e.now.sets.items) =
    ap (λ own. rising (own ++ c.as_slice-more.result.now)) c.as_slice-own.ensures.value
    ∙ ap (λ more. rising (l.sets.items ++ more)) c.as_slice-more.ensures.value in
    let s = step e.now.target (rising (c.as_slice-own.result.now ++ c.as_slice-more.result.now)) in
    let given = at_letters (l.state * letters % 18446744073709551616) letters c.as_slice.result.now s in
    adds_then c.args.shape (at_line letters (line_of l.state l.sets.items before)) given
    (at_line letters (line_of l.state l.sets.items behind))
    (stage c.place_of.new.filling) (stage c.loop-edge.filling) (stage c.add_edge.new.filling) c.loop-edge.invariant
    (subst (λ n. Adds c.args.shape (at_letters (l.state * letters % 18446744073709551616) n c.as_slice.result.now s)
    (stage c.loop-edge.filling) (stage c.add_edge.new.filling)) c.blocks_of-blocks.ensures.all c.in_ok-add_edge.ensures)
    (λ j. edge_added letters l.state (l.state * letters % 18446744073709551616) l.sets.items before behind
    (edge_in e.now) c.as_slice.result.now (rising (c.as_slice-own.result.now ++ c.as_slice-more.result.now)) j
    (pow_pos c.args.propositions) first c.as_slice.ensures.value sets all)

pub returns : goal.returns
returns c =
    let l = c.args.line.now in
    let letters : ℕ = 2 ^ c.args.propositions in
    let items = c.deref-edge-items.result.now in
    let order = map (λ (r : Bor ReadEdge). edge_in r.now) c.in_ok-order.order.items in
    let whole : take c.loop-edge.edge-index items ≡ c.in_ok-order.order.items =
    take_all c.loop-edge.edge-index items c.loop-edge-test.false ∙ c.deref-edge-items.ensures.value in
    let all : Adds c.args.shape (at_line letters (line_of l.state l.sets.items order)) (stage c.place_of.new.filling)
    (stage c.loop-edge.filling) =
    subst (λ es. Adds c.args.shape (at_line letters (line_of l.state l.sets.items (map (λ (r : Bor ReadEdge). edge_in r.now) es)))
    (stage c.place_of.new.filling) (stage c.loop-edge.filling)) whole c.loop-edge.invariant in
    let found = c.in_ok-order.ensures c.as_slice-own.result.now
    (c.counts_with-counts.ensures ∙ all_count c.args.shape None [] c.as_slice-own.result.now (none_counts c.args.shape)) in
    let regrouped : IsRegrouped c.args.shape l.sets.items (map edge_in l.edges.items) order =
    subst (λ own. IsRegrouped c.args.shape own (map edge_in l.edges.items) order) c.as_slice-own.ensures.value
    (subst (λ es. IsRegrouped c.args.shape c.as_slice-own.result.now (map edge_in es) order) c.deref.ensures.value found) in
    let given = at_line letters (line_of l.state l.sets.items (map edge_in l.edges.items)) in
    adds_then c.args.shape (λ i. []) given given (stage c.args.filling.now) (stage c.place_of.new.filling) (stage c.loop-edge.filling)
    (adds_extended c.args.shape (stage c.args.filling.now) (stage c.place_of.new.filling) c.in_ok-place.ensures.keeps)
    (adds_regrouped c.args.shape letters l.state l.sets.items (map edge_in l.edges.items) order (stage c.place_of.new.filling)
    (stage c.loop-edge.filling) regrouped all) (λ i. refl)
