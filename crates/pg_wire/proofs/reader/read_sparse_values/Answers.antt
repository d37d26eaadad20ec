use Rattle.pg_wire.proofs.Common.{◌++◌, List, ℕ, map, Ok, Some, SparseValue, nonzero, ValuesReader, sparse_form, refl, sym, ap, ◌∙◌}
use Rattle.pg_wire.proofs.Common.{err_from_is_err_and}
use Rattle.pg_wire.proofs.Left.{has_list, all_made, top_made, list_made}
use Rattle.pg_wire.proofs.Grammar.{ok_is}
use Rattle.pg_wire.proofs.Bodies.{fails_known}
use Rattle.pg_wire.proofs.reader.read_sparse_values.Goals.{then-is_top, else-is_top+in_ok-read_pairs}
use Rattle.pg_wire.proofs.reader.read_sparse_values.Goals as goal

pub each-init : goal.each-init
each-init c = record {
  kind = refl;
  made = λ ms h. (ms, ap (λ (vs : List SparseValue). vs ++ map sparse_form ms) (sym c.in_ok-values.ensures.items), h);
}

pub returns-in_err-read_pairs : goal.returns-in_err-read_pairs
returns-in_err-read_pairs c = λ ms h.
    let p = err_from_is_err_and c.from_residual-in_err-read_pairs.result c.from_residual-in_err-read_pairs.ensures.1 in
    let so_far = c.each.invariant.made ms h in
    let next = rw c.if-is_top.false at (c.in-Some.ensures.next so_far.0 so_far.2) in
    let known = has_list so_far.0 c.next_vertex.new.self c.in-Some.vertex next in
    let kind = c.in-Some.ensures.of.0 ∙ c.each.invariant.kind in
    rw (p.1, p.2) (fails_known c.in_err-read_pairs.field-0.0 _ _ _ refl (c.in_err-read_pairs.ensures.list known.0 known.1 kind known.2).0)

pub each-preserved : goal.each-preserved
each-preserved c =
    let kind = c.in-Some.ensures.of.0 ∙ c.each.invariant.kind in
    let items = rw c.if-is_err.ensures.negation at c.push.ensures.items in
    let v = c.in-Some.vertex in
    let r = c.next_vertex.new.self in
    elim c.if-is_top.branch [
      | then-is_top w ↦ record {
        kind = ap (λ (x : ValuesReader). x.kind) w.reader-is ∙ kind;
        made = λ ms h.
            let so_far = c.each.invariant.made ms h in
            let next = rw w.if-is_top.true at (c.in-Some.ensures.next so_far.0 so_far.2) in
            let added = top_made sparse_form (map sparse_form ms) c.each.values.items so_far.0 r v next so_far.1 in
            rw (items, w.reader-is, w.pairs-is) added;
      }
      | else-is_top+in_ok-read_pairs w ↦ record {
        kind = ap (λ (x : ValuesReader). x.kind) w.reader-is ∙ w.in_ok-read_pairs.ensures.of.0 ∙ kind;
        made = λ ms h.
            let so_far = c.each.invariant.made ms h in
            let next = rw w.if-is_top.false at (c.in-Some.ensures.next so_far.0 so_far.2) in
            let got = w.in_ok-read_pairs.field-0 in
            let value : List (ℕ × ℕ) → SparseValue = λ x. record { vertex = v; pairs = Some x } in
            let added = list_made sparse_form (map sparse_form ms) c.each.values.items so_far.0 r w.read_pairs.new.self v (value got) next (λ list ns known.
            let q = w.in_ok-read_pairs.ensures.list list ns kind known in
            (ap value (ok_is (nonzero list) got q.0), q.1)) so_far.1 in
            rw (items, w.reader-is, w.pairs-is) added;
      }
    ]

pub returns : goal.returns
returns c = λ ms h.
    let so_far = c.each.invariant.made ms h in
    let next = c.in_default.ensures.next so_far.0 so_far.2 in
    ap Ok (all_made sparse_form (map sparse_form ms) c.each.values.items so_far.0 c.next_vertex.new.self next so_far.1 ∙ sym c.new.ensures)
