use Rattle.pg_wire.proofs.Common.{◌++◌, ◌∷◌, [], ℕ, List, VertexLine, line_with, sym, subst, ap, ◌∙◌}
use Rattle.pg_wire.proofs.Lines.{Collected, all_read, one_read}
use Rattle.pg_wire.proofs.lines_reader.read_lines.Goals as goal

pub each-init : goal.each-init
each-init c = record { read = λ ls h. (ls, ap (λ (read : List VertexLine). read ++ ls) (sym c.in_ok-lines.ensures.items), h) }

pub each-preserved : goal.each-preserved
each-preserved c = record {
  read = λ ls h.
      let so_far = c.each.invariant.read ls h in
      let next = rw c.in-Some.is at (c.in_ok-head.ensures.next so_far.0 so_far.2) in
      let added = one_read ls c.each.lines.items so_far.0 c.next.new.self c.next.new.successors.items c.in-Some.head next so_far.1 in
      let items = c.in_ok-push.ensures.items ∙ ap (λ (ns : List ℕ). c.each.lines.items ++ line_with c.in-Some.head ns ∷ []) c.new.ensures in
      subst (λ (read : List VertexLine). Collected ls read c.next.new.self) (sym items) added;
}

pub returns : goal.returns
returns c = λ ls h.
    let so_far = c.each.invariant.read ls h in
    let next = rw c.in_default.is at (c.in_ok-head.ensures.next so_far.0 so_far.2) in
    c.new-2.ensures ∙ sym (all_read ls c.each.lines.items so_far.0 c.next.new.self c.next.new.successors.items next so_far.1)
