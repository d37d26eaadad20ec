use Rattle.pg_arena.proofs.Common.{◌∙◌, sym, ap, arith, List, length, nat_tests, edge_count, Line, is_named}
use Rattle.pg_arena.proofs.Adding.{named_by, edges_by, lines_in}
use Rattle.pg_arena.proofs.lines.GivenLines.fault_of.Goals as goal

pub returns-then-priority-gt-MAX_PRIORITY : goal.returns-then-priority-gt-MAX_PRIORITY
returns-then-priority-gt-MAX_PRIORITY c = λ line i p s. grind (arith, nat_tests, c.if-priority-gt-MAX_PRIORITY.true)

pub returns-then-is_empty : goal.returns-then-is_empty
returns-then-is_empty c = λ line i p s. grind (arith, nat_tests, ap length s, c.is_empty.ensures, c.if-is_empty.true)

pub returns-then-contains : goal.returns-then-contains
returns-then-contains c = λ line i p s.
    let named = ap (λ (ls : List Line). is_named ls line.identifier) (sym c.self.view_is) ∙ named_by line.identifier c.self.invariant.kept in
    grind (arith, nat_tests, ap length s, c.is_empty.ensures, named, c.contains.ensures)

pub returns-then-len-ge-MAX_VERTICES : goal.returns-then-len-ge-MAX_VERTICES
returns-then-len-ge-MAX_VERTICES c = λ line i p s.
    let named = ap (λ (ls : List Line). is_named ls line.identifier) (sym c.self.view_is) ∙ named_by line.identifier c.self.invariant.kept in
    grind (arith, nat_tests, ap length s, c.is_empty.ensures, named, c.contains.ensures, ap length c.self.view_is, lines_in c.self.invariant, c.len.ensures)

pub returns-then-successors-len : goal.returns-then-successors-len
returns-then-successors-len c = λ line i p s.
    let named = ap (λ (ls : List Line). is_named ls line.identifier) (sym c.self.view_is) ∙ named_by line.identifier c.self.invariant.kept in
    grind (
      arith,
      nat_tests,
      ap length s,
      c.is_empty.ensures,
      named,
      c.contains.ensures,
      ap length c.self.view_is,
      lines_in c.self.invariant,
      c.len.ensures,
      ap edge_count c.self.view_is,
      edges_by c.self.invariant.kept,
      c.len-2.ensures,
    )

pub returns : goal.returns
returns c = λ line i p s.
    let named = ap (λ (ls : List Line). is_named ls line.identifier) (sym c.self.view_is) ∙ named_by line.identifier c.self.invariant.kept in
    grind (
      arith,
      nat_tests,
      ap length s,
      c.is_empty.ensures,
      named,
      c.contains.ensures,
      ap length c.self.view_is,
      lines_in c.self.invariant,
      c.len.ensures,
      ap edge_count c.self.view_is,
      edges_by c.self.invariant.kept,
      c.len-2.ensures,
    )
