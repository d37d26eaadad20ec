use Rattle.pg_hoa_syntax.proofs.Common.{◌≡◌, ◌∙◌, ap, map, Bool, true, false, Some, err_from_is_err_and, lex, lexeme, edge_in, begins_edge}
use Rattle.pg_hoa_syntax.proofs.Common.{edges_at}
use Rattle.pg_hoa_syntax.proofs.BodyTurns.{edges_unread, edges_fail, edge_fails, edges_smaller, kept_start, kept_more, kept_fail, kept_end}
use Rattle.pg_hoa_syntax.proofs.body.read_edges.Goals as goal

pub edges-init : goal.edges-init
edges-init c =
    let r = c.args.ranges in
    rw c.new-edges.ensures.items (kept_start c.args.state r.states r.propositions r.sets (lex c.args.bytes.now))

pub returns-in_err-token : goal.returns-in_err-token
returns-in_err-token c =
    let r = c.args.ranges in
    let all = edges_at r.states r.propositions r.sets (lex c.args.bytes.now) in
    let p = err_from_is_err_and c.from_residual.result c.from_residual.ensures.1 in
    rw (p.1, p.2) (kept_fail c.in_err-token.field-0.0 c.args.state r.states r.propositions r.sets (lex c.args.bytes.now)
    (edges_unread c.in_err-token.field-0.0 r.states r.propositions r.sets c.edges.invariant.done
    (lex c.edges.rest.now) all c.edges.invariant.left c.in_err-token.ensures))

pub returns-in_err-more : goal.returns-in_err-more
returns-in_err-more c =
    let r = c.args.ranges in
    let all = edges_at r.states r.propositions r.sets (lex c.args.bytes.now) in
    let p = err_from_is_err_and c.from_residual-in_err-more.result c.from_residual-in_err-more.ensures.1 in
    rw (p.1, p.2) (kept_fail c.in_err-more.field-0.0 c.args.state r.states r.propositions r.sets (lex c.args.bytes.now)
    (edges_fail c.in_err-more.field-0.0 r.states r.propositions r.sets c.edges.invariant.done (lex c.edges.rest.now)
    (lex c.in_ok-token.after.now) (lexeme c.in_ok-token.token) all c.edges.invariant.left c.in_ok-token.ensures c.in_err-more.ensures))

pub returns-then-not-more : goal.returns-then-not-more
returns-then-not-more c =
    let r = c.args.ranges in
    let all = edges_at r.states r.propositions r.sets (lex c.args.bytes.now) in
    let over : begins_edge (lexeme c.in_ok-token.token) ≡ Some false = c.in_ok-more.ensures
    ∙ ap (λ (b : Bool). Some b) c.if-not-more.true in
    kept_end c.args.state r.states r.propositions r.sets (map edge_in c.edges.edges.items) c.edges.greatest (lex c.args.bytes.now)
    (lex c.in_ok-token.after.now) (lex c.edges.rest.now) (lexeme c.in_ok-token.token) c.edges.invariant c.in_ok-token.ensures over

pub returns-in_err-edge : goal.returns-in_err-edge
returns-in_err-edge c =
    let r = c.args.ranges in
    let all = edges_at r.states r.propositions r.sets (lex c.args.bytes.now) in
    let p = err_from_is_err_and c.from_residual-in_err-edge.result c.from_residual-in_err-edge.ensures.1 in
    let begins : begins_edge (lexeme c.in_ok-token.token) ≡ Some true = c.in_ok-more.ensures
    ∙ ap (λ (b : Bool). Some b) c.if-not-more.false in
    rw (p.1, p.2) (kept_fail c.in_err-edge.field-0.0 c.args.state r.states r.propositions r.sets (lex c.args.bytes.now)
    (edge_fails c.in_err-edge.field-0.0 r.states r.propositions r.sets c.edges.invariant.done (lex c.edges.rest.now)
    (lex c.in_ok-token.after.now)
    (lexeme c.in_ok-token.token) all c.edges.invariant.left c.in_ok-token.ensures begins c.in_err-edge.ensures))

pub edges-smaller : goal.edges-smaller
edges-smaller c =
    let r = c.args.ranges in
    edges_smaller r.states r.propositions r.sets (lex c.edges.rest.now) (lex c.in_ok-token.after.now) (lexeme c.in_ok-token.token)
    (edge_in c.in_ok-edge.edge, lex c.in_ok-edge.behind.now) c.in_ok-token.ensures c.in_ok-edge.ensures

pub edges-preserved : goal.edges-preserved
edges-preserved c =
    let r = c.args.ranges in
    let all = edges_at r.states r.propositions r.sets (lex c.args.bytes.now) in
    let begins : begins_edge (lexeme c.in_ok-token.token) ≡ Some true = c.in_ok-more.ensures
    ∙ ap (λ (b : Bool). Some b) c.if-not-more.false in
    rw c.max-greatest.ensures (kept_more c.args.state r.states r.propositions r.sets (map edge_in c.edges.edges.items)
    (map edge_in c.keep.new.edges.items) c.edges.greatest (lex c.edges.rest.now) (lex c.in_ok-token.after.now)
    (lexeme c.in_ok-token.token) (
      edge_in c.in_ok-edge.edge,
      lex c.in_ok-edge.behind.now,
    ) all c.edges.invariant c.in_ok-token.ensures begins c.in_ok-edge.ensures c.in_ok-keep.ensures)
