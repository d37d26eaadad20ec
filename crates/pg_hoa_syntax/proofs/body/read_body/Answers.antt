use Rattle.pg_hoa_syntax.proofs.Common.{◌≡◌, ◌∙◌, ap, [], ◌∷◌, map, Bool, true, false, Some, get_or, err_from_is_err_and, map-append, lex}
use Rattle.pg_hoa_syntax.proofs.Common.{lexeme, line_in, begins_line, body_at}
use Rattle.pg_hoa_syntax.proofs.BodyTurns.{lines_start, lines_unread, lines_fail, lines_end, line_fails, lines_more, lines_smaller}
use Rattle.pg_hoa_syntax.proofs.body.read_body.Goals as goal

pub lines-init : goal.lines-init
lines-init c =
    let r = c.args.ranges in
    rw (c.new-lines.ensures.items, c.in_ok-seen.ensures.items_if_clones_equal (λ y same. same))
    (lines_start r.states r.propositions r.sets (lex c.args.bytes.now))

pub returns-in_err-token : goal.returns-in_err-token
returns-in_err-token c =
    let r = c.args.ranges in
    let all = body_at r.states r.propositions r.sets (lex c.args.bytes.now) in
    let p = err_from_is_err_and c.from_residual-in_err-token.result c.from_residual-in_err-token.ensures.1 in
    rw (p.1, p.2) (lines_unread c.in_err-token.field-0.0 r.states r.propositions r.sets c.lines.seen.items
    (map line_in c.lines.lines.items) (lex c.lines.rest.now) all c.lines.invariant c.in_err-token.ensures)

pub returns-in_err-more : goal.returns-in_err-more
returns-in_err-more c =
    let r = c.args.ranges in
    let all = body_at r.states r.propositions r.sets (lex c.args.bytes.now) in
    let p = err_from_is_err_and c.from_residual-in_err-more.result c.from_residual-in_err-more.ensures.1 in
    rw (p.1, p.2) (lines_fail c.in_err-more.field-0.0 r.states r.propositions r.sets c.lines.seen.items (map line_in c.lines.lines.items)
    (lex c.lines.rest.now) (lex c.in_ok-token.after.now)
    (lexeme c.in_ok-token.token) all c.lines.invariant c.in_ok-token.ensures c.in_err-more.ensures)

pub returns-then-not-more : goal.returns-then-not-more
returns-then-not-more c =
    let r = c.args.ranges in
    let all = body_at r.states r.propositions r.sets (lex c.args.bytes.now) in
    let over : begins_line (lexeme c.in_ok-token.token) ≡ Some false = c.in_ok-more.ensures
    ∙ ap (λ (b : Bool). Some b) c.if-not-more.true in
    lines_end r.states r.propositions r.sets c.lines.seen.items (map line_in c.lines.lines.items) (lex c.lines.rest.now)
    (lex c.in_ok-token.after.now) (lexeme c.in_ok-token.token) all c.lines.invariant c.in_ok-token.ensures over

pub returns-in_err-line : goal.returns-in_err-line
returns-in_err-line c =
    let r = c.args.ranges in
    let all = body_at r.states r.propositions r.sets (lex c.args.bytes.now) in
    let p = err_from_is_err_and c.from_residual-in_err-line.result c.from_residual-in_err-line.ensures.1 in
    let begins : begins_line (lexeme c.in_ok-token.token) ≡ Some true = c.in_ok-more.ensures
    ∙ ap (λ (b : Bool). Some b) c.if-not-more.false in
    let read = rw c.deref.ensures.value at c.in_err-line.ensures.value in
    rw (p.1, p.2) (line_fails c.in_err-line.field-0.0 r.states r.propositions r.sets c.lines.seen.items (map line_in c.lines.lines.items)
    (lex c.lines.rest.now) (lex c.in_ok-token.after.now)
    (lexeme c.in_ok-token.token) all c.lines.invariant c.in_ok-token.ensures begins read)

pub lines-smaller : goal.lines-smaller
lines-smaller c =
    let r = c.args.ranges in
    let read = rw c.deref.ensures.value at c.in_ok-line.ensures.value in
    lines_smaller r.states r.propositions r.sets (λ n. get_or c.lines.seen.items n false) (lex c.lines.rest.now)
    (lex c.in_ok-token.after.now) (lexeme c.in_ok-token.token) (
      line_in c.in_ok-line.line,
      lex c.in_ok-line.behind.now,
    ) c.in_ok-token.ensures read

pub lines-preserved : goal.lines-preserved
lines-preserved c =
    let r = c.args.ranges in
    let all = body_at r.states r.propositions r.sets (lex c.args.bytes.now) in
    let begins : begins_line (lexeme c.in_ok-token.token) ≡ Some true = c.in_ok-more.ensures
    ∙ ap (λ (b : Bool). Some b) c.if-not-more.false in
    let read = rw c.deref.ensures.value at c.in_ok-line.ensures.value in
    let pushed = ap (map line_in) c.in_ok-push.ensures.items ∙ map-append line_in c.lines.lines.items (c.in_ok-line.line ∷ []) in
    rw pushed (lines_more r.states r.propositions r.sets c.lines.seen.items (map line_in c.lines.lines.items) (lex c.lines.rest.now)
    (lex c.in_ok-token.after.now) (lexeme c.in_ok-token.token) (
      line_in c.in_ok-line.line,
      lex c.in_ok-line.behind.now,
    ) all c.lines.invariant c.in_ok-token.ensures begins read c.in_ok-line.ensures.below)
