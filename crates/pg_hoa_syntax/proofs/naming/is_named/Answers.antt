use Rattle.pg_hoa_syntax.proofs.Common.{◌∙◌, sym, option_map, lex, lexeme}
use Rattle.pg_hoa_syntax.proofs.HeaderNames.{named_now, named_on, on_shorter}
use Rattle.pg_hoa_syntax.proofs.naming.is_named.Goals as goal

pub returns-in-Some : goal.returns-in-Some
returns-in-Some c =
    sym c.tokens.invariant ∙ named_now c.args.name.now (lex c.tokens.rest.now) (lex c.in_ok-found.after.now)
    (option_map lexeme c.in_ok-found.found) c.in-Some.answer c.in_ok-found.ensures (sym c.in-Some.ensures)

pub tokens-smaller : goal.tokens-smaller
tokens-smaller c =
    on_shorter c.args.name.now (lex c.tokens.rest.now) (lex c.in_ok-found.after.now) (option_map lexeme c.in_ok-found.found)
    c.in_ok-found.ensures (sym c.in-None.ensures)

pub tokens-preserved : goal.tokens-preserved
tokens-preserved c =
    sym (named_on c.args.name.now (lex c.tokens.rest.now) (lex c.in_ok-found.after.now) (option_map lexeme c.in_ok-found.found)
    c.in_ok-found.ensures (sym c.in-None.ensures)) ∙ c.tokens.invariant
