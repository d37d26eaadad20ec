use Rattle.std.proofs.Common.{◌∙◌, sym}
use Rattle.pg_arena.proofs.Members.{search_finds, above_last}
use Rattle.pg_arena.proofs.identifiers.contains_rising.Goals as goal

pub returns-in-Some : goal.returns-in-Some
returns-in-Some c = c.is_ok.ensures.value ∙ search_finds c.args.number c.args.numbers.now c.binary_search.result c.requires c.binary_search.ensures.position

pub returns-in_default : goal.returns-in_default
returns-in_default c = sym (above_last c.args.numbers.now c.args.number c.in-Some.last.now c.requires c.in-Some.ensures.value c.if-last-number.false)
