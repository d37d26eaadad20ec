use Rattle.std.proofs.Common.{◌∙◌, sym, rules}
use Rattle.pg_aiger_reader.specs.Views.{symbol_in, circuit_in}
use Rattle.pg_satisfies_texts.proofs.Tables.{note_there}
use Rattle.pg_satisfies_texts.proofs.signals.note.Goals as goal

pub returns-in-Some-get_mut : goal.returns-in-Some-get_mut
returns-in-Some-get_mut c =
    note_there (circuit_in c.args.parts.now) (symbol_in c.args.symbol.now) c.args.table.now (c.get_mut.follows.lender c.noted.result) c.in-Some.literal
    c.in-Some-get_mut.signals.now (sym c.literal_of.ensures ∙ c.in-Some.is) (sym c.in-Some-get_mut.ensures.value)
    (rw (sym c.noted.ensures) ((c.get_mut.follows.holds c.noted.result).3 (search rules)))
