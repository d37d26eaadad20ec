use Rattle.pg_wire.proofs.Common.{Ok, sym, ap, ◌∙◌, inl, arith, body_at}
use Rattle.pg_wire.proofs.Grammar.{ok_is}
use Rattle.pg_wire.proofs.Bodies.{body_found, body_reads_back, refused}
use Rattle.pg_wire.proofs.reading.from_body.Goals as goal

pub returns-in-Ok-clause-found : goal.returns-in-Ok-clause-found
returns-in-Ok-clause-found c = body_found c.args.bytes.now c.in-Ok.f (λ i. omega (arith, c.type_inv.bytes i)) c.in-Ok.ensures

pub returns-in-Ok-clause-all : goal.returns-in-Ok-clause-all
returns-in-Ok-clause-all c = λ f well b. inl (ap Ok (ok_is c.in-Ok.f f (sym c.in-Ok.ensures ∙ ap body_at b ∙ body_reads_back f well)))

pub returns-in-Err-Field-At-clause-all : goal.returns-in-Err-Field-At-clause-all
returns-in-Err-Field-At-clause-all c = λ f well b. absurd (refused c.in-Err-Field-At.field-0 c.in-Err-Field-At.field-0-0 c.args.bytes.now f c.in-Err-Field-At.field-0-is c.in-Err-Field-At.ensures well b)

pub returns-in-Err-Field-Version-clause-all : goal.returns-in-Err-Field-Version-clause-all
returns-in-Err-Field-Version-clause-all c = λ f well b. absurd (refused c.in-Err-Field-Version.field-0 c.in-Err-Field-Version.field-0-0 c.args.bytes.now f c.in-Err-Field-Version.field-0-is c.in-Err-Field-Version.ensures well b)

pub returns-in-Err-Field-Kind-clause-all : goal.returns-in-Err-Field-Kind-clause-all
returns-in-Err-Field-Kind-clause-all c = λ f well b. absurd (refused c.in-Err-Field-Kind.field-0 c.in-Err-Field-Kind.field-0-0 c.args.bytes.now f c.in-Err-Field-Kind.field-0-is c.in-Err-Field-Kind.ensures well b)
