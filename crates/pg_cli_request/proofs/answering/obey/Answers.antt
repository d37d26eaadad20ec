use Rattle.std.proofs.Common.{rules, map, is_some, option_map}
use Rattle.std.specs.String.{string_bytes}
use Rattle.pg_cli_request.proofs.Refused.{same_line}
use Rattle.pg_cli_request.proofs.answering.obey.Goals as goal

pub returns-after-request-clause-refused : goal.returns-after-request-clause-refused
returns-after-request-clause-refused g c = λ command apart is.
    same_line c.carry_out.result (g.T.FileTexts.holds c.args.texts.now) (map (λ f. f.now) c.args.files.now) (is_some c.map.result) (is_some apart)
    c.in-Run.command command (option_map (λ o. o.now) c.map-in-Run.result) (option_map string_bytes c.args.request.now.outs)
    (search rules) (cc) (search rules) c.carry_out.ensures.refused
