use Rattle.std.proofs.Common.{◌≤◌, inl, inr, rules, arith, length}
use Rattle.std.proofs.lemmas.Grind.{common_steps}
use Rattle.pg_cli_request.proofs.Refused.{refused_by, of_file, of_files}
use Rattle.pg_cli_request.proofs.input.read.Goals as goal

pub returns-in_err-first-in-Some-len2-up-clause-refused : goal.returns-in_err-first-in-Some-len2-up-clause-refused
returns-in_err-first-in-Some-len2-up-clause-refused g c =
    let two = c.in-Some-len2-up.len_at_least in
    let unread = of_files (g.T.FileTexts.holds c.args.texts.now) _ c.args.files.now _ _ two c.in_err-first-in-Some-len2-up.ensures.refused in
    refused_by _ c.from_residual.result c.in_err-first-in-Some-len2-up.field-0.0 c.from_residual.ensures.1
    (inr (search rules, grind (arith, common_steps), unread))

pub returns-in_err-text-in_default-len1-up-clause-refused : goal.returns-in_err-text-in_default-len1-up-clause-refused
returns-in_err-text-in_default-len1-up-clause-refused g c =
    let unread = c.in_err-text-in_default-len1-up.ensures.refused in
    let one : 1 ≤ length c.args.files.now = grind (arith, common_steps) in
    refused_by _ c.from_residual-in_err-text-in_default-len1-up.result c.in_err-text-in_default-len1-up.field-0.0
    c.from_residual-in_err-text-in_default-len1-up.ensures.1 (inl (of_file (g.T.FileTexts.holds c.args.texts.now) _ c.args.files.now _ _ one unread))
