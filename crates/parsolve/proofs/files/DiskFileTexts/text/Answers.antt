use Rattle.std.proofs.Common.{refl, rules}
use Rattle.parsolve.proofs.Unread.{of_bytes, of_input}
use Rattle.parsolve.proofs.files.DiskFileTexts.text.Goals as goal

pub returns-in_err-read_input-clause-refused : goal.returns-in_err-read_input-clause-refused
returns-in_err-read_input-clause-refused g c =
    of_input c.args.name.now c.from_residual.result c.in_err-read_input.field-0.0 c.from_residual.ensures.1 c.in_err-read_input.ensures.causes (search rules)

pub returns-in-Ok-clause-refused : goal.returns-in-Ok-clause-refused
returns-in-Ok-clause-refused g c =
    of_bytes c.args.name.now c.in-Err-read_input.fault c.fault_in.result c.in-Err-read_input.ensures.causes (λ read. rw (c.fault_in.ensures.read read) refl)
    c.fault_in.ensures.other
