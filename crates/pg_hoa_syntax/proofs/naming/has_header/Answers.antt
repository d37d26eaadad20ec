use Rattle.pg_hoa_syntax.proofs.Common.{◌≡◌, List, ℕ, Bool, Result, Ok, Err, PartRefusal, IsText, Written, lex}
use Rattle.std.specs.Prelude.{IfOk}
use Rattle.pg_hoa_syntax.specs.Headers.{has_header}
use Rattle.pg_hoa_syntax.specs.Mirrors.HeaderNames.{named_from, behind_version}
use Rattle.pg_hoa_syntax.proofs.HeaderNames.{is_written}
use Rattle.pg_hoa_syntax.proofs.naming.has_header.Goals as goal

found_is : (name bytes rest : List ℕ) (r : Result Bool PartRefusal) → ((w : Written) → IsText bytes w → lex rest ≡ behind_version w)
    → IfOk r (λ b. named_from name (lex rest) ≡ b) → IfOk r (λ b. (w : Written) → IsText bytes w → b ≡ has_header name w)
found_is name bytes rest (Ok b) behind named = λ w t. is_written name w (lex rest) b (behind w t) named
found_is name bytes rest (Err e) behind named = tt

pub returns : goal.returns
returns c =
    found_is c.args.name.now c.args.bytes.now c.in_ok-behind_version.field-0.now c.is_named.result c.in_ok-behind_version.ensures
    c.is_named.ensures
