use Rattle.pg_hoa_syntax.proofs.Common.{◌≡◌, List, ℕ, Some, Result, Ok, Err, Bor, PartRefusal, IsText, Written, lex, opening_at, version_at}
use Rattle.std.specs.Prelude.{IfOk}
use Rattle.pg_hoa_syntax.specs.Mirrors.Steps.{Gives}
use Rattle.pg_hoa_syntax.specs.Mirrors.HeaderNames.{behind_version}
use Rattle.pg_hoa_syntax.proofs.HeaderNames.{version_rest}
use Rattle.pg_hoa_syntax.proofs.naming.behind_version.Goals as goal

rest_is : (bytes opened : List ℕ) (r : Result (Bor (List ℕ)) PartRefusal) → opening_at (lex bytes) ≡ Some (lex opened)
    → Gives (λ x. lex x.now) r (version_at (lex opened))
    → IfOk r (λ rest. (w : Written) → IsText bytes w → lex rest.now ≡ behind_version w)
rest_is bytes opened (Ok rest) o v = λ w t. version_rest bytes opened rest.now w t o v
rest_is bytes opened (Err e) o v = tt

pub returns : goal.returns
returns c = rest_is c.args.bytes.now c.in_ok-opening.field-0.now c.version.result c.in_ok-opening.ensures c.version.ensures
