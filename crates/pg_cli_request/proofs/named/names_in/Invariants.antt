use Rattle.std.proofs.Common.{◌≡◌, map}
use Rattle.std.specs.Str.{trim}
use Rattle.pg_cli_request.proofs.named.names_in.Given as goal

abbrev pub invariant-loop-name : goal.invariant-loop-name
invariant-loop-name l = map (λ name. name.now) l.names.items ≡ map trim (map (λ name. name.now) l.yielded)
