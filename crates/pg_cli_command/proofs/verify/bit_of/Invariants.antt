use Rattle.pg_cli_command.proofs.Common.{◌≡◌}
use Rattle.std.specs.Prelude.{drop}
use Rattle.pg_cli_command.specs.Verifying.{bit_of}
use Rattle.pg_cli_command.proofs.verify.bit_of.Given as goal

-- the inputs that are left have the bits that are left
abbrev pub invariant-loop-input : goal.invariant-loop-input
invariant-loop-input l = bit_of l.tied l.letter l.literal ≡ bit_of (drop l.input-index l.tied) l.rest l.literal
