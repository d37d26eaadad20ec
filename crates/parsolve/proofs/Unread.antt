-- Why a file isn't read.
use Rattle.std.proofs.Common.{◌≡◌, ◌≢◌, ◌<◌, ◌+◌, ◌⊎◌, inl, inr, ℕ, List, Result, Ok, Err, IfErr, IsErrAnd, length, replicate, codes, arith}
use Rattle.std.proofs.lemmas.List.{length-replicate}
use Rattle.pg_cli_command.specs.declared.fault.CliFault.{CliFault}
use Rattle.pg_cli_command.specs.declared.fault.CliFault.TheVariants as cli
use Rattle.pg_cli_request.specs.declared.fault.Fault.{Fault}
use Rattle.pg_cli_request.specs.declared.fault.Fault.TheVariants.{Cli}
use Rattle.pg_cli_request.specs.Refusals.{IsUnread}

-- a text may be longer than this
longer : (n : ℕ) → (text : List ℕ) × (n < length text)
longer n = (replicate (n + 1) 0, rw length-replicate (omega arith))

-- Why a file isn't read, by why its bytes aren't: where they can't be read to their end, the fault may be another one. What files hold no contract
-- says.
pub of_bytes : (name : List ℕ) (fault : CliFault) (why : Fault) → (fault ≡ cli.OutOfMemory) ⊎ ((fault ≡ cli.Read) ⊎ (fault ≡ cli.InputTooLong))
    → (fault ≡ cli.Read → IsUnread (λ file text. Unit {0}) name why) → (fault ≢ cli.Read → why ≡ Cli fault)
    → IsUnread (λ file text. Unit {0}) name why
of_bytes name fault why cause unread other = elim cause [
  | inl memory ↦ rw (other (λ read. cc), memory) tt
  | inr rest ↦ elim rest [
    | inl read ↦ unread read
    | inr long ↦ let text = longer 268435456 in rw (other (λ read. cc), long) (text.0, tt, text.1)
  ]
]

-- the same of standard input
pub of_input : {T : Type 0} (name : List ℕ) (result : Result T Fault) (fault : CliFault) → IsErrAnd result (λ e. e ≡ Cli fault)
    → (fault ≡ cli.OutOfMemory) ⊎ ((fault ≡ cli.Read) ⊎ (fault ≡ cli.InputTooLong)) → name ≡ codes "-"
    → IfErr result (IsUnread (λ file text. Unit {0}) name)
of_input name (Ok text) fault is cause input = tt
of_input name (Err e) fault is cause input = of_bytes name fault e cause (λ read. rw (is, read) input) (λ other. is)
