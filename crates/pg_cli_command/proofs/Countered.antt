-- What `synth --counter` prints, and what that says of endless words.
use Rattle.pg_cli_command.proofs.Common.{◌≡◌, ◌⊎◌, inl, inr, ℕ, ◌++◌, List, Option, Some, None, get_or, ap, arith, subst, refl, sym, ◌∙◌}
use Rattle.pg_cli_command.proofs.Common.{Automaton, Circuit, CircuitReadsBack, symbols_of, circuit_text, MapKind}
use Rattle.pg_cli_command.specs.Synthesising.{realizable, unrealizable, IsSynthesised, IsRealized, IsUnrealized, RefusesSynth}
use Rattle.pg_cli_command.specs.Counter.{IsCounter, RefutesRuns, RefusesCounter, CounterRefutes}
use Rattle.pg_cli_command.specs.Mirrors.Synthesised.{outcome_text}
use Rattle.pg_cli_command.specs.Mirrors.Working.{Fails}
use Rattle.pg_cli_command.specs.declared.fault.CliFault.{CliFault}
use Rattle.pg_cli_command.specs.declared.fault.CliFault.TheVariants as cli

-- the first letter of the answer tells which it is
pub realized_of : (Kind : MapKind) (input output : List ℕ) (a : Automaton) (k : Circuit) → output ≡ outcome_text a (Some k)
    → IsSynthesised Kind input output → IsRealized Kind input (realizable ++ circuit_text k a)
realized_of Kind input output a k e (inl r) = subst (IsRealized Kind input) e r
realized_of Kind input output a k e (inr u) =
    let first : ◌≡◌ {A = ℕ} 82 85 = ap (λ (l : List ℕ). get_or l 0 0) (sym e ∙ u.printed) in absurd (omega arith)

pub unrealized_of : (Kind : MapKind) (input output : List ℕ) (a : Automaton) → output ≡ outcome_text a None → IsSynthesised Kind input output
    → IsUnrealized Kind input unrealizable
unrealized_of Kind input output a e (inl r) =
    let first : ◌≡◌ {A = ℕ} 85 82 = ap (λ (l : List ℕ). get_or l 0 0) (sym e ∙ r.printed) in absurd (omega arith)
unrealized_of Kind input output a e (inr u) = subst (IsUnrealized Kind input) e u

-- what `synth` refuses is refused
pub refused_too : (Kind : MapKind) (input : List ℕ) (fault : CliFault) → Fails (RefusesSynth Kind input) fault
    → Fails (RefusesCounter Kind input) fault
refused_too Kind input cli.NoCounter why = absurd why
refused_too Kind input _ why = why

pub counter_refutes : CircuitReadsBack → CounterRefutes
counter_refutes reads_back input output s =
    let text = reads_back s.circuit s.twin s.shaped.numbered s.shaped.within s.counterpart.is_automaton s.shaped.inputs s.shaped.outputs in (
      circuit_text s.circuit s.twin,
      s.printed,
      record {
        automaton = s.automaton;
        spelt = s.spelt;
        circuit = s.circuit;
        symbols = symbols_of s.twin;
        text = text.0;
        one_circuit = λ other names spelt. (text.1 other names spelt).0;
        moore = s.moore;
        refutes = s.refutes;
      },
    )
