-- How a verdict is returned.
use Rattle.std.specs.Prelude.{◌≡◌, ℕ, List, length}
use Rattle.pg_check.specs.declared.verdict.Verdict.{Verdict}
use Rattle.pg_check.specs.declared.verdict.Verdict.TheVariants.{Wins, Leaves, BadCycle}
use Rattle.parsolve_c.specs.declared.code.TheConstants.{PARSOLVE_OK, PARSOLVE_LEAVES, PARSOLVE_CYCLE}
use Rattle.parsolve_c.specs.declared.checking.ParsolveFound.{ParsolveFound}
use Rattle.parsolve_c.specs.Answers.{IsHanded}

abbrev pub Tells : Verdict → ℕ → ParsolveFound → ParsolveFound → List ℕ → List ℕ → Type 0
Tells Wins code before after old new = (code ≡ PARSOLVE_OK) × (after ≡ before) × (new ≡ old)
Tells (Leaves v w) code before after old new =
    (code ≡ PARSOLVE_LEAVES) × (after ≡ record before { vertex = v; to = w }) × (new ≡ old)
Tells (BadCycle vertices) code before after old new =
    (code ≡ PARSOLVE_CYCLE) × (after ≡ record before { length = length vertices.items }) × IsHanded vertices.items old new
