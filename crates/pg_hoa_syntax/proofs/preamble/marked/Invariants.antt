use Rattle.pg_hoa_syntax.proofs.Common.{◌≡◌, ℕ, map, marked}
use Rattle.pg_hoa_syntax.proofs.preamble.marked.Given as goal

abbrev pub invariant-loop-proposition : goal.invariant-loop-proposition
invariant-loop-proposition l = l.marks.items ≡ marked (map {A = ℕ × ℕ} {B = ℕ} (λ x. x.0) l.controls) l.proposition
