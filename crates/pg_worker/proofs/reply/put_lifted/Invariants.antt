use Rattle.pg_worker.proofs.Common.{◌≡◌, ℕ, ◌<◌, List, ◌++◌, length, All, Packs, lifted_measures, measures_of}
use Rattle.pg_worker.proofs.reply.put_lifted.Given as goal

abbrev pub invariant-loop-rest : goal.invariant-loop-rest
invariant-loop-rest l = record {
  within : All (λ v. v < length l.worker.map) l.rest;
  written : List ℕ;
  items : l.out.items ≡ l.fn.out.items ++ written;
  goes : (more : List ℕ) → Packs l.kind (length l.worker.bounds) (measures_of l.worker.map l.rest) more
      → Packs l.kind (length l.worker.bounds) (lifted_measures l.worker) (written ++ more);
}

abbrev pub decreases-loop-rest : goal.decreases-loop-rest
decreases-loop-rest l = length l.rest
