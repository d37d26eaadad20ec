use Rattle.std.proofs.Common.{arith}
use Rattle.pg_worker.proofs.laws.set_up_bounds.Goals as goal

pub returns : goal.returns
returns c = λ s h. record {
  odd = λ i d lt. (h.bounds.bounds i d lt).odd;
  falling = h.bounds.falling;
  positive = λ i d lt. omega (arith, (h.bounds.bounds i d lt).some);
}
