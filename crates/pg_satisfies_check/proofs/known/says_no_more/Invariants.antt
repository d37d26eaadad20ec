use Rattle.std.proofs.Common.{◌≡◌, ◌<◌, ℕ, Bool, Some}
use Rattle.pg_satisfies_check.specs.Mirrors.Known.{known_at}
use Rattle.pg_satisfies_check.proofs.known.says_no_more.Given as goal

abbrev pub invariant-loop-place : goal.invariant-loop-place
invariant-loop-place l = (x : ℕ) (b : Bool) → x < l.place → known_at l.few x ≡ Some b → known_at l.many x ≡ Some b
