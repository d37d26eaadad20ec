-- Facts about the session and the bytes that a link keeps.
use Rattle.std.specs.Prelude.{◌≡◌, ◌≤◌, ℕ, Bool, true, List, length, drop, Option, None, IfSome}
use Rattle.pg_worker.specs.Turns.{SessionValue}
use Rattle.pg_worker.specs.Above.{AreFrames}
use Rattle.pg_worker.specs.Mirrors.Sessions.{IsSmall}

-- facts that a link knows about its session, and about the bytes that wait after those that were received
pub record IsKept (highest session_highest : ℕ) (held : Option SessionValue) (has_refused : Bool) (next : ℕ)
    (bytes : List ℕ) : Type 0 where
  pub highest_is : session_highest ≡ highest
  pub small : IfSome held IsSmall
  pub empty : has_refused ≡ true → held ≡ None
  pub within : next ≤ length bytes
  pub frames : AreFrames (λ f. Unit {0}) (drop next bytes)
