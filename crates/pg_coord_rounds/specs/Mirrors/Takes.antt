-- The frames that are taken from a link that tells them.
use Rattle.std.specs.Prelude.{◌≡◌, ◌≢◌, ℕ, List, [], ◌∷◌, Option, None, Some, Result, Ok, Err, IsErr, IfOk, OnOk}
use Rattle.pg_wire.specs.declared.frame.Frame.{Frame}
use Rattle.pg_wire.specs.Bytes.{Spells}
use Rattle.pg_coord_partition.specs.declared.link.LinkFault.{LinkFault}
use Rattle.pg_coord_partition.specs.declared.link.LinkFault.TheVariants.{Failed}

-- the next frame is taken if and only if its bytes spell one; past the end there is none
abbrev pub TakesFrame : Option (List (List ℕ)) → Option (List (List ℕ)) → Result Frame LinkFault → Type 0
TakesFrame None new r = Unit {0}
TakesFrame (Some []) new r = (new ≡ Some []) × IsErr r
TakesFrame (Some (next ∷ left)) new r =
    ((f : Frame) → Spells f next → (r ≢ Err Failed) × OnOk r ((r ≡ Ok f) × (new ≡ Some left)))
    × IfOk r (λ f. Spells f next) × (r ≡ Err Failed → new ≡ Some left)
