-- What a step that went well says.
use Rattle.pg_hoa_syntax.proofs.Common.{◌≡◌, Option, Some, None, refl, ◌>>=◌}

pub bind_some : {A B : Type 0} (o : Option A) (f : A → Option B) (y : B) → (o >>= f) ≡ Some y → (x : A) × (o ≡ Some x) × (f x ≡ Some y)
bind_some None f y e = absurd cc
bind_some (Some x) f y e = (x, refl, e)
