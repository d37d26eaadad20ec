-- How the sets of a shape are nested.
use Rattle.std.specs.Prelude.{ℕ, suc, ◌-◌, Bool}
use Rattle.pg_hoa_automaton.specs.declared.shape.Shape.{Shape}
use Rattle.pg_hoa_automaton.specs.declared.shape.Shape.TheVariants.{MaxEven, MinEven, MinOdd}
use Rattle.pg_hoa_automaton.specs.Shapes.{is_even}

-- the set that has the given number of other sets nested in it
abbrev pub set_at : Shape → ℕ → ℕ → ℕ
set_at MinEven sets inside = sets - 1 - inside
set_at MinOdd sets inside = sets - 1 - inside
set_at shape sets inside = inside

-- whether the shape wants the set to recur
abbrev pub is_wanted : Shape → ℕ → Bool
is_wanted MaxEven set = is_even set
is_wanted MinEven set = is_even set
is_wanted shape set = is_even (suc set)

abbrev pub wanted_at : Shape → ℕ → ℕ → Bool
wanted_at shape sets inside = is_wanted shape (set_at shape sets inside)
