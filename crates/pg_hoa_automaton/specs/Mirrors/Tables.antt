-- What a table of steps says.
use Rattle.std.specs.Prelude.{ℕ, zero, suc, ◌+◌, ◌*◌, nat_lt, ◌&&◌, List, map, get_or, slice_get, Option, Some, None, if◌then◌else◌}
use Rattle.pg_hoa_automaton.specs.declared.table.Stored.{Stored}
use Rattle.pg_hoa_automaton.specs.declared.table.Table.{Table}
use Rattle.pg_hoa_automaton.specs.Automata.{Step, step}
use Rattle.pg_hoa_automaton.specs.Mirrors.Steps.{◌>>=◌}

-- the step with this number, where 0 stands for none
abbrev pub numbered : List Stored → List (List ℕ) → ℕ → Option Step
numbered steps lists zero = None
numbered steps lists (suc k) = slice_get steps k >>= λ s. slice_get lists s.list >>= λ sets. Some (step s.target sets)

abbrev pub next : Table → ℕ → ℕ → Option Step
next t state letter =
    if nat_lt state t.states && nat_lt letter t.letters
    then numbered t.steps.items (map (λ v. v.items) t.lists.items) (get_or t.slots.items (state * t.letters + letter) 0)
    else None
