-- Certificates, as the code keeps them, and what the check finds out about them.
use Rattle.std.specs.Prelude.{ℕ, Bool, All, List, [], length, map, slice_index_or, Option, option_map}
use Rattle.std.specs.declared.vec.Vec.{Vec}
use Rattle.std.specs.declared.alloc.Global.{Global}
use Rattle.pg_aiger.specs.Runs.{Valuation}
use Rattle.pg_ltl.specs.NormalForms.{NormalForm, literal}
use Rattle.pg_ltl.specs.Tableaux.{Choice, Each, joined, choices_of}
use Rattle.pg_means_look.specs.Mirrors.Tables.{row_at}
use Rattle.pg_means_look.specs.Mirrors.Choices.{part, parts}
use Rattle.pg_means_look.specs.Mirrors.Views.{rank_in, witness_in}
use Rattle.pg_satisfies_check.specs.declared.certificate.EmptinessCertificate as proposed
use Rattle.pg_satisfies_check.specs.declared.steps.CubeSteps.{CubeSteps}
use Rattle.pg_satisfies_check.specs.declared.system.Bit.{Bit}
use Rattle.pg_satisfies_check.specs.declared.cube.LatchCube.{LatchCube}
use Rattle.pg_satisfies_check.specs.Satisfaction.{holds_in}
use Rattle.pg_satisfies_check.specs.Certificates.{EmptinessCertificate, IsStep, Goes, AreBits}
use Rattle.pg_satisfies_check.specs.Mirrors.Steps.{circuit_of, IsSeen, Rows}

-- the number of the cube of a node; past the last one, 0
abbrev pub cube_in : List ℕ → ℕ → ℕ
cube_in places v = slice_index_or places v 0

-- the values of a cube, by its number; past the last one, none
abbrev pub bits_at : List LatchCube → ℕ → List Bit
bits_at cubes number = slice_index_or (map (λ (cube : LatchCube). cube.bits.items) cubes) number []

abbrev pub certificate_of : List NormalForm → List LatchCube → proposed.EmptinessCertificate → EmptinessCertificate
certificate_of forms cubes c = record {
  count = length c.places.items;
  node = λ v. record { cube = bits_at cubes (cube_in c.places.items v); asks = parts forms (row_at c.asks.items v) };
  rank = rank_in c.ranks.items;
  witness = λ r. option_map (part forms) (witness_in c.witnesses.items r);
}

abbrev pub choice_of : List NormalForm → List ℕ → List ℕ → Choice
choice_of forms asks puts = record { asks = parts forms asks; puts = parts forms puts }

-- In each step with what is known, each choice of what is still to do, together with what is asked and put off already, goes from the
-- node v to some node.
abbrev pub Covers : CubeSteps → proposed.EmptinessCertificate → List NormalForm → ℕ → List (Option Bool) → List ℕ → List ℕ → List ℕ → Type 0
Covers s c forms v row todo asks puts =
    (u : Valuation) → IsStep (circuit_of s.system) u → IsSeen s.system row u
    → Each (λ d. Goes (circuit_of s.system) (certificate_of forms s.cubes.items c) v u (joined (choice_of forms asks puts) d))
    (choices_of (holds_in s.system.literals.items u) (parts forms todo))

-- each of the rows is covered
abbrev pub CoversEach : CubeSteps → proposed.EmptinessCertificate → List NormalForm → ℕ → Rows → Type 0
CoversEach s c forms v rows =
    All (λ (row : Vec (Option Bool) Global). Covers s c forms v row.items (row_at c.asks.items v) [] []) rows

abbrev pub literal_form : ℕ → Bool → NormalForm
literal_form p is = literal p is

-- each choice at each step that the node v stands for goes to some node
abbrev pub GoesFrom : CubeSteps → proposed.EmptinessCertificate → List NormalForm → ℕ → Type 0
GoesFrom s c forms v =
    (u : Valuation) → IsStep (circuit_of s.system) u → AreBits s.system.latches.items u (bits_at s.cubes.items (cube_in c.places.items v))
    → ¬ ¬ Each (Goes (circuit_of s.system) (certificate_of forms s.cubes.items c) v u)
    (choices_of (holds_in s.system.literals.items u) (parts forms (row_at c.asks.items v)))
