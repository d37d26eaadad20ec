-- The laws, as statements.
use Rattle.std.specs.Prelude.{◌≡◌, ℕ, false, List, []}
use Rattle.pg_aiger.specs.Circuits.{Circuit}
use Rattle.pg_ltl.specs.Formulas.{Formula}
use Rattle.pg_ltl.specs.NormalForms.{NormalForm, normal}
use Rattle.pg_satisfies_check.specs.Satisfaction.{IsSatisfied, IsUnsatisfied, IsPartOf}
use Rattle.pg_satisfies_check.specs.Certificates.{EmptinessCertificate, IsEmptyBy}

-- no endless run satisfies the normal form, if a certificate says so
abbrev pub Emptiness : Type 0
Emptiness =
    (circuit : Circuit) (literals : List ℕ) (f : NormalForm) (cert : EmptinessCertificate) → IsEmptyBy circuit literals f cert
    → IsUnsatisfied circuit literals f

-- what no run of a part without inputs satisfies, no run of the whole does
abbrev pub Inheritance : Type 0
Inheritance =
    (part whole : Circuit) (literals : List ℕ) (f : NormalForm) → IsPartOf part whole → part.inputs ≡ [] → IsUnsatisfied part literals f
    → IsUnsatisfied whole literals f

-- every endless run satisfies the formula as it is written, if none satisfies the normal form of its negation
abbrev pub Satisfaction : Type 0
Satisfaction =
    (circuit : Circuit) (literals : List ℕ) (f : Formula) → IsUnsatisfied circuit literals (normal false f) → IsSatisfied circuit literals f
