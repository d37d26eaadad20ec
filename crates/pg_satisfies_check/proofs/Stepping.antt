-- Edges inside a rank.
use Rattle.std.proofs.Common.{◌≡◌, ℕ, inr, Bool, true, false, List, Option, Some, sym, ap, subst, ◌∙◌, true≢false}
use Rattle.std.specs.Prelude.{Contains, option_map}
use Rattle.std.specs.Bool.{OnTrue}
use Rattle.pg_ltl.specs.NormalForms.{NormalForm}
use Rattle.pg_satisfies_check.specs.declared.certificate.EmptinessCertificate as proposed
use Rattle.pg_satisfies_check.specs.declared.cube.LatchCube.{LatchCube}
use Rattle.pg_satisfies_check.specs.Certificates.{IsFine, Stays}
use Rattle.pg_means_look.specs.Mirrors.Choices.{part, parts}
use Rattle.pg_satisfies_check.specs.Mirrors.Views.{certificate_of}
use Rattle.pg_means_look.specs.Mirrors.Views.{rank_in, witness_in}
use Rattle.pg_means_look.proofs.Covering.{among_parts}

pub on_true_weaker : (b : Bool) (P Q : Type 0) → (P → Q) → OnTrue b P → OnTrue b Q
on_true_weaker true P Q f h = f h
on_true_weaker false P Q f h = tt

pub of_true : (b : Bool) (P : Type 0) → OnTrue b P → b ≡ true → P
of_true true P h e = h
of_true false P h e = absurd (true≢false (sym e))

pub stays_by : (forms : List NormalForm) (cubes : List LatchCube) (c : proposed.EmptinessCertificate) (v w from to : ℕ) (puts : List ℕ) (until : ℕ) → from ≡ rank_in c.ranks.items v
    → to ≡ rank_in c.ranks.items w → to ≡ from → Some until ≡ witness_in c.witnesses.items from → Contains puts until
    → IsFine (certificate_of forms cubes c) v (parts forms puts) w
stays_by forms cubes c v w from to puts until is_from is_to same is there =
    inr (
      sym is_to ∙ same ∙ is_from,
      subst (λ (o : Option ℕ). Stays (option_map (part forms) o) (parts forms puts)) (is ∙ ap (witness_in c.witnesses.items) is_from)
          (among_parts forms puts until there),
    )
