-- What is known of a step, and what more can be known.
use Rattle.std.proofs.Common.{◌≡◌, ℕ, zero, suc, ◌<◌, ◌/◌, ◌%◌, Bool, true, false, cond, eqb, List, [], ◌∷◌, Option, Some, None, length, get_or, refl, sym, ap, ◌∙◌, arith, true≢false}
use Rattle.std.specs.Prelude.{not, ◌&&◌, option_map}
use Rattle.pg_ltl.specs.Tableaux.{Each}
use Rattle.pg_aiger.specs.declared.gate.Gate.{Gate}
use Rattle.pg_aiger.specs.Runs.{Valuation, value, Satisfies}
use Rattle.pg_satisfies_check.specs.Mirrors.Known.{Meets}
use Rattle.pg_satisfies_check.specs.Mirrors.Known.{known_at, literal_in, IsKnown, Learns}

some_injective : (a b : Bool) → ◌≡◌ {A = Option Bool} (Some a) (Some b) → a ≡ b
some_injective a b e = ap (λ (o : Option Bool). or_false o) e
  where
    or_false : Option Bool → Bool
    or_false None = false
    or_false (Some x) = x

turned : (odd : Bool) (o : Option Bool) (b x : Bool) → option_map (λ y. cond odd (not y) y) o ≡ Some b → ((y : Bool) → o ≡ Some y → x ≡ y)
    → cond odd (not x) x ≡ b
turned odd None b x e h = absurd (none_some e)
  where
    none_some : ◌≡◌ {A = Option Bool} None (Some b) → ⊥
    none_some e = cc
turned odd (Some y) b x e h = ap (λ z. cond odd (not z) z) (h y refl) ∙ some_injective (cond odd (not y) y) b e

-- a literal whose value is known has it
pub known_literal : (row : List (Option Bool)) (u : Valuation) (l : ℕ) (b : Bool) → literal_in row l ≡ Some b → IsKnown row u → value u l ≡ b
known_literal row u l b e known = turned (eqb (l % 2) 1) (known_at row (l / 2)) b (u (l / 2)) e (λ y f. known (l / 2) y f)

-- ---- what is learnt

pub learns_by : (P Q : Valuation → Type 0) (old : List (Option Bool)) (ok : Bool) (new : List (Option Bool))
    → ((u : Valuation) → P u → IsKnown old u → Q u) → Learns Q old ok new → Learns P old ok new
learns_by P Q old ok new go h u p known = h u (go u p known) known

pub learns_then : (P Q : Valuation → Type 0) (old : List (Option Bool)) (first : Bool) (mid : List (Option Bool)) (second : Bool)
    (new : List (Option Bool)) → Learns P old first mid → Learns Q mid second new → Learns (λ u. P u × Q u) old second new
learns_then P Q old first mid second new h k u p known = k u p.1 (h u p.0 known).1

pub learns_no : (P Q : Valuation → Type 0) (old : List (Option Bool)) (ok : Bool) (mid new : List (Option Bool)) → ok ≡ false
    → ((u : Valuation) → P u → Q u) → Learns Q old ok mid → Learns P old false new
learns_no P Q old ok mid new e go h u p known = absurd (true≢false (sym (h u (go u p) known).0 ∙ e))

pub learns_none : (P : Valuation → Type 0) (old : List (Option Bool)) → Learns P old true old
learns_none P old u p known = (refl, known)

-- one more fact
pub learns_more : (P Q : Valuation → Type 0) (first mid last : List (Option Bool)) (ok : Bool) → ((u : Valuation) → P u → Q u)
    → Learns P first true mid → Learns Q mid ok last → Learns P first true last
learns_more P Q first mid last ok go before learns u p known = (refl, (learns u (go u p) (before u p known).1).1)

-- a fact that can't be
pub learns_not : (P Q : Valuation → Type 0) (first mid last other : List (Option Bool)) (ok : Bool) → ((u : Valuation) → P u → Q u)
    → Learns P first true mid → Learns Q mid ok last → ok ≡ false → Learns P first false other
learns_not P Q first mid last other ok go before learns not u p known =
    absurd (true≢false (sym (learns u (go u p) (before u p known).1).0 ∙ not))

-- ---- gates

and_false : (a b : Bool) → b ≡ false → (a && b) ≡ false
and_false true b e = e
and_false false b e = refl

and_left : (a b : Bool) → true ≡ (a && b) → a ≡ true
and_left true b e = refl
and_left false b e = absurd (true≢false e)

and_right : (a b : Bool) → true ≡ (a && b) → b ≡ true
and_right true b e = sym e
and_right false b e = absurd (true≢false e)

and_true : (a : Bool) → (a && true) ≡ a
and_true true = refl
and_true false = refl

module _ (gate : Gate) (row : List (Option Bool)) (u : Valuation) (meets : Meets u gate) (known : IsKnown row u) where
  at : (l : ℕ) (b : Bool) → literal_in row l ≡ Some b → value u l ≡ b
  at l b e = known_literal row u l b e known

  pub no_left : literal_in row gate.rhs0 ≡ Some false → value u gate.lhs ≡ false
  no_left e = meets ∙ ap (λ x. x && value u gate.rhs1) (at gate.rhs0 false e)

  pub no_right : literal_in row gate.rhs1 ≡ Some false → value u gate.lhs ≡ false
  no_right e = meets ∙ and_false (value u gate.rhs0) (value u gate.rhs1) (at gate.rhs1 false e)

  pub both_so : literal_in row gate.lhs ≡ Some true → (value u gate.rhs0 ≡ true) × (value u gate.rhs1 ≡ true)
  both_so e =
      let is : true ≡ (value u gate.rhs0 && value u gate.rhs1) = sym (at gate.lhs true e) ∙ meets in
      (and_left (value u gate.rhs0) (value u gate.rhs1) is, and_right (value u gate.rhs0) (value u gate.rhs1) is)

  pub as_right : literal_in row gate.rhs0 ≡ Some true → value u gate.lhs ≡ value u gate.rhs1
  as_right e = meets ∙ ap (λ x. x && value u gate.rhs1) (at gate.rhs0 true e)

  pub as_left : literal_in row gate.lhs ≡ Some false → literal_in row gate.rhs1 ≡ Some true → value u gate.rhs0 ≡ false
  as_left e f =
      sym (and_true (value u gate.rhs0)) ∙ ap (λ x. value u gate.rhs0 && x) (sym (at gate.rhs1 true f)) ∙ sym meets ∙ at gate.lhs false e

pub met_at : (u : Valuation) (gates : List Gate) (k : ℕ) (d : Gate) → Satisfies u gates → k < length gates → Meets u (get_or gates k d)
met_at u [] k d met lt = absurd (omega arith)
met_at u (g ∷ gs) zero d met lt = met.0
met_at u (g ∷ gs) (suc k) d met lt = met_at u gs k d met.1 (omega arith)
