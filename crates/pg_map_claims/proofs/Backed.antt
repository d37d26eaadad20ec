-- What is checked of claims shows that they are backed.
use Rattle.std.proofs.Common.{◌≡◌, ℕ, ◌<◌, ◌⊎◌, inl, inr, Bool, true, false, None, List, length, get_or, ap, arith, sym, refl, ◌∙◌, subst}
use Rattle.std.specs.Prelude.{Option, nat_lt, IsTrue, if◌then◌else◌}
use Rattle.std.specs.Bool.{OnTrue}
use Rattle.std.specs.Option.{IsSome}
use Rattle.std.proofs.lemmas.Bool.Decides.{nat_tests}
use Rattle.std.proofs.lemmas.List.{get_or-map, length-map}
use Rattle.pg_arena.specs.declared.player.Player.TheVariants.{Odd}
use Rattle.pg_arena.specs.Games.{opponent}
use Rattle.pg_measure.specs.Measures.{BoundList, AreBounds, AtMost, zeros}
use Rattle.pg_measure.proofs.Order.{at_most_same}
use Rattle.pg_map.specs.Lines.{Line, line_at, AreWithin}
use Rattle.pg_map.specs.Maps.{measure_at, SomeOrAll, IsNeverAbove}
use Rattle.pg_map.proofs.Joins.{at_most_top}
use Rattle.pg_check_order.specs.declared.span.Span.{Span}
use Rattle.pg_check_order.specs.Orders.{span_at, AreNested}
use Rattle.pg_check_order.proofs.Nested.{wins_nodes}
use Rattle.pg_map_ranks.specs.Ladders.{LadderValue, IsLadder, IsJustified, IsJustifiedFrom, rank_measure, rank_map}
use Rattle.pg_map_ranks.proofs.Blocking.{rank_at_most, top_justifies}
use Rattle.pg_map_ranks.proofs.Ranking.{measure_is, rank_zero, each_of}
use Rattle.pg_map_claims.specs.Claims.{ClaimSet, LeadsTo, IsBackedBy, AreBacked, IsClaimed, IsMapClaimed}
use Rattle.pg_map_claims.specs.Known.{known_map}
use Rattle.pg_map_claims.specs.declared.claim.Claim.{Claim}
use Rattle.pg_map_claims.specs.declared.claim.Claims.{Claims}
use Rattle.pg_map_claims.specs.Mirrors.Backing.{claim_at, IsKnown, Backs, IsGoodClaim, AreGoodClaims, HasClaim, AreRanksClaimed}
use Rattle.pg_map_claims.proofs.Claiming.{claimed_is_never_above}

pub on_true : (b : Bool) (P Q : Type 0) → (P → Q) → OnTrue b P → OnTrue b Q
on_true true P Q f h = f h
on_true false P Q f h = h

less_is : (x y : ℕ) → x < y → IsTrue (nat_lt x y)
less_is x y lt = grind (arith, nat_tests)

is_less : (x y : ℕ) → IsTrue (nat_lt x y) → x < y
is_less x y t = grind (arith, nat_tests)

module _ (ladder : LadderValue) (x : Claims) where
  -- the claims of the table: one leads to those that stand before its end
  abbrev pub claims_of : ClaimSet
  claims_of = record {
    count = length x.claims.items;
    vertex = λ k. (claim_at x k).vertex;
    measure = λ k. rank_measure ladder.bounds ladder.steps (claim_at x k).rank;
    leads = λ k j. nat_lt (claim_at x j).place (span_at x.spans.items (claim_at x k).place).end;
  }

-- what the code has of a claim
pub good_claim : (lines : ℕ → Option Line) (ladder : LadderValue) (x : Claims) (known : List Bool) (c : Claim) (span : Span) (p low : ℕ)
    → IsSome (lines c.vertex) → span ≡ span_at x.spans.items c.place → p ≡ (line_at lines c.vertex).priority → span.priority ≡ p
    → IsJustifiedFrom ladder.bounds ladder.steps p c.rank low
    → SomeOrAll (opponent (line_at lines c.vertex).owner) (Backs x known low span.end) (line_at lines c.vertex).successors
    → IsGoodClaim lines ladder x known c
good_claim lines ladder x known c span p low held at is stands justified backed = record {
  held = held;
  stands = ap (λ (s : Span). s.priority) (sym at) ∙ stands ∙ is;
  low = low;
  justified = subst (λ q. IsJustifiedFrom ladder.bounds ladder.steps q c.rank low) is justified;
  backed = subst (λ (s : Span). SomeOrAll (opponent (line_at lines c.vertex).owner) (Backs x known low s.end)
      (line_at lines c.vertex).successors)
      at backed;
}

-- what is known of a vertex
module _ (bs : BoundList) (known : List Bool) where
  known_at : (w : ℕ) → w < length known → measure_at (known_map bs known) w ≡ (if get_or known w false then None else zeros bs)
  known_at w lt = get_or-map (λ (t : Bool). if t then None else zeros bs) known w false None lt

  known_top : (w : ℕ) → w < length known → IsKnown known w → measure_at (known_map bs known) w ≡ None
  known_top w lt is = known_at w lt ∙ ap (λ (t : Bool). if t then None else zeros bs) is

  -- it is top or zeros
  top_or_zeros : (w : ℕ) → w < length known → (measure_at (known_map bs known) w ≡ None) ⊎ (measure_at (known_map bs known) w ≡ zeros bs)
  top_or_zeros w lt = go (get_or known w false) refl
    where
      go : (t : Bool) → get_or known w false ≡ t → (measure_at (known_map bs known) w ≡ None) ⊎
          (measure_at (known_map bs known) w ≡ zeros bs)
      go true e = inl (known_at w lt ∙ ap (λ (t : Bool). if t then None else zeros bs) e)
      go false e = inr (known_at w lt ∙ ap (λ (t : Bool). if t then None else zeros bs) e)

module _ (lines : ℕ → Option Line) (ladder : LadderValue) (x : Claims) (known : List Bool) (within : AreWithin (length known) lines)
    (nested : AreNested Odd x.spans.items) (good : AreGoodClaims lines ladder x known) where
  abbrev bs : BoundList
  bs = ladder.bounds

  abbrev claims : ClaimSet
  claims = claims_of ladder x

  -- what is looked at of w backs claim k
  backed_by : (k w : ℕ) → k < length x.claims.items → (c : IsGoodClaim lines ladder x known (claim_at x k)) → w < length known
      → Backs x known c.low (span_at x.spans.items (claim_at x k).place).end w → IsBackedBy bs lines (known_map bs known) claims k w
  backed_by k w among c lt (inl none) = inl (elim (top_or_zeros bs known w lt) [
    | inl top ↦ subst (IsJustified bs (line_at lines (claim_at x k).vertex).priority (claims.measure k)) (sym top)
        (top_justifies bs (line_at lines (claim_at x k).vertex).priority (claims.measure k))
    | inr zero ↦ subst (IsJustified bs (line_at lines (claim_at x k).vertex).priority (claims.measure k))
        (rank_zero bs ladder.steps ∙ sym zero)
        (c.justified 0 (omega arith))
  ])
  backed_by k w among c lt (inr (inl top)) = inl (subst (IsJustified bs (line_at lines (claim_at x k).vertex).priority (claims.measure k))
      (sym (known_top bs known w lt top)) (top_justifies bs (line_at lines (claim_at x k).vertex).priority (claims.measure k)))
  backed_by k w among c lt (inr (inr by)) = inr (record {
    claim = by.is.claim;
    leads = record {
      from = among;
      to = by.is.among;
      may = less_is (claim_at x by.is.claim).place (span_at x.spans.items (claim_at x k).place).end
          (let e = by.is.stands in let lt = by.before in omega arith);
    };
    of_vertex = by.is.of_vertex;
    justifies = c.justified (claim_at x by.is.claim).rank by.is.high;
  })

  are_backed : AreBacked bs lines (known_map bs known) claims
  are_backed = record {
    held = λ k among. (good k among).held;
    backed = λ k among.
        let c = good k among in
        each_of (length known) (Backs x known c.low (span_at x.spans.items (claim_at x k).place).end)
        (IsBackedBy bs lines (known_map bs known) claims k) (λ w lt. backed_by k w among c lt)
        (opponent (line_at lines (claim_at x k).vertex).owner) (line_at lines (claim_at x k).vertex).successors
        (within.successors (claim_at x k).vertex c.held) c.backed;
    cycles = wins_nodes Odd x.spans.items nested (LeadsTo claims) (λ k. (line_at lines (claim_at x k).vertex).priority)
        (λ k. (claim_at x k).place)
        (λ k j leads. (good k leads.from).stands)
        (λ k j leads. is_less (claim_at x j).place (span_at x.spans.items (claim_at x k).place).end leads.may);
  }

  module _ (ranks : List ℕ) (bounds : AreBounds bs) (is_ladder : IsLadder bs ladder.steps) (size : length known ≡ length ranks)
      (ranked : AreRanksClaimed x known ranks) where
    claimed : IsMapClaimed (known_map bs known) (rank_map bs ladder.steps ranks) claims
    claimed v lt = subst (λ m. AtMost m (measure_at (known_map bs known) v) ⊎ IsClaimed claims v m)
        (sym (measure_is bs ladder.steps ranks v in_range))
        (go (ranked v in_range))
      where
        in_range : v < length ranks
        in_range = omega (arith, length-map ranks (rank_measure bs ladder.steps))

        go : (get_or ranks v 0 ≡ 0) ⊎ (IsKnown known v ⊎ HasClaim x (get_or ranks v 0) v)
            → AtMost (rank_measure bs ladder.steps (get_or ranks v 0)) (measure_at (known_map bs known) v)
            ⊎ IsClaimed claims v (rank_measure bs ladder.steps (get_or ranks v 0))
        go (inl none) = inl (elim (top_or_zeros bs known v (let l = in_range in omega arith)) [
          | inl top ↦ subst (AtMost (rank_measure bs ladder.steps (get_or ranks v 0))) (sym top)
              (at_most_top (rank_measure bs ladder.steps (get_or ranks v 0)))
          | inr zero ↦
              let same : rank_measure bs ladder.steps (get_or ranks v 0) ≡ measure_at (known_map bs known) v =
              ap (rank_measure bs ladder.steps) none ∙ rank_zero bs ladder.steps ∙ sym zero in
              subst (AtMost (rank_measure bs ladder.steps (get_or ranks v 0))) same
              (at_most_same (rank_measure bs ladder.steps (get_or ranks v 0)))
        ])
        go (inr (inl top)) = inl
            (subst (AtMost (rank_measure bs ladder.steps (get_or ranks v 0))) (sym (known_top bs known v (let l = in_range in omega arith) top))
            (at_most_top (rank_measure bs ladder.steps (get_or ranks v 0))))
        go (inr (inr c)) = inr (record {
          claim = c.is.claim;
          among = c.is.among;
          of_vertex = c.is.of_vertex;
          enough = rank_at_most bs ladder.steps bounds is_ladder 0 (get_or ranks v 0) (claim_at x c.is.claim).rank c.is.high;
        })

    pub never_above : IsNeverAbove bs lines (known_map bs known) → IsNeverAbove bs lines (rank_map bs ladder.steps ranks)
    never_above never =
        claimed_is_never_above bs lines (known_map bs known) (rank_map bs ladder.steps ranks) claims
        (length-map ranks (rank_measure bs ladder.steps) ∙ sym size ∙ sym
        (length-map known (λ (t : Bool). if t then None else zeros bs))) never
        are_backed claimed
