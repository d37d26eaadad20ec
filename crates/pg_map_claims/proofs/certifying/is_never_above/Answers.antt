use Rattle.std.proofs.Common.{◌≡◌, ◌∙◌, length, ap, refl, sym, subst}
use Rattle.std.proofs.lemmas.List.{length-map}
use Rattle.pg_arena.specs.declared.player.Player.TheVariants.{Odd}
use Rattle.pg_map.specs.Lines.{AreWithin}
use Rattle.pg_map.specs.Maps.{IsNeverAbove}
use Rattle.pg_check_order.specs.Orders.{AreNested}
use Rattle.pg_map_ranks.specs.Ladders.{rank_measure, rank_map}
use Rattle.pg_map_claims.specs.Known.{known_map}
use Rattle.pg_map_claims.specs.Mirrors.Backing.{AreGoodClaims}
use Rattle.pg_map_claims.proofs.Backed.{on_true, never_above}
use Rattle.pg_map_claims.proofs.certifying.is_never_above.Goals as goal

pub returns : goal.returns
returns g c =
    let lines = g.G.Lines.line c.args.lines.now in
    let map = c.args.map.now in
    let x = c.args.claims.now in
    let known = c.args.known.now in
    let ladder = c.parts.result.0.now in
    let ranks = c.parts.result.1.now in
    let parts = c.parts.ensures in
    let size : length known ≡ length ranks =
    c.requires.each ∙ ap length parts.measures ∙ length-map ranks (rank_measure map.bounds ladder.steps) in
    on_true c.are_good_claims.result (AreGoodClaims lines ladder x known) (IsNeverAbove map.bounds lines map.measures)
    (λ good. subst (IsNeverAbove map.bounds lines) (sym parts.measures)
    (subst (λ bs. IsNeverAbove bs lines (rank_map bs ladder.steps ranks)) parts.bounds
    (never_above lines ladder x known (subst (λ n. AreWithin n lines) (sym c.requires.each) c.requires.within)
    (subst (AreNested Odd) c.deref.ensures.value (c.if-not-are_nested.ensures.0 refl)) good ranks c.bounds-bounds.ensures.bounds
    c.bounds-bounds.ensures.ladder size c.if-not-are_ranks_claimed.ensures
    (subst (λ bs. IsNeverAbove bs lines (known_map bs known)) (sym parts.bounds) c.requires.known))))
    c.are_good_claims.ensures
