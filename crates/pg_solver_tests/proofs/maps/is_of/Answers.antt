use Rattle.std.proofs.Common.{◌≡◌, ◌∙◌, ℕ, length, sym, subst, arith}
use Rattle.std.specs.Prelude.{IsTrue, nat_eq}
use Rattle.std.proofs.lemmas.Bool.Decides.{nat_tests}
use Rattle.pg_map.specs.Lines.{AreWithin, game_line}
use Rattle.pg_map.proofs.GameLines.{game_lines_within}
use Rattle.pg_solver_tests.proofs.maps.is_of.Goals as goal

equal : (a b : ℕ) → IsTrue (nat_eq a b) → a ≡ b
equal a b h = grind (arith, nat_tests)

pub returns : goal.returns
returns c = λ t.
    let size : length c.args.map.now.measures ≡ length c.args.game.now = sym c.len.ensures.value
    ∙ (equal c.len.result c.len-2.result t ∙ c.len-2.ensures.value) in
    subst (λ (n : ℕ). AreWithin n (game_line c.args.game.now)) (sym size) (game_lines_within c.args.game.now c.len-2.ensures.game)
