use Rattle.pg_wire.proofs.Common.{◌++◌, take, get_or, List, ℕ, Vec, ap, sym, ◌∙◌, append_assoc, refl, Global, flat_map, pair, nonzero}
use Rattle.pg_wire.proofs.Nonzero.{nonzero_zero, pairs_more}
use Rattle.pg_wire.proofs.Buffers.{extends_then}
use Rattle.pg_wire.proofs.writer.put_pairs.Goals as goal
use Rattle.pg_wire.proofs.writer.put_pairs.Goals.{then-is_told+in_ok-put_pair, else-is_told}

pub returns-in_err-put_pair-clause-kept : goal.returns-in_err-put_pair-clause-kept
returns-in_err-put_pair-clause-kept c = extends_then _ _ _ _ c.loop-place.invariant c.put_pair.ensures.kept

pub loop-place-preserved : goal.loop-place-preserved
loop-place-preserved c =
    let xs = c.args.numbers.now in
    let i = c.loop-place.place in
    let start = c.args.out.now.items in
    elim c.if-is_told.branch [
      | then-is_told+in_ok-put_pair w ↦
          ap (λ (v : Vec ℕ Global). v.items) w.out-is ∙ w.in_ok-put_pair.ensures.ok ∙ ap (λ (bs : List ℕ). bs ++ pair (i, get_or xs i 0)) c.loop-place.invariant
          ∙ append_assoc start (flat_map pair (nonzero (take i xs))) (pair (i, get_or xs i 0))
          ∙ ap (λ (bs : List ℕ). start ++ bs) (sym (pairs_more xs i c.loop-place-test.true (w.if-is_told.ensures.told refl)))
      | else-is_told w ↦
          ap (λ (v : Vec ℕ Global). v.items) w.out-is ∙ c.loop-place.invariant
          ∙ ap (λ (ps : List (ℕ × ℕ)). start ++ flat_map pair ps)
          (sym (nonzero_zero xs i c.loop-place-test.true (w.if-is_told.ensures.untold refl)))
    ]
