use Rattle.pg_measure.proofs.Common.{◌≡◌, ℕ, ◌+◌, ◌<◌, ◌≤◌, ◌⊎◌, List, [], ◌∷◌, ◌++◌, length, slice_index, ◌∙◌, inl, inr, ap, subst, sym}
use Rattle.pg_measure.proofs.Common.{arith, cases_lt, length_push, get_or_append_left, get_or-append_seam, BoundList, width_from, AreWidths}
use Rattle.pg_measure.proofs.bounds.first_widths.Goals as goal

-- the width of a priority more
width_at : (bounds : BoundList) (widths : List ℕ) (w q : ℕ) → AreWidths bounds widths → w ≡ width_from bounds (length widths)
    → q ≤ length widths → (q < length widths) ⊎ (length widths ≤ q) → slice_index (widths ++ w ∷ []) q ≡ width_from bounds q
width_at bounds widths w q are is h (inl l) = get_or_append_left widths (w ∷ []) 0 q l ∙ are q l
width_at bounds widths w q are is h (inr l) =
    let last : length widths ≡ q = omega arith in
    subst (λ n. slice_index (widths ++ w ∷ []) n ≡ width_from bounds n) last (get_or-append_seam widths w [] 0 ∙ is)

widths_more : (bounds : BoundList) (widths more : List ℕ) (w p : ℕ) → length widths ≡ p → AreWidths bounds widths → more ≡ widths ++ w ∷ []
    → w ≡ width_from bounds p → (length more ≡ p + 1) × AreWidths bounds more
widths_more bounds widths more w p as_many are grown is =
    let one_more : length more ≡ length widths + 1 = ap length grown ∙ length_push widths w in
    let here : w ≡ width_from bounds (length widths) = is ∙ ap (width_from bounds) (sym as_many) in (
      one_more ∙ ap (λ n. n + 1) as_many,
      λ q h. subst (λ (l : List ℕ). slice_index l q ≡ width_from bounds q) (sym grown)
          (width_at bounds widths w q are here (omega arith) (cases_lt q (length widths))),
    )

pub loop-p-preserved : goal.loop-p-preserved
loop-p-preserved c =
    widths_more c.args.pairs.now c.loop-p.widths.items c.push.new.self.items c.width_from.result c.loop-p.p c.loop-p.invariant.0 c.loop-p.invariant.1 c.in_ok-push.ensures.items c.width_from.ensures.value
