use Rattle.pg_wire.proofs.Common.{◌≡◌, ◌==◌, ◌∙◌, ◌∷◌, List, ℕ, length, true, Ok, Frame, refl, sym, subst, body_at, frame_at}
use Rattle.pg_wire.proofs.Lengths.{kind_and_after}
use Rattle.pg_wire.proofs.Skip.{passed}
use Rattle.pg_wire.proofs.reading.check_body.Goals as goal

ends : (kind : ℕ) (fields rest : List ℕ) (f : Frame) → frame_at kind fields ≡ Ok (f, rest) → (length rest == 0) ≡ true → body_at (kind ∷ fields) ≡ Ok f
unfolding body_at
ends kind fields rest f e none = rw (e, none) refl

pub returns-then-is_empty-clause-body : goal.returns-then-is_empty-clause-body
returns-then-is_empty-clause-body c =
    let p = passed _ _ c.in_ok-rest-in-len1-up.ensures in
    subst (λ (b : List ℕ). (f : Frame) × (body_at b ≡ Ok f)) (kind_and_after c.args.bytes.now _ c.in-len1-up.len_at_least refl)
    (p.0, ends _ _ _ p.0 p.1 (sym c.is_empty.ensures ∙ c.if-is_empty.true))
