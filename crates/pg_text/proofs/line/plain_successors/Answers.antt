use Rattle.pg_text.proofs.Common.{◌≡◌, ℕ, List, Ok, ◌∙◌, ap, after_space, ◌>>=◌, Read, item, further_at, numbers_at, successors_at}
use Rattle.pg_text.proofs.Steps.{ok}
use Rattle.pg_text.proofs.FirstBytes.{further_of_comma}
use Rattle.pg_text.proofs.Parts.{further_shrinks}
use Rattle.pg_text.proofs.Counting.{one_gathered, all_gathered}
use Rattle.pg_text.proofs.line.plain_successors.Goals as goal

-- the number behind the comma
further : (c : goal.In-Ok-push-2) → further_at c.successors.rest.now ≡ Ok (item c.in-Ok-natural.number, c.in-Ok-natural.after.now)
further c =
    further_of_comma c.successors.rest.now c.in-Some.after.now (ap after_space c.in-Some.ensures)
    ∙ ap (λ (r : Read (ℕ × List ℕ)). r >>= λ n. ok (item n.0, n.1)) c.in-Ok-natural.ensures

pub successors-smaller : goal.successors-smaller
successors-smaller c = further_shrinks.shorter c.successors.rest.now c.in-Ok-natural.number c.in-Ok-natural.after.now (further c)

pub successors-preserved : goal.successors-preserved
successors-preserved c =
    rw c.in-Ok-push-2.ensures.items
    (one_gathered c.successors.list.items c.make_room.new.list.items c.successors.rest.now c.in-Ok-natural.number c.in-Ok-natural.after.now
    (numbers_at c.args.bytes.now) c.make_room.ensures (further c) c.successors.invariant)

pub returns-then-is_end : goal.returns-then-is_end
unfolding successors_at
returns-then-is_end c =
    all_gathered c.successors.list.items c.successors.rest.now tt c.successors.rest.now (numbers_at c.args.bytes.now)
    (c.is_end.ensures c.if-is_end.true) c.successors.invariant
