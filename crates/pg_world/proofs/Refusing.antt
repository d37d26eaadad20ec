-- When an event goes ahead.
use Rattle.pg_world.proofs.Common.{◌≡◌, ℕ, ◌<◌, ◌≤◌, Bool, true, false, Some, None, refl, ◌&&◌, ◌==◌, nat_lt, nat_le, Option, length}
use Rattle.pg_world.proofs.Common.{if◌then◌else◌, leb-true, ltb-true, identifier, worker_of, WorldFault, NoSuchReplica, NotMine}
use Rattle.pg_world.proofs.Common.{NoSuchUpdate, Lift, Deliver, Restart, WorldValue, is_worker, refusal}

passed : (b : Bool) (x : Option WorldFault) (f : WorldFault) → (if b then x else Some f) ≡ None → (b ≡ true) × (x ≡ None)
passed true x f h = (refl, h)
passed false x f h = absurd (cc)

both : (a b : Bool) → (a && b) ≡ true → (a ≡ true) × (b ≡ true)
both true b h = (refl, h)
both false b h = absurd (cc)

pub worker_is : (w : WorldValue) (n : ℕ) → is_worker w n ≡ true → (0 < n) × (n ≤ w.cut.workers)
worker_is w n h = let t = both (nat_lt 0 n) (nat_le n w.cut.workers) h in (ltb-true 0 n t.0, leb-true n w.cut.workers t.1)

pub delivers : (w : WorldValue) (r n : ℕ) → refusal w (Deliver r n) ≡ None → (r ≤ w.cut.workers) × (n < length w.updates)
delivers w r n h =
    let a = passed (nat_le r w.cut.workers) (if nat_lt n (length w.updates) then None else Some (NoSuchUpdate n)) (NoSuchReplica r) h in
    let b = passed (nat_lt n (length w.updates)) None (NoSuchUpdate n) a.1 in
    (leb-true r w.cut.workers a.0, ltb-true n (length w.updates) b.0)

pub lifts : (w : WorldValue) (r v : ℕ) → refusal w (Lift r v) ≡ None → (0 < r) × (r ≤ w.cut.workers) × ((worker_of w.cut v == r) ≡ true)
lifts w r v h =
    let a = passed (is_worker w r) (if worker_of w.cut v == r then None else Some (NotMine r (identifier w.game v))) (NoSuchReplica r) h in
    let b = passed (worker_of w.cut v == r) None (NotMine r (identifier w.game v)) a.1 in
    let c = worker_is w r a.0 in
    (c.0, c.1, b.0)

pub restarts : (w : WorldValue) (r : ℕ) → refusal w (Restart r) ≡ None → (0 < r) × (r ≤ w.cut.workers)
restarts w r h = worker_is w r ((passed (is_worker w r) None (NoSuchReplica r) h).0)
