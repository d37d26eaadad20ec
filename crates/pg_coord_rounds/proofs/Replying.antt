-- Which replies are received of links that tell them, state by state and round by round.
use Rattle.pg_coord_rounds.proofs.Common.{◌≡◌, ℕ, ◌+◌, ◌-◌, Bool, true, false, List, [], ◌∷◌, ◌++◌, take, drop, Option, Some, Ok, Err, refl, sym}
use Rattle.pg_coord_rounds.proofs.Common.{◌∙◌, subst, arith, inl, inr, ◌==◌, if◌then◌else◌, Result, OnOk, cases_Bool, cases_eq, eqb-true}
use Rattle.pg_coord_rounds.proofs.Common.{eqb-false, append-nil, on_ok_weaker, MeasureValue, Dense, Measured, IsAtLeast, Joins, joins_none}
use Rattle.pg_coord_rounds.proofs.Common.{Failed, LinkState, Ending, reported, spoiled, missing, Reply, IsReply, AreReplies, spelled_reply}
use Rattle.pg_coord_rounds.proofs.Common.{spelled_replies, measures_of, is_failure, received, TaskValue, reply_measures, answer_to, ReceivesReply}
use Rattle.pg_coord_rounds.proofs.Common.{received_by, Tells, IsMended, IsQueried, JoinsEach}
use Rattle.pg_coord_rounds.proofs.Joins.{at_least_after}

-- ---- one state

same_either : {A : Type 0} (b : Bool) (x : A) → (if b then x else x) ≡ x
same_either true x = refl
same_either false x = refl

-- where no reply is left none is received
received_of_none : (state : LinkState) → [] ≡ received_by state []
received_of_none state = sym (same_either {A = List Reply} state.in_use [])

tells_none : (t : TaskValue) (worker : ℕ) (state : LinkState) (told : Option (List (List ℕ))) → told ≡ Some [] → state.kind ≡ Dense
    → Tells t worker [] state told
tells_none t worker state told is dense = record
    { all = []; told_is = is; replies = tt; received_is = received_of_none state; kind = dense }

-- before the first round each reply is received that may be
pub tells_first : (t : TaskValue) (worker : ℕ) (rs : List Reply) (state : LinkState) (told : Option (List (List ℕ))) → told ≡ Some (spelled_replies rs)
    → AreReplies t.bounds t.cut worker rs → state.in_use ≡ true → state.restarts ≡ 0 → state.kind ≡ Dense
    → Tells t worker (received 3 rs) state told
tells_first t worker rs state told is replies used unset dense = record {
  all = rs;
  told_is = is;
  replies = replies;
  received_is = rw (used, unset) refl;
  kind = dense;
}

-- of a link that isn't in use no reply is received
pub not_received : (t : TaskValue) (worker : ℕ) (rs : List Reply) (state : LinkState) (told : Option (List (List ℕ)))
    (f : List MeasureValue)
    → Tells t worker rs state told → state.in_use ≡ false → Tells t worker (drop 1 rs) state told × Joins f (measures_of (take 1 rs)) f
not_received t worker rs state told f h unused =
    let none : received_by state h.all ≡ [] = rw unused refl in
    subst (λ (qs : List Reply). Tells t worker (drop 1 qs) state told × Joins f (measures_of (take 1 qs)) f) (sym (h.received_is ∙ none))
    (record { all = h.all; told_is = h.told_is; replies = h.replies; received_is = sym none; kind = h.kind }, joins_none f)

-- no reply is received where none is left
none_received : (t : TaskValue) (worker : ℕ) (rs : List Reply) (state : LinkState) (told : Option (List (List ℕ)))
    (f g : List MeasureValue) → rs ≡ []
    → told ≡ Some [] → state.kind ≡ Dense → Joins f [] g → Tells t worker (drop 1 rs) state told × Joins f (measures_of (take 1 rs)) g
none_received t worker rs state told f g none is dense joins =
    subst (λ (qs : List Reply). Tells t worker (drop 1 qs) state told × Joins f (measures_of (take 1 qs)) g) (sym none)
    (tells_none t worker state told is dense, joins)

-- the next reply is received, and others are behind it
one_received : (t : TaskValue) (worker : ℕ) (rs : List Reply) (r : Reply) (behind all : List Reply) (state : LinkState)
    (told : Option (List (List ℕ)))
    (f g : List MeasureValue) → rs ≡ r ∷ behind → told ≡ Some (spelled_replies all) → AreReplies t.bounds t.cut worker all
    → behind ≡ received_by state all
    → state.kind ≡ Dense → Joins f (reply_measures r) g → Tells t worker (drop 1 rs) state told × Joins f (measures_of (take 1 rs)) g
one_received t worker rs r behind all state told f g parts is replies received_is dense joins =
    let joined : Joins f (measures_of (r ∷ [])) g = subst (λ (ms : List Measured). Joins f ms g) (sym (append-nil (reply_measures r))) joins in
    subst (λ (qs : List Reply). Tells t worker (drop 1 qs) state told × Joins f (measures_of (take 1 qs)) g) (sym parts)
    (record { all = all; told_is = is; replies = replies; received_is = received_is; kind = dense }, joined)

-- a link that tells no more tells a reply of no frame
abbrev no_reply : Reply
no_reply = record { values = []; ending = missing }

is_no_reply : (t : TaskValue) (worker : ℕ) → IsReply t.bounds t.cut worker no_reply []
is_no_reply t worker = record { spelled = λ i d lt. absurd (omega arith); values = λ i d lt. absurd (omega arith); ends = inr (omega arith, refl) }

-- what is so of the next reply, whichever the link may tell
abbrev pub OfNextReply : TaskValue → ℕ → Option (List (List ℕ)) → (Reply → List (List ℕ) → Type 0) → Type 0
OfNextReply t worker told P =
    (r : Reply) (left : List (List ℕ)) → told ≡ Some (spelled_reply r ++ left) → IsReply t.bounds t.cut worker r left → P r left

is_success : (e : Ending) → Ok tt ≡ answer_to e → is_failure e ≡ false
is_success (reported q) is = refl
is_success (spoiled bytes) is = absurd (cc)
is_success missing is = absurd (cc)

is_failed : (e : Ending) → Err Failed ≡ answer_to e → is_failure e ≡ true
is_failed (reported q) is = absurd (cc)
is_failed (spoiled bytes) is = refl
is_failed missing is = refl

-- a reply is received
pub reply_received : (t : TaskValue) (worker : ℕ) (rs : List Reply) (state : LinkState) (told told' : Option (List (List ℕ)))
    (f g : List MeasureValue)
    → Tells t worker rs state told → state.in_use ≡ true → OfNextReply t worker told (λ r left. ReceivesReply r left f g told' (Ok tt))
    → Tells t worker (drop 1 rs) state told' × Joins f (measures_of (take 1 rs)) g
reply_received t worker rs state told told' f g h used receives = by_all h.all h.told_is h.replies (h.received_is ∙ rw used refl)
  where
    by_all : (all : List Reply) → told ≡ Some (spelled_replies all) → AreReplies t.bounds t.cut worker all
        → rs ≡ received (3 - state.restarts) all → Tells t worker (drop 1 rs) state told' × Joins f (measures_of (take 1 rs)) g
    by_all [] is replies received_is = absurd (let no = (receives no_reply [] is (is_no_reply t worker) (λ e. cc)).0 in cc)
    by_all (r ∷ all) is replies received_is =
        let x = receives r (spelled_replies all) is replies.0 (λ e. cc) in
        let succeeds : is_failure r.ending ≡ false = is_success r.ending x.0 in
        one_received t worker rs r (received (3 - state.restarts) all) all state told' f g (received_is ∙ rw succeeds refl) x.1 replies.1
        (rw used refl) h.kind x.2

-- a link that failed and was mended has as many restarts left as its state says
after_failure : (restarts : ℕ) (state : LinkState) (rs : List Reply) → IsMended restarts state
    → (if (3 - restarts) == 0 then [] else received (3 - restarts - 1) rs) ≡ received_by state rs
after_failure restarts state rs m =
    elim (cases_Bool ((3 - restarts) == 0)) [
      | inl t ↦
          let none : 3 - restarts ≡ 0 = eqb-true (3 - restarts) 0 t in
          let unused : state.in_use ≡ false = m.given_up (omega arith) in
          rw (t, unused) refl
      | inr f ↦
          let some : 3 - restarts ≡ 0 → ⊥ = eqb-false (3 - restarts) 0 f in
          let again = m.again (omega arith) in
          let same : 3 - restarts - 1 ≡ 3 - (restarts + 1) = omega arith in
          rw (f, again.0, again.1, same) refl
    ]

-- a reply that fails is received
pub failure_received : {X E : Type 0} (t : TaskValue) (worker : ℕ) (rs : List Reply) (state state' : LinkState)
    (told told' told'' : Option (List (List ℕ)))
    (f g : List MeasureValue) (mended : Result X E) → Tells t worker rs state told → state.in_use ≡ true
    → OfNextReply t worker told (λ r left. ReceivesReply r left f g told' (Err Failed))
    → ((left : List (List ℕ)) → told' ≡ Some left → state.kind ≡ Dense
    → OnOk mended ((told'' ≡ Some left) × (state'.kind ≡ Dense) × IsMended state.restarts state'))
    → OnOk mended (Tells t worker (drop 1 rs) state' told'' × Joins f (measures_of (take 1 rs)) g)
failure_received t worker rs state state' told told' told'' f g mended h used receives mends = by_all h.all h.told_is h.replies
    (h.received_is ∙ rw used refl)
  where
    by_all : (all : List Reply) → told ≡ Some (spelled_replies all) → AreReplies t.bounds t.cut worker all
        → rs ≡ received (3 - state.restarts) all
        → OnOk mended (Tells t worker (drop 1 rs) state' told'' × Joins f (measures_of (take 1 rs)) g)
    by_all [] is replies received_is =
        let x = receives no_reply [] is (is_no_reply t worker) (λ e. cc) in
        on_ok_weaker mended (λ m. none_received t worker rs state' told'' f g received_is m.0 m.1 x.2) (mends [] x.1 h.kind)
    by_all (r ∷ all) is replies received_is =
        let x = receives r (spelled_replies all) is replies.0 (λ e. cc) in
        let fails : is_failure r.ending ≡ true = is_failed r.ending x.0 in
        let left : List Reply = if (3 - state.restarts) == 0 then [] else received (3 - state.restarts - 1) all in
        on_ok_weaker mended
        (λ m. one_received t worker rs r left all state' told'' f g (received_is ∙ rw fails refl) m.0 replies.1
        (after_failure state.restarts state' all m.2) m.1 x.2)
        (mends (spelled_replies all) x.1 h.kind)

-- ---- each link

-- a link that will still tell replies of its own, in its state
abbrev pub TellsNext : {L : Type 0} → (L → Option (List (List ℕ))) → TaskValue → (ℕ → List Reply) → ℕ → LinkState → L → Type 0
TellsNext told t replies k state link = Tells t (k + 1) (replies k) state (told link)

-- a link that tells replies, before its set-up
abbrev pub TellsFirst : {L : Type 0} → (L → Option (List (List ℕ))) → TaskValue → (ℕ → List Reply) → ℕ → LinkState → L → Type 0
TellsFirst told t replies k state link = (told link ≡ Some (spelled_replies (replies k))) × AreReplies t.bounds t.cut (k + 1) (replies k)

-- a link in its state, of which one reply more was taken
abbrev pub IsReceivedNext : {L : Type 0} → (L → Option (List (List ℕ))) → TaskValue → (ℕ → List Reply) → ℕ → LinkState → L → Type 0
IsReceivedNext told t replies k state link = Tells t (k + 1) (drop 1 (replies k)) state (told link)

-- the same, and it was queried
abbrev pub IsQueriedNext : {L : Type 0} → (L → Option (List (List ℕ))) → TaskValue → (ℕ → List Reply) → ℕ → LinkState → L → Type 0
IsQueriedNext told t replies k state link = Tells t (k + 1) (replies k) state (told link) × IsQueried state

pub each_none : (f : List MeasureValue) (measures : ℕ → List Measured) → JoinsEach f 0 measures f
each_none f measures = record { above = λ k lt. absurd (omega arith); least = λ h le each. le }

pub each_more : (f g g' : List MeasureValue) (i : ℕ) (measures : ℕ → List Measured) → JoinsEach f i measures g → Joins g (measures i) g'
    → JoinsEach f (i + 1) measures g'
each_more f g g' i measures j k = record {
  above = λ n lt.
      elim (cases_eq n i) [
        | inl eq ↦ subst (λ (m : ℕ). IsAtLeast g' (measures m)) (sym eq) k.each
        | inr ne ↦ at_least_after g g' (measures n) k.above (j.above n (omega arith))
      ];
  least = λ h le each. k.least h (j.least h le (λ n lt. each n (omega arith))) (each i (omega arith));
}
