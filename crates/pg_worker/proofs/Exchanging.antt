-- Frames that are read and answered one after the other.
use Rattle.pg_worker.proofs.Common.{◌≡◌, ◌≢◌, ℕ, ◌<◌, ◌⊎◌, List, length, [], ◌∷◌, ◌++◌, Option, refl, sym, ap, ◌∙◌, subst, append_assoc}
use Rattle.pg_worker.proofs.Common.{inl, inr, All, flat_map, Consumes, Appends, append-nil, flat_map-cons, All-push, flat_map-append, Frame}
use Rattle.pg_worker.proofs.Common.{spelling, Spells, then, consumes_then, got, refused_known, WorkerFault, OutOfMemory, Wire, SessionValue}
use Rattle.pg_worker.proofs.Common.{Turn, RefusesBytes, Replies, Exchanges, IsFaultAt, Breaks, report_bytes, Answers}
use Rattle.pg_wire.specs.declared.fault.WireFault.TheVariants as wire
use Rattle.pg_wire.specs.declared.frame.Frame.TheVariants as frames
use Rattle.pg_wire.specs.Bytes.{IsWhole}

replies_more : (a : Option SessionValue) (fs : List Frame) (b : Option SessionValue) (bytes : List ℕ) (f : Frame)
    (c : Option SessionValue) (reply : List ℕ)
    → Replies a fs b bytes → Turn b f c reply → Replies a (fs ++ f ∷ []) c (bytes ++ reply)
replies_more a [] b bytes f c reply r t = (
  c,
  reply,
  [],
  subst (λ (h : Option SessionValue). Turn h f c reply) r.0 t,
  (refl, refl),
  ap (λ (bs : List ℕ). bs ++ reply) r.1 ∙ sym (append-nil reply),
)
replies_more a (g ∷ fs) b bytes f c reply r t = (
  r.0,
  r.1,
  r.2 ++ reply,
  r.3,
  replies_more r.0 fs b r.2 f c reply r.4 t,
  ap (λ (bs : List ℕ). bs ++ reply) r.5 ∙ append_assoc r.1 r.2 reply,
)

pub exchanges_more : (i i' i'' o o' o'' : Option (List ℕ)) (fs : List Frame) (f : Frame) (held held' : Option SessionValue)
    → Exchanges i i' o o' fs held → Answers f held held' i' i'' o' o'' → Exchanges i i'' o o'' (fs ++ f ∷ []) held'
exchanges_more i i' i'' o o' o'' fs f held held' e a =
    let spelled : flat_map spelling fs ++ spelling f ≡ flat_map spelling (fs ++ f ∷ []) =
    sym (flat_map-append spelling fs (f ∷ []) ∙ ap (λ (bs : List ℕ). flat_map spelling fs ++ bs) (flat_map-cons spelling f [] ∙ append-nil (spelling f))) in
    record {
      bytes = e.bytes ++ a.reply;
      well = All-push (λ (g : Frame). Spells g (spelling g)) fs f e.well a.well;
      replies = replies_more _ fs held e.bytes f held' a.reply e.replies a.turn;
      read = subst (λ (bs : List ℕ). Consumes i i'' bs) spelled (consumes_then i i' i'' (flat_map spelling fs) (spelling f) e.read a.read);
      written = then o o' o'' e.bytes a.reply e.written a.written;
    }

pub broken_off : (e fault : WorkerFault) (input left output before before' output' : Option (List ℕ)) (fs : List Frame)
    (held : Option SessionValue)
    → Exchanges input left output before fs held → All (λ f. f ≢ frames.Halt) fs → length fs < 4294967295
    → (fault ≡ Wire wire.Write) ⊎ (IsFaultAt left held fault × (before' ≡ before))
    → ((e ≡ fault) × Appends before' output' (report_bytes fault)) ⊎ (e ≡ Wire wire.Write)
    → (e ≡ Wire wire.Write) ⊎ Breaks e input output output'
broken_off e fault input left output before before' output' fs held x going few (inl w) (inl t) = inl (t.0 ∙ w)
broken_off e fault input left output before before' output' fs held x going few (inl w) (inr t) = inl t
broken_off e fault input left output before before' output' fs held x going few (inr w) (inr t) = inl t
broken_off e fault input left output before before' output' fs held x going few (inr w) (inl t) =
    let back : fault ≡ e = sym t.0 in
    inr (record {
      fs = fs;
      held = held;
      left = left;
      before = before;
      exchanges = x;
      going = going;
      few = few;
      fault = subst (IsFaultAt left held) back w.0;
      told_is = subst (λ (g : WorkerFault). Appends before output' (report_bytes g)) back
          (subst (λ (b : Option (List ℕ)). Appends b output' (report_bytes fault)) w.1 t.1);
    })

-- a session refused the bytes that were read
pub refused_at : (input input' : Option (List ℕ)) (bytes : List ℕ) (held : Option SessionValue) (e : WorkerFault) → IsWhole bytes
    → Consumes input input' bytes
    → (e ≡ OutOfMemory) ⊎ RefusesBytes 2 held bytes e → IsFaultAt input held e
refused_at input input' bytes held e w p (inl memory) = inl memory
refused_at input input' bytes held e w p (inr (inl (fault, is, s))) =
    inr (inr (inl (fault, is, s.of_bytes, refused_known input input' bytes fault p w s.none s.too_long.0 s.truncated.0)))
refused_at input input' bytes held e w p (inr (inr r)) =
    let read = got input input' bytes r.0 p r.1 in
    inr (inr (inr (r.0, input', read.0, read.1, r.2)))
