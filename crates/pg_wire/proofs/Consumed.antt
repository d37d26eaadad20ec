-- Bytes that were read one after the other, and what reading a frame answers by them.
use Rattle.pg_wire.proofs.Common.{◌≡◌, ℕ, ◌+◌, ◌-◌, ◌<◌, ◌≤◌, ◌⊎◌, List, [], ◌++◌, length, take, drop, Option, refl, sym, ap, subst, ◌∙◌}
use Rattle.pg_wire.proofs.Common.{Some, None, IfSome, Result, Ok, Err, append_assoc, arith, inl, inr, length-append, length-take}
use Rattle.pg_wire.proofs.Common.{length-drop, take_at, drop_at, take_all, take-append-le, take-append-add, w32, from_be_bytes, Consumes}
use Rattle.pg_wire.proofs.Common.{IsAtEnd, WireFault, TooLong, Truncated, OutOfMemory, Read, Frame, word, body, spelling, longest, Spells}
use Rattle.pg_wire.proofs.Common.{IsReadFrom, IsWhole, IsTooLong, IsTruncated, length_field}
use Rattle.pg_wire.proofs.Bodies.{length_is, one_frame}

pub consumes_then : (a b c : Option (List ℕ)) (x y : List ℕ) → Consumes a b x → Consumes b c y → Consumes a c (x ++ y)
consumes_then None b c x y p q = tt
consumes_then (Some xs) None c x y p q = absurd p
consumes_then (Some xs) (Some ys) None x y p q = absurd q
consumes_then (Some xs) (Some ys) (Some zs) x y p q = p ∙ ap (λ (t : List ℕ). x ++ t) q ∙ sym (append_assoc x y zs)

-- what holds of the bytes that were read and those that are left holds of all, if these are known
known : (a b : Option (List ℕ)) (bytes : List ℕ) (P : List ℕ → Type 0) → Consumes a b bytes → ((ys : List ℕ) → b ≡ Some ys → P (bytes ++ ys)) → IfSome a P
known None b bytes P p holds = tt
known (Some xs) None bytes P p holds = absurd p
known (Some xs) (Some ys) bytes P p holds = subst P (sym p) (holds ys refl)

-- a buffer in whose middle bytes were put
pub filled_more : (xs ys after : List ℕ) (a n : ℕ) → a ≤ length xs → n ≤ length ys → take (a + n) (take a xs ++ (ys ++ after)) ≡ take a xs ++ take n ys
filled_more xs ys after a n le within =
    let len : length (take a xs) ≡ a = omega (arith, length-take a xs) in
    subst (λ (k : ℕ). take (k + n) (take a xs ++ (ys ++ after)) ≡ take a xs ++ take n ys) len
    (take-append-add (take a xs) (ys ++ after) n ∙ ap (λ (t : List ℕ). take a xs ++ t) (take-append-le n ys after within))

pub filled_within : (xs ys after : List ℕ) (a n : ℕ) → a ≤ length xs → n ≤ length ys → a + n ≤ length (take a xs ++ (ys ++ after))
filled_within xs ys after a n le within = omega (arith, length-append (take a xs) (ys ++ after), length-append ys after, length-take a xs)

-- the end of a buffer that was made so much longer
pub end_size : (slice end : List ℕ) (start size len : ℕ) → length end ≡ length (take (length slice - start) (drop start slice))
    → length slice ≡ len → len ≡ start + size → length end ≡ size
end_size slice end start size len e n long = omega (arith, e, n, long, length-take (length slice - start) (drop start slice), length-drop start slice)

-- a buffer that was filled
pub filled_all : (a b : Option (List ℕ)) (buffer : List ℕ) (n size : ℕ) → length buffer ≡ size → size ≤ n → n ≤ length buffer
    → Consumes a b (take n buffer) → Consumes a b buffer
filled_all a b buffer n size len le within p =
    let n_is : n ≡ length buffer = omega arith in
    let P : List ℕ → Type 0 = λ t. Consumes a b t in
    subst P (ap (λ (k : ℕ). take k buffer) n_is ∙ take_all (length buffer) buffer (omega arith)) p

-- a buffer that was made longer, and whose new places were filled
pub filled_after : (items resized buffer after more zeros : List ℕ) (start size len : ℕ) → start ≡ length items → resized ≡ take (start + size) items ++ zeros
    → length buffer ≡ size → len ≡ start + size
    → take len ((take start resized ++ (buffer ++ after)) ++ more) ≡ items ++ buffer
filled_after items resized buffer after more zeros start size len at made filled long =
    let all : take (start + size) items ≡ items = take_all (start + size) items (omega (arith, at)) in
    let front : take start resized ≡ items = ap (take start) (made ∙ ap (λ (t : List ℕ). t ++ zeros) all) ∙ take_at items zeros start (sym at) in
    let parts : (take start resized ++ (buffer ++ after)) ++ more ≡ (items ++ buffer) ++ (after ++ more) =
    ap (λ (t : List ℕ). (t ++ (buffer ++ after)) ++ more) front ∙ ap (λ (t : List ℕ). t ++ more) (sym (append_assoc items buffer after))
    ∙ append_assoc (items ++ buffer) after more in
    ap (take len) parts ∙ take_at (items ++ buffer) (after ++ more) len (omega (arith, length-append items buffer, at, filled, long))

-- fewer bytes were left than were asked for
pub fell_short : (a b c : Option (List ℕ)) (bytes more : List ℕ) (len : ℕ) → Consumes a b bytes → Consumes b c more → IsAtEnd c
    → length bytes + length more < len → IfSome a (λ xs. length xs < len)
fell_short None b c bytes more len p q e lt = tt
fell_short (Some xs) None c bytes more len p q e lt = absurd p
fell_short (Some xs) (Some ys) None bytes more len p q e lt = absurd q
fell_short (Some xs) (Some ys) (Some zs) bytes more len p q e lt = omega (
  arith,
  ap length p,
  ap length q,
  ap length e,
  length-append bytes ys,
  length-append more zs,
)

-- ---- what is answered

no_end : (front rest : List ℕ) → length front ≡ 4 → (front ++ rest) ≡ [] → ⊥
no_end front rest len e = absurd (omega (arith, ap length e, length-append front rest))

spelled_front : (front rest more : List ℕ) (f : Frame) → length front ≡ 4 → length (body f) ≤ longest → (front ++ rest) ≡ spelling f ++ more
    → (from_be_bytes w32 front ≡ length (body f)) × (rest ≡ body f ++ more)
spelled_front front rest more f len within e =
    let joined : front ++ rest ≡ word (length (body f)) ++ (body f ++ more) = e ∙ append_assoc (word (length (body f))) (body f) more in
    let first : front ≡ word (length (body f)) = sym (take_at front rest 4 len) ∙ ap (take 4) joined
    ∙ take_at (word (length (body f))) (body f ++ more) 4 refl in (
      ap (from_be_bytes w32) first ∙ length_is f within,
      sym (drop_at front rest 4 len) ∙ ap (drop 4) joined
          ∙ drop_at (word (length (body f))) (body f ++ more) 4 refl,
    )

field_is : (front rest : List ℕ) → length front ≡ 4 → length_field (front ++ rest) ≡ from_be_bytes w32 front
field_is front rest len = ap (from_be_bytes w32) (take_at front rest 4 len)

abbrev Answer : Type 0
Answer = Result (Option Frame) WireFault

none_is : IsReadFrom [] (Ok None)
none_is = record {
  ended = (λ e. refl, λ e. refl);
  too_long = (λ t. absurd (omega (arith, t.whole)), λ e. absurd cc);
  truncated = (λ t. absurd (t.0 refl), λ e. absurd cc);
  frame = λ f rest s e. absurd cc;
}

pub ended : (a : Option (List ℕ)) → IsAtEnd a → IfSome a (λ xs. IsReadFrom xs (Ok None))
ended None e = tt
ended (Some xs) e =
    let P : List ℕ → Type 0 = λ zs. IsReadFrom zs (Ok None) in
    subst P (sym e) none_is

cut_is : (xs : List ℕ) → 0 < length xs → length xs < 4 → IsReadFrom xs (Err Truncated)
cut_is xs some lt = record {
  ended = (λ e. absurd (omega (arith, ap length e)), λ e. absurd cc);
  too_long = (λ t. absurd (omega (arith, t.whole)), λ e. absurd cc);
  truncated = (λ t. refl, λ e. (λ none. absurd (omega (arith, ap length none)), inl lt));
  frame = λ f rest s e. absurd (omega (arith, ap length e, length-append (spelling f) rest, length-append (word (length (body f))) (body f)));
}

pub cut : (a b : Option (List ℕ)) (bytes : List ℕ) → Consumes a b bytes → 0 < length bytes → length bytes < 4 → IsAtEnd b
    → IfSome a (λ xs. IsReadFrom xs (Err Truncated))
cut a b bytes p some lt e = known a b bytes (λ zs. IsReadFrom zs (Err Truncated)) p (λ ys is.
    let none : ys ≡ [] = subst IsAtEnd is e in
    let n : length (bytes ++ ys) ≡ length bytes = omega (arith, ap length none, length-append bytes ys) in
    cut_is (bytes ++ ys) (omega arith) (omega arith))

long_is : (front rest : List ℕ) → length front ≡ 4 → longest < from_be_bytes w32 front → IsReadFrom (front ++ rest) (Err TooLong)
long_is front rest len over =
    let field = field_is front rest len in
    let whole : 4 ≤ length (front ++ rest) = omega (arith, length-append front rest) in
    record {
      ended = (λ e. absurd (no_end front rest len e), λ e. absurd cc);
      too_long = (λ t. refl, λ e. record { whole = whole; over = rw field over });
      truncated = (λ t. elim t.1 [ inl lt ↦ absurd (omega arith) | inr k ↦ absurd (omega (arith, k.within, field)) ], λ e. absurd cc);
      frame = λ f more s e. absurd (omega (arith, s.within, (spelled_front front rest more f len s.within e).0));
    }

pub long : (a b : Option (List ℕ)) (front : List ℕ) → Consumes a b front → length front ≡ 4 → longest < from_be_bytes w32 front
    → IfSome a (λ xs. IsReadFrom xs (Err TooLong))
long a b front p len over = known a b front (λ zs. IsReadFrom zs (Err TooLong)) p (λ ys is. long_is front ys len over)

-- the length alone
pub too_long_alone : (front : List ℕ) → length front ≡ 4 → longest < from_be_bytes w32 front → IsTooLong front × (length front ≡ 4)
too_long_alone front len over =
    let all : take 4 front ≡ front = take_all 4 front (omega (arith, len)) in
    (record { whole = omega (arith, len); over = rw all over }, len)

short_is : (front rest : List ℕ) → length front ≡ 4 → from_be_bytes w32 front ≤ longest → length rest < from_be_bytes w32 front
    → IsReadFrom (front ++ rest) (Err Truncated)
short_is front rest len within fewer =
    let field = field_is front rest len in
    let all = length-append front rest in
    record {
      ended = (λ e. absurd (no_end front rest len e), λ e. absurd cc);
      too_long = (λ t. absurd (omega (arith, t.over, field)), λ e. absurd cc);
      truncated = (λ t. refl, λ e. (no_end front rest len, inr (record { some = omega arith; within = omega arith; fewer = omega arith })));
      frame = λ f more s e. let k = spelled_front front rest more f len s.within e in absurd (omega (arith, k.0, ap length k.1, length-append (body f) more));
    }

pub short : (a b : Option (List ℕ)) (front : List ℕ) → Consumes a b front → length front ≡ 4 → from_be_bytes w32 front ≤ longest
    → IfSome b (λ ys. length ys < from_be_bytes w32 front) → IfSome a (λ xs. IsReadFrom xs (Err Truncated))
short a b front p len within fewer = known a b front (λ zs. IsReadFrom zs (Err Truncated)) p
    (λ ys is. short_is front ys len within (subst (λ (o : Option (List ℕ)). IfSome o (λ zs. length zs < from_be_bytes w32 front)) is fewer))

-- nothing was left to read
pub none_read : (a b : Option (List ℕ)) (bytes : List ℕ) → Consumes a b bytes → bytes ≡ [] → IsAtEnd b → IsAtEnd a
none_read None b bytes p none e = tt
none_read (Some xs) None bytes p none e = absurd p
none_read (Some xs) (Some ys) bytes p none e = p ∙ ap (λ (t : List ℕ). t ++ ys) none ∙ e

-- a fault of reading a frame's bytes where these are left, if they are known
abbrev IsFault : Option (List ℕ) → WireFault → Type 0
IsFault known e = (e ≡ Read) ⊎ ((e ≡ OutOfMemory) ⊎ (((e ≡ TooLong) ⊎ (e ≡ Truncated)) × IfSome known (λ xs. IsReadFrom xs (Err e))))

-- the length was read, and the bytes that it counts weren't
pub body_fault : (a b : Option (List ℕ)) (front : List ℕ) (e : WireFault) → Consumes a b front → length front ≡ 4 → from_be_bytes w32 front ≤ longest
    → (e ≡ Truncated) ⊎ ((e ≡ OutOfMemory) ⊎ (e ≡ Read)) → ((e ≡ Truncated) → IfSome b (λ ys. length ys < from_be_bytes w32 front)) → IsFault a e
body_fault a b front e p len within (inl cut_off) fewer =
    let P : WireFault → Type 0 = λ d. IfSome a (λ xs. IsReadFrom xs (Err d)) in
    inr (inr (inr cut_off, subst P (sym cut_off) (short a b front p len within (fewer cut_off))))
body_fault a b front e p len within (inr (inl memory)) fewer = inr (inl memory)
body_fault a b front e p len within (inr (inr read)) fewer = inl read

-- ---- bytes that their length cuts

too_short : (bytes : List ℕ) → IsWhole bytes → IsTruncated bytes → ⊥
too_short bytes w (inl lt) = absurd (omega (arith, w.whole))
too_short bytes w (inr k) = absurd (omega (arith, k.fewer, w.size))

too_long : (bytes : List ℕ) → IsWhole bytes → IsTooLong bytes → ⊥
too_long bytes w t = absurd (omega (arith, t.over, w.within))

-- a length, and as many bytes as it counts
pub joined : (front rest : List ℕ) → length front ≡ 4 → length rest ≡ from_be_bytes w32 front → from_be_bytes w32 front ≤ longest → IsWhole (front ++ rest)
joined front rest len size within =
    let field = field_is front rest len in
    let all = length-append front rest in
    record { whole = omega arith; within = omega arith; size = omega arith }

-- the length was read, and then as many bytes as it counts
pub read_whole : (a b c : Option (List ℕ)) (start front bytes : List ℕ) (size : ℕ) → Consumes a b front → length front ≡ 4 → size ≡ from_be_bytes w32 front
    → size ≤ longest → start ≡ front
    → (rest : List ℕ) × (bytes ≡ start ++ rest) × (length rest ≡ size) × Consumes b c rest → IsWhole bytes × Consumes a c bytes
read_whole a b c start front bytes size p len is_size within same read =
    let P : List ℕ → Type 0 = λ t. IsWhole t × Consumes a c t in
    let is : bytes ≡ front ++ read.0 = read.1 ∙ ap (λ (t : List ℕ). t ++ read.0) same in
    subst P (sym is) (joined front read.0 len (read.2 ∙ is_size) (omega (arith, is_size, within)), consumes_then a b c front read.0 p read.3)

-- a spelling at the front of what follows is all of the bytes
spelled_whole : (bytes more after : List ℕ) (f : Frame) → IsWhole bytes → Spells f (spelling f) → bytes ++ more ≡ spelling f ++ after → Spells f bytes
spelled_whole bytes more after f w s e =
    let front : List ℕ = word (length (body f)) in
    let field : length_field (bytes ++ more) ≡ length_field bytes = ap (from_be_bytes w32) (take-append-le 4 bytes more w.whole) in
    let first : take 4 (bytes ++ more) ≡ front = ap (take 4) (e ∙ append_assoc front (body f) after) ∙ take_at front (body f ++ after) 4 refl in
    let counted : length_field bytes ≡ length (body f) = sym field ∙ ap (from_be_bytes w32) first ∙ length_is f s.within in
    let n : length (spelling f) ≡ length bytes = omega (arith, w.size, length-append front (body f)) in
    record {
      well = s.well;
      within = s.within;
      spelled = sym (take_at bytes more (length bytes) refl) ∙ ap (take (length bytes)) e ∙ take_at (spelling f) after (length bytes) n;
    }

whole_is : (bytes more : List ℕ) → IsWhole bytes → (answer : Answer) → ((answer ≡ Ok None) → ⊥) → ((answer ≡ Err TooLong) → ⊥) → ((answer ≡ Err Truncated) → ⊥)
    → ((f : Frame) → Spells f bytes → answer ≡ Ok (Some f)) → IsReadFrom (bytes ++ more) answer
whole_is bytes more w answer not_none not_long not_short all =
    let field : length_field (bytes ++ more) ≡ length_field bytes = ap (from_be_bytes w32) (take-append-le 4 bytes more w.whole) in
    let size = length-append bytes more in
    record {
      ended = (λ e. absurd (omega (arith, ap length e, w.whole)), λ e. absurd (not_none e));
      too_long = (λ t. absurd (omega (arith, t.over, field, w.within)), λ e. absurd (not_long e));
      truncated = (
        λ t. elim t.1 [ inl lt ↦ absurd (omega (arith, w.whole)) | inr k ↦ absurd (omega (arith, k.fewer, field, w.size)) ],
        λ e. absurd (not_short e),
      );
      frame = λ f after s e. all f (spelled_whole bytes more after f w s e);
    }

-- what reading answers where such bytes were read
whole_known : (a c : Option (List ℕ)) (bytes : List ℕ) → Consumes a c bytes → IsWhole bytes → (answer : Answer) → ((answer ≡ Ok None) → ⊥)
    → ((answer ≡ Err TooLong) → ⊥) → ((answer ≡ Err Truncated) → ⊥)
    → ((f : Frame) → Spells f bytes → answer ≡ Ok (Some f)) → IfSome a (λ xs. IsReadFrom xs answer)
whole_known a c bytes p w answer not_none not_long not_short all =
    known a c bytes (λ t. IsReadFrom t answer) p (λ zs is. whole_is bytes zs w answer not_none not_long not_short all)

-- the frame was read, and no byte more
pub got : (a c : Option (List ℕ)) (bytes : List ℕ) (f : Frame) → Consumes a c bytes → Spells f bytes → Spells f (spelling f) × Consumes a c (spelling f)
got a c bytes f p s = (record { well = s.well; within = s.within; spelled = refl }, subst (Consumes a c) s.spelled p)

pub got_known : (a c : Option (List ℕ)) (bytes : List ℕ) (f : Frame) → Consumes a c bytes → IsWhole bytes → Spells f bytes
    → IfSome a (λ xs. IsReadFrom xs (Ok (Some f)))
got_known a c bytes f p w s =
    whole_known a c bytes p w (Ok (Some f)) (λ e. absurd cc) (λ e. absurd cc) (λ e. absurd cc)
    (λ g t. ap (λ (h : Frame). Ok (Some h)) (one_frame f g bytes s t))

-- what `read_frame` may answer where these bytes are left, if they are known
abbrev pub IsAnswer : Option (List ℕ) → Answer → Type 0
IsAnswer known answer = (answer ≡ Err Read) ⊎ ((answer ≡ Err OutOfMemory) ⊎ IfSome known (λ bytes. IsReadFrom bytes answer))

abbrev failed : WireFault → Answer
failed e = Err e

abbrev failure : WireFault → Result Frame WireFault
failure e = Err e

fault_is : (d e : WireFault) → failure d ≡ failure e → d ≡ e
fault_is d e h = cc

answer_is : (d e : WireFault) → failed d ≡ failed e → d ≡ e
answer_is d e h = cc

memory_or : (e : WireFault) → (e ≡ OutOfMemory) ⊎ ((e ≡ OutOfMemory) → ⊥)
memory_or OutOfMemory = inl refl
memory_or e = inr (λ h. absurd cc)

-- no frame is spelled by these bytes
pub refused_known : (a c : Option (List ℕ)) (bytes : List ℕ) (fault : WireFault) → Consumes a c bytes → IsWhole bytes → ((f : Frame) → Spells f bytes → ⊥)
    → ((fault ≡ TooLong) → IsTooLong bytes) → ((fault ≡ Truncated) → IsTruncated bytes) → IfSome a (λ xs. IsReadFrom xs (Err fault))
refused_known a c bytes fault p w none long short =
    whole_known a c bytes p w (Err fault) (λ e. absurd cc) (λ e. too_long bytes w (long (answer_is fault TooLong e)))
    (λ e. too_short bytes w (short (answer_is fault Truncated e)))
    (λ f s. absurd (none f s))

-- no frame is spelled by these bytes, or memory ran out
pub failed_known : (a c : Option (List ℕ)) (bytes : List ℕ) (fault : WireFault) (read : Result Frame WireFault) → read ≡ Err fault
    → Consumes a c bytes → IsWhole bytes
    → ((f : Frame) → Spells f bytes → (read ≡ Ok f) ⊎ (read ≡ Err OutOfMemory)) → ((read ≡ Err TooLong) → IsTooLong bytes)
    → ((read ≡ Err Truncated) → IsTruncated bytes)
    → IsAnswer a (Err fault)
failed_known a c bytes fault read is p w all long short =
    elim (memory_or fault) [
      | inl e ↦ inr (inl (ap failed e))
      | inr other ↦ inr (inr (refused_known a c bytes fault p w
          (λ f s. elim (all f s) [ inl ok ↦ absurd (cc (sym ok ∙ is)) | inr err ↦ absurd (other (fault_is fault OutOfMemory (sym is ∙ err))) ])
          (λ e. long (is ∙ ap failure e)) (λ e. short (is ∙ ap failure e))))
    ]
