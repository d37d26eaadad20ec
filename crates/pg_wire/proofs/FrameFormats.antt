-- The formats of what stands in frames.
use Rattle.pg_wire.proofs.Common.{◌≡◌, ℕ, ◌+◌, ◌^◌, ◌<◌, ◌≤◌, ◌⊎◌, Bool, true, false, cond, List, ◌∷◌, [], length, ◌++◌, Option, Ok, Err}
use Rattle.pg_wire.proofs.Common.{Some, None, All, IfSome, ◌↔◌, nat_le, nat_lt, ◌&&◌, ◌||◌, refl, subst, arith, inl, inr, cases_lt, le-ltb}
use Rattle.pg_wire.proofs.Common.{ltb-true, lt-ltb, leb-true, le-leb, eqb-true, eq-eqb, ap, At, ValueKind, Dense, Sparse, word, IsFaultCode}
use Rattle.pg_wire.proofs.Common.{IsComponents, Measured, spelled_as, falling, in_any_order, is_code, code_at, byte_at}
use Rattle.pg_wire.specs.Spelling.{tagged}
use Rattle.pg_wire.specs.Mirrors.Formats as formats
use Rattle.pg_wire.proofs.Grammar.{IsForm, IsKind, Begins, bind_ok, test_ok, and_both, then_is, seen_is, said_is, within_is, number_is, odd_is, byte_is}
use Rattle.pg_wire.proofs.Grammar.{version_is, headed_is, so_many_is, listed_is, rising_is}
use Rattle.pg_wire.proofs.Filling.{nonzero_filled, filled_nonzero, places_nonzero, components_filled}

-- ---- what stands in lists

successors_is : IsKind formats.successors (2 ^ 32)
successors_is = rising_is number_is (λ low n. refl) (λ low n h. h) (λ low n h. h) (λ n h. h)

components_is : IsKind formats.components (2 ^ 32)
components_is = record {
  form = λ at le. said_is (number_is 0) (λ n h. (tt, h.1)) (λ n h. (omega arith, h.1));
  steps = in_any_order;
  low = λ x h. omega arith;
}

bounds_is : IsKind formats.bounds 65536
unfolding formats.bound
bounds_is = record {
  form = λ at le. said_is (then_is (odd_is at) (λ _ _. number_is 1))
      (λ p h. (h.0.0, record { odd = h.0.2; priority = omega (arith, h.0.0); some = h.1.0; bound = h.1.1 }))
      (λ p h. ((h.0, omega (arith, h.1.priority), h.1.odd), (h.1.some, h.1.bound)));
  steps = falling (λ (p : ℕ × ℕ). p.0);
  low = λ x h. omega (arith, h.priority);
}

places_is : (width : ℕ) → width < 2 ^ 32 → IsKind (formats.places width) (2 ^ 32)
unfolding formats.place
places_is width small = rising_is (λ low. then_is (within_is low width) (λ _ _. number_is 1)) (λ low p. refl)
    (λ low p h. (h.0.0, record { place = h.0.1; some = h.1.0; number = h.1.1 }))
    (λ low p h. ((h.0, h.1.place, omega (arith, h.1.place)), (h.1.some, h.1.number))) (λ p h. omega (arith, h.place))

-- every list stands at 0
from_zero : {A : Type 0} (key : A → ℕ) (xs : List A) → All (λ (x : A). 0 ≤ key x) xs
from_zero key xs = λ i d lt. omega arith

pub head_is : (low : ℕ) → IsForm (formats.line_head low)
unfolding formats.line_head
head_is low = then_is (number_is low) (λ _ _. then_is (within_is 0 65537) (λ _ _. then_is (byte_is 2) (λ _ _. number_is 1)))

pub lines_is : IsKind formats.lines (2 ^ 32)
unfolding formats.line formats.line_head
lines_is = rising_is
    (λ low. seen_is (then_is (head_is low) (λ h _. so_many_is successors_is h.1.1.1 0 (omega arith)))
    (λ p h. ap (λ (n : ℕ). ((p.0.0, (p.0.1.0, (p.0.1.1.0, n))), p.1)) h.1.0) (λ l h. refl)
    (λ p h. (
      h.0.0.0,
      record {
        vertex = h.0.0.1;
        priority = omega (arith, h.0.1.0.1);
        owner = omega (arith, h.0.1.1.0);
        some = omega (arith, h.0.1.1.1.0, h.1.0);
        countable = omega (arith, h.0.1.1.1.1, h.1.0);
        successors = h.1.1.items;
        rising = h.1.1.order;
      },
    ))
    (λ l h. (
      ((h.0, h.1.vertex), ((omega arith, omega (arith, h.1.priority), omega (arith, h.1.priority)), (omega (arith, h.1.owner), (h.1.some, h.1.countable)))),
      (refl, record { stand = from_zero (λ n. n) l.successors; items = h.1.successors; order = h.1.rising }),
    )))
    (λ low l. refl) (λ low l h. h) (λ low l h. h) (λ l h. h.vertex)

pub all_components_is : (width : ℕ) → IsForm (formats.all_components width)
all_components_is width = said_is (so_many_is components_is width 0 (omega arith)) (λ ns h. record { size = h.0; numbers = h.1.items })
    (λ ns h. (h.size, record { stand = λ i d lt. tt; items = h.numbers; order = λ i j d lt within. tt }))

values_is : (width : ℕ) → IsKind (formats.values width) (2 ^ 32)
unfolding formats.value
values_is width = rising_is (λ low. seen_is (headed_is (all_components_is width) low) (λ p h. refl) (λ v h. refl)
    (λ p h. (h.0.0, record { vertex = h.0.1; list = h.1 })) (λ v h. ((h.0, h.1.vertex), h.1.list)))
    (λ low v. refl) (λ low v h. h) (λ low v h. h) (λ v h. h.vertex)

pub some_places_is : (width : ℕ) → width < 2 ^ 32 → IsForm (formats.some_places width)
some_places_is width small = said_is (listed_is (places_is width small) 0 (width + 1) 0 (omega arith))
    (λ ps h. record { size = omega (arith, h.0.1); places = h.1.items; rising = h.1.order })
    (λ ps h. ((omega arith, omega (arith, h.size), omega (arith, h.size)), record { stand = from_zero (λ p. p.0) ps; items = h.places; order = h.rising }))

sparse_values_is : (width : ℕ) → width < 2 ^ 31 → IsKind (formats.sparse_values width) (2 ^ 32)
unfolding formats.sparse_value
sparse_values_is width small = rising_is
    (λ low. seen_is (headed_is (some_places_is width (omega arith)) low) (λ p h. refl) (λ v h. refl)
    (λ p h. (h.0.0, record { vertex = h.0.1; pairs = h.1 })) (λ v h. ((h.0, h.1.vertex), h.1.pairs)))
    (λ low v. refl) (λ low v h. h) (λ low v h. h) (λ v h. h.vertex)

-- ---- measures, of either kind

pub measure_is : (kind : ValueKind) (width : ℕ) → width < 2 ^ 32 → IsForm (formats.measure kind width)
unfolding formats.measure
measure_is Dense width small = all_components_is width
measure_is Sparse width small = seen_is (some_places_is width small) (λ ps h. nonzero_filled width ps h) (λ ns h. filled_nonzero width ns h.size)
    (λ ps h. components_filled width ps h) (λ ns h. places_nonzero width ns h)

pub spelt : (kind : ValueKind) (width : ℕ) (m : Measured) → word m.0 ++ tagged (formats.measure kind width).spelled m.1 ≡ spelled_as kind m
unfolding formats.measure
spelt Dense width m = refl
spelt Sparse width (v, None) = refl
spelt Sparse width (v, Some ns) = refl

pub fits : (kind : ValueKind) (width : ℕ) (o : Option (List ℕ)) → IfSome o (formats.measure kind width).Fits ↔ IfSome o (IsComponents width)
unfolding formats.measure
fits Dense width o = (λ h. h, λ h. h)
fits Sparse width o = (λ h. h, λ h. h)

-- ---- codes of reports

abbrev IsCode : ℕ → ℕ → Type 0
IsCode status code = (formats.code status).Fits code

or_either : (a b : Bool) → (a || b) ≡ true → (a ≡ true) ⊎ (b ≡ true)
or_either true b e = inl refl
or_either false b e = inr e

fault_code : (code : ℕ) → ((nat_le 1 code && nat_lt code 5) || (nat_le 11 code && nat_lt code 19)) ≡ true → IsFaultCode code
fault_code code e =
    elim (or_either (nat_le 1 code && nat_lt code 5) (nat_le 11 code && nat_lt code 19) e) [
      | inl k ↦ let b = and_both (nat_le 1 code) (nat_lt code 5) k in inl (leb-true _ _ b.0, omega (arith, ltb-true _ _ b.1))
      | inr k ↦ let b = and_both (nat_le 11 code) (nat_lt code 19) k in inr (leb-true _ _ b.0, omega (arith, ltb-true _ _ b.1))
    ]

code_fits : (status code : ℕ) → status < 3 → is_code status code ≡ true → IsCode status code
code_fits status code lt e =
    elim (cases_lt status 2) [
      | inl small ↦ let t : nat_lt status 2 ≡ true = lt-ltb _ _ small in inl (omega arith, eqb-true _ _ (rw t at e))
      | inr large ↦ let t : nat_lt status 2 ≡ false = le-ltb _ _ large in inr (omega arith, fault_code code (rw t at e))
    ]

code_fault : (code : ℕ) → IsFaultCode code → (code < 19) × (((nat_le 1 code && nat_lt code 5) || (nat_le 11 code && nat_lt code 19)) ≡ true)
code_fault code (inl k) =
    let a : nat_le 1 code ≡ true = le-leb _ _ k.0 in
    let b : nat_lt code 5 ≡ true = lt-ltb _ _ (omega (arith, k.1)) in
    (omega (arith, k.1), rw (a, b) refl)
code_fault code (inr k) =
    let a : nat_le 1 code ≡ true = le-leb _ _ (omega (arith, k.0)) in
    let b : nat_lt code 5 ≡ false = le-ltb _ _ (omega (arith, k.0)) in
    let c : nat_le 11 code ≡ true = le-leb _ _ k.0 in
    let d : nat_lt code 19 ≡ true = lt-ltb _ _ (omega (arith, k.1)) in
    (omega (arith, k.1), rw (a, b, c, d) refl)

fits_code : (status code : ℕ) → IsCode status code → (status < 3) × (code < 19) × (is_code status code ≡ true)
fits_code status code (inl k) =
    let t : nat_lt status 2 ≡ true = lt-ltb _ _ (omega (arith, k.0)) in
    (omega (arith, k.0), omega (arith, k.1), rw (t, eq-eqb _ _ k.1) refl)
fits_code status code (inr k) =
    let t : nat_lt status 2 ≡ false = le-ltb _ _ (omega (arith, k.0)) in
    let f = code_fault code k.1 in
    (omega (arith, k.0), f.0, rw (t, f.1) refl)

code_is : (status : ℕ) → status < 3 → IsForm (formats.code status)
unfolding code_at
code_is status lt = record {
  reads_only = λ bytes x h e.
      let p = bind_ok (byte_at 19 bytes) (λ c. cond (is_code status c.0) (Ok c) (Err (At (length bytes)))) x e in
      let t = (byte_is 19).reads_only bytes p.0 h p.1 in
      let g = test_ok (is_code status p.0.0) (At (length bytes)) p.0 x p.2 in
      subst (λ (y : ℕ × List ℕ). Begins bytes (y.0 ∷ []) y.1 × IsCode status y.0) g.1 (t.0, code_fits status p.0.0 lt g.0);
  reads_back = λ c rest h.
      let k = fits_code status c h in
      rw ((byte_is 19).reads_back c rest k.1, k.2) refl;
}

-- ---- the fields of each kind of frame

pub setup_is : IsForm formats.setup_fields
unfolding formats.setup_fields
setup_is = seen_is (then_is version_is (λ _ _. then_is (within_is 1 1048577) (λ _ _. listed_is bounds_is 0 (2 ^ 32) 65536 (omega arith))))
    (λ p h. refl) (λ s h. refl)
    (λ p h. record {
      version = (h.0.0, omega (arith, h.0.1));
      vertices = (h.1.0.0, omega (arith, h.1.0.1));
      bounds = record { countable = h.1.1.0.2; bounds = h.1.1.1.items; falling = h.1.1.1.order };
    })
    (λ s h. (
      (h.version.0, omega (arith, h.version.1)),
      (
        (h.vertices.0, omega (arith, h.vertices.1), omega (arith, h.vertices.1)),
        (
          (omega arith, h.bounds.countable, h.bounds.countable),
          record {
            stand = λ i d lt. omega (arith, (h.bounds.bounds i d lt).priority);
            items = h.bounds.bounds;
            order = h.bounds.falling;
          },
        ),
      ),
    ))

pub vertices_is : IsForm formats.vertices_fields
unfolding formats.vertices_fields
vertices_is = seen_is (listed_is lines_is 0 (2 ^ 32) 0 (omega arith)) (λ p h. refl) (λ v h. refl)
    (λ ls h. record { countable = h.0.2; lines = h.1.items; rising = h.1.order })
    (λ v h. ((omega arith, h.countable, h.countable), record { stand = from_zero (λ l. l.vertex) v.lines; items = h.lines; order = h.rising }))

pub values_fields_is : IsForm formats.values_fields
unfolding formats.values_fields
values_fields_is = seen_is (then_is (within_is 0 32769) (λ width _. listed_is (values_is width) 0 (2 ^ 32) 0 (omega arith))) (λ p h. refl) (λ v h. refl)
    (λ p h. record { width = omega (arith, h.0.1); countable = h.1.0.2; values = h.1.1.items; rising = h.1.1.order })
    (λ v h. (
      (omega arith, omega (arith, h.width), omega (arith, h.width)),
      ((omega arith, h.countable, h.countable), record { stand = from_zero (λ x. x.vertex) v.values; items = h.values; order = h.rising }),
    ))

pub sparse_fields_is : IsForm formats.sparse_fields
unfolding formats.sparse_fields
sparse_fields_is = seen_is (then_is (within_is 0 32769) (λ width h. listed_is (sparse_values_is width (omega (arith, h.1))) 0 (2 ^ 32) 0 (omega arith)))
    (λ p h. refl) (λ s h. refl)
    (λ p h. record { width = omega (arith, h.0.1); countable = h.1.0.2; values = h.1.1.items; rising = h.1.1.order })
    (λ s h. (
      (omega arith, omega (arith, h.width), omega (arith, h.width)),
      ((omega arith, h.countable, h.countable), record { stand = from_zero (λ x. x.vertex) s.values; items = h.values; order = h.rising }),
    ))

pub go_is : IsForm formats.go_fields
unfolding formats.go_fields
go_is = seen_is (number_is 0) (λ n h. refl) (λ g h. refl) (λ n h. h.1) (λ g h. (omega arith, h))

pub report_is : IsForm formats.report_fields
unfolding formats.report_fields
report_is = seen_is (then_is (byte_is 3) code_is) (λ p h. refl) (λ r h. refl) (λ p h. h.1) (λ r h. ((fits_code r.status r.code h).0, h))
