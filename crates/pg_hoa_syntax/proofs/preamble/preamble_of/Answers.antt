use Rattle.pg_hoa_syntax.proofs.Common.{◌≡◌, ◌∙◌, ◌<◌, ℕ, length, map, List, [], Some, refl, sym, ap, subst, unwrap_or, vec_len, All, Vec}
use Rattle.pg_hoa_syntax.proofs.Common.{Global, length-map, Op, Head, head_in, option_with, HasCondition, listed}
use Rattle.pg_hoa_syntax.proofs.PreambleLaws.{opened, numbers, below_numbers, numbers_below, no_shape}
use Rattle.pg_hoa_syntax.proofs.preamble.preamble_of.Goals as goal

-- the names and the numbers that the head has, or none
names_are : (head : Head) (vs new : Vec (Vec ℕ Global) Global) → vs ≡ unwrap_or head.names new → new.items ≡ []
    → map (λ name. name.items) vs.items ≡ listed (head_in head).names
names_are head vs new e empty = opened (λ v. map (λ name. name.items) v.items) head.names vs new e (ap (map (λ name. name.items)) empty)

controls_are : (head : Head) (xs new : Vec (ℕ × ℕ) Global) → xs ≡ unwrap_or head.controls new → new.items ≡ []
    → numbers xs.items ≡ listed (head_in head).controls
controls_are head xs new e empty = opened (λ v. numbers v.items) head.controls xs new e (ap numbers empty)

counted : (vs : Vec (Vec ℕ Global) Global) (names : List (List ℕ)) (count : ℕ) → count ≡ vec_len vs → map (λ name. name.items) vs.items ≡ names
    → length names ≡ count
counted vs names count e same = sym (ap length same) ∙ length-map vs.items (λ name. name.items) ∙ sym vs.ok.0 ∙ sym e

pub returns-in-Some-first_above-clause-refused : goal.returns-in-Some-first_above-clause-refused
returns-in-Some-first_above-clause-refused c = λ s i.
    let h = head_in c.args.head in
    let xs = c.unwrap_or-controls.result.items in
    let vs = c.unwrap_or-names.result in
    let names = names_are c.args.head vs c.new.result c.unwrap_or-names.ensures c.new.ensures.items in
    let controls = controls_are c.args.head c.unwrap_or-controls.result c.new-2.result c.unwrap_or-controls.ensures c.new-2.ensures.items in
    let few = counted vs (listed h.names) c.len-count.result c.len-count.ensures names in
    let below : All (λ (n : ℕ). n < c.len-count.result) (numbers xs) = rw (controls, ← few) i.controls_below in
    c.in-Some-first_above.ensures (rw c.deref.ensures.value (numbers_below xs c.len-count.result below))

pub returns-in_default-shape_of-clause-refused : goal.returns-in_default-shape_of-clause-refused
returns-in_default-shape_of-clause-refused c =
    no_shape (head_in c.args.head) c.in-Some.sets c.in-Some.condition.items (ap (option_with (λ x. (x.0, x.1.items))) c.in-Some.is)
    (λ f e. c.in_default-shape_of.ensures.none f (e ∙ sym c.deref-3.ensures.value))

pub returns-clause-found : goal.returns-clause-found
returns-clause-found c =
    let h = head_in c.args.head in
    let xs = c.unwrap_or-controls.result.items in
    let vs = c.unwrap_or-names.result in
    let names = names_are c.args.head vs c.new.result c.unwrap_or-names.ensures c.new.ensures.items in
    let controls = controls_are c.args.head c.unwrap_or-controls.result c.new-2.result c.unwrap_or-controls.ensures c.new-2.ensures.items in
    let few = counted vs (listed h.names) c.len-count.result c.len-count.ensures names in
    let all : All (λ (x : ℕ × ℕ). x.0 < c.len-count.result) xs = rw (← c.deref.ensures.value) c.in_default-first_above.ensures in
    let accepted : h.acceptance ≡ Some (c.in-Some.sets, c.in-Some.condition.items) =
    ap (option_with (λ x. (x.0, x.1.items))) c.in-Some.is in
    let condition : HasCondition (Some (c.in-Some.sets, c.in-Some.condition.items)) = subst HasCondition accepted c.requires in
    record {
      states = refl;
      start = ap (option_with (λ x. x.0)) c.in-Some-start.is;
      start_below = c.if-not-starts_below.ensures;
      names = names;
      controls_below = rw (few, ← controls) (below_numbers xs c.len-count.result all);
      controllable = c.in_ok-controllable.ensures ∙ rw (c.deref-2.ensures.value, controls, few) refl;
      condition = condition.0;
      acceptance = accepted ∙ ap (λ (ops : List Op). Some (c.in-Some.sets, ops)) condition.1;
      shape = c.in-Some-shape_of.ensures.found condition.0 (sym condition.1 ∙ sym c.deref-3.ensures.value);
    }
