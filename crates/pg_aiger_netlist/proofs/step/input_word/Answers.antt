use Rattle.std.proofs.Common.{rules, ◌≡◌, ◌≢◌, ℕ, ◌+◌, ◌*◌, ◌/◌, ◌%◌, ◌^◌, ◌<◌, ◌≤◌, true, false, eqb, inl, inr, List, [], ◌∷◌, ◌++◌, length, get_or, take, arith, refl, sym, subst, ap, ◌∙◌}
use Rattle.std.proofs.lemmas.Bool.{cases_lt, eq-eqb, ne_eqb}
use Rattle.pg_aiger.specs.Runs.{bit}
use Rattle.std.specs.Int.RustNames.{bit_or}
use Rattle.pg_aiger_netlist.proofs.Filling.{lane_set, lane_kept}
use Rattle.pg_aiger_netlist.proofs.step.input_word.Goals.{then-first-lane-eq1, else-first-lane-eq1}
use Rattle.pg_aiger_netlist.proofs.step.input_word.Goals as goal

-- the lanes up to this one
record Filled (first input lane word : ℕ) : Type 0 where
  done : (i : ℕ) → i < lane → bit word i ≡ bit (first + i) input
  clear : (i : ℕ) → lane ≤ i → i < 64 → bit word i ≡ false

one_more : (first input lane word : ℕ) → lane < 64 → Filled first input lane word → ((first + lane) / 2 ^ input) % 2 ≡ 1
    → Filled first input (lane + 1) (bit_or word (1 * 2 ^ lane % 2 ^ 64))
one_more first input lane word l f one = record {
  done = λ i h. elim (cases_lt i lane) [
    | inl old ↦ lane_kept word lane i l (λ e. omega (arith, e, old)) ∙ f.done i old
    | inr new ↦
        let e : lane ≡ i = omega arith in
        subst (λ j. bit (bit_or word (1 * 2 ^ lane % 2 ^ 64)) j ≡ bit (first + j) input) e
        (lane_set word lane l ∙ sym (eq-eqb (((first + lane) / 2 ^ input) % 2) 1 one))
  ];
  clear = λ i h k. lane_kept word lane i l (λ e. omega (arith, e, h)) ∙ f.clear i (omega arith) k;
}

none_more : (first input lane word : ℕ) → lane < 64 → Filled first input lane word → (((first + lane) / 2 ^ input) % 2 ≡ 1 → ⊥)
    → Filled first input (lane + 1) word
none_more first input lane word l f none = record {
  done = λ i h. elim (cases_lt i lane) [
    | inl old ↦ f.done i old
    | inr new ↦
        let e : lane ≡ i = omega arith in
        subst (λ j. bit word j ≡ bit (first + j) input) e
        (f.clear lane (omega arith) l ∙ sym (ne_eqb (((first + lane) / 2 ^ input) % 2) 1 none))
  ];
  clear = λ i h k. f.clear i (omega arith) k;
}

pub loop-lane-preserved : goal.loop-lane-preserved
loop-lane-preserved c =
    let f : Filled c.args.first c.args.input c.loop-lane.lane c.loop-lane.word =
    record { done = c.loop-lane.invariant.done; clear = c.loop-lane.invariant.clear } in
    elim c.if-first-lane-eq1.branch [
      | then-first-lane-eq1 w ↦
          let g = one_more c.args.first c.args.input c.loop-lane.lane c.loop-lane.word c.loop-lane-test.true f w.if-first-lane-eq1.true in
          record {
            done = λ i h. ap (λ n. bit n i) w.word-is ∙ g.done i h;
            clear = λ i h k. ap (λ n. bit n i) w.word-is ∙ g.clear i h k;
          }
      | else-first-lane-eq1 w ↦
          let g = none_more c.args.first c.args.input c.loop-lane.lane c.loop-lane.word c.loop-lane-test.true f w.if-first-lane-eq1.false in
          record {
            done = λ i h. ap (λ n. bit n i) w.word-is ∙ g.done i h;
            clear = λ i h k. ap (λ n. bit n i) w.word-is ∙ g.clear i h k;
          }
    ]
