use Rattle.std.proofs.Common.{rules, ◌≡◌, ◌≢◌, ℕ, ◌+◌, ◌<◌, ◌/◌, ◌%◌, ◌≤◌, Bool, true, false, List, length, take, arith, refl, sym, subst, ap, ◌∙◌, get_or}
use Rattle.std.specs.Prelude.{map, All}
use Rattle.std.specs.List.{AllPairs, Contains}
use Rattle.std.proofs.lemmas.List.{take_all, length-set, get_or_default}
use Rattle.std.proofs.lemmas.List.Elements.{All-more}
use Rattle.pg_aiger_netlist.specs.Netlists.{variable, IsPlain, known_by}
use Rattle.pg_aiger_netlist.specs.Mirrors.Marks.{marked, AreMarked}
use Rattle.pg_aiger_netlist.proofs.Marking.{next_marks, next_distinct, twice}
use Rattle.pg_aiger_netlist.proofs.marks.marked.Goals as goal

positive : (l : ℕ) → l % 2 ≡ 0 → 0 < l → 0 < l / 2
positive l e s = omega arith

pub returns-then-index-clause-fault : goal.returns-then-index-clause-fault
returns-then-index-clause-fault c =
    let plain : IsPlain c.args.greatest (get_or c.args.literals.now c.loop-literal.literal-index 0) = search rules in
    let lt : variable (get_or c.args.literals.now c.loop-literal.literal-index 0) < length c.loop-literal.row.items =
    (let w = plain.within in let n = c.loop-literal.invariant.long in omega (arith, w, n)) in
    let yes : marked c.loop-literal.row.items (variable (get_or c.args.literals.now c.loop-literal.literal-index 0)) ≡ true =
    get_or_default c.loop-literal.row.items (variable (get_or c.args.literals.now c.loop-literal.literal-index 0)) false c.index.result.now lt
    ∙ sym c.index.ensures ∙ c.if-index.true in
    twice c.args.literals.now c.loop-literal.literal-index 0 c.loop-literal-test.true
    (positive (get_or c.args.literals.now c.loop-literal.literal-index 0) plain.even plain.some)
    ((c.loop-literal.invariant.marks (variable (get_or c.args.literals.now c.loop-literal.literal-index 0))).0 yes)

pub loop-literal-preserved : goal.loop-literal-preserved
loop-literal-preserved c =
    let plain : IsPlain c.args.greatest (get_or c.args.literals.now c.loop-literal.literal-index 0) = search rules in
    let lt : variable (get_or c.args.literals.now c.loop-literal.literal-index 0) < length c.loop-literal.row.items =
    (let w = plain.within in let n = c.loop-literal.invariant.long in omega (arith, w, n)) in
    let no : marked c.loop-literal.row.items (variable (get_or c.args.literals.now c.loop-literal.literal-index 0)) ≡ false =
    get_or_default c.loop-literal.row.items (variable (get_or c.args.literals.now c.loop-literal.literal-index 0)) false c.index.result.now lt
    ∙ sym c.index.ensures ∙ c.if-index.false in
    record {
      long = length-set c.loop-literal.row.items (variable (get_or c.args.literals.now c.loop-literal.literal-index 0)) true ∙ c.loop-literal.invariant.long;
      marks = next_marks c.loop-literal.row.items c.args.literals.now c.loop-literal.literal-index 0 c.loop-literal-test.true lt
          c.loop-literal.invariant.marks;
      plain = All-more (IsPlain c.args.greatest) c.args.literals.now c.loop-literal.literal-index 0 c.loop-literal-test.true
          c.loop-literal.invariant.plain plain;
      distinct = next_distinct c.args.literals.now c.loop-literal.literal-index 0 c.loop-literal-test.true
          (λ there. absurd (let f : true ≡ false =
          sym ((c.loop-literal.invariant.marks (variable (get_or c.args.literals.now c.loop-literal.literal-index 0))).1 there) ∙ no in cc f))
          c.loop-literal.invariant.distinct;
    }

all_taken : (xs : List ℕ) (i : ℕ) → length xs ≤ i → take i xs ≡ xs
all_taken xs i l = take_all i xs l

pub returns-clause-marks : goal.returns-clause-marks
returns-clause-marks c =
    subst (λ ls. AreMarked c.loop-literal.row.items (known_by ls)) (all_taken c.args.literals.now c.loop-literal.literal-index c.loop-literal-test.false)
    c.loop-literal.invariant.marks

pub returns-clause-plain : goal.returns-clause-plain
returns-clause-plain c =
    subst (All (IsPlain c.args.greatest)) (all_taken c.args.literals.now c.loop-literal.literal-index c.loop-literal-test.false)
    c.loop-literal.invariant.plain

pub returns-clause-distinct : goal.returns-clause-distinct
returns-clause-distinct c =
    subst (λ ls. AllPairs (λ x y. x ≢ y) (map variable ls)) (all_taken c.args.literals.now c.loop-literal.literal-index c.loop-literal-test.false)
    c.loop-literal.invariant.distinct
