use Rattle.std.proofs.Common.{◌≡◌, ◌≤◌, ◌^◌, ◌*◌, ◌/◌, ◌∙◌, min, length, arith, sym, subst, ap}
use Rattle.std.specs.Prelude.{replicate, false, map}
use Rattle.std.proofs.lemmas.List.{length-map}
use Rattle.pg_hoa_automaton.specs.declared.table.Table.{Table}
use Rattle.pg_hoa_automaton.specs.Automata.{Automaton}
use Rattle.pg_synth.specs.Letters.{inputs}
use Rattle.pg_synth.specs.AutomatonGames.{input_letters}
use Rattle.pg_verify.specs.Mirrors.Products.{IsProductOf, same_names, pair_of}
use Rattle.pg_verify.proofs.Reaching.{few_steps, not_too_many}
use Rattle.pg_verify.proofs.Whole.{IsTableOf, whole_automaton, whole_product}
use Rattle.pg_verify.proofs.product.product_of.Goals as goal

pub from_parts-requires : goal.from_parts-requires
from_parts-requires c =
    let a = c.args.automaton.now in
    let marks : c.deref.result.now ≡ a.controllable = c.deref.ensures.value ∙ c.in_ok-controllable.ensures in
    let marks' : c.deref-2.result.now ≡ a.controllable = c.deref-2.ensures.value ∙ c.in_ok-controllable.ensures in
    let few = c.in_ok-draft.ensures.few in
    let count_rows = length-map c.in_ok-draft.draft.rows.keys pair_of in
    let letters = c.count_input_letters-letters.ensures ∙ ap (λ bs. 2 ^ inputs bs) marks' in
    let count = c.count_inputs-inputs.ensures.value ∙ ap inputs marks in
    let t : Table = record {
      states = length c.listed.result.now;
      letters = c.count_input_letters-letters.result;
      slots = c.in_ok-draft.draft.slots;
      steps = c.in_ok-draft.draft.steps;
      lists = c.in_ok-draft.draft.lists;
    } in
    let table : IsTableOf a c.args.netlist.now (map pair_of c.in_ok-draft.draft.rows.keys) t = record {
      states = omega (arith, count_rows, ap length c.listed.ensures.same);
      letters_are = letters;
      draft = c.in_ok-draft.ensures.draft;
      whole = c.in_ok-draft.ensures.whole ∙ ap (λ n. n * c.count_input_letters-letters.result) (sym count_rows)
          ∙ ap (λ n. length (map pair_of c.in_ok-draft.draft.rows.keys) * n) letters;
      few = omega (arith, few, count_rows);
      few_steps = few_steps (length (map pair_of c.in_ok-draft.draft.rows.keys)) (input_letters a)
          (subst (λ n. length (map pair_of c.in_ok-draft.draft.rows.keys) ≤ min 65535 (16777216 / n)) letters
          (subst (λ m. m ≤ min 65535 (16777216 / c.count_input_letters-letters.result)) (sym count_rows) few));
    } in
    whole_automaton a c.args.netlist.now (map pair_of c.in_ok-draft.draft.rows.keys) t c.in_ok-names.names.items c.in_ok-none.none.items c.sets.result c.shape.result
    c.states-states.ensures.automaton table (c.in_ok-names.ensures ∙ ap same_names count) (c.in_ok-none.ensures ∙ ap (λ n. replicate n false) count)
    c.sets.ensures c.shape.ensures.value

pub returns-clause-product : goal.returns-clause-product
returns-clause-product c =
    let a = c.args.automaton.now in
    let marks : c.deref.result.now ≡ a.controllable = c.deref.ensures.value ∙ c.in_ok-controllable.ensures in
    let marks' : c.deref-2.result.now ≡ a.controllable = c.deref-2.ensures.value ∙ c.in_ok-controllable.ensures in
    let few = c.in_ok-draft.ensures.few in
    let count_rows = length-map c.in_ok-draft.draft.rows.keys pair_of in
    let letters = c.count_input_letters-letters.ensures ∙ ap (λ bs. 2 ^ inputs bs) marks' in
    let count = c.count_inputs-inputs.ensures.value ∙ ap inputs marks in
    let t : Table = record {
      states = length c.listed.result.now;
      letters = c.count_input_letters-letters.result;
      slots = c.in_ok-draft.draft.slots;
      steps = c.in_ok-draft.draft.steps;
      lists = c.in_ok-draft.draft.lists;
    } in
    let table : IsTableOf a c.args.netlist.now (map pair_of c.in_ok-draft.draft.rows.keys) t = record {
      states = omega (arith, count_rows, ap length c.listed.ensures.same);
      letters_are = letters;
      draft = c.in_ok-draft.ensures.draft;
      whole = c.in_ok-draft.ensures.whole ∙ ap (λ n. n * c.count_input_letters-letters.result) (sym count_rows)
          ∙ ap (λ n. length (map pair_of c.in_ok-draft.draft.rows.keys) * n) letters;
      few = omega (arith, few, count_rows);
      few_steps = few_steps (length (map pair_of c.in_ok-draft.draft.rows.keys)) (input_letters a)
          (subst (λ n. length (map pair_of c.in_ok-draft.draft.rows.keys) ≤ min 65535 (16777216 / n)) letters
          (subst (λ m. m ≤ min 65535 (16777216 / c.count_input_letters-letters.result)) (sym count_rows) few));
    } in
    subst (λ (p : Automaton). IsProductOf a c.args.netlist.now p) (sym c.from_parts.ensures)
    (whole_product a c.args.netlist.now (map pair_of c.in_ok-draft.draft.rows.keys) t c.in_ok-names.names.items c.in_ok-none.none.items c.sets.result c.shape.result
    c.states-states.ensures.automaton table (c.in_ok-names.ensures ∙ ap same_names count) (c.in_ok-none.ensures ∙ ap (λ n. replicate n false) count)
    c.sets.ensures c.shape.ensures.value)

pub returns-clause-within : goal.returns-clause-within
returns-clause-within c =
    let a = c.args.automaton.now in
    let marks' : c.deref-2.result.now ≡ a.controllable = c.deref-2.ensures.value ∙ c.in_ok-controllable.ensures in
    let few = c.in_ok-draft.ensures.few in
    let count_rows = length-map c.in_ok-draft.draft.rows.keys pair_of in
    let letters = c.count_input_letters-letters.ensures ∙ ap (λ bs. 2 ^ inputs bs) marks' in
    let pairs = map pair_of c.in_ok-draft.draft.rows.keys in
    not_too_many a c.args.netlist.now pairs c.in_ok-draft.draft.slots.items c.in_ok-draft.draft.steps.items
    (map (λ v. v.items) c.in_ok-draft.draft.lists.items) c.in_ok-draft.ensures.draft
    (c.in_ok-draft.ensures.whole ∙ ap (λ n. n * c.count_input_letters-letters.result) (sym count_rows) ∙ ap (λ n. length pairs * n) letters)
    (subst (λ n. length pairs ≤ min 65535 (16777216 / n)) letters (subst (λ m. m ≤ min 65535 (16777216 / c.count_input_letters-letters.result)) (sym count_rows) few))
