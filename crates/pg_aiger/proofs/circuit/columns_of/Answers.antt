use Rattle.pg_aiger.proofs.Common.{◌≡◌, ℕ, ◌+◌, ◌*◌, ◌^◌, ◌≤◌, length, arith, sym, subst, ap, ◌∙◌, is_minterm, MeanEach, column_bit}
use Rattle.pg_aiger.proofs.Common.{outputs_below, minterms_below, conjunction_of, disjunction_of, each_made, bit_columns}
use Rattle.pg_aiger.proofs.Made.{rows_fit, room_first, room_second, room_third, length_outputs, length_nexts}
use Rattle.pg_aiger.proofs.Exact.{empty_draft, parts_made}
use Rattle.pg_aiger.proofs.circuit.columns_of.Goals as goal

pub minterms-requires-clause-count_in : goal.minterms-requires-clause-count_in
minterms-requires-clause-count_in c =
    let fit = rows_fit c.args.machine.now.states c.args.latches c.inputs-inputs.result c.requires.enough in
    let places : c.places_of-places.result ≡ c.args.machine.now.states * 2 ^ c.inputs-inputs.result =
    c.places_of-places.ensures.count ∙ ap (λ k. c.args.machine.now.states * 2 ^ k) (sym c.inputs-inputs.ensures) in
    omega (arith, fit, places)

pub minterms-requires-clause-room : goal.minterms-requires-clause-room
minterms-requires-clause-room c =
    room_first c.new-draft.result.base (length c.new-draft.result.gates) c.places_of-places.result c.inputs-inputs.result c.args.latches
    c.args.machine.now.outputs (2 ^ 30) c.new-draft.ensures.base (ap length c.new-draft.ensures.gates)
    (rw (c.places_of-places.ensures.count, c.inputs-inputs.ensures) c.requires.room)

pub columns-requires-clause-few : goal.columns-requires-clause-few
columns-requires-clause-few c =
    let n : length c.deref.result.now ≡ c.places_of-places.result = ap length c.deref.ensures.value ∙ c.in_ok-literals.ensures.length in
    let few = c.places_of-places.ensures.few in
    omega (arith, n, few)

pub columns-requires-clause-same : goal.columns-requires-clause-same
columns-requires-clause-same c =
    ap length c.deref.ensures.value ∙ c.in_ok-literals.ensures.length ∙ c.places_of-places.ensures.count
    ∙ sym (ap length c.deref-2.ensures.value ∙ ap length c.in_ok-letters.ensures.nexts ∙ length_nexts c.args.machine.now _)

pub columns-requires-clause-room : goal.columns-requires-clause-room
columns-requires-clause-room c =
    let lits : length c.deref.result.now ≡ c.places_of-places.result = ap length c.deref.ensures.value ∙ c.in_ok-literals.ensures.length in
    let base : c.minterms.new.draft.base ≡ 1 + c.inputs-inputs.result + c.args.latches = c.minterms.ensures.extends.base ∙ c.new-draft.ensures.base in
    let empty : length c.new-draft.result.gates ≡ 0 = ap length c.new-draft.ensures.gates in
    let first = c.minterms.ensures.extends.shorter in
    let gates : length c.minterms.new.draft.gates ≤ c.places_of-places.result * (c.inputs-inputs.result + c.args.latches) = omega (arith, first, empty) in
    subst (λ n. c.minterms.new.draft.base + length c.minterms.new.draft.gates + c.args.latches * n ≤ 2 ^ 30) (sym lits)
    (room_second c.minterms.new.draft.base (length c.minterms.new.draft.gates) c.places_of-places.result c.inputs-inputs.result c.args.latches
    c.args.machine.now.outputs (2 ^ 30) base gates (rw (c.places_of-places.ensures.count, c.inputs-inputs.ensures) c.requires.room))

pub columns-requires-2-clause-same : goal.columns-requires-2-clause-same
columns-requires-2-clause-same c =
    ap length c.deref-3.ensures.value ∙ c.in_ok-literals.ensures.length ∙ c.places_of-places.ensures.count
    ∙ sym (ap length c.deref-4.ensures.value ∙ ap length c.in_ok-letters.ensures.outputs ∙ length_outputs c.args.machine.now _)

pub columns-requires-2-clause-few : goal.columns-requires-2-clause-few
columns-requires-2-clause-few c =
    let n : length c.deref-3.result.now ≡ c.places_of-places.result = ap length c.deref-3.ensures.value ∙ c.in_ok-literals.ensures.length in
    let few = c.places_of-places.ensures.few in
    omega (arith, n, few)

pub columns-requires-2-clause-room : goal.columns-requires-2-clause-room
columns-requires-2-clause-room c =
    let lits : length c.deref.result.now ≡ c.places_of-places.result = ap length c.deref.ensures.value ∙ c.in_ok-literals.ensures.length in
    let lits' : length c.deref-3.result.now ≡ c.places_of-places.result = ap length c.deref-3.ensures.value ∙ c.in_ok-literals.ensures.length in
    let base : c.columns.new.draft.base ≡ 1 + c.inputs-inputs.result + c.args.latches =
    c.columns.ensures.extends.base ∙ c.minterms.ensures.extends.base ∙ c.new-draft.ensures.base in
    let empty : length c.new-draft.result.gates ≡ 0 = ap length c.new-draft.ensures.gates in
    let first = c.minterms.ensures.extends.shorter in
    let gates : length c.minterms.new.draft.gates ≤ c.places_of-places.result * (c.inputs-inputs.result + c.args.latches) = omega (arith, first, empty) in
    let more : length c.columns.new.draft.gates ≤ length c.minterms.new.draft.gates + c.args.latches * c.places_of-places.result =
    subst (λ n. length c.columns.new.draft.gates ≤ length c.minterms.new.draft.gates + c.args.latches * n) lits c.columns.ensures.extends.shorter in
    subst (λ n. c.columns.new.draft.base + length c.columns.new.draft.gates + c.outputs.result * n ≤ 2 ^ 30) (sym lits')
    (room_third c.columns.new.draft.base (length c.minterms.new.draft.gates) (length c.columns.new.draft.gates) c.places_of-places.result
    c.inputs-inputs.result c.args.latches c.outputs.result (2 ^ 30) base gates more
    (rw (c.places_of-places.ensures.count, c.inputs-inputs.ensures, c.outputs.ensures) c.requires.room))

pub returns-clause-columns : goal.returns-clause-columns
returns-clause-columns c =
    let p = c.args.machine.now.states * 2 ^ c.args.machine.now.inputs in record {
      drafts = (c.minterms.new.draft, c.columns.new.draft, c.columns-2.new.draft);
      minterms = c.in_ok-literals.literals.items;
      more_nexts = c.args.latches * length c.deref.result.now;
      more_outputs = c.outputs.result * length c.deref-3.result.now;
      base =
          c.columns-2.ensures.extends.base ∙ c.columns.ensures.extends.base ∙ c.minterms.ensures.extends.base ∙ c.new-draft.ensures.base
          ∙ ap (λ (k : ℕ). 1 + k + c.args.latches) c.inputs-inputs.ensures
          ∙ ap (λ (b : ℕ). 1 + c.args.machine.now.inputs + b) (sym c.in_ok-nexts.ensures.length);
      is_draft = c.into_gates.ensures.draft;
      last = sym c.into_gates.ensures.gates;
      mean_minterms =
          subst (λ (b : ℕ). MeanEach c.minterms.new.draft (is_minterm c.args.machine.now.inputs b) c.in_ok-literals.literals.items)
          (sym c.in_ok-nexts.ensures.length)
          (subst (λ (k : ℕ). MeanEach c.minterms.new.draft (is_minterm k c.args.latches) c.in_ok-literals.literals.items) c.inputs-inputs.ensures
          c.in_ok-literals.ensures.meanings);
      whole = c.in_ok-literals.ensures.length ∙ c.places_of-places.ensures.count;
      extends = c.columns.ensures.extends;
      mean_nexts =
          subst (λ x. MeanEach c.columns.new.draft (column_bit c.in_ok-literals.literals.items x) c.in_ok-nexts.nexts.items)
          (c.deref-2.ensures.value ∙ c.in_ok-letters.ensures.nexts)
          (subst (λ x. MeanEach c.columns.new.draft (column_bit x c.deref-2.result.now) c.in_ok-nexts.nexts.items) c.deref.ensures.value
          c.in_ok-nexts.ensures.meanings);
      extends_more = c.columns-2.ensures.extends;
      mean_outputs =
          subst (λ x. MeanEach c.columns-2.new.draft (column_bit c.in_ok-literals.literals.items x) c.in_ok-outputs.outputs.items)
          (c.deref-4.ensures.value ∙ c.in_ok-letters.ensures.outputs)
          (subst (λ x. MeanEach c.columns-2.new.draft (column_bit x c.deref-4.result.now) c.in_ok-outputs.outputs.items) c.deref-3.ensures.value
          c.in_ok-outputs.ensures.meanings);
      width = c.in_ok-outputs.ensures.length ∙ c.outputs.ensures;
    }

pub returns-clause-made : goal.returns-clause-made
returns-clause-made c =
    let machine = c.args.machine.now in
    let places = machine.states * 2 ^ machine.inputs in
    let minterms = c.in_ok-literals.literals.items in
    parts_made machine c.args.latches c.requires.machine c.new-draft.result c.minterms.new.draft c.columns.new.draft c.columns-2.new.draft
    minterms c.in_ok-nexts.nexts.items c.in_ok-outputs.outputs.items c.into_gates.result.items
    (empty_draft c.new-draft.result (1 + machine.inputs + c.args.latches)
    (c.new-draft.ensures.base ∙ ap (λ (k : ℕ). 1 + k + c.args.latches) c.inputs-inputs.ensures) c.new-draft.ensures.gates)
    (subst (λ (n : ℕ). each_made conjunction_of c.new-draft.result (minterms_below machine.inputs c.args.latches n) ≡ (c.minterms.new.draft, minterms))
    c.places_of-places.ensures.count
    (subst (λ (k : ℕ). each_made conjunction_of c.new-draft.result (minterms_below k c.args.latches c.places_of-places.result)
    ≡ (c.minterms.new.draft, minterms)) c.inputs-inputs.ensures c.in_ok-literals.ensures.made))
    (subst (λ l. each_made disjunction_of c.minterms.new.draft (bit_columns c.args.latches l minterms) ≡ (c.columns.new.draft, c.in_ok-nexts.nexts.items))
    (c.deref-2.ensures.value ∙ c.in_ok-letters.ensures.nexts)
    (subst (λ l. each_made disjunction_of c.minterms.new.draft (bit_columns c.args.latches c.deref-2.result.now l)
    ≡ (c.columns.new.draft, c.in_ok-nexts.nexts.items)) c.deref.ensures.value c.in_ok-nexts.ensures.made))
    (subst (λ (m : ℕ). each_made disjunction_of c.columns.new.draft (bit_columns m (outputs_below machine places) minterms)
    ≡ (c.columns-2.new.draft, c.in_ok-outputs.outputs.items)) c.outputs.ensures
    (subst (λ l. each_made disjunction_of c.columns.new.draft (bit_columns c.outputs.result l minterms)
    ≡ (c.columns-2.new.draft, c.in_ok-outputs.outputs.items))
    (c.deref-4.ensures.value ∙ c.in_ok-letters.ensures.outputs)
    (subst (λ l. each_made disjunction_of c.columns.new.draft (bit_columns c.outputs.result c.deref-4.result.now l)
    ≡ (c.columns-2.new.draft, c.in_ok-outputs.outputs.items)) c.deref-3.ensures.value c.in_ok-outputs.ensures.made)))
    c.into_gates.ensures.gates
