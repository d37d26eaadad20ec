use Rattle.pg_aiger.proofs.Common.{rules, ◌≡◌, ◌+◌, length, map, subst, flat_map, Appends, header, row_text, circuit_text, literal_row}
use Rattle.pg_aiger.proofs.Common.{latch_row, gate_row, latches_from, viewed}
use Rattle.pg_aiger.proofs.Printing.{whole_text, counts_are}
use Rattle.pg_aiger.proofs.layout.write_circuit.Goals as goal

pub returns-clause-bytes : goal.returns-clause-bytes
returns-clause-bytes g c =
    let contents = g.W.Write.contents in
    let inputs = c.circuit.inside.inputs in
    let ns = c.circuit.inside.nexts.items in
    let os = c.circuit.inside.outputs.items in
    let gates = c.circuit.inside.gates.items in
    let latch_count : c.len-latches.result ≡ length c.circuit.inside.nexts.items = search rules in
    let output_count : c.len-outputs.result ≡ length c.circuit.inside.outputs.items = search rules in
    let gate_count : c.len-gates.result ≡ length c.circuit.inside.gates.items = search rules in
    subst (λ circuit. Appends (contents c.args.out.now) (contents c.write_symbols-2.new.out) (circuit_text circuit c.args.automaton.now)) c.circuit.view_is
    (whole_text (contents c.args.out.now) (contents c.write_header.new.out) (contents c.write_inputs.new.out) (contents c.write_latches.new.out)
    (contents c.write_outputs.new.out) (contents c.write_gates.new.out) (contents c.write_symbols.new.out) (contents c.write_symbols-2.new.out)
    (viewed inputs ns os gates) c.args.automaton.now c.states-states.ensures.automaton
    (subst (λ counts. Appends (contents c.args.out.now) (contents c.write_header.new.out) (row_text (header counts)))
    (counts_are inputs ns os gates c.len-latches.result c.len-outputs.result c.len-gates.result latch_count output_count gate_count)
    c.in_ok-write_header.ensures)
    c.in_ok-write_inputs.ensures
    (subst (λ ls. Appends (contents c.write_inputs.new.out) (contents c.write_latches.new.out)
    (flat_map row_text (map latch_row (latches_from (1 + inputs) ls))))
    c.deref.ensures.value c.in_ok-write_latches.ensures)
    (subst (λ ls. Appends (contents c.write_latches.new.out) (contents c.write_outputs.new.out) (flat_map row_text (map literal_row ls)))
    c.deref-2.ensures.value c.in_ok-write_outputs.ensures)
    (subst (λ gs. Appends (contents c.write_outputs.new.out) (contents c.write_gates.new.out) (flat_map row_text (map gate_row gs)))
    c.deref-3.ensures.value c.in_ok-write_gates.ensures)
    c.in_ok-write_symbols.ensures c.in_ok-write_symbols-2.ensures)
