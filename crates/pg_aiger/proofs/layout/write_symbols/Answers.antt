use Rattle.pg_aiger.proofs.Common.{◌≡◌, ◌+◌, ◌<◌, ◌∷◌, [], ◌++◌, length, zero-add, arith, ap, subst, ◌∙◌, length-append, Appends, symbol}
use Rattle.pg_aiger.proofs.Common.{row_text, symbols_from, kind_of, named, names_until}
use Rattle.pg_aiger.proofs.Printing.{row_push, symbols_push, names_taken, names_left, few_names}
use Rattle.pg_aiger.proofs.layout.write_symbols.Goals.{then-controllable-controlled+in_ok-write_symbol, else-controllable-controlled}
use Rattle.pg_aiger.proofs.layout.write_symbols.Goals as goal

pub overflow_add-position : goal.overflow_add-position
overflow_add-position g c =
    let few = few_names c.args.automaton.now c.loop-a.a c.args.controlled c.requires in
    let counted : c.loop-a.position ≡ length (names_until c.args.controlled c.args.automaton.now c.loop-a.a) = c.loop-a.invariant.0 in
    omega (arith, few, counted)

pub loop-a-preserved : goal.loop-a-preserved
loop-a-preserved g c =
    let a = c.args.automaton.now in
    let kind = kind_of c.args.controlled in
    let names = names_until c.args.controlled a c.loop-a.a in
    let later = names_until c.args.controlled a (c.loop-a.a + 1) in
    let counted : c.loop-a.position ≡ length (names_until c.args.controlled c.args.automaton.now c.loop-a.a) = c.loop-a.invariant.0 in
    let within : c.loop-a.a < length c.args.automaton.now.propositions =
    (let same = c.propositions-a-end.ensures in let lt = c.loop-a-test.true in omega (arith, same, lt)) in
    elim c.if-controllable-controlled.branch [
      | then-controllable-controlled+in_ok-write_symbol w ↦ rw (w.out-is, w.position-is) (
          let name = w.proposition.result.now in
          let more = names_taken a c.loop-a.a c.args.controlled c.controllable.result name c.requires within c.controllable.ensures
          w.proposition.ensures w.if-controllable-controlled.true in (
            omega (arith, counted, ap length more, length-append names (name ∷ [])),
            row_push (g.W.Write.contents c.args.out.now) (g.W.Write.contents c.loop-a.out) (g.W.Write.contents w.write_symbol.new.out) (λ s. symbol s)
                (symbols_from kind 0 names) (symbols_from kind 0 later) (named kind (length names) name)
                (ap (symbols_from kind 0) more ∙ symbols_push kind 0 names name
                ∙ ap (λ n. symbols_from kind 0 names ++ named kind n name ∷ []) (zero-add (length names)))
                c.loop-a.invariant.1
                (subst (λ n. Appends (g.W.Write.contents c.loop-a.out) (g.W.Write.contents w.write_symbol.new.out) (row_text (symbol (named kind n name))))
                counted w.in_ok-write_symbol.ensures),
          ))
      | else-controllable-controlled w ↦ rw (w.out-is, w.position-is) (
          let same = names_left a c.loop-a.a c.args.controlled c.controllable.result c.requires within c.controllable.ensures
          w.if-controllable-controlled.false in
          rw same c.loop-a.invariant)
    ]
