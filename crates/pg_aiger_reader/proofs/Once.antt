-- A text is read in one way, and a circuit is tied in one way.
use Rattle.pg_aiger_reader.proofs.Common.{◌≡◌, ◌∙◌, ℕ, ◌<◌, Bool, true, false, List, length, get_or, ap, ap₂, sym, arith, some, some_is, same_number_lists}
use Rattle.pg_aiger.specs.CircuitLayout.{input_names, output_names}
use Rattle.pg_aiger.specs.CircuitText.{Kind, input, output, Symbol}
use Rattle.pg_aiger_reader.specs.Laws.{OneReading, OneTie}
use Rattle.pg_aiger_reader.specs.Ties.{AreNamed, AreTied, literals_at}
use Rattle.pg_aiger_reader.proofs.ReadingLaws.{Read, text_only}

pub one_reading : OneReading
one_reading bytes first second names others p q =
    let same : some (first, names) ≡ some (second, others) = sym (text_only bytes first names p) ∙ text_only bytes second others q in
    let pair : ◌≡◌ {A = Read} (first, names) (second, others) = some_is (first, names) (second, others) same in
    (ap (λ (x : Read). x.0) pair, ap (λ (x : Read). x.1) pair)

-- names have their places in one way
same_places : (kind : Kind) (count : ℕ) (symbols : List Symbol) (names : List (List ℕ)) (places others : List ℕ)
    → AreNamed kind count symbols names places → AreNamed kind count symbols names others → places ≡ others
same_places kind count symbols names places others p q =
    let all = p.all in
    same_number_lists places others (all ∙ sym q.all) (λ k below.
    let within : k < length names = omega arith in
    q.nowhere_else k (get_or places k 0) within (p.named k within))

one_side : (by_place : Bool) (kind : Kind) (symbols : List Symbol) (names : List (List ℕ)) (literals first second : List ℕ)
    → AreTied by_place kind symbols names literals first → AreTied by_place kind symbols names literals second → first ≡ second
one_side true kind symbols names literals first second p q = p.1 ∙ sym q.1
one_side false kind symbols names literals first second p q =
    p.2 ∙ ap (literals_at literals) (same_places kind (length literals) symbols names p.0 q.0 p.1 q.1) ∙ sym q.2

pub one_tie : OneTie
one_tie by_place a circuit symbols first second p q =
    let ins = one_side by_place input symbols (input_names a) circuit.inputs first.inputs second.inputs p.inputs q.inputs in
    let outs = one_side by_place output symbols (output_names a) circuit.outputs first.outputs second.outputs p.outputs q.outputs in
    p.rest ∙ ap₂ (λ (x y : List ℕ). record circuit { inputs = x; outputs = y }) ins outs ∙ sym q.rest
