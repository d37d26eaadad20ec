-- What the answers of `synth` say of endless words.
use Rattle.pg_cli_command.proofs.Common.{◌≡◌, ℕ, List, length, None, subst, sym, ap, ◌∙◌, Even, Odd, GameVertex, winner, OneWinner, Automaton}
use Rattle.pg_cli_command.proofs.Common.{OneReading, inputs, outputs, IsWonBy, MachineAccepted, Unrealizable, machine_word, Arrival, one_game}
use Rattle.pg_cli_command.proofs.Common.{one_vertex, symbols_of, circuit_text, CircuitFollows, CircuitReadsBack, MapKind, IsClosedMapOf}
use Rattle.pg_cli_command.proofs.Common.{IsWonFor, CircuitAccepted, NoneAccepted, OneVerdict}

pub circuit_accepted : CircuitFollows → CircuitReadsBack → MachineAccepted → (letters : ℕ → ℕ) → CircuitAccepted letters
circuit_accepted follows reads_back accepted letters input output answer =
    let r = answer.realized in
    let e = r.even in
    let a = e.automaton in
    let f = r.follows.1 in
    let ins : length answer.circuit.inputs ≡ inputs a.controllable = r.circuit_of.inputs ∙ f.same_inputs in
    let outs : length answer.circuit.outputs ≡ outputs a.controllable = r.circuit_of.outputs ∙ f.same_outputs in
    let text = reads_back answer.circuit a r.circuit_of.numbered r.circuit_of.within e.is_automaton ins outs in (
      circuit_text answer.circuit a,
      answer.printed,
      record {
        automaton = a;
        spelt = e.spelt;
        circuit = answer.circuit;
        symbols = symbols_of a;
        text = text.0;
        one_circuit = λ other names spelt. (text.1 other names spelt).0;
        one_run = r.circuit_of.one_run letters;
        accepts = λ letters_in.
            let says = follows a.controllable r.machine answer.circuit letters f.same_inputs r.circuit_of letters_in in
            record {
              word = machine_word a.controllable r.machine letters;
              word_of = says.word;
              one = says.one_word;
              accepted = accepted a e.game e.initial e.solution r.follows.0 r.machine e.spelt.says.condition letters e.is_automaton
                  e.spelt.says.shape.fits e.won f letters_in;
            };
      },
    )

pub none_accepted : Unrealizable → (word : ℕ → ℕ) → NoneAccepted word
none_accepted unrealizable word input output answer play is_word traces chosen =
    let o = answer.odd in
    unrealizable o.automaton o.game o.initial o.solution o.spelt.says.condition word play o.is_automaton o.spelt.says.shape.fits
    o.won is_word traces chosen

-- not both players win
pub one_player : OneReading → OneWinner → (Kind : MapKind) (input : List ℕ) → IsWonFor Kind input Even → ¬ IsWonFor Kind input Odd
one_player reading one_winner Kind input e o =
    let a = e.automaton in
    let same : o.automaton ≡ a = (reading input).automaton o.automaton a o.spelt e.spelt in
    let won : IsWonBy a o.game o.initial o.solution Odd =
    subst (λ (x : Automaton). IsWonBy x o.game o.initial o.solution Odd) same o.won in
    let game : o.game ≡ e.game = one_game a o.game e.game won.game_of e.won.game_of in
    let there : IsWonBy a e.game o.initial o.solution Odd =
    subst (λ (x : List GameVertex). IsWonBy a x o.initial o.solution Odd) game won in
    let start : o.initial ≡ e.initial =
    one_vertex a e.game e.won.game_of.is_game o.initial e.initial (Arrival a.start None) there.begins e.won.begins in
    let winners : winner e.solution e.initial ≡ winner o.solution e.initial =
    one_winner e.game e.solution o.solution e.won.game_of.is_game e.won.solution_of there.solution_of e.won.sound there.sound
    e.initial e.won.begins.in_game in
    let bad : Even ≡ Odd = sym e.won.wins ∙ winners ∙ ap (winner o.solution) (sym start) ∙ there.wins in
    cc bad

pub one_verdict : OneReading → OneWinner → OneVerdict
one_verdict reading one_winner input first second p q = one_player reading one_winner IsClosedMapOf input p.realized.even q.odd
