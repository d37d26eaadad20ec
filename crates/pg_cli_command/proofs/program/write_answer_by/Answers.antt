use Rattle.pg_cli_command.proofs.Common.{subst, sym, Answers, Command}
use Rattle.pg_cli_command.proofs.Outcomes.{answered, printed}
use Rattle.pg_cli_command.proofs.program.write_answer_by.Goals as goal

pub returns-in-Measure-clause-answer : goal.returns-in-Measure-clause-answer
returns-in-Measure-clause-answer g c =
    answered _ _ _ _ _ _ _ _ _ c.requires.limit c.in-Measure.is c.measure.ensures.answer c.measure.ensures.refused c.print.ensures.written c.print.ensures.refused

pub returns-in-Measure-clause-measured : goal.returns-in-Measure-clause-measured
returns-in-Measure-clause-measured g c = λ workers is. printed _ _ _ _ _ _ c.measure.ensures.measured c.print.ensures.written

pub returns-in-Solve-clause-answer : goal.returns-in-Solve-clause-answer
returns-in-Solve-clause-answer g c =
    answered _ _ _ _ _ _ _ _ _ c.requires.limit c.in-Solve.is c.solve.ensures.answer c.solve.ensures.refused c.print-in-Solve.ensures.written c.print-in-Solve.ensures.refused

pub returns-in-SolveAny-clause-answer : goal.returns-in-SolveAny-clause-answer
returns-in-SolveAny-clause-answer g c =
    answered _ _ _ _ _ _ _ _ _ c.requires.limit c.in-SolveAny.is c.solve_any.ensures.answer c.solve_any.ensures.refused c.print-in-SolveAny.ensures.written c.print-in-SolveAny.ensures.refused

pub returns-in-Check-clause-answer : goal.returns-in-Check-clause-answer
returns-in-Check-clause-answer g c =
    answered _ _ _ _ _ _ _ _ _ c.requires.limit c.in-Check.is c.check.ensures.answer c.check.ensures.refused c.print-in-Check.ensures.written c.print-in-Check.ensures.refused

pub returns-in-Replay-clause-answer : goal.returns-in-Replay-clause-answer
returns-in-Replay-clause-answer g c =
    answered _ _ _ _ _ _ _ _ _ c.requires.limit c.in-Replay.is c.replay.ensures.answer c.replay.ensures.refused c.print-in-Replay.ensures.written c.print-in-Replay.ensures.refused

pub returns-in-Automaton-clause-answer : goal.returns-in-Automaton-clause-answer
returns-in-Automaton-clause-answer g c =
    answered _ _ _ _ _ _ _ _ _ c.requires.limit c.in-Automaton.is c.automaton.ensures.answer c.automaton.ensures.refused c.print-in-Automaton.ensures.written
    c.print-in-Automaton.ensures.refused

pub returns-in-Means-clause-answer : goal.returns-in-Means-clause-answer
returns-in-Means-clause-answer g c =
    answered _ _ _ _ _ _ _ _ _ c.requires.limit c.in-Means.is c.means.ensures.answer c.means.ensures.refused c.print-in-Means.ensures.written c.print-in-Means.ensures.refused

pub returns-in-Game-clause-answer : goal.returns-in-Game-clause-answer
returns-in-Game-clause-answer g c =
    answered _ _ _ _ _ _ _ _ _ c.requires.limit c.in-Game.is c.game.ensures.answer c.game.ensures.refused c.print-in-Game.ensures.written c.print-in-Game.ensures.refused

pub returns-in-Synth-clause-answer : goal.returns-in-Synth-clause-answer
returns-in-Synth-clause-answer g c =
    answered _ _ _ _ _ _ _ _ _ c.requires.limit c.in-Synth.is c.synth.ensures.answer c.synth.ensures.refused c.print-in-Synth.ensures.written c.print-in-Synth.ensures.refused

pub returns-in-SynthSmall-clause-answer : goal.returns-in-SynthSmall-clause-answer
returns-in-SynthSmall-clause-answer g c =
    answered _ _ _ _ _ _ _ _ _ c.requires.limit c.in-SynthSmall.is c.synth_small.ensures.answer c.synth_small.ensures.refused
    c.print-in-SynthSmall.ensures.written c.print-in-SynthSmall.ensures.refused

pub returns-in-Verify-clause-answer : goal.returns-in-Verify-clause-answer
returns-in-Verify-clause-answer g c =
    subst (λ (it : Command). Answers (g.F.Solver.finds c.args.solver.now) it c.args.text.items (g.W.Write.contents c.args.writer.now)
    (g.W.Write.contents c.write_look.new.writer) c.write_look.result) (sym c.in-Verify.is) (c.write_look.ensures.answer c.in-Verify.workers)

pub returns-in-SynthCounter-clause-answer : goal.returns-in-SynthCounter-clause-answer
returns-in-SynthCounter-clause-answer g c =
    answered _ _ _ _ _ _ _ _ _ c.requires.limit c.in-SynthCounter.is c.synth_counter.ensures.answer c.synth_counter.ensures.refused
    c.print-in-SynthCounter.ensures.written c.print-in-SynthCounter.ensures.refused

pub returns-in-VerifyFormula-clause-answer : goal.returns-in-VerifyFormula-clause-answer
returns-in-VerifyFormula-clause-answer g c =
    answered _ _ _ _ _ _ _ _ _ c.requires.limit c.in-VerifyFormula.is c.verify_formula.ensures.answer c.verify_formula.ensures.refused
    c.print-in-VerifyFormula.ensures.written c.print-in-VerifyFormula.ensures.refused
