use Rattle.std.proofs.Common.{◌≤◌, length, arith, ap, subst, sym, ◌∙◌}
use Rattle.std.proofs.lemmas.Result.{IfOk-weaker}
use Rattle.pg_ltl.specs.declared.normal.NormalNode.{NormalNode}
use Rattle.pg_ltl.specs.NormalForms.{NormalForm}
use Rattle.pg_ltl.specs.Mirrors.Nodes.{normal_at, normal_reach}
use Rattle.pg_means_look.specs.Mirrors.Choices.{part}
use Rattle.pg_means_look.specs.Mirrors.Places.{word_of, IsSound}
use Rattle.pg_means_look.proofs.Sound.{literal_sound, row_sound, release_sound}
use Rattle.pg_means_look.proofs.values.values_of_node.Goals as goal

pub returns-in-Literal : goal.returns-in-Literal
returns-in-Literal c =
    let word = word_of c.args.truths.now c.args.letters.now c.args.back in
    IfOk-weaker c.literal_values.result _ _ (λ values h forms are e.
    subst (λ (f : NormalForm). IsSound (length c.args.letters.now) c.args.back word f values.items)
    (sym (e ∙ ap (normal_at forms) c.in-Literal.is))
    (literal_sound c.args.truths.now c.args.letters.now c.args.back c.in-Literal.p c.in-Literal.is_so values.items c.requires.back h))
    c.literal_values.ensures

pub returns-in-Until : goal.returns-in-Until
returns-in-Until c =
    let word = word_of c.args.truths.now c.args.letters.now c.args.back in
    let a = c.in-Until.a in
    let b = c.in-Until.b in
    let reach = subst (λ (n : NormalNode). normal_reach n ≤ length c.args.rows.now) c.in-Until.is c.requires.operands in
    IfOk-weaker c.until_values.result _ _ (λ values h forms are e.
    let sound = row_sound (length c.args.letters.now) c.args.back word forms c.args.rows.now are in
    subst (λ (f : NormalForm). IsSound (length c.args.letters.now) c.args.back word f values.items)
    (sym (e ∙ ap (normal_at forms) c.in-Until.is))
    (h word (part forms a) (part forms b) (sound a c.row-in-Until.result.now (omega arith) c.row-in-Until.ensures)
    (sound b c.row-in-Until-2.result.now (omega arith) c.row-in-Until-2.ensures))) c.until_values.ensures

pub returns-in-Release : goal.returns-in-Release
returns-in-Release c =
    let word = word_of c.args.truths.now c.args.letters.now c.args.back in
    let a = c.in-Release.a in
    let b = c.in-Release.b in
    let reach = subst (λ (n : NormalNode). normal_reach n ≤ length c.args.rows.now) c.in-Release.is c.requires.operands in
    IfOk-weaker c.release_values.result _ _ (λ values h forms are e.
    let sound = row_sound (length c.args.letters.now) c.args.back word forms c.args.rows.now are in
    subst (λ (f : NormalForm). IsSound (length c.args.letters.now) c.args.back word f values.items)
    (sym (e ∙ ap (normal_at forms) c.in-Release.is))
    (release_sound (length c.args.letters.now) c.args.back word (part forms a) (part forms b) c.row-in-Release.result.now
    c.row-in-Release-2.result.now (sound a c.row-in-Release.result.now (omega arith) c.row-in-Release.ensures)
    (sound b c.row-in-Release-2.result.now (omega arith) c.row-in-Release-2.ensures) values.items c.requires.back h.0 h.1)) c.release_values.ensures
