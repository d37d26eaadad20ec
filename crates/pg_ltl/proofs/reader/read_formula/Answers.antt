use Rattle.std.proofs.Common.{◌≡◌, ℕ, ◌<◌, ◌≤◌, List, sym, subst, ap, ◌∙◌, arith}
use Rattle.std.specs.List.{count_by}
use Rattle.pg_ltl.specs.declared.token.FormulaToken.{FormulaToken}
use Rattle.pg_ltl.specs.declared.noting.Stop.{Stop}
use Rattle.pg_ltl.specs.declared.noting.Stop.TheVariants.{End, NoWord, Overfull}
use Rattle.pg_ltl.specs.declared.reading.Misplaced.{Misplaced}
use Rattle.pg_ltl.specs.declared.reading.Misplaced.TheVariants.{At}
use Rattle.std.specs.declared.vec.Vec.{Vec}
use Rattle.std.specs.declared.alloc.Global.{Global}
use Rattle.std.proofs.lemmas.List.{length-map}
use Rattle.pg_ltl.specs.Formulas.{SpeaksOf}
use Rattle.pg_ltl.specs.FormulaTexts.{AreTokensOf}
use Rattle.pg_ltl.specs.Texts.{is_operator, IsRefused}
use Rattle.pg_ltl.specs.Mirrors.Views.{written}
use Rattle.pg_ltl.specs.Mirrors.Notes.{stop_fault}
use Rattle.pg_ltl.specs.Mirrors.Readings.{IsMisread, IsStopped, StopsTokens}
use Rattle.pg_ltl.proofs.GoodNames.{good_names, speaks_of_names}
use Rattle.pg_ltl.proofs.OneReading.{stop_refused, misplaced_refused, begun, spelt_there, operators_refused}
use Rattle.pg_ltl.proofs.reader.read_formula.Goals as goal

no_word_unended : (s : Stop) → s ≡ NoWord → s ≡ End → ⊥
no_word_unended s a b = let e : NoWord ≡ End = sym a ∙ b in absurd cc

overfull_unended : (s : Stop) → s ≡ Overfull → s ≡ End → ⊥
overfull_unended s a b = let e : Overfull ≡ End = sym a ∙ b in absurd cc

pub returns-in-Err-At-clause-refused : goal.returns-in-Err-At-clause-refused
returns-in-Err-At-clause-refused c =
    let t = c.in_ok-text.text in
    subst (IsRefused c.args.bytes.now) (sym c.fault_at.ensures)
    (misplaced_refused c.args.bytes.now t.tokens t.stop t.end c.in_ok-text.ensures c.in-Err-At.place
    (subst (λ (ts : List FormulaToken). IsStopped ts c.in-Err-At.place) c.deref.ensures.value
    (subst (λ (m : Misplaced). StopsTokens c.deref.result.now m) c.in-Err-At.field-0-is c.in-Err-At.ensures.stops))
    (subst (λ (ts : List FormulaToken). IsMisread ts (At c.in-Err-At.place)) c.deref.ensures.value
    (subst (λ (m : Misplaced). IsMisread c.deref.result.now m) c.in-Err-At.field-0-is c.in-Err-At.ensures.refused)))

pub returns-then-operators-gt4096-clause-refused : goal.returns-then-operators-gt4096-clause-refused
returns-then-operators-gt4096-clause-refused c =
    let t = c.in_ok-text.text in
    let e : c.operators.result ≡ count_by is_operator t.tokens.tokens.items =
    c.operators.ensures ∙ ap (λ (ts : List FormulaToken). count_by is_operator ts) c.deref-in-End.ensures.value in
    let many : 4096 < c.operators.result = c.if-operators-gt4096.true in
    operators_refused c.args.bytes.now t.tokens t.stop t.end c.in_ok-text.ensures (written c.in-Ok.formula) c.in-End.is
    (subst (λ (ts : List FormulaToken). AreTokensOf ts (written c.in-Ok.formula)) c.deref.ensures.value c.in-Ok.ensures.found)
    (omega (arith, e, many))

pub returns-in-End-clause-found : goal.returns-in-End-clause-found
returns-in-End-clause-found c =
    let t = c.in_ok-text.text in
    let e : c.operators.result ≡ count_by is_operator t.tokens.tokens.items =
    c.operators.ensures ∙ ap (λ (ts : List FormulaToken). count_by is_operator ts) c.deref-in-End.ensures.value in
    let few : c.operators.result ≤ 4096 = c.if-operators-gt4096.false in
    spelt_there c.args.bytes.now t.tokens t.stop t.end c.in_ok-text.ensures (written c.in-Ok.formula) c.in-End.is
    (subst (λ (ts : List FormulaToken). AreTokensOf ts (written c.in-Ok.formula)) c.deref.ensures.value c.in-Ok.ensures.found)
    (omega (arith, e, few))

pub returns-in-NoWord-clause-refused : goal.returns-in-NoWord-clause-refused
returns-in-NoWord-clause-refused c =
    let t = c.in_ok-text.text in
    subst (λ (s : Stop). IsRefused c.args.bytes.now (stop_fault s t.end)) c.in-NoWord.is
    (stop_refused c.args.bytes.now t.tokens t.stop t.end c.in_ok-text.ensures
    (begun c.args.bytes.now t.tokens t.stop t.end c.in_ok-text.ensures (written c.in-Ok.formula)
    (subst (λ (ts : List FormulaToken). AreTokensOf ts (written c.in-Ok.formula)) c.deref.ensures.value c.in-Ok.ensures.found))
    (λ e. absurd (no_word_unended t.stop c.in-NoWord.is e)))

pub returns-clause-refused : goal.returns-clause-refused
returns-clause-refused c =
    let t = c.in_ok-text.text in
    subst (λ (s : Stop). IsRefused c.args.bytes.now (stop_fault s t.end)) c.in-Overfull.is
    (stop_refused c.args.bytes.now t.tokens t.stop t.end c.in_ok-text.ensures
    (begun c.args.bytes.now t.tokens t.stop t.end c.in_ok-text.ensures (written c.in-Ok.formula)
    (subst (λ (ts : List FormulaToken). AreTokensOf ts (written c.in-Ok.formula)) c.deref.ensures.value c.in-Ok.ensures.found))
    (λ e. absurd (overfull_unended t.stop c.in-Overfull.is e)))

pub returns-in-End-clause-names : goal.returns-in-End-clause-names
returns-in-End-clause-names c = good_names c.args.bytes.now _ (written c.in-Ok.formula) (returns-in-End-clause-found c)

pub returns-in-End-clause-speaks : goal.returns-in-End-clause-speaks
returns-in-End-clause-speaks c =
    subst (λ n. SpeaksOf n (written c.in-Ok.formula)) (length-map c.in_ok-text.text.tokens.names.items (λ (v : Vec ℕ Global). v.items))
    (speaks_of_names c.args.bytes.now _ (written c.in-Ok.formula) (returns-in-End-clause-found c))
