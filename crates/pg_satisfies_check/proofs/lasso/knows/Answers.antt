use Rattle.std.proofs.Common.{◌≡◌, ℕ, Bool, true, false, List, get_or, sym, subst}
use Rattle.pg_ltl.specs.declared.normal.NormalNode.{NormalNode}
use Rattle.pg_ltl.specs.NormalForms.{NormalForm}
use Rattle.pg_ltl.specs.Mirrors.Nodes.{normal_at}
use Rattle.pg_means_look.specs.Mirrors.Choices.{part}
use Rattle.pg_means_look.proofs.Sound.{on_true_at}
use Rattle.pg_satisfies_check.specs.declared.system.CircuitPart.{CircuitPart}
use Rattle.pg_satisfies_check.specs.Mirrors.Steps.{Rows}
use Rattle.pg_satisfies_check.specs.Mirrors.Lassos.{IsToldOn, AreToldOn}
use Rattle.pg_satisfies_check.proofs.Stepping.{on_true_weaker}
use Rattle.pg_satisfies_check.proofs.lasso.knows.Goals as goal

abbrev Marked : List Bool → ℕ → Type 0
Marked marks k = get_or marks k false ≡ true

abbrev Told : CircuitPart → NormalNode → List Bool → Rows → Type 0
Told s node marks rows =
    (forms : List NormalForm) → ((k : ℕ) → Marked marks k → AreToldOn s rows (part forms k)) → AreToldOn s rows (normal_at forms node)

told_of : (s : CircuitPart) (node other : NormalNode) (marks : List Bool) (rows : Rows) → node ≡ other → Told s other marks rows → Told s node marks rows
told_of s node other marks rows e h = subst (λ (n : NormalNode). Told s n marks rows) (sym e) h

pub returns-in-Literal : goal.returns-in-Literal
returns-in-Literal c =
    on_true_weaker c.knows_proposition.result (IsToldOn c.args.system.now c.args.rows.now c.in-Literal.p)
    (Told c.args.system.now c.args.node c.args.marks.now c.args.rows.now)
    (λ on. told_of c.args.system.now c.args.node _ c.args.marks.now c.args.rows.now c.in-Literal.is (λ forms h. on)) c.knows_proposition.ensures

pub returns-in-Next : goal.returns-in-Next
returns-in-Next c =
    on_true_at c.is_marked.result (get_or c.args.marks.now c.in-Next.a false) (Told c.args.system.now c.args.node c.args.marks.now c.args.rows.now)
    c.is_marked.ensures
    (λ now. told_of c.args.system.now c.args.node _ c.args.marks.now c.args.rows.now c.in-Next.is (λ forms h. h c.in-Next.a now))

pub returns-in-Both : goal.returns-in-Both
returns-in-Both c =
    on_true_weaker c.are_marked.result (Marked c.args.marks.now c.in-Both.a × Marked c.args.marks.now c.in-Both.b)
    (Told c.args.system.now c.args.node c.args.marks.now c.args.rows.now)
    (λ on. told_of c.args.system.now c.args.node _ c.args.marks.now c.args.rows.now c.in-Both.is
    (λ forms h. (h c.in-Both.a on.0, h c.in-Both.b on.1))) c.are_marked.ensures

pub returns-in-Either : goal.returns-in-Either
returns-in-Either c =
    on_true_weaker c.are_marked-in-Either.result (Marked c.args.marks.now c.in-Either.a × Marked c.args.marks.now c.in-Either.b)
    (Told c.args.system.now c.args.node c.args.marks.now c.args.rows.now)
    (λ on. told_of c.args.system.now c.args.node _ c.args.marks.now c.args.rows.now c.in-Either.is
    (λ forms h. (h c.in-Either.a on.0, h c.in-Either.b on.1))) c.are_marked-in-Either.ensures

pub returns-in-Until : goal.returns-in-Until
returns-in-Until c =
    on_true_weaker c.are_marked-in-Until.result (Marked c.args.marks.now c.in-Until.a × Marked c.args.marks.now c.in-Until.b)
    (Told c.args.system.now c.args.node c.args.marks.now c.args.rows.now)
    (λ on. told_of c.args.system.now c.args.node _ c.args.marks.now c.args.rows.now c.in-Until.is
    (λ forms h. (h c.in-Until.a on.0, h c.in-Until.b on.1))) c.are_marked-in-Until.ensures

pub returns-in-Release : goal.returns-in-Release
returns-in-Release c =
    on_true_weaker c.are_marked-in-Release.result (Marked c.args.marks.now c.in-Release.a × Marked c.args.marks.now c.in-Release.b)
    (Told c.args.system.now c.args.node c.args.marks.now c.args.rows.now)
    (λ on. told_of c.args.system.now c.args.node _ c.args.marks.now c.args.rows.now c.in-Release.is
    (λ forms h. (h c.in-Release.a on.0, h c.in-Release.b on.1))) c.are_marked-in-Release.ensures
