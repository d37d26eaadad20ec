use Rattle.pg_wire.proofs.Common.{◌≡◌, ℕ, List, [], ◌∷◌, map, Ok, refl, sym, ap, ◌∙◌, Frame, Setup, Value, SparseValue, Dense, Sparse, body, dense_value, sparse_form}
use Rattle.pg_wire.proofs.Common.{frame_with, err_from_is_err_and}
use Rattle.pg_wire.specs.declared.frame.Report.{Report}
use Rattle.pg_wire.specs.declared.frame.Frame.TheVariants as frames
use Rattle.pg_wire.specs.declared.fault.ReadFault.TheVariants as faults
use Rattle.pg_wire.proofs.Grammar.{ok_is}
use Rattle.pg_wire.proofs.Bodies.{fails_known, setup_known, go_known, report_known}
use Rattle.pg_wire.proofs.Skip.{measures_left, lines_left}
use Rattle.pg_wire.proofs.reading.frame.Goals as goal

of_kind : (kind k : ℕ) (bytes : List ℕ) (f : Frame) → kind ≡ k → (kind ∷ bytes) ≡ body f → (k ∷ bytes) ≡ body f
of_kind kind k bytes f is e = ap (λ (n : ℕ). n ∷ bytes) (sym is) ∙ e

pub returns-in_err-setup-in-1 : goal.returns-in_err-setup-in-1
returns-in_err-setup-in-1 c = λ f well e.
    let p = err_from_is_err_and c.from_residual.result c.from_residual.ensures.1 in
    let k = setup_known f c.args.bytes.now well (of_kind c.args.kind 1 c.args.bytes.now f c.in-1.is e) in
    rw (p.1, p.2) (fails_known c.in_err-setup-in-1.field-0.0 _ _ f k.1 c.in_err-setup-in-1.ensures)

pub returns-in_ok-setup-in-1 : goal.returns-in_ok-setup-in-1
returns-in_ok-setup-in-1 c = λ f well e.
    let k = setup_known f c.args.bytes.now well (of_kind c.args.kind 1 c.args.bytes.now f c.in-1.is e) in
    let got : Setup × List ℕ = (c.in_ok-setup-in-1.setup, c.in_ok-setup-in-1.field-0-1.now) in
    let wanted : Setup × List ℕ = (k.0, []) in
    let same : wanted ≡ got = ok_is wanted got (sym k.1 ∙ c.in_ok-setup-in-1.ensures) in
    ap Ok (sym k.2 ∙ ap (λ (y : Setup × List ℕ). frames.Setup y.0) same)

pub returns-in_ok-lines-in-2 : goal.returns-in_ok-lines-in-2
returns-in_ok-lines-in-2 c = λ f well e.
    let q = lines_left f c.in_ok-count-in-2.count c.args.bytes.now c.in_ok-count-in-2.rest well
    (of_kind c.args.kind 2 c.args.bytes.now f c.in-2.is e) c.in_ok-count-in-2.ensures.read in
    ap Ok (q.1 ∙ ap frame_with (sym (c.in_ok-lines-in-2.ensures q.0 q.2)))

pub returns-in_err-values-in-3 : goal.returns-in_err-values-in-3
returns-in_err-values-in-3 c = λ f well e.
    let p = err_from_is_err_and c.from_residual-in_err-values-in-3.result c.from_residual-in_err-values-in-3.ensures.1 in
    let q = measures_left Dense f c.in_ok-width-in-3.width c.in_ok-count-in-3.count c.args.bytes.now c.in_ok-width-in-3.rest.now c.in_ok-count-in-3.rest well
    (of_kind c.args.kind 3 c.args.bytes.now f c.in-3.is e) c.in_ok-width-in-3.ensures.read c.in_ok-count-in-3.ensures.read in
    rw (p.1, p.2) (fails_known c.in_err-values-in-3.field-0.0 _ _ f refl (c.in_err-values-in-3.ensures q.0 q.2))

pub returns-in_ok-values-in-3 : goal.returns-in_ok-values-in-3
returns-in_ok-values-in-3 c = λ f well e.
    let q = measures_left Dense f c.in_ok-width-in-3.width c.in_ok-count-in-3.count c.args.bytes.now c.in_ok-width-in-3.rest.now c.in_ok-count-in-3.rest well
    (of_kind c.args.kind 3 c.args.bytes.now f c.in-3.is e) c.in_ok-width-in-3.ensures.read c.in_ok-count-in-3.ensures.read in
    let same = ok_is (map dense_value q.0) c.in_ok-values-in-3.values (c.in_ok-values-in-3.ensures q.0 q.2) in
    ap Ok (q.1 ∙ ap (λ (vs : List Value). frames.Values (record { width = c.in_ok-width-in-3.width; values = vs })) same)

pub returns-in_ok-budget-in-4 : goal.returns-in_ok-budget-in-4
returns-in_ok-budget-in-4 c = λ f well e.
    let k = go_known f c.args.bytes.now well (of_kind c.args.kind 4 c.args.bytes.now f c.in-4.is e) in
    let got : ℕ × List ℕ = (c.in_ok-budget-in-4.budget, c.in_ok-budget-in-4.field-0-1.now) in
    let wanted : ℕ × List ℕ = (k.0.budget, []) in
    let same : wanted ≡ got = ok_is wanted got (sym k.1 ∙ c.in_ok-budget-in-4.ensures.read) in
    ap Ok (sym k.2 ∙ ap (λ (y : ℕ × List ℕ). frames.Go (record { budget = y.0 })) same)

pub returns-in_err-report-in-5 : goal.returns-in_err-report-in-5
returns-in_err-report-in-5 c = λ f well e.
    let p = err_from_is_err_and c.from_residual-in_err-report-in-5.result c.from_residual-in_err-report-in-5.ensures.1 in
    let k = report_known f c.args.bytes.now well (of_kind c.args.kind 5 c.args.bytes.now f c.in-5.is e) in
    rw (p.1, p.2) (fails_known (faults.Field c.in_err-report-in-5.field-0.0) _ _ f k.1 c.in_err-report-in-5.ensures)

pub returns-in_ok-report-in-5 : goal.returns-in_ok-report-in-5
returns-in_ok-report-in-5 c = λ f well e.
    let k = report_known f c.args.bytes.now well (of_kind c.args.kind 5 c.args.bytes.now f c.in-5.is e) in
    let got : Report × List ℕ = (c.in_ok-report-in-5.report, c.in_ok-report-in-5.field-0-1.now) in
    let wanted : Report × List ℕ = (k.0, []) in
    let same : wanted ≡ got = ok_is wanted got (sym k.1 ∙ c.in_ok-report-in-5.ensures) in
    ap Ok (sym k.2 ∙ ap (λ (y : Report × List ℕ). frames.Report y.0) same)

pub returns-in_err-values-in-7 : goal.returns-in_err-values-in-7
returns-in_err-values-in-7 c = λ f well e.
    let p = err_from_is_err_and c.from_residual-in_err-values-in-7.result c.from_residual-in_err-values-in-7.ensures.1 in
    let q = measures_left Sparse f c.in_ok-width-in-7.width c.in_ok-count-in-7.count c.args.bytes.now c.in_ok-width-in-7.rest.now c.in_ok-count-in-7.rest well
    (of_kind c.args.kind 7 c.args.bytes.now f c.in-7.is e) c.in_ok-width-in-7.ensures.read c.in_ok-count-in-7.ensures.read in
    rw (p.1, p.2) (fails_known c.in_err-values-in-7.field-0.0 _ _ f refl (c.in_err-values-in-7.ensures q.0 q.2))

pub returns-in_ok-values-in-7 : goal.returns-in_ok-values-in-7
returns-in_ok-values-in-7 c = λ f well e.
    let q = measures_left Sparse f c.in_ok-width-in-7.width c.in_ok-count-in-7.count c.args.bytes.now c.in_ok-width-in-7.rest.now c.in_ok-count-in-7.rest well
    (of_kind c.args.kind 7 c.args.bytes.now f c.in-7.is e) c.in_ok-width-in-7.ensures.read c.in_ok-count-in-7.ensures.read in
    let same = ok_is (map sparse_form q.0) c.in_ok-values-in-7.values (c.in_ok-values-in-7.ensures q.0 q.2) in
    ap Ok (q.1 ∙ ap (λ (vs : List SparseValue). frames.Sparse (record { width = c.in_ok-width-in-7.width; values = vs })) same)
