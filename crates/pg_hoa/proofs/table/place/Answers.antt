use Rattle.pg_hoa.proofs.Common.{◌∙◌, sym, refl, ap, stage, way_step, some}
use Rattle.pg_hoa.proofs.TableFilling.{adds_agreeing, adds_clash, adds_late_clash, adds_first}
use Rattle.pg_hoa.proofs.TableNumbers.{extends_refl, numbers_more}
use Rattle.pg_hoa.proofs.table.place.Goals as goal

pub returns-in-Some-true-clause-adds : goal.returns-in-Some-true-clause-adds
returns-in-Some-true-clause-adds c = adds_agreeing c.args.way.now.shape (stage c.args.filling.now) c.args.slot (way_step c.args.way.now)
    (sym c.compared.ensures ∙ c.in-Some-true.is ∙ ap some c.in-Some-true.field-0-test)

pub returns-then-slot-filling-clause-adds : goal.returns-then-slot-filling-clause-adds
returns-then-slot-filling-clause-adds c = adds_clash c.args.way.now.shape (stage c.args.filling.now) _ c.args.slot
    (way_step c.args.way.now) (sym c.compared.ensures ∙ c.in-Some-false.is
    ∙ ap some c.in-Some-false.field-0-test) c.if-slot-filling.true refl

pub returns-else-slot-filling-clause-adds : goal.returns-else-slot-filling-clause-adds
returns-else-slot-filling-clause-adds c = adds_late_clash c.args.way.now.shape (stage c.args.filling.now) c.args.slot
    (way_step c.args.way.now) c.if-slot-filling.false

pub returns-then-number-gt0-clause-adds : goal.returns-then-number-gt0-clause-adds
returns-then-number-gt0-clause-adds c = adds_first c.args.way.now.shape (stage c.args.filling.now)
    (stage c.args.filling.now) _ c.args.slot c.args.number (way_step c.args.way.now) c.requires.within
    (sym c.compared.ensures ∙ c.in-None.is) (extends_refl (stage c.args.filling.now))
    (numbers_more (stage c.args.filling.now) c.args.number (way_step c.args.way.now) c.if-number-gt0.true c.requires.known) refl

pub returns-in_ok-stored-in-None-clause-adds : goal.returns-in_ok-stored-in-None-clause-adds
returns-in_ok-stored-in-None-clause-adds c = adds_first c.args.way.now.shape (stage c.args.filling.now)
    (stage c.store.new.filling) _ c.args.slot c.in_ok-stored-in-None.stored (way_step c.args.way.now) c.requires.within
    (sym c.compared.ensures ∙ c.in-None.is) c.in_ok-stored-in-None.ensures.keeps c.in_ok-stored-in-None.ensures.there refl
