use Rattle.std.proofs.Common.{refl, lit<}
use Rattle.pg_hoa.proofs.TableWords.{mask_low}
use Rattle.pg_hoa.proofs.letters.mask.Goals as goal

pub returns-in-0 : goal.returns-in-0
returns-in-0 c = mask_low 0xaaaaaaaaaaaaaaaa 0 c.args.block c.args.proposition c.in-0.is (lit< tt) refl

pub returns-in-1 : goal.returns-in-1
returns-in-1 c = mask_low 0xcccccccccccccccc 1 c.args.block c.args.proposition c.in-1.is (lit< tt) refl

pub returns-in-2 : goal.returns-in-2
returns-in-2 c = mask_low 0xf0f0f0f0f0f0f0f0 2 c.args.block c.args.proposition c.in-2.is (lit< tt) refl

pub returns-in-3 : goal.returns-in-3
returns-in-3 c = mask_low 0xff00ff00ff00ff00 3 c.args.block c.args.proposition c.in-3.is (lit< tt) refl

pub returns-in-4 : goal.returns-in-4
returns-in-4 c = mask_low 0xffff0000ffff0000 4 c.args.block c.args.proposition c.in-4.is (lit< tt) refl

pub returns-in-5 : goal.returns-in-5
returns-in-5 c = mask_low 0xffffffff00000000 5 c.args.block c.args.proposition c.in-5.is (lit< tt) refl
