use Rattle.pg_hoa.proofs.Common.{◌-◌, arith, one_shl}
use Rattle.pg_hoa.proofs.TablePlaces.{one_block, many_blocks}
use Rattle.pg_hoa.proofs.table.blocks_of.Goals as goal

pub returns-then-propositions-lt6 : goal.returns-then-propositions-lt6
returns-then-propositions-lt6 c = one_block c.args.propositions _ c.if-propositions-lt6.true (one_shl c.args.propositions 32 (omega arith))

pub returns-else-propositions-lt6 : goal.returns-else-propositions-lt6
returns-else-propositions-lt6 c =
    many_blocks c.args.propositions _ c.if-propositions-lt6.false c.requires (one_shl (c.args.propositions - 6) 32 (omega arith))
