use Rattle.pg_hoa.specs.Mirrors.Tables.{stage}
use Rattle.pg_hoa.proofs.TableNumbers.{extends_refl}
use Rattle.pg_hoa.proofs.table.list_of.Goals as goal

pub returns-then-is_empty-clause-keeps : goal.returns-then-is_empty-clause-keeps
returns-then-is_empty-clause-keeps c = extends_refl (stage c.args.filling.now)
