use Rattle.pg_hoa.proofs.Common.{◌-◌, bit_and, Decides-eqb}
use Rattle.pg_hoa.proofs.TablePlaces.{bits_within}
use Rattle.pg_hoa.proofs.table.is_within.Goals as goal

pub returns : goal.returns
returns c = λ e j small bit. bits_within c.args.word c.args.known j c.ranges.known.fits small
    ((Decides-eqb (bit_and c.args.word (18446744073709551615 - c.args.known)) 0).0 e) bit
