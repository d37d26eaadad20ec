use Rattle.pg_aiger_reader.proofs.ReadingLaws.{named_once, read_unnamed}
use Rattle.pg_aiger_reader.proofs.laws.one_refusal.Goals as goal

pub returns : goal.returns
returns c bytes = record {
  one = λ fault other is are. named_once bytes fault other is are;
  not_read = λ circuit symbols fault read is. read_unnamed bytes circuit symbols fault read is;
}
