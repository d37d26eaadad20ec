use Rattle.std.proofs.Common.{◌≡◌, ◌≢◌, ◌+◌, take, length}
use Rattle.std.specs.Prelude.{map, All}
use Rattle.std.specs.List.{AllPairs}
use Rattle.pg_aiger_netlist.specs.Netlists.{variable, IsPlain, known_by}
use Rattle.pg_aiger_netlist.specs.Mirrors.Marks.{AreMarked}
use Rattle.pg_aiger_netlist.proofs.marks.marked.Given as goal

abbrev pub invariant-loop-literal : goal.invariant-loop-literal
invariant-loop-literal l = record {
  long : length l.row.items ≡ l.greatest + 1;
  marks : AreMarked l.row.items (known_by (take l.literal-index l.literals));
  plain : All (IsPlain l.greatest) (take l.literal-index l.literals);
  distinct : AllPairs (λ x y. x ≢ y) (map variable (take l.literal-index l.literals));
}
