use Rattle.std.specs.Prelude.{take, map}
use Rattle.std.specs.List.{flat_map}
use Rattle.std.specs.Fmt.{HasWritten, IsPlainFormatter}
use Rattle.pg_satisfies_texts.specs.FaultTexts.{after_comma, name_bytes}
use Rattle.pg_satisfies_texts.proofs.fault.write_more.Given as goal

abbrev pub invariant-loop-name : goal.invariant-loop-name
invariant-loop-name g l =
    IsPlainFormatter l.initial.f
    → HasWritten g.W.Write.write_str_gives l.initial.f (flat_map after_comma (map name_bytes (take l.name-index l.names))) l.f
