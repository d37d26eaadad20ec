use Rattle.pg_hoa_syntax.proofs.Common.{◌≡◌, ◌++◌, take, codes, flat_map}
use Rattle.pg_hoa_syntax.specs.Mirrors.HeaderNames.{control_bytes}
use Rattle.pg_hoa_syntax.proofs.naming.with_controls.Given as goal

-- the numbers so far stand behind the name
abbrev pub invariant-loop-number : goal.invariant-loop-number
invariant-loop-number l = l.text.items ≡ codes "HOA: v1\ncontrollable-AP:" ++ flat_map control_bytes (take l.number-index l.controls)
