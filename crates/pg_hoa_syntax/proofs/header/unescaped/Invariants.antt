use Rattle.pg_hoa_syntax.proofs.Common.{◌≡◌, ◌++◌, length, map, characters, character_code}
use Rattle.pg_hoa_syntax.proofs.header.unescaped.Given as goal

-- the name so far and what is left of it make the whole
abbrev pub invariant-characters : goal.invariant-characters
invariant-characters l = l.name.items ++ map character_code (characters l.rest) ≡ map character_code (characters l.content)

abbrev pub decreases-characters : goal.decreases-characters
decreases-characters l = length l.rest
