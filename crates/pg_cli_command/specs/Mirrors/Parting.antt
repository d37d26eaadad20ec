-- Which two texts a command is given, in one input or each by itself.
use Rattle.pg_cli_command.specs.declared.parts.Texts.{Texts}
use Rattle.pg_cli_command.specs.declared.parts.Texts.TheVariants.{Joined, Apart}
use Rattle.pg_cli_command.specs.Parts.{Parting, IsParted, AreApart}

abbrev pub parting_of : Texts → Parting
parting_of (Joined input) = IsParted input.items
parting_of (Apart first second) = AreApart first.items second.items
