-- The reply to a command, before it is handed over.
use Rattle.std.specs.Prelude.{◌≡◌, ◌≢◌, ℕ, List, None}
use Rattle.parsolve_c.specs.declared.answering.CommandReply.{CommandReply}
use Rattle.parsolve_c.specs.declared.answering.CommandReply.TheVariants.{Answer, FaultLine, NoCommand, OutOfMemory}
use Rattle.parsolve_c.specs.Commands.{command_of, IsPrinted, IsFaultLine}

abbrev pub IsReply : ℕ → List ℕ → CommandReply → Type 0
IsReply n input (Answer text) = IsPrinted n input text.items
IsReply n input (FaultLine line) = IsFaultLine n input line.items
IsReply n input NoCommand = command_of n ≡ None
IsReply n input OutOfMemory = command_of n ≢ None
