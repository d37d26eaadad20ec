-- Which headers a text has, and the text with one more.
use Rattle.std.specs.Prelude.{ℕ, Bool, List, ◌∷◌, codes}
use Rattle.std.specs.List.{list_any}
use Rattle.std.specs.Str.{bytes_eq}
use Rattle.pg_hoa_syntax.specs.Syntax.{Header, states, start, propositions, acceptance, controllable, skipped, Written}

-- the name that a header is written with
abbrev pub header_name : Header → List ℕ
header_name (states n) = codes "States"
header_name (start q) = codes "Start"
header_name (propositions names) = codes "AP"
header_name (acceptance n f) = codes "Acceptance"
header_name (controllable ns) = codes "controllable-AP"
header_name (skipped name values) = name

-- a header of this name is written
abbrev pub has_header : List ℕ → Written → Bool
has_header name w = list_any (λ h. bytes_eq (header_name h) name) w.headers

-- the same text with one more header, before the others, by which the controller sets these propositions
abbrev pub with_controls : List ℕ → Written → Written
with_controls ns w = record { headers = controllable ns ∷ w.headers; lines = w.lines }
