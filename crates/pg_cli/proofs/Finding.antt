-- Maps that are found over links.
use Rattle.std.proofs.Common.{◌≡◌, ℕ, ◌<◌, ◌≤◌, List, length, Option, Some, None, Result, Ok, Err, sym, ap₂, subst, ◌∙◌, arith}
use Rattle.std.proofs.lemmas.List.{same_lists, get_or_default}
use Rattle.std.specs.Prelude.{IfSome, OnOk}
use Rattle.std.specs.Io.KnownBytes.{Appends}
use Rattle.pg_arena.specs.Games.{GameVertex}
use Rattle.pg_map.specs.Lines.{game_line}
use Rattle.pg_map.specs.Maps.{MapValue}
use Rattle.pg_coord_partition.specs.Cuts.{CutValue, IsEvenCut}
use Rattle.pg_coord_rounds.specs.Replies.{Reply, TellReplies, IsLeastOverReplies}
use Rattle.pg_cli_command.specs.Measuring.{MapKind, IsClosedMapOf, IsMeasureOf, IsMeasured}
use Rattle.pg_cli_command.specs.declared.fault.CliFault.{CliFault}
use Rattle.pg_cli_command.proofs.MapKinds.{measured_too}
use Rattle.pg_cli.specs.Linked.{IsLeastOverTold}
use Rattle.pg_cli.specs.Mirrors.Finding.{IsFoundIf}

-- ---- the least progress measure, if links are honest

pub found_closed : (are_honest : Type 0) (game : List GameVertex) (map : MapValue) → IsFoundIf are_honest game map → IsClosedMapOf game map
found_closed are_honest game map f = f.closed

pub found_least : (are_honest : Type 0) → are_honest → (game : List GameVertex) (map : MapValue) → IsFoundIf are_honest game map → IsMeasureOf game map
found_least are_honest honest game map f = f.least honest

-- links that stay honest find what honest ones find
pub kept_found : (are_honest later : Type 0) (game : List GameVertex) (map : MapValue) → (are_honest → later) → IsFoundIf later game map
    → IsFoundIf are_honest game map
kept_found are_honest later game map kept f = record { closed = f.closed; least = λ honest. f.least (kept honest) }

-- ---- links that tell their replies

-- there is one even cut
one_even_cut : (vertices workers : ℕ) (c d : CutValue) → IsEvenCut vertices workers c → IsEvenCut vertices workers d → c ≡ d
one_even_cut vertices workers c d p q =
    ap₂ (λ (w : ℕ) (ns : List ℕ). record { workers = w; numbers = ns }) (p.count ∙ sym q.count)
    (same_lists c.numbers d.numbers (p.size ∙ sym q.size) (λ k x lt.
    let within : k < vertices = omega (arith, p.size) in
    let there : k < length d.numbers = omega (arith, q.size) in
    sym (get_or_default c.numbers k 0 x lt) ∙ p.each k within ∙ sym (q.each k within) ∙ get_or_default d.numbers k 0 x there))

-- what is solved over links by an even cut is so by whichever even cut
pub over_told : {L : Type 0} (told : L → Option (List (List ℕ))) (links : List L) (game : List GameVertex) (map : MapValue) (cut : CutValue) (rounds : ℕ)
    → IsClosedMapOf game map → IsEvenCut (length game) (length links) cut → 1 ≤ rounds
    → ((replies : ℕ → List Reply) → TellReplies told map.bounds cut links replies → IsLeastOverReplies (game_line game) rounds (length links) replies map)
    → IsLeastOverTold told links game map
over_told told links game map cut rounds closed even some least = record {
  closed = closed;
  rounds = rounds;
  some = some;
  least = λ other replies is_even tells.
      let same : other ≡ cut = one_even_cut (length game) (length links) other cut is_even even in
      least replies (subst (λ (x : CutValue). TellReplies told map.bounds x links replies) same tells);
}

-- what is measured by maps of one kind is so by those of another, if each is of that kind
pub told_too : (Kind Other : MapKind) → ((game : List GameVertex) (map : MapValue) → Kind game map → Other game map) → (known old new : Option (List ℕ))
    (result : Result (Unit {0}) CliFault)
    → OnOk result (IfSome known (λ input. (output : List ℕ) × IsMeasured Kind input output × Appends old new output))
    → OnOk result (IfSome known (λ input. (output : List ℕ) × IsMeasured Other input output × Appends old new output))
told_too Kind Other is_other known old new (Err fault) a = tt
told_too Kind Other is_other None old new (Ok x) a = tt
told_too Kind Other is_other (Some input) old new (Ok x) a = (a.0, measured_too Kind Other is_other input a.0 a.1, a.2)
