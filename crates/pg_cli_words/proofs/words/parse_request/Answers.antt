use Rattle.std.proofs.Common.{◌≡◌, ℕ, ◌≤◌, List, length, map, get_or, Some, ap, ◌∙◌, arith}
use Rattle.std.specs.Prelude.{slice_get}
use Rattle.std.specs.Option.{option_map}
use Rattle.std.proofs.lemmas.Option.{slice_get-map, slice_get-get_or}
use Rattle.pg_cli_words.specs.declared.words.Invocation.{Invocation}
use Rattle.pg_cli_words.specs.declared.words.Invocation.TheVariants.{Run, Work}
use Rattle.pg_cli_words.specs.Words.{AsksFor}
use Rattle.pg_cli_words.specs.Mirrors.Asked.{IsLineOf}
use Rattle.pg_cli_words.proofs.words.parse_request.Goals as goal

second_word : {A : Type 0} (text : A → List ℕ) (words : List A) (d : A) → 2 ≤ length words
    → slice_get (map text words) 1 ≡ Some (text (get_or words 1 d))
second_word text words d some =
    slice_get-map text words 1 ∙ ap (option_map text) (slice_get-get_or words 1 d (omega arith))

asked_by : (words : List (List ℕ)) (name : List ℕ) (line : Invocation) → slice_get words 1 ≡ Some name → IsLineOf name line → AsksFor words line
asked_by words name (Run command path) second asked = (second ∙ ap Some asked.0, asked.1)
asked_by words name (Work port) second asked = (second ∙ ap Some asked.0, asked.1)

pub returns-in-Some : goal.returns-in-Some
returns-in-Some c =
    asked_by (map (λ word. word.now) c.args.words.now) _ c.in-Some.line
    (second_word (λ word. word.now) c.args.words.now _ c.in-len2-up.len_at_least)
    (rw c.in-Some.is at c.in_ok-line-in-len2-up.ensures)
