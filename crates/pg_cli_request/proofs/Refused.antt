-- What is known of faults that were handed on.
use Rattle.std.proofs.Common.{◌≡◌, ◌≢◌, ◌<◌, ◌≤◌, ℕ, Bool, List, Option, Some, None, Result, Ok, Err, IfErr, IsErrAnd}
use Rattle.std.proofs.Common.{subst, sym, ◌∙◌, length, map, get_or, option_map, is_some, unwrap_or, codes, refl, arith}
use Rattle.std.proofs.lemmas.Option.{slice_get-get_or}
use Rattle.std.proofs.lemmas.List.{get_or-map}
use Rattle.std.specs.List.{slice_get}
use Rattle.pg_cli_words.specs.declared.command.Command.{Command}
use Rattle.pg_cli_words.specs.declared.command.Command.TheVariants.{Verify}
use Rattle.pg_hoa.specs.Outputs.{RefusesOutputs}
use Rattle.pg_hoa.specs.declared.outputs.OutputsFault.{OutputsFault}
use Rattle.pg_cli_command.specs.Measuring.{MapKind, IsClosedMapOf}
use Rattle.pg_cli_command.specs.Answers.{RefusesBy}
use Rattle.pg_cli_command.specs.declared.fault.CliFault.{CliFault}
use Rattle.pg_cli_command.specs.declared.fault.CliFault.TheVariants as cli
use Rattle.pg_cli_request.specs.declared.fault.Fault.{Fault}
use Rattle.pg_cli_request.specs.declared.fault.Fault.TheVariants.{Cli}
use Rattle.pg_cli_request.specs.Inputs.{Input, Whole, kind_of}
use Rattle.pg_cli_request.specs.Refusals.{IsUnnamed, IsUnread, AreUnread, OrLost, RefusesInput, IsRefused}

-- what is so of a fault is so of each result that has it
pub refused_by : {X E : Type 0} (P : E → Type 0) (result : Result X E) (fault : E) → IsErrAnd result (λ e. e ≡ fault) → P fault → IfErr result P
refused_by P (Ok x) fault is why = tt
refused_by P (Err e) fault is why = subst P (sym is) why

-- the item at this place of a list, or another where there is none
item_or : {A B : Type 0} (view : A → B) (item : Option A) (other : A) (it : B) → option_map view item ≡ Some it → view (unwrap_or item other) ≡ it
item_or view (Some x) other it e = cc
item_or view None other it e = absurd (cc)

pub item_at : {A B : Type 0} (view : A → B) (item : Option A) (other : A) (items : List B) (place : ℕ) (none : B) → place < length items
    → option_map view item ≡ slice_get items place → view (unwrap_or item other) ≡ get_or items place none
item_at view item other items place none within is =
    item_or view item other (get_or items place none) (is ∙ slice_get-get_or items place none within)

-- outputs can't be named in a text for the reason that the reader of automata gives
pub same_refusal : (text text' : List ℕ) (names names' : List (List ℕ)) (fault : OutputsFault) → text ≡ text' → names ≡ names'
    → RefusesOutputs text names fault → RefusesOutputs text' names' fault
same_refusal text text' names names' fault a b why =
    subst (λ (t : List ℕ). RefusesOutputs t names' fault) a (subst (λ (n : List (List ℕ)). RefusesOutputs text n fault) b why)

-- outputs can't be named in the texts of `verify`
pub unnamed : {T : Type 0} (outs : Option (List ℕ)) (command : Command) (given : Input) (names text : List ℕ) (workers : ℕ) (by_place environment : Bool)
    (result : Result T Fault) → outs ≡ Some names → command ≡ Verify workers by_place environment → given ≡ Whole text
    → IfErr result (λ fault. (workers : ℕ) → IsUnnamed (Some names) (Verify workers by_place environment) (Whole text) fault)
    → IfErr result (IsUnnamed outs command given)
unnamed outs command given names text workers by_place environment (Ok input) a b c why = tt
unnamed outs command given names text workers by_place environment (Err fault) a b c why = rw (a, b, c) (why workers)

-- a file that was read by its name
pub of_file : {A : Type 0} (holds : List ℕ → List ℕ → Type 0) (view : A → List ℕ) (files : List A) (none : A) (fault : Fault) → 1 ≤ length files
    → IsUnread holds (view (get_or files 0 none)) fault → IsUnread holds (get_or (map view files) 0 (codes "-")) fault
of_file holds view files none fault one why = rw (get_or-map view files 0 none (codes "-") (omega arith)) why

-- two files that were read by their names
pub of_files : {A : Type 0} (holds : List ℕ → List ℕ → Type 0) (view : A → List ℕ) (files : List A) (none : A) (fault : Fault) → 2 ≤ length files
    → AreUnread holds (view (get_or files 0 none)) (view (get_or files 1 none)) fault
    → AreUnread holds (get_or (map view files) 0 (codes "-")) (get_or (map view files) 1 (codes "-")) fault
of_files holds view files none fault two why =
    rw (get_or-map view files 0 none (codes "-") (omega arith), get_or-map view files 1 none (codes "-") (omega arith)) why

-- a command line is refused, whichever way its parts are kept
pub same_line : {T : Type 0} (result : Result T Fault) (holds : List ℕ → List ℕ → Type 0) (files : List (List ℕ)) (apart apart' : Bool)
    (command command' : Command) (outs outs' : Option (List ℕ)) → apart ≡ apart' → command ≡ command' → outs ≡ outs'
    → IfErr result (IsRefused holds apart command files outs) → IfErr result (IsRefused holds apart' command' files outs')
same_line result holds files apart apart' command command' outs outs' a b c why = rw (← a, ← b, ← c) why

-- A text within the limit is refused for what it says, where memory doesn't run out and no write fails: nothing is read.
refused_text : (Kind : MapKind) (command : Command) (text : List ℕ) (fault : CliFault) → length text ≤ 268435456 → fault ≢ cli.Read
    → RefusesBy Kind command text fault → OrLost (RefusesInput Kind command (Whole text)) (Cli fault)
refused_text Kind command text cli.OutOfMemory within unread why = tt
refused_text Kind command text cli.Write within unread why = tt
refused_text Kind command text cli.Read within unread why = absurd (unread refl)
refused_text Kind command text cli.InputTooLong within unread why = absurd (omega arith)
refused_text Kind command text _ within unread why = why.1

refused_within : {T : Type 0} (Kind : MapKind) (command : Command) (text : List ℕ) (result : Result T CliFault) → length text ≤ 268435456
    → result ≢ Err cli.Read → IfErr result (RefusesBy Kind command text)
    → IfErr result (λ fault. OrLost (RefusesInput Kind command (Whole text)) (Cli fault))
refused_within Kind command text (Ok it) within unread why = tt
refused_within Kind command text (Err fault) within unread why = refused_text Kind command text fault within (λ read. unread (rw read refl)) why

-- the same of a text for which programs work
pub refused_apart : {P T : Type 0} (programs : Option P) (some : P) (command : Command) (text : List ℕ) (result : Result T CliFault)
    → programs ≡ Some some → length text ≤ 268435456 → result ≢ Err cli.Read → IfErr result (RefusesBy IsClosedMapOf command text)
    → IfErr result (λ fault. OrLost (RefusesInput (kind_of (is_some programs)) command (Whole text)) (Cli fault))
refused_apart (Some it) some command text result is within unread why = refused_within IsClosedMapOf command text result within unread why
refused_apart None some command text result is within unread why = absurd (cc)
