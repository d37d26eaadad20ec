-- What a refusal of a lower layer says of the input.
use Rattle.pg_cli_command.proofs.Common.{◌≡◌, ◌≢◌, ℕ, List, [], ◌∷◌, ◌++◌, length, take, drop, Result, Ok, Err, subst, sym, ap, ◌∙◌, arith}
use Rattle.pg_cli_command.proofs.Common.{refl, drop-append_seam, take-append_seam, IfErr, IsErrAnd, GameVertex, dual, MapValue, IsGameText}
use Rattle.pg_cli_command.proofs.Common.{Refuses, IsSolutionText, RefusesSolution, Answer, TextFault, StrategiesFail, CheckFault, CliFault}
use Rattle.pg_cli_command.proofs.Common.{text_fault, check_fault, MapKind, IsUnsolved, separator, IsParted, IsNoGame, IsNoSolution}
use Rattle.pg_text.specs.declared.fault.TextFault.TheVariants as text
use Rattle.pg_check.specs.declared.fault.CheckFault.TheVariants as check
use Rattle.pg_cli_command.specs.declared.fault.CliFault.TheVariants as cli

-- what is so of a fault is so of each result that has it
pub refused_by : {X : Type 0} (P : CliFault → Type 0) (result : Result X CliFault) (fault : CliFault) → IsErrAnd result (λ e. e ≡ fault)
    → P fault → IfErr result P
refused_by P (Ok x) fault is why = tt
refused_by P (Err e) fault is why = subst P (sym is) why

-- What is so of want of memory, and of what a text says, is so of each fault of a reader; none of them is the writer's.
pub told_so : (P : CliFault → Type 0) (fault : TextFault) → P cli.OutOfMemory → (fault ≢ text.OutOfMemory → (fault ≢ text.Write) × P (cli.Text fault))
    → P (text_fault fault)
told_so P text.OutOfMemory memory said = memory
told_so P text.Write memory said = absurd ((said (λ e. (cc))).0 refl)
told_so P _ memory said = (said (λ e. (cc))).1

-- memory aside, the reader of games tells nothing of a writer, and refuses what spells no game
pub no_game : (bytes : List ℕ) (fault : TextFault) → ((game : List GameVertex) → IsGameText bytes game → fault ≡ text.OutOfMemory)
    → (fault ≢ text.OutOfMemory → Refuses bytes fault) → fault ≢ text.OutOfMemory → (fault ≢ text.Write) × IsNoGame bytes fault
no_game bytes fault only why memory =
    (λ e. subst (Refuses bytes) e (why memory), (λ game spelt. memory (only game spelt), why memory))

-- so does that of solutions
pub no_solution : (bytes : List ℕ) (game : List GameVertex) (fault : TextFault)
    → ((solution : List Answer) → IsSolutionText bytes game solution → fault ≡ text.OutOfMemory)
    → (fault ≢ text.OutOfMemory → RefusesSolution bytes game fault) → fault ≢ text.OutOfMemory
    → (fault ≢ text.Write) × IsNoSolution bytes game fault
no_solution bytes game fault only why memory =
    (λ e. subst (RefusesSolution bytes game) e (why memory), (λ solution spelt. memory (only solution spelt), why memory))

-- where two maps have no solution, memory aside, both are top at some vertex
pub unsolved_by : (Kind : MapKind) (game : List GameVertex) (even odd : MapValue) → Kind game even → Kind (dual game) odd
    → (fault : CheckFault) → StrategiesFail game even odd fault → IsUnsolved Kind game (check_fault fault)
unsolved_by Kind game even odd of_game of_dual check.OutOfMemory fails = tt
unsolved_by Kind game even odd of_game of_dual (check.Undecided id) fails =
    record { even = even; odd = odd; even_found = of_game; odd_found = of_dual; undecided = fails }

-- no input has two first separators
same_front : (input : List ℕ) (first second first' second' : List ℕ) (p : IsParted input first second) (q : IsParted input first' second')
    → length p.front ≡ length q.front
same_front input first second first' second' p q =
    let a = p.earliest q.front second' q.whole in
    let b = q.earliest p.front second p.whole in
    omega arith

pub parted_once : (input first second first' second' : List ℕ) → IsParted input first second → IsParted input first' second'
    → (first ≡ first') × (second ≡ second')
parted_once input first second first' second' p q =
    let size = same_front input first second first' second' p q in
    let fronts : p.front ≡ q.front =
    sym (take-append_seam p.front (separator ++ second)) ∙ ap (take (length p.front)) (sym p.whole ∙ q.whole)
    ∙ ap (λ n. take n (q.front ++ (separator ++ second'))) size ∙ take-append_seam q.front (separator ++ second') in
    let rests : separator ++ second ≡ separator ++ second' =
    sym (drop-append_seam p.front (separator ++ second)) ∙ ap (drop (length p.front)) (sym p.whole ∙ q.whole)
    ∙ ap (λ n. drop n (q.front ++ (separator ++ second'))) size ∙ drop-append_seam q.front (separator ++ second') in
    (p.newline ∙ ap (λ l. l ++ 10 ∷ []) fronts ∙ sym q.newline, ap (drop 4) rests)
