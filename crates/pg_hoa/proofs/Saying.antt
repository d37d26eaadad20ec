-- The operations of a formula say what the formula says.
use Rattle.pg_hoa.proofs.Common.{◌≡◌, ℕ, Bool, List, [], ◌∷◌, ◌++◌, refl, ap, ◌∙◌, arith, nat_tests, Op, Formula, yes, no, proposition, inf}
use Rattle.pg_hoa.proofs.Common.{fin, not, both, either, bracket, holds, postfix, top, perform, run, says}
use Rattle.pg_hoa_syntax.specs.declared.formula.Op.TheVariants as ops

pub run_append : (a b : List Op) (on : ℕ → Bool) (stack : List Bool) → run (a ++ b) on stack ≡ run b on (run a on stack)
run_append [] b on stack = refl
run_append (op ∷ a) b on stack = run_append a b on (perform op on stack)

-- two operands and their operator
run_two : (f g : Formula) (op : Op) (on : ℕ → Bool) (stack : List Bool) → run (postfix f) on stack ≡ holds f on ∷ stack
    → run (postfix g) on (holds f on ∷ stack) ≡ holds g on ∷ holds f on ∷ stack
    → run (postfix f ++ (postfix g ++ (op ∷ []))) on stack ≡ perform op on (holds g on ∷ holds f on ∷ stack)
run_two f g op on stack hf hg = grind (
  arith,
  nat_tests,
  run_append (postfix f) (postfix g ++ (op ∷ [])) on stack,
  run_append (postfix g)
      (op ∷ []) on (run (postfix f) on stack),
)

-- a formula leaves its truth on the stack
pub postfix_runs : (f : Formula) (on : ℕ → Bool) (stack : List Bool) → run (postfix f) on stack ≡ holds f on ∷ stack
postfix_runs yes on stack = refl
postfix_runs no on stack = refl
postfix_runs (proposition a) on stack = refl
postfix_runs (inf s) on stack = refl
postfix_runs (fin s) on stack = refl
postfix_runs (not f) on stack = run_append (postfix f) (ops.Not ∷ []) on stack ∙ ap (perform ops.Not on) (postfix_runs f on stack)
postfix_runs (both f g) on stack = run_two f g ops.Both on stack (postfix_runs f on stack) (postfix_runs g on (holds f on ∷ stack))
postfix_runs (either f g) on stack = run_two f g ops.Either on stack (postfix_runs f on stack) (postfix_runs g on (holds f on ∷ stack))
postfix_runs (bracket f) on stack = postfix_runs f on stack

pub postfix_says : (f : Formula) (on : ℕ → Bool) → says (postfix f) on ≡ holds f on
postfix_says f on = ap top (postfix_runs f on [])
