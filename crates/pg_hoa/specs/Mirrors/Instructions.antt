-- The effect of instructions on a stack of truths about the letters of blocks.
use Rattle.std.specs.Prelude.{◌≡◌, ℕ, ◌+◌, ◌*◌, ◌<◌, ◌==◌, Bool, true, false, ◌&&◌, ◌||◌, List, [], ◌∷◌, if◌then◌else◌, bit_and}
use Rattle.pg_hoa_syntax.specs.declared.formula.Op.{Op}
use Rattle.pg_hoa.specs.declared.terms.Term.{Term}
use Rattle.pg_hoa.specs.declared.terms.Instruction.{Instruction}
use Rattle.pg_hoa.specs.declared.terms.Instruction.TheVariants.{Put, Not, Both, Either, BothTerm, EitherTerm}
use Rattle.pg_hoa.specs.Mirrors.Saying.{top, under, says}
use Rattle.pg_hoa.specs.Mirrors.Letters.{truth, truth_in, on_at}

-- whether letter j of block b fits
abbrev pub fits : ℕ → ℕ → Term → Bool
fits b j t = truth t.word j && (bit_and b t.care == t.value)

abbrev pub execute : Instruction → ℕ → ℕ → List Bool → List Bool
execute (Put t) b j stack = fits b j t ∷ stack
execute Not b j stack = (if top stack then false else true) ∷ under stack
execute Both b j stack = (top (under stack) && top stack) ∷ under (under stack)
execute Either b j stack = (top (under stack) || top stack) ∷ under (under stack)
execute (BothTerm t) b j stack = (top stack && fits b j t) ∷ under stack
execute (EitherTerm t) b j stack = (top stack || fits b j t) ∷ under stack

abbrev pub execute_all : List Instruction → ℕ → ℕ → List Bool → List Bool
execute_all [] b j stack = stack
execute_all (a ∷ instructions) b j stack = execute_all instructions b j (execute a b j stack)

unfoldable pub executed : List Instruction → ℕ → ℕ → List Bool
executed instructions b j = execute_all instructions b j []

-- the instructions leave what the label says
abbrev pub Tells : List Op → List Instruction → Type 0
Tells label instructions = (b j : ℕ) → b < 1024 → j < 64 → top (executed instructions b j) ≡ says label (on_at b j)

-- the words are those of the letters of the run at which the instructions leave yes
abbrev pub Speaks : List Instruction → ℕ → List ℕ → Type 0
Speaks instructions run words = (k j : ℕ) → k < 16 → j < 64 → truth_in words k j ≡ top (executed instructions (run * 16 + k) j)

-- the words are those of the letters of the run to which the label says yes
abbrev pub SpeaksOf : List Op → ℕ → List ℕ → Type 0
SpeaksOf label run words = (k j : ℕ) → k < 16 → j < 64 → truth_in words k j ≡ says label (on_at (run * 16 + k) j)
