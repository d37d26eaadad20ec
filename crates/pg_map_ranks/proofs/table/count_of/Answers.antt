use Rattle.pg_map_ranks.proofs.Common.{◌≡◌, suc, ◌+◌, ◌-◌, ◌<◌, slice_index_or, arith, step_at, component}
use Rattle.pg_map_ranks.proofs.Counting.{count_same, count_first, count_after}
use Rattle.pg_map_ranks.proofs.table.count_of.Goals as goal
use Rattle.pg_map_ranks.proofs.table.count_of.Goals.{After-bound_of, then-begin-gt0+then-steps-begin, else-begin-gt0}
use Rattle.pg_map_ranks.proofs.table.count_of.Goals.{else-begin-gt0-via-then-begin-gt0+else-steps-begin, else-begin-gt0-via-else-begin-gt0}

-- one more than before
counted : (c : After-bound_of) → c.if-begin-gt0.before + 1 ≡ component c.args.steps.now (step_at c.args.steps.now c.args.k) (suc c.args.k)
counted c =
    let steps = c.args.steps.now in
    let k = c.args.k in
    let b = slice_index_or c.args.begins.now k 0 in
    let begin = c.requires.begins.are k c.requires.k in
    elim c.if-begin-gt0.branch [
      | then-begin-gt0+then-steps-begin w ↦
          let some : 0 < b = w.if-begin-gt0.true in
          let among = begin.among in
          let more = count_same steps b k begin some w.if-steps-begin.true in
          let last = c.requires.earlier (b - 1) (omega arith) in
          let is = w.before-is in
          omega arith
      | else-begin-gt0 w ↦
          let is = w.before-is in
          elim w.else-begin-gt0.branch [
            | else-begin-gt0-via-then-begin-gt0+else-steps-begin x ↦
                let one = count_after steps b k begin x.if-begin-gt0.true x.if-steps-begin.false in omega arith
            | else-begin-gt0-via-else-begin-gt0 x ↦
                let none = x.if-begin-gt0.false in
                let one = count_first steps b k begin (omega arith) in
                omega arith
          ]
    ]

pub returns-then-before-bound_of-clause-count : goal.returns-then-before-bound_of-clause-count
returns-then-before-bound_of-clause-count c = counted (goal.at.returns-then-before-bound_of-clause-count c).After-bound_of

pub returns-then-before-bound_of-clause-bounded : goal.returns-then-before-bound_of-clause-bounded
returns-then-before-bound_of-clause-bounded c =
    let less = c.if-before-bound_of.true in
    (c.bound_of.ensures (c.if-begin-gt0.before + 1) (omega arith)).0 (omega arith)

pub returns-else-before-bound_of-clause-none : goal.returns-else-before-bound_of-clause-none
returns-else-before-bound_of-clause-none c = λ n is bounded.
    let le = c.if-before-bound_of.false in
    let more = counted (goal.at.returns-else-before-bound_of-clause-none c).After-bound_of in
    let within = (c.bound_of.ensures n (omega arith)).1 bounded in
    omega arith
