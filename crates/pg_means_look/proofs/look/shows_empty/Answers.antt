use Rattle.std.proofs.Common.{◌≡◌, ℕ, inl, inr, List, arith, sym, subst}
use Rattle.std.proofs.lemmas.Bool.{cases_lt}
use Rattle.std.specs.declared.vec.Vec.{Vec}
use Rattle.std.specs.declared.alloc.Global.{Global}
use Rattle.pg_ltl.specs.NormalForms.{NormalForm}
use Rattle.pg_ltl.specs.Mirrors.Nodes.{normals_of}
use Rattle.pg_means_look.specs.declared.pool.Pooled.{Pooled}
use Rattle.pg_means_look.specs.Mirrors.Tables.{truth_at}
use Rattle.pg_means_look.specs.Mirrors.Choices.{AreForms}
use Rattle.pg_means_look.specs.Mirrors.Views.{automaton_of, certificate_of, GoesAt}
use Rattle.pg_means_look.specs.Mirrors.Pools.{IsPool, AreNumbers}
use Rattle.pg_means_look.proofs.Forms.{are_forms}
use Rattle.pg_means_look.proofs.look.shows_empty.Goals as goal

pub loop-letter-preserved : goal.loop-letter-preserved
loop-letter-preserved g c =
    let on = λ (p : ℕ). truth_at c.args.automaton.now.truths.items p c.loop-letter.letter in
    let new = c.numbers_at.new.pool.lists.items in
    let numbers = c.in_ok-numbers.numbers.items in
    let letter = c.loop-letter.letter in
    let next = λ (forms : List NormalForm) (are : AreForms c.args.nodes.now forms).
    subst (λ (sets : List (Vec ℕ Global)). IsPool forms new × AreNumbers on forms sets new numbers)
    c.deref-in-loop-letter.ensures.value (c.in_ok-numbers.ensures forms are (c.loop-letter.invariant.pool forms are)) in
    record {
      pool = λ forms are. (next forms are).0;
      goes = λ forms are l v lt below. elim (cases_lt l letter) [
        | inl less ↦ c.loop-letter.invariant.goes forms are l v less below
        | inr ge ↦
            let at : letter ≡ l = omega arith in
            let sets = c.args.certificate.now.sets.items in
            let lists = subst (λ (ls : List Pooled). AreNumbers on forms sets ls numbers) (sym c.deref-in-loop-letter-2.ensures.value)
            (next forms are).1 in
            subst (λ (n : ℕ). GoesAt (automaton_of c.args.automaton.now) (certificate_of forms c.args.certificate.now) c.args.parity v n) at
            (c.if-not-goes_from_each.ensures forms
            (subst (AreNumbers on forms sets c.deref-in-loop-letter-2.result.now) (sym c.deref-in-loop-letter-3.ensures.value) lists) v below)
      ];
    }

pub returns : goal.returns
returns g c =
    let forms = normals_of c.args.nodes.now in
    let starts = c.if-not-starts.ensures forms in
    record {
      start = 0;
      below = starts.some;
      state = starts.state;
      fewer = starts.fewer;
      goes = λ v l below inside.
          c.loop-letter.invariant.goes forms (are_forms c.args.nodes.now c.requires.ordered) l v (omega arith) below;
    }
