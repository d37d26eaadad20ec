use Rattle.std.proofs.Common.{◌<◌, length, arith, ap, sym, ◌∙◌}
use Rattle.std.proofs.lemmas.List.{length_push}
use Rattle.pg_ltl.specs.NormalForms.{Holds}
use Rattle.pg_ltl.specs.Mirrors.Nodes.{normal_at, normals_of, normal_in}
use Rattle.pg_means_look.specs.Mirrors.Tables.{row_at}
use Rattle.pg_means_look.specs.Mirrors.Choices.{part}
use Rattle.pg_means_look.specs.Mirrors.Places.{word_of, value_at}
use Rattle.pg_means_look.proofs.Forms.{are_forms}
use Rattle.pg_means_look.proofs.Sound.{sound_push, on_true_at}
use Rattle.pg_means_look.proofs.values.holds_on.Goals as goal

pub loop-place-preserved : goal.loop-place-preserved
loop-place-preserved c =
    record {
      long = omega (arith, ap length c.in_ok-push.ensures.items, length_push c.loop-place.rows.items c.in_ok-values.values);
      sound = λ forms are.
          sound_push (length c.args.letters.now) c.args.back (word_of c.args.truths.now c.args.letters.now c.args.back) forms c.loop-place.rows.items
          (c.loop-place.invariant.sound forms are) c.deref.result.now c.push.new.self.items c.in_ok-values.values c.node_at-node.result
          c.deref.ensures.value c.in_ok-push.ensures.items (c.in_ok-values.ensures forms)
          (ap (part forms) c.loop-place.invariant.long ∙ are c.loop-place.place c.loop-place-test.true
          ∙ ap (normal_at forms) (sym c.node_at-node.ensures));
    }

pub returns : goal.returns
returns c =
    let root : c.args.root < length c.loop-place.rows.items = omega (arith, c.len.ensures, c.if-root-len.false, c.loop-place.rows.ok.0) in
    on_true_at c.value.result (value_at (row_at c.loop-place.rows.items c.args.root) 0)
    (Holds (word_of c.args.truths.now c.args.letters.now c.args.back) (normal_in c.args.nodes.now c.args.root) 0)
    (c.value.ensures ∙ ap (λ xs. value_at xs 0) c.row.ensures ∙ ap (λ rows. value_at (row_at rows c.args.root) 0) c.deref-2.ensures.value)
    (c.loop-place.invariant.sound (normals_of c.args.nodes.now) (are_forms c.args.nodes.now c.requires.ordered) c.args.root root 0)
