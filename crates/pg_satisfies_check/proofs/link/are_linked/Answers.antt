use Rattle.std.proofs.Common.{◌≡◌, Option, Bool, Some, false, List, length, replicate, refl, arith, ap, below_more, ◌∙◌}
use Rattle.pg_means_look.specs.Mirrors.Tables.{row_at}
use Rattle.pg_means_look.specs.Mirrors.Places.{behind}
use Rattle.pg_satisfies_check.specs.Mirrors.Lassos.{IsLink, off}
use Rattle.pg_satisfies_check.proofs.Stepping.{of_true}
use Rattle.pg_satisfies_check.proofs.Linking.{link_at}
use Rattle.pg_satisfies_check.proofs.link.are_linked.Goals as goal

pub loop-place-preserved : goal.loop-place-preserved
loop-place-preserved c =
    let s = c.args.system.now in
    let inputs = c.args.inputs.now in
    let letters = c.args.letters.now in
    let rows = c.args.rows.now in
    let place = c.loop-place.place in
    let next = behind (length rows) c.args.back place in
    let letter = c.letter_at-letter-in-loop-place.result.now in
    let values = c.row_at-values.result.now in
    let row = c.row_at-row.result.now in
    below_more _ _ c.loop-place.invariant
    (link_at s inputs letter (row_at letters next) values (row_at rows place) row (row_at rows next)
    (c.letter_at-letter-in-loop-place.ensures ∙ ap (row_at letters) c.behind-next.ensures) c.row_at-values.ensures
    (c.row_at-row.ensures ∙ ap (row_at rows) c.behind-next.ensures)
    (of_true c.in_ok-is_link-2.field-0 (IsLink s inputs letter values row) c.in_ok-is_link-2.ensures c.if-not-branch-2.false))

pub returns : goal.returns
returns c =
    let s = c.args.system.now in
    let inputs = c.args.inputs.now in
    let letters = c.args.letters.now in
    let rows = c.args.rows.now in
    let letter = c.letter_at-letter.result.now in
    let values = c.deref.result.now in
    let row = c.row_at.result.now in
    let count : c.len.result ≡ length s.latches.items = omega (arith, c.len.ensures, s.latches.ok.0) in
    let all : values ≡ off s =
    c.deref.ensures.value ∙ c.in_ok-off.ensures ∙ ap (λ n. replicate {A = Option Bool} n (Some false)) count in
    record {
      first = link_at s inputs letter (row_at letters 0) values (off s) row (row_at rows 0) c.letter_at-letter.ensures all c.row_at.ensures
          (of_true c.in_ok-is_link.field-0 (IsLink s inputs letter values row) c.in_ok-is_link.ensures c.if-not-branch.false);
      later = λ i lt. c.loop-place.invariant i (omega arith);
    }
