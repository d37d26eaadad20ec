use Rattle.pg_text.proofs.Common.{ap, sym, refl, ◌∙◌, inl, inr, lexeme, is_seen}
use Rattle.pg_text.proofs.Parts.{natural_takes}
use Rattle.pg_text.proofs.Takes.{owner_takes}
use Rattle.pg_text.proofs.Answering.{unmarked_here, unmarked_nowhere}
use Rattle.pg_text.proofs.Misfits.{starts_line, well_numberless, well_cut, well_here, moves_unwon, moves_unnamed, moves_named, unread_number, not_both}
use Rattle.pg_text.proofs.solution_text.early_misfit.Goals as goal

pub returns-in_default-clause-none : goal.returns-in_default-clause-none
returns-in_default-clause-none c =
    well_numberless c.args.game.now c.args.seen.now c.args.bytes.now (unread_number c.args.bytes.now _ c.in_default.ensures)

pub returns-in_default-next_token-clause-none : goal.returns-in_default-next_token-clause-none
returns-in_default-next_token-clause-none c =
    well_cut c.args.game.now c.args.seen.now c.args.bytes.now c.in-Ok.identifier c.in-Ok.rest.now c.in-Ok.ensures
    (λ token rest b. c.in_default-next_token.ensures.only token rest b)

pub returns-in_default-vertex_of-clause-misfit : goal.returns-in_default-vertex_of-clause-misfit
returns-in_default-vertex_of-clause-misfit c =
    let first = natural_takes c.args.bytes.now (c.in-Ok.identifier, c.in-Ok.rest.now) c.in-Ok.ensures in
    let starts = starts_line c.args.bytes.now c.in-Ok.identifier c.in-Ok.rest.now (lexeme c.in-Ok-next_token.field-0.0) c.in-Ok-next_token.field-0.1.now
    first c.in-Ok-next_token.ensures.spelt in
    (inl (starts, c.in_default-vertex_of.ensures.missing), unmarked_nowhere c.args.game.now c.in-Ok.identifier c.args.seen.now c.in_default-vertex_of.ensures.missing)

pub returns-then-seen-v-clause-misfit : goal.returns-then-seen-v-clause-misfit
returns-then-seen-v-clause-misfit c =
    let first = natural_takes c.args.bytes.now (c.in-Ok.identifier, c.in-Ok.rest.now) c.in-Ok.ensures in
    let starts = starts_line c.args.bytes.now c.in-Ok.identifier c.in-Ok.rest.now (lexeme c.in-Ok-next_token.field-0.0) c.in-Ok-next_token.field-0.1.now
    first c.in-Ok-next_token.ensures.spelt in
    let marked = ap (is_seen c.args.seen.now) (sym c.v.view_is) ∙ c.if-seen-v.true in
    (starts, record { v = c.in-Some.v; within = c.in-Some.ensures.found.0; named = sym c.in-Some.ensures.found.1; marked = marked })

pub returns-in_default-player-clause-none : goal.returns-in_default-player-clause-none
returns-in_default-player-clause-none c =
    well_here c.args.game.now c.args.seen.now c.args.bytes.now c.in-Ok.identifier c.in-Ok.rest.now c.in-Some.v c.requires.game c.in-Ok.ensures
    c.in-Some.ensures.found (ap (is_seen c.args.seen.now) (sym c.v.view_is) ∙ c.if-seen-v.false)
    (moves_unwon c.args.game.now c.in-Some.v c.in-Ok.rest.now _ c.in_default-player.ensures)

pub returns-in_default-natural-clause-none : goal.returns-in_default-natural-clause-none
returns-in_default-natural-clause-none c =
    well_here c.args.game.now c.args.seen.now c.args.bytes.now c.in-Ok.identifier c.in-Ok.rest.now c.in-Some.v c.requires.game c.in-Ok.ensures
    c.in-Some.ensures.found (ap (is_seen c.args.seen.now) (sym c.v.view_is) ∙ c.if-seen-v.false)
    (moves_unnamed c.args.game.now c.in-Some.v c.in-Ok.rest.now c.in-Ok-player.winner c.in-Ok-player.rest.now c.in-Ok-player.ensures
    (unread_number c.in-Ok-player.rest.now _ c.in_default-natural.ensures))

pub returns-in-None-clause-misfit : goal.returns-in-None-clause-misfit
returns-in-None-clause-misfit c =
    let first = natural_takes c.args.bytes.now (c.in-Ok.identifier, c.in-Ok.rest.now) c.in-Ok.ensures in
    let won = owner_takes c.in-Ok.rest.now (c.in-Ok-player.winner, c.in-Ok-player.rest.now) c.in-Ok-player.ensures in
    let third = natural_takes c.in-Ok-player.rest.now (c.in-Ok-natural.wanted, c.in-Ok-natural.field-0-1.now) c.in-Ok-natural.ensures in (
      inr (record {
        winner = c.in-Ok-player.winner;
        strategy = c.in-Ok-natural.wanted;
        rest = c.in-Ok-natural.field-0-1.now;
        stands = (c.in-Ok.rest.now, first, (c.in-Ok-player.rest.now, won, (c.in-Ok-natural.field-0-1.now, third, refl)));
        v = c.in-Some.v;
        within = c.in-Some.ensures.found.0;
        named = sym c.in-Some.ensures.found.1;
        owned = sym c.is_owned.ensures ∙ c.if-is_owned.true;
        absent = c.in-None.ensures.absent;
      }),
      unmarked_here c.args.game.now c.in-Ok.identifier c.in-Some.v c.args.seen.now c.requires.game c.in-Some.ensures.found.0
          (sym c.in-Some.ensures.found.1) (ap (is_seen c.args.seen.now) (sym c.v.view_is) ∙ c.if-seen-v.false),
    )

pub returns-in_default-successor-clause-none : goal.returns-in_default-successor-clause-none
returns-in_default-successor-clause-none c =
    well_here c.args.game.now c.args.seen.now c.args.bytes.now c.in-Ok.identifier c.in-Ok.rest.now c.in-Some.v c.requires.game c.in-Ok.ensures
    c.in-Some.ensures.found (ap (is_seen c.args.seen.now) (sym c.v.view_is) ∙ c.if-seen-v.false)
    (moves_named c.args.game.now c.in-Some.v c.in-Ok.rest.now c.in-Ok-player.winner c.in-Ok-player.rest.now c.in-Ok-natural.wanted c.in-Ok-natural.field-0-1.now
    c.in-Ok-player.ensures c.in-Ok-natural.ensures (λ owned absent. not_both c.is_owned.result (c.is_owned.ensures ∙ owned) c.if-is_owned.false))

pub returns-in_default-successor-2-clause-none : goal.returns-in_default-successor-2-clause-none
returns-in_default-successor-2-clause-none c =
    let found = rw c.in_default-successor.is at c.successor.ensures.found in
    well_here c.args.game.now c.args.seen.now c.args.bytes.now c.in-Ok.identifier c.in-Ok.rest.now c.in-Some.v c.requires.game c.in-Ok.ensures
    c.in-Some.ensures.found (ap (is_seen c.args.seen.now) (sym c.v.view_is) ∙ c.if-seen-v.false)
    (moves_named c.args.game.now c.in-Some.v c.in-Ok.rest.now c.in-Ok-player.winner c.in-Ok-player.rest.now c.in-Ok-natural.wanted c.in-Ok-natural.field-0-1.now
    c.in-Ok-player.ensures c.in-Ok-natural.ensures (λ owned absent. absent c.in_default-successor.field-0 found.0 found.1))
