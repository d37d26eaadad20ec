use Rattle.std.proofs.Common.{◌≡◌, length, refl, subst}
use Rattle.std.specs.Prelude.{All, Contains}
use Rattle.std.proofs.lemmas.List.Elements.{All-contains}
use Rattle.pg_aiger_netlist.proofs.Passing.{part_within, pass_more}
use Rattle.pg_aiger_netlist.proofs.order.place_rest.Goals as goal

pub place-requires : goal.place-requires
place-requires c =
    part_within (length c.args.known.now) (length c.args.known.now) c.args.waiting.now c.in_ok-proposal.proposal.items c.deref-2.result.now c.requires
    (λ g m. All-contains (Contains c.args.waiting.now) c.in_ok-proposal.proposal.items g c.in_ok-proposal.ensures m) c.deref-2.ensures.value refl

pub returns : goal.returns
returns c = λ old gates u.
    pass_more old gates c.args.known.now c.args.ordered.now.items c.args.waiting.now c.deref-2.result.now c.place.new.known c.place.new.ordered.items
    c.in_ok-_rest._rest.items u
    (λ g m. All-contains (Contains c.args.waiting.now) c.in_ok-proposal.proposal.items g c.in_ok-proposal.ensures
    (subst (λ gs. Contains gs g) c.deref-2.ensures.value m)) c.in_ok-_rest.ensures
