use Rattle.pg_text.proofs.Common.{ℕ, List, ◌++◌, Option, Result, Ok, Err, OnOk, codes, decimal, ap, subst, append_assoc, Appends}
use Rattle.pg_text.proofs.Common.{Appends-trans, GameVertex, line_of, player_number, name_text, line_text, identifiers_text}
use Rattle.pg_text.proofs.Printing.{successors_within}
use Rattle.pg_text.proofs.layout.write_line.Goals as goal

-- the owner's number between two spaces, and what follows
between : (a b c : Option (List ℕ)) (number after : List ℕ) → Appends a b (codes " " ++ (number ++ codes " ")) → Appends b c after
    → Appends a c (codes " " ++ (number ++ (codes " " ++ after)))
between a b c number after h k =
    subst (Appends a c) (ap (λ (l : List ℕ). codes " " ++ l) (append_assoc number (codes " ") after)) (Appends-trans a b c _ _ h k)

-- the parts of a line are a line
written : (a b c d e f g h : Option (List ℕ)) (game : List GameVertex) (x : GameVertex)
    → Appends a b (decimal x.identifier) → Appends b c (codes " ") → Appends c d (decimal x.priority)
    → Appends d e (codes " " ++ (decimal (player_number x.owner) ++ codes " ")) → Appends e f (identifiers_text game x.successors)
    → Appends f g (name_text x.name) → Appends g h (codes ";\n") → Appends a h (line_text (line_of game x))
written a b c d e f g h game x identifier space priority owner successors name closing =
    Appends-trans a b h _ _ identifier
    (Appends-trans b c h _ _ space
    (Appends-trans c d h _ _ priority
    (between d e h (decimal (player_number x.owner)) _ owner
    (Appends-trans e f h _ _ successors (Appends-trans f g h _ _ name closing)))))

-- what holds where the last part is written holds where all are
at_last : {A E P Q : Type 0} (r : Result A E) → (P → Q) → OnOk r P → OnOk r Q
at_last (Ok x) f p = f p
at_last (Err e) f p = p

pub write_identifiers-requires : goal.write_identifiers-requires
write_identifiers-requires g c = rw c.successors.ensures (successors_within c.args.game.now c.args.v c.requires.game)

pub returns : goal.returns
returns g c =
    at_last c.write_all-2.result
    (written (g.W.Write.contents c.args.out.now) (g.W.Write.contents c.write_number.new.out) (g.W.Write.contents c.write_all.new.self)
    (g.W.Write.contents c.write_number-2.new.out)
    (g.W.Write.contents c.write_owner.new.out) (g.W.Write.contents c.write_identifiers.new.out) (g.W.Write.contents c.write_name.new.out)
    (g.W.Write.contents c.write_all-2.new.self)
    c.args.game.now _
    (rw (← c.identifier.ensures) c.in_ok-write_number.ensures) c.in_ok-write_all.ensures.bytes (rw (← c.priority.ensures) c.in_ok-write_number-2.ensures)
    (rw (← c.owner.ensures) c.in_ok-write_owner.ensures) (rw (← c.successors.ensures) c.in_ok-write_identifiers.ensures)
    (rw (← c.name.ensures) c.in_ok-write_name.ensures))
    c.write_all-2.ensures.bytes
