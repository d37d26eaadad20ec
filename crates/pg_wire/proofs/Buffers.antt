-- Buffers to which bytes are appended.
use Rattle.pg_wire.proofs.Common.{◌≡◌, ℕ, ◌+◌, ◌<◌, List, ◌++◌, length, take, get_or, append_assoc, refl, sym, ap, ◌∙◌, arith, take_at}
use Rattle.pg_wire.proofs.Common.{take_more, take-take, length-append, flat_map, word, Extends}
use Rattle.pg_wire.proofs.Append.{spelled_behind}

pub extends_by : (a b x : List ℕ) → b ≡ a ++ x → Extends a b
extends_by a b x e = ap (take (length a)) e ∙ take_at a x (length a) refl

pub extends_then : (a b c x : List ℕ) → b ≡ a ++ x → Extends b c → Extends a c
extends_then a b c x e h =
    sym (take-take (length a) (length b) c (omega (arith, ap length e, length-append a x)))
    ∙ ap (take (length a)) h ∙ extends_by a b x e

-- one number more at the end of a buffer
pub one_word : (ns before now after : List ℕ) (i : ℕ) → i < length ns → now ≡ before ++ flat_map word (take i ns) → after ≡ now ++ word (get_or ns i 0)
    → after ≡ before ++ flat_map word (take (i + 1) ns)
one_word ns before now after i lt e f =
    let n = get_or ns i 0 in
    let spelt : flat_map word (take (i + 1) ns) ≡ flat_map word (take i ns) ++ word n = ap (flat_map word) (take_more ns i 0 lt) ∙ spelled_behind word (take i ns) n in
    f ∙ ap (λ (t : List ℕ). t ++ word n) e ∙ append_assoc before (flat_map word (take i ns)) (word n) ∙ ap (λ (t : List ℕ). before ++ t) (sym spelt)
