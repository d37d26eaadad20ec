-- The text of a world, part by part.
use Rattle.pg_cli_command.proofs.Common.{◌≡◌, ℕ, ◌+◌, ◌<◌, ◌≤◌, List, [], ◌∷◌, ◌++◌, length, map, take, get_or, Option, sym, ap, ap₂, subst}
use Rattle.pg_cli_command.proofs.Common.{◌∙◌, arith, append-nil, All, codes, decimal, take_more, take_all, get_or-map, length-map}
use Rattle.pg_cli_command.proofs.Common.{flat_map-append, length-enumerate_from, get_or-enumerate_from, flat_map, enumerate_from, Appends}
use Rattle.pg_cli_command.proofs.Common.{GameVertex, identifier, MeasureValue, Update, UpdateValue, update_value, measure_line, update_line}
use Rattle.pg_cli_command.proofs.Writing.{appends_then}

-- when the texts of the first i elements were written, and then that of element i
pub text_more : {X : Type 0} (text : X → List ℕ) (xs : List X) (i : ℕ) (x d : X) (a b c : Option (List ℕ)) → i < length xs → get_or xs i d ≡ x
    → Appends a b (flat_map text (take i xs)) → Appends b c (text x) → Appends a c (flat_map text (take (i + 1) xs))
text_more text xs i x d a b c lt here before this =
    let more : flat_map text (take (i + 1) xs) ≡ flat_map text (take i xs) ++ text x =
    ap (flat_map text) (take_more xs i d lt) ∙ flat_map-append text (take i xs) (get_or xs i d ∷ [])
    ∙ ap (λ l. flat_map text (take i xs) ++ l) (append-nil (text (get_or xs i d)) ∙ ap text here) in
    subst (λ (l : List ℕ). Appends a c l) (sym more) (appends_then a b c (flat_map text (take i xs)) (text x) before this)

-- when those of all elements were written
pub text_all : {X : Type 0} (text : X → List ℕ) (xs : List X) (i : ℕ) (a b : Option (List ℕ)) → length xs ≤ i
    → Appends a b (flat_map text (take i xs)) → Appends a b (flat_map text xs)
text_all text xs i a b le h = subst (λ (l : List _). Appends a b (flat_map text l)) (take_all i xs le) h

-- the same for elements with their places
pub placed_more : {X : Type 0} (text : ℕ × X → List ℕ) (xs : List X) (i : ℕ) (x d : X) (a b c : Option (List ℕ)) → i < length xs → get_or xs i d ≡ x
    → Appends a b (flat_map text (take i (enumerate_from 0 xs))) → Appends b c (text (i, x)) → Appends a c (flat_map text (take (i + 1) (enumerate_from 0 xs)))
placed_more text xs i x d a b c lt here before this =
    text_more text (enumerate_from 0 xs) i (i, x) (0, d) a b c (omega (arith, length-enumerate_from 0 xs))
    (get_or-enumerate_from 0 xs i (0, d) lt ∙ ap₂ (λ k y. (k, y)) (omega arith) here) before this

pub placed_all : {X : Type 0} (text : ℕ × X → List ℕ) (xs : List X) (i : ℕ) (a b : Option (List ℕ)) → length xs ≤ i
    → Appends a b (flat_map text (take i (enumerate_from 0 xs))) → Appends a b (flat_map text (enumerate_from 0 xs))
placed_all text xs i a b le h = text_all text (enumerate_from 0 xs) i a b (omega (arith, length-enumerate_from 0 xs)) h

-- the update at a place, as a world has it
pub update_here : (items : List Update) (us : List UpdateValue) (i : ℕ) (u : Update) → map update_value items ≡ us → i < length items → u ≡ get_or items i u
    → get_or us i (update_value u) ≡ update_value u
update_here items us i u same lt is =
    ap (λ (l : List UpdateValue). get_or l i (update_value u)) (sym same) ∙ get_or-map update_value items i u (update_value u) lt ∙ ap update_value (sym is)

pub vertex_within : (game seen : List GameVertex) (items : List Update) (us : List UpdateValue) (i : ℕ) (u : Update)
    → seen ≡ game → map update_value items ≡ us → i < length items → u ≡ get_or items i u → All (λ x. x.vertex < length game) us → u.vertex < length seen
vertex_within game seen items us i u see same lt is within =
    let inside : i < length us = subst (λ (l : List UpdateValue). i < length l) same (omega (arith, length-map items update_value)) in
    let here : u.vertex < length game =
    subst (λ (x : UpdateValue). x.vertex < length game) (update_here items us i u same lt is) (within i (update_value u) inside) in
    subst (λ (g : List GameVertex). u.vertex < length g) (sym see) here

-- when the lines of the first i updates were written, and then that of update i
pub update_more : (game seen : List GameVertex) (items : List Update) (us : List UpdateValue) (i n : ℕ) (u : Update) (m : MeasureValue)
    (a b b1 b2 b3 b4 : Option (List ℕ)) → seen ≡ game → map update_value items ≡ us → i < length items → u ≡ get_or items i u → n ≡ identifier seen u.vertex
    → m ≡ u.measure.value → Appends a b (flat_map (λ x. update_line game x.0 x.1) (take i (enumerate_from 0 us)))
    → Appends b b1 (codes "update ") → Appends b1 b2 (decimal i) → Appends b2 b3 (codes " ") → Appends b3 b4 (measure_line n m)
    → Appends a b4 (flat_map (λ x. update_line game x.0 x.1) (take (i + 1) (enumerate_from 0 us)))
update_more game seen items us i n u m a b b1 b2 b3 b4 see same lt is is_n is_m before head place blank line =
    let inside : i < length us = subst (λ (l : List UpdateValue). i < length l) same (omega (arith, length-map items update_value)) in
    let named : n ≡ identifier game u.vertex = is_n ∙ ap (λ (g : List GameVertex). identifier g u.vertex) see in
    let text : measure_line n m ≡ measure_line (identifier game u.vertex) u.measure.value = ap₂ measure_line named is_m in
    let last : Appends b3 b4 (measure_line (identifier game u.vertex) u.measure.value) = subst (λ (l : List ℕ). Appends b3 b4 l) text line in
    let whole : Appends b b4 (update_line game i (update_value u)) =
    appends_then b b1 b4 (codes "update ") _ head (appends_then b1 b2 b4 (decimal i) _ place (appends_then b2 b3 b4 (codes " ") _ blank last)) in
    placed_more (λ x. update_line game x.0 x.1) us i (update_value u) (update_value u) a b b4 inside (update_here items us i u same lt is) before whole
