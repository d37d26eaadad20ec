-- What contracts see of a world whose parts were changed.
use Rattle.pg_world.proofs.Common.{◌≡◌, ℕ, ◌+◌, ◌<◌, List, [], ◌∷◌, ◌++◌, length, get_or, set, replicate, refl, ap, sym, ◌∙◌, arith, subst}
use Rattle.pg_world.proofs.Common.{map, All, Option, get_or-map, length-map, map-append, GameVertex, BoundList, zeros, Line, Update}
use Rattle.pg_world.proofs.Common.{CutValue, UpdateValue, update_value, update_at, WorldValue, new_world, taking, forgetting, making}
use Rattle.pg_world.proofs.Common.{viewed, IsMade}
use Rattle.pg_world.proofs.Noting.{Numbers, items}

abbrev seen : List GameVertex → BoundList → CutValue → List UpdateValue → List (List ℕ) → WorldValue
seen game bounds cut us ts = record { game = game; bounds = bounds; cut = cut; updates = us; taken = ts }

alike : (game : List GameVertex) (bounds : BoundList) (cut : CutValue) (us us' : List UpdateValue) (ts ts' : List (List ℕ)) → us ≡ us'
    → ts ≡ ts' → seen game bounds cut us ts ≡ seen game bounds cut us' ts'
alike game bounds cut us us' ts ts' e f = cc

noted : (ts t1 t2 : List (List ℕ)) (r n m : ℕ) → t1 ≡ ts → n ≡ m → t2 ≡ set t1 r (get_or t1 r [] ++ n ∷ []) → t2 ≡ set ts r (get_or ts r [] ++ m ∷ [])
noted ts t1 t2 r n m e f h = h ∙ (ap (λ (x : List (List ℕ)). set x r (get_or x r [] ++ n ∷ [])) e ∙ ap (λ (x : ℕ). set ts r (get_or ts r [] ++ x ∷ [])) f)

pub view_taken : (game : List GameVertex) (bounds : BoundList) (cut : CutValue) (us us' : List Update) (ts t1 t2 : List Numbers) (r n : ℕ)
    → us' ≡ us → map items t1 ≡ map items ts → map items t2 ≡ set (map items t1) r (get_or (map items t1) r [] ++ n ∷ [])
    → viewed game bounds cut us' t2 ≡ taking (viewed game bounds cut us ts) r n
view_taken game bounds cut us us' ts t1 t2 r n e f h = alike game bounds cut (map update_value us') (map update_value us) (map items t2)
    (set (map items ts) r (get_or (map items ts) r [] ++ n ∷ [])) (ap (λ (x : List Update). map update_value x) e)
    (noted (map items ts) (map items t1) (map items t2) r n n f refl h)

pub view_made : (game : List GameVertex) (bounds : BoundList) (cut : CutValue) (us u1 u2 : List Update) (ts t1 t2 : List Numbers) (r n : ℕ) (u : Update)
    → u1 ≡ us → u2 ≡ u1 ++ u ∷ [] → n ≡ length u1 → map items t1 ≡ map items ts
    → map items t2 ≡ set (map items t1) r (get_or (map items t1) r [] ++ n ∷ [])
    → viewed game bounds cut u2 t2 ≡ making (viewed game bounds cut us ts) r (update_value u)
view_made game bounds cut us u1 u2 ts t1 t2 r n u e p l f h =
    alike game bounds cut (map update_value u2) (map update_value us ++ update_value u ∷ []) (map items t2)
    (set (map items ts) r (get_or (map items ts) r [] ++ length (map update_value us) ∷ []))
    (ap (λ (x : List Update). map update_value x) (p ∙ ap (λ (x : List Update). x ++ u ∷ []) e) ∙ map-append update_value us (u ∷ []))
    (noted (map items ts) (map items t1) (map items t2) r n (length (map update_value us)) f (l ∙ (ap length e ∙ sym (length-map us update_value))) h)

pub view_forgot : (game : List GameVertex) (bounds : BoundList) (cut : CutValue) (us : List Update) (ts t1 : List Numbers) (r : ℕ)
    → map items t1 ≡ set (map items ts) r [] → viewed game bounds cut us t1 ≡ forgetting (viewed game bounds cut us ts) r
view_forgot game bounds cut us ts t1 r h = alike game bounds cut (map update_value us) (map update_value us) (map items t1) (set (map items ts) r []) refl h

-- the update that stands at a place
pub update_is : (bs : BoundList) (us : List Update) (n : ℕ) (u d : Update) → n < length us → u ≡ get_or us n d
    → update_at bs (map update_value us) n ≡ update_value u
update_is bs us n u d l here = get_or-map update_value us n d (record { vertex = 0; measure = zeros bs }) l ∙ ap update_value (sym here)

-- the same, of a world
pub update_there : (w : WorldValue) (us : List Update) (n : ℕ) (u : Update) → w.updates ≡ map update_value us → n < length w.updates
    → u ≡ get_or us n u → update_at w.bounds w.updates n ≡ update_value u
update_there w us n u e l here =
    let within : n < length us = omega (arith, ap length e, length-map us update_value) in
    ap (λ (x : List UpdateValue). update_at w.bounds x n) e ∙ update_is w.bounds us n u u within here

-- the updates that were made are of vertices of the game
pub vertices_within : (bs : BoundList) (lines : ℕ → Option Line) (n : ℕ) (us : List Update) → All (IsMade bs lines n) (map update_value us)
    → All (λ u. u.vertex < n) us
vertices_within bs lines n us made = λ k d l.
    let below : k < length (map update_value us) = omega (arith, length-map us update_value) in
    let here : IsMade bs lines n (update_value (get_or us k d)) =
    subst (IsMade bs lines n) (get_or-map update_value us k d (update_value d) l) (made k (update_value d) below) in
    here.within

pub view_new : (game : List GameVertex) (bounds : BoundList) (cut : CutValue) (us : List Update) (ts : List Numbers) (m : ℕ) → us ≡ []
    → map items ts ≡ replicate m [] → m ≡ 1 + cut.workers → viewed game bounds cut us ts ≡ new_world game bounds cut
view_new game bounds cut us ts m e f same = alike game bounds cut (map update_value us) [] (map items ts) (replicate (1 + cut.workers) [])
    (ap (λ (x : List Update). map update_value x) e) (f ∙ ap (λ (n : ℕ). replicate n []) same)
