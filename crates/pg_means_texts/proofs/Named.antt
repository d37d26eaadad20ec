-- The names of all propositions, one after another, and that each of the formula's is one of them.
use Rattle.std.proofs.Common.{◌≡◌, ◌∙◌, ℕ, suc, ◌+◌, ◌<◌, map, take, get_or, sym, Bool, true, false, List, [], ◌∷◌, ◌++◌, length, arith, ap, refl, inl, inr, if◌then◌else◌}
use Rattle.std.specs.Prelude.{nat_lt}
use Rattle.std.specs.List.{All}
use Rattle.std.specs.declared.vec.Vec.{Vec}
use Rattle.std.specs.declared.alloc.Global.{Global}
use Rattle.std.specs.Str.{bytes_eq}
use Rattle.std.proofs.lemmas.Bool.{cases_Bool}
use Rattle.std.proofs.lemmas.Bool.Decides.{nat_tests}
use Rattle.std.proofs.lemmas.List.{length-map, get_or-map, map-append, take_more}
use Rattle.std.proofs.lemmas.List.Elements.{All-nil, All-cons, All-map}
use Rattle.std.proofs.lemmas.List.Sums.{fold_more}
use Rattle.std.proofs.lemmas.Slice.Eq.{bytes_eq-Decides}
use Rattle.pg_ltl.specs.Texts.{number_of, with_name}
use Rattle.pg_means_texts.specs.Names.{all_names, places_of}

abbrev Known : List (List ℕ) → List ℕ → Type 0
Known names w = number_of w names < length names

-- more names behind
known_append : (w : List ℕ) (xs ys : List (List ℕ)) → Known xs w → Known (xs ++ ys) w
known_append w [] ys h = absurd (omega arith)
known_append w (x ∷ xs) ys h =
    elim (bytes_eq x w) as (λ b. (if b then 0 else suc (number_of w xs)) < suc (length xs)
    → (if b then 0 else suc (number_of w (xs ++ ys))) < suc (length (xs ++ ys))) [
      | true ↦ λ k. omega arith
      | false ↦ λ k. let more = known_append w xs ys (omega arith) in omega (arith, more)
    ] h

number_there : (w : List ℕ) → number_of w (w ∷ []) ≡ 0
number_there w = let same : bytes_eq w w ≡ true = (bytes_eq-Decides w w).1 refl in ap (λ (b : Bool). if b then 0 else suc (number_of w [])) same

known_last : (w : List ℕ) (xs : List (List ℕ)) → Known (xs ++ (w ∷ [])) w
known_last w [] = let n = number_there w in omega (arith, n)
known_last w (x ∷ xs) =
    let more = known_last w xs in
    elim (bytes_eq x w) as (λ b. (if b then 0 else suc (number_of w (xs ++ (w ∷ [])))) < suc (length (xs ++ (w ∷ [])))) [
      | true ↦ omega arith
      | false ↦ omega (arith, more)
    ]

known_with : (w : List ℕ) (names : List (List ℕ)) → Known (with_name w names) w
known_with w names = elim (cases_Bool (nat_lt (number_of w names) (length names))) [
  | inl t ↦ rw t (let lt : number_of w names < length names = grind (arith, nat_tests) in lt)
  | inr f ↦ rw f (known_last w names)
]

known_keep : (v w : List ℕ) (names : List (List ℕ)) → Known names v → Known (with_name w names) v
known_keep v w names h =
    elim (nat_lt (number_of w names) (length names)) as (λ b. Known (if b then names else names ++ (w ∷ [])) v) [
      | true ↦ h
      | false ↦ known_append v names (w ∷ []) h
    ]

known_still : (own names : List (List ℕ)) (w : List ℕ) → Known names w → Known (all_names names own) w
known_still [] names w h = h
known_still (o ∷ own) names w h = known_still own (with_name o names) w (known_keep w o names h)

each_known : (own names : List (List ℕ)) → All (λ w. Known (all_names names own) w) own
each_known [] names = All-nil (λ w. Known (all_names names []) w)
each_known (o ∷ own) names =
    All-cons (λ w. Known (all_names names (o ∷ own)) w) o own (known_still own (with_name o names) o (known_with o names))
    (each_known own (with_name o names))

pub places_below : (own names : List (List ℕ)) → All (λ p. p < length (all_names names own)) (places_of (all_names names own) own)
places_below own names =
    All-map (λ p. p < length (all_names names own)) (λ w. number_of w (all_names names own)) own (each_known own names)

abbrev texts : List (Vec ℕ Global) → List (List ℕ)
texts names = map (λ v. v.items) names

name_at : (own : List (Vec ℕ Global)) (i : ℕ) (v : Vec ℕ Global) → i < length own → v ≡ get_or own i v → get_or (texts own) i [] ≡ v.items
name_at own i v lt e =
    get_or-map (λ (v : Vec ℕ Global). v.items) own i v [] lt ∙ ap (λ (v : Vec ℕ Global). v.items) (sym e)

pub names_more : (propositions : List (List ℕ)) (own : List (Vec ℕ Global)) (i : ℕ) (v : Vec ℕ Global) → i < length own → v ≡ get_or own i v
    → all_names propositions (take (i + 1) (texts own)) ≡ with_name v.items (all_names propositions (take i (texts own)))
names_more propositions own i v lt e =
    let l = length-map own (λ (v : Vec ℕ Global). v.items) in
    fold_more (λ (names : List (List ℕ)) (name : List ℕ). with_name name names) propositions (texts own) i [] (omega (arith, lt, l))
    ∙ ap (λ (w : List ℕ). with_name w (all_names propositions (take i (texts own)))) (name_at own i v lt e)

pub places_more : (names : List (List ℕ)) (own : List (Vec ℕ Global)) (i : ℕ) (v : Vec ℕ Global) → i < length own → v ≡ get_or own i v
    → places_of names (take (i + 1) (texts own)) ≡ places_of names (take i (texts own)) ++ (number_of v.items names ∷ [])
places_more names own i v lt e =
    let l = length-map own (λ (v : Vec ℕ Global). v.items) in
    ap (λ (ws : List (List ℕ)). places_of names ws) (take_more (texts own) i [] (omega (arith, lt, l)))
    ∙ map-append (λ (w : List ℕ). number_of w names) (take i (texts own)) (get_or (texts own) i [] ∷ [])
    ∙ ap (λ (w : List ℕ). places_of names (take i (texts own)) ++ (number_of w names ∷ [])) (name_at own i v lt e)
