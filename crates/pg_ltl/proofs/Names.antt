-- The number of a name.
use Rattle.std.proofs.Common.{◌≡◌, ℕ, suc, ◌+◌, ◌<◌, Bool, true, false, List, [], ◌∷◌, length, get_or, map, drop, sym, ap, ◌∙◌, arith, drop-cons, if◌then◌else◌}
use Rattle.std.specs.Str.{bytes_eq}
use Rattle.std.proofs.lemmas.List.{length-map, get_or-map}
use Rattle.std.specs.declared.vec.Vec.{Vec}
use Rattle.std.specs.declared.alloc.Global.{Global}
use Rattle.pg_ltl.specs.Texts.{number_of}

abbrev texts : List (Vec ℕ Global) → List (List ℕ)
texts names = map (λ v. v.items) names

text_there : (names : List (Vec ℕ Global)) (place : ℕ) (known : Vec ℕ Global) (text : List ℕ) → place < length names → known ≡ get_or names place known
    → text ≡ known.items → drop place (texts names) ≡ text ∷ drop (suc place) (texts names)
text_there names place known text lt e t =
    let l = length-map names (λ (v : Vec ℕ Global). v.items) in
    drop-cons (texts names) place [] (omega (arith, lt, l))
    ∙ ap (λ (x : List ℕ). x ∷ drop (suc place) (texts names))
    (get_or-map (λ (v : Vec ℕ Global). v.items) names place known [] lt ∙ ap (λ (v : Vec ℕ Global). v.items) (sym e) ∙ sym t)

-- where the name stands
pub number_there : (w : List ℕ) (names : List (Vec ℕ Global)) (place : ℕ) (known : Vec ℕ Global) (text : List ℕ) → place < length names
    → known ≡ get_or names place known → text ≡ known.items → bytes_eq text w ≡ true → place ≡ place + number_of w (drop place (texts names))
number_there w names place known text lt e t same =
    let n : number_of w (drop place (texts names)) ≡ 0 = ap (number_of w) (text_there names place known text lt e t)
    ∙ ap (λ (b : Bool). if b then 0 else suc (number_of w (drop (suc place) (texts names)))) same in
    omega (arith, n)

-- past another name
pub number_past : (w : List ℕ) (names : List (Vec ℕ Global)) (place : ℕ) (known : Vec ℕ Global) (text : List ℕ) → place < length names
    → known ≡ get_or names place known → text ≡ known.items → bytes_eq text w ≡ false
    → (place + 1) + number_of w (drop (place + 1) (texts names)) ≡ place + number_of w (drop place (texts names))
number_past w names place known text lt e t other =
    let n : number_of w (drop place (texts names)) ≡ suc (number_of w (drop (suc place) (texts names))) =
    ap (number_of w) (text_there names place known text lt e t)
    ∙ ap (λ (b : Bool). if b then 0 else suc (number_of w (drop (suc place) (texts names)))) other in
    let one : place + 1 ≡ suc place = omega arith in
    let m : number_of w (drop (place + 1) (texts names)) ≡ number_of w (drop (suc place) (texts names)) =
    ap (λ k. number_of w (drop k (texts names))) one in
    omega (arith, n, m)
