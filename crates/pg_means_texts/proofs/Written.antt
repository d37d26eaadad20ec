-- The names at a letter, written one after another.
use Rattle.std.proofs.Common.{◌≡◌, ℕ, suc, ◌+◌, ◌/◌, ◌%◌, ◌==◌, ◌<◌, ◌≤◌, Bool, true, false, List, [], ◌∷◌, ◌++◌, length, get_or, map, take, drop, ◌-◌, Option, Result, Ok, Err, OnOk}
use Rattle.std.proofs.Common.{arith, refl, sym, ap, subst, ◌∙◌, append_assoc, append-nil, drop-cons, inl, inr, if◌then◌else◌}
use Rattle.std.specs.List.{flat_map}
use Rattle.std.specs.Io.KnownBytes.{Appends}
use Rattle.std.specs.declared.vec.Vec.{Vec}
use Rattle.std.specs.declared.alloc.Global.{Global}
use Rattle.std.proofs.KnownBytes.{Appends-nil, Appends-trans}
use Rattle.std.proofs.lemmas.Bool.{cases_Bool}
use Rattle.std.proofs.lemmas.List.{length-map, length-drop, get_or-map, drop_all, drop-map, take_all}
use Rattle.pg_means_texts.specs.Printing.{holding, spaced}

abbrev pub texts : List (Vec ℕ Global) → List (List ℕ)
texts names = map (λ v. v.items) names

-- each name behind a blank
abbrev pub more : List (List ℕ) → ℕ → List ℕ
more names letter = flat_map (λ name. 32 ∷ name) (holding names letter)

abbrev pub marked : ℕ → List ℕ → List ℕ
marked letter name = if letter % 2 == 1 then 32 ∷ name else []

-- what was written and what is left are all
abbrev pub Leaves : Option (List ℕ) → Option (List ℕ) → List ℕ → List ℕ → Type 0
Leaves old now left all = (bs : List ℕ) × Appends old now bs × (bs ++ left ≡ all)

more_step : (name : List ℕ) (names : List (List ℕ)) (letter : ℕ) → more (name ∷ names) letter ≡ marked letter name ++ more names (letter / 2)
more_step name names letter = elim (cases_Bool (letter % 2 == 1)) [
  | inl t ↦ rw t refl
  | inr f ↦ rw f refl
]

pub text_there : (names : List (Vec ℕ Global)) (place : ℕ) (v : Vec ℕ Global) → place < length names → v ≡ get_or names place v
    → drop place (texts names) ≡ v.items ∷ drop (place + 1) (texts names)
text_there names place v lt e =
    let l = length-map names (λ (v : Vec ℕ Global). v.items) in
    let one : suc place ≡ place + 1 = omega arith in
    drop-cons (texts names) place [] (omega (arith, lt, l))
    ∙ ap (λ (x : List ℕ). x ∷ drop (suc place) (texts names))
    (get_or-map (λ (v : Vec ℕ Global). v.items) names place v [] lt ∙ ap (λ (v : Vec ℕ Global). v.items) (sym e))
    ∙ ap (λ k. v.items ∷ drop k (texts names)) one

pub leaves_none : (old : Option (List ℕ)) (all : List ℕ) → Leaves old old all all
leaves_none old all = ([], Appends-nil old, refl)

pub leaves_less : (names : List (Vec ℕ Global)) (place rest : ℕ) (v : Vec ℕ Global) (old now new : Option (List ℕ)) (all : List ℕ)
    → place < length names → v ≡ get_or names place v → Leaves old now (more (drop place (texts names)) rest) all
    → Appends now new (marked rest v.items) → Leaves old new (more (drop (place + 1) (texts names)) (rest / 2)) all
leaves_less names place rest v old now new all lt e before wrote = (
  before.0 ++ marked rest v.items,
  Appends-trans old now new before.0 (marked rest v.items) before.1 wrote,
  append_assoc before.0 (marked rest v.items) (more (drop (place + 1) (texts names)) (rest / 2))
      ∙ ap (λ (l : List ℕ). before.0 ++ l)
      (sym (ap (λ (l : List (List ℕ)). more l rest) (text_there names place v lt e) ∙ more_step v.items (drop (place + 1) (texts names)) rest))
      ∙ before.2,
)

none_left : (names : List (Vec ℕ Global)) (place : ℕ) → length names ≤ place → drop place (texts names) ≡ []
none_left names place le = drop_all place (texts names) (omega (arith, length-map names (λ (v : Vec ℕ Global). v.items)))

pub leaves_all : (names : List (Vec ℕ Global)) (place rest : ℕ) (old new : Option (List ℕ)) (all : List ℕ) → length names ≤ place
    → Leaves old new (more (drop place (texts names)) rest) all → Appends old new all
leaves_all names place rest old new all le left =
    subst (Appends old new)
    (sym (append-nil left.0) ∙ ap (λ (l : List (List ℕ)). left.0 ++ more l rest) (sym (none_left names place le)) ∙ left.2) left.1

-- past a proposition that doesn't hold
pub holding_past : (names : List (List ℕ)) (place rest : ℕ) → place < length names → (rest % 2 == 1) ≡ false
    → holding (drop place names) rest ≡ holding (drop (place + 1) names) (rest / 2)
holding_past names place rest lt clear =
    let one : suc place ≡ place + 1 = omega arith in
    let name : List ℕ = get_or names place [] in
    let left : List (List ℕ) = drop (suc place) names in
    ap (λ (l : List (List ℕ)). holding l rest) (drop-cons names place [] lt)
    ∙ ap (λ (b : Bool). if b then name ∷ holding left (rest / 2) else holding left (rest / 2)) clear
    ∙ ap (λ (k : ℕ). holding (drop k names) (rest / 2)) one

-- the first one that holds, and then the others
spaced_there : (names : List (Vec ℕ Global)) (place rest : ℕ) (v : Vec ℕ Global) → place < length names → v ≡ get_or names place v
    → (rest % 2 == 1) ≡ true → spaced (holding (drop place (texts names)) rest) ≡ v.items ++ more (drop (place + 1) (texts names)) (rest / 2)
spaced_there names place rest v lt e marks =
    let left : List (List ℕ) = drop (place + 1) (texts names) in
    ap (λ (l : List (List ℕ)). spaced (holding l rest)) (text_there names place v lt e)
    ∙ ap (λ (b : Bool). spaced (if b then v.items ∷ holding left (rest / 2) else holding left (rest / 2))) marks

appends_last : {X E : Type 0} (result : Result X E) (a b c : Option (List ℕ)) (xs ys : List ℕ) → Appends a b xs → OnOk result (Appends b c ys)
    → OnOk result (Appends a c (xs ++ ys))
appends_last (Ok x) a b c xs ys h k = Appends-trans a b c xs ys h k
appends_last (Err e) a b c xs ys h k = tt

pub then_more : {X E : Type 0} (result : Result X E) (names : List (Vec ℕ Global)) (place rest letter : ℕ) (v : Vec ℕ Global)
    (old now mid new : Option (List ℕ)) (bytes : List ℕ) → place < length names → v ≡ get_or names place v → (rest % 2 == 1) ≡ true
    → now ≡ old → holding (texts names) letter ≡ holding (drop place (texts names)) rest → bytes ≡ v.items → Appends now mid bytes
    → OnOk result (Appends mid new (more (texts (take (length names - (place + 1)) (drop (place + 1) names))) (rest / 2)))
    → OnOk result (Appends old new (spaced (holding (texts names) letter)))
then_more result names place rest letter v old now mid new bytes lt e marks at so is wrote behind =
    let tail : List (Vec ℕ Global) = take (length names - (place + 1)) (drop (place + 1) names) in
    let whole : tail ≡ drop (place + 1) names =
    take_all (length names - (place + 1)) (drop (place + 1) names) (omega (arith, length-drop (place + 1) names)) in
    let left = drop-map (λ (v : Vec ℕ Global). v.items) (place + 1) names in
    let all : v.items ++ more (texts tail) (rest / 2) ≡ spaced (holding (texts names) letter) =
    ap (λ (l : List (Vec ℕ Global)). v.items ++ more (texts l) (rest / 2)) whole
    ∙ ap (λ (l : List (List ℕ)). v.items ++ more l (rest / 2)) (sym left)
    ∙ sym (ap spaced so ∙ spaced_there names place rest v lt e marks) in
    subst (λ (l : List ℕ). OnOk result (Appends old new l)) all
    (appends_last result old mid new v.items (more (texts tail) (rest / 2))
    (subst (λ (l : List ℕ). Appends old mid l) is (subst (λ (o : Option (List ℕ)). Appends o mid bytes) at wrote)) behind)

pub then_none : {X E : Type 0} (result : Result X E) (names : List (Vec ℕ Global)) (place rest letter : ℕ) (old now new : Option (List ℕ))
    → length names ≤ place → now ≡ old → holding (texts names) letter ≡ holding (drop place (texts names)) rest
    → OnOk result (Appends now new (45 ∷ [])) → OnOk result (Appends old new (spaced (holding (texts names) letter)))
then_none result names place rest letter old now new le at so wrote =
    let none : spaced (holding (texts names) letter) ≡ 45 ∷ [] =
    ap spaced so ∙ ap (λ (l : List (List ℕ)). spaced (holding l rest)) (none_left names place le) in
    subst (λ (l : List ℕ). OnOk result (Appends old new l)) (sym none)
    (subst (λ (o : Option (List ℕ)). OnOk result (Appends o new (45 ∷ []))) at wrote)
