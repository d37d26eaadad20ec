-- Steps of the loops over choices.
use Rattle.std.proofs.Common.{◌≡◌, ℕ, ◌+◌, ◌<◌, ◌⊎◌, inl, inr, Bool, true, false, List, [], ◌∷◌, ◌++◌, map, length, get_or, take, arith, refl, sym, ap, subst, ◌∙◌}
use Rattle.std.specs.Prelude.{All, Contains}
use Rattle.std.specs.Bool.{OnTrue}
use Rattle.std.specs.declared.vec.Vec.{Vec}
use Rattle.std.specs.declared.alloc.Global.{Global}
use Rattle.std.proofs.lemmas.Bool.{cases_lt}
use Rattle.std.proofs.lemmas.List.{map_push, map_more, map-append, get_or_append_left, get_or_push, get_or-map, length-map, length_push}
use Rattle.pg_ltl.specs.NormalForms.{NormalForm}
use Rattle.pg_ltl.specs.Tableaux.{Choice, Each, IsAmong, IsLeftOut, joined, with_each, product}
use Rattle.pg_means_look.specs.declared.choice.Choice as own
use Rattle.pg_means_look.specs.Mirrors.Choices.{parts, choice_of, choices_in, IsNoMore, AreCovered, Keeps}
use Rattle.pg_means_look.specs.Mirrors.Tables.{row_at}
use Rattle.pg_means_look.proofs.Covering.{within_parts, union_parts, left_out_at, left_out_more, keeps_push, left_out_last, covered_keep, each_with_push, each_product_push}

pub no_more_by : (forms : List NormalForm) (c d : own.Choice) → All (Contains d.asks.items) c.asks.items → All (Contains d.puts.items) c.puts.items
    → IsNoMore (choice_of forms c) (choice_of forms d)
no_more_by forms c d h k = (within_parts forms c.asks.items d.asks.items h, within_parts forms c.puts.items d.puts.items k)

pub join_by : (forms : List NormalForm) (joint c d : own.Choice)
    → All (λ x. Contains c.asks.items x ⊎ Contains d.asks.items x) joint.asks.items
    → All (λ x. Contains c.puts.items x ⊎ Contains d.puts.items x) joint.puts.items
    → IsNoMore (choice_of forms joint) (joined (choice_of forms c) (choice_of forms d))
join_by forms joint c d h k =
    (union_parts forms c.asks.items d.asks.items joint.asks.items h, union_parts forms c.puts.items d.puts.items joint.puts.items k)

in_push : (forms : List NormalForm) (xs ys : List own.Choice) (c : own.Choice) → ys ≡ xs ++ c ∷ []
    → choices_in forms xs ++ choice_of forms c ∷ [] ≡ choices_in forms ys
in_push forms xs ys c e = sym (ap (choices_in forms) e ∙ map_push (choice_of forms) xs c)

pub pushed_covered : (forms : List NormalForm) (xs ys : List own.Choice) (c : own.Choice) → ys ≡ xs ++ c ∷ []
    → IsLeftOut (choice_of forms c) (choices_in forms ys)
pushed_covered forms xs ys c e =
    subst (IsLeftOut (choice_of forms c)) (in_push forms xs ys c e) (left_out_last (choices_in forms xs) (choice_of forms c))

pub pushed_keeps : (forms : List NormalForm) (xs ys : List own.Choice) (c : own.Choice) → ys ≡ xs ++ c ∷ []
    → Keeps (choices_in forms xs) (choices_in forms ys)
pushed_keeps forms xs ys c e =
    subst (Keeps (choices_in forms xs)) (in_push forms xs ys c e) (keeps_push (choices_in forms xs) (choice_of forms c))

read_more : (forms : List NormalForm) (list : List own.Choice) (i : ℕ) (x : own.Choice) → i < length list → x ≡ get_or list i x
    → choices_in forms (take (i + 1) list) ≡ choices_in forms (take i list) ++ choice_of forms x ∷ []
read_more forms list i x lt e =
    map_more (choice_of forms) list i x lt ∙ ap (λ (y : own.Choice). choices_in forms (take i list) ++ choice_of forms y ∷ []) (sym e)

-- one more of the others
pub each_more : (forms : List NormalForm) (old new : List Choice) (c joint : Choice) (others : List own.Choice) (i : ℕ) (x : own.Choice)
    → i < length others → x ≡ get_or others i x → AreCovered old (with_each c (choices_in forms (take i others))) → Keeps old new → IsLeftOut joint new
    → IsNoMore joint (joined c (choice_of forms x))
    → AreCovered new (with_each c (choices_in forms (take (i + 1) others)))
each_more forms old new c joint others i x lt e h keeps out less =
    subst (λ (ds : List Choice). AreCovered new (with_each c ds)) (sym (read_more forms others i x lt e))
    (each_with_push (λ y. IsLeftOut y new) c (choices_in forms (take i others)) (choice_of forms x)
    (covered_keep old new (with_each c (choices_in forms (take i others))) h keeps)
    (left_out_more new joint (joined c (choice_of forms x)) out less))

-- one more of the first
pub product_more : (forms : List NormalForm) (old new ds : List Choice) (first : List own.Choice) (i : ℕ) (x : own.Choice)
    → i < length first → x ≡ get_or first i x → AreCovered old (product (choices_in forms (take i first)) ds) → Keeps old new
    → AreCovered new (with_each (choice_of forms x) ds) → AreCovered new (product (choices_in forms (take (i + 1) first)) ds)
product_more forms old new ds first i x lt e h keeps w =
    subst (λ (cs : List Choice). AreCovered new (product cs ds)) (sym (read_more forms first i x lt e))
    (each_product_push (λ y. IsLeftOut y new) (choices_in forms (take i first)) ds (choice_of forms x)
    (covered_keep old new (product (choices_in forms (take i first)) ds) h keeps) w)

-- one more behind some
covered_push : (new cs : List Choice) (c : Choice) → AreCovered new cs → IsLeftOut c new → AreCovered new (cs ++ c ∷ [])
covered_push new [] c h out = (out, tt)
covered_push new (x ∷ xs) c h out = (h.0, covered_push new xs c h.1 out)

pub more_covered : (forms : List NormalForm) (old new : List Choice) (list : List own.Choice) (i : ℕ) (x copy : own.Choice) → i < length list
    → x ≡ get_or list i x
    → AreCovered old (choices_in forms (take i list)) → Keeps old new → choice_of forms copy ≡ choice_of forms x
    → IsLeftOut (choice_of forms copy) new → AreCovered new (choices_in forms (take (i + 1) list))
more_covered forms old new list i x copy lt e h keeps same out =
    subst (AreCovered new) (sym (read_more forms list i x lt e))
    (covered_push new (choices_in forms (take i list)) (choice_of forms x)
    (covered_keep old new (choices_in forms (take i list)) h keeps) (subst (λ (c : Choice). IsLeftOut c new) same out))

append_push : (cs ds : List Choice) (c : Choice) → (cs ++ ds) ++ c ∷ [] ≡ cs ++ (ds ++ c ∷ [])
append_push [] ds c = refl
append_push (x ∷ xs) ds c = ap (λ (ys : List Choice). x ∷ ys) (append_push xs ds c)

pub more_behind : (forms : List NormalForm) (old new cs : List Choice) (list : List own.Choice) (i : ℕ) (x copy : own.Choice) → i < length list
    → x ≡ get_or list i x
    → AreCovered old (cs ++ choices_in forms (take i list)) → Keeps old new → choice_of forms copy ≡ choice_of forms x
    → IsLeftOut (choice_of forms copy) new → AreCovered new (cs ++ choices_in forms (take (i + 1) list))
more_behind forms old new cs list i x copy lt e h keeps same out =
    subst (λ (ds : List Choice). AreCovered new (cs ++ ds)) (sym (read_more forms list i x lt e))
    (subst (AreCovered new) (append_push cs (choices_in forms (take i list)) (choice_of forms x))
    (covered_push new (cs ++ choices_in forms (take i list)) (choice_of forms x)
    (covered_keep old new (cs ++ choices_in forms (take i list)) h keeps) (subst (λ (c : Choice). IsLeftOut c new) same out)))

-- none yet behind the first
pub none_behind : (forms : List NormalForm) (kept cs : List Choice) → AreCovered kept cs → AreCovered kept (cs ++ [])
none_behind forms kept [] h = tt
none_behind forms kept (c ∷ cs) h = (h.0, none_behind forms kept cs h.1)

-- ---- what tests say

pub on_true_weaker : (b : Bool) (P Q : Type 0) → (P → Q) → OnTrue b P → OnTrue b Q
on_true_weaker true P Q f h = f h
on_true_weaker false P Q f h = tt

pub within_same : (few many few' many' : List ℕ) → few ≡ few' → many ≡ many' → All (Contains many) few → All (Contains many') few'
within_same few many few' many' e f h =
    subst (λ (xs : List ℕ). All (Contains many') xs) e (subst (λ (ys : List ℕ). All (Contains ys) few) f h)

pub union_at : (forms : List NormalForm) (a b a' b' u : List ℕ) → a ≡ a' → b ≡ b' → All (λ x. Contains a x ⊎ Contains b x) u
    → Each (IsAmong (parts forms a' ++ parts forms b')) (parts forms u)
union_at forms a b a' b' u e f h =
    subst (λ (xs : List ℕ). Each (IsAmong (parts forms xs ++ parts forms b')) (parts forms u)) e
    (subst (λ (ys : List ℕ). Each (IsAmong (parts forms a ++ parts forms ys)) (parts forms u)) f (union_parts forms a b u h))

pub left_out_read : (forms : List NormalForm) (list : List own.Choice) (c : Choice) (k : ℕ) (x : own.Choice) → k < length list
    → x ≡ get_or list k x → IsNoMore (choice_of forms x) c → IsLeftOut c (choices_in forms list)
left_out_read forms list c k x lt e h =
    left_out_at forms list c k x lt (subst (λ (y : own.Choice). IsNoMore (choice_of forms y) c) e h)

-- ---- rows

module _ {A : Type 0} (rows : List (Vec A Global)) where
  abbrev items : Vec A Global → List A
  items row = row.items

  pub row_left : (row : Vec A Global) (new : List (Vec A Global)) (k : ℕ) → new ≡ rows ++ row ∷ [] → k < length rows
      → row_at new k ≡ row_at rows k
  row_left row new k e lt =
      ap (λ (rs : List (Vec A Global)). row_at rs k) e
      ∙ ap (λ (xss : List (List A)). get_or xss k []) (map-append items rows (row ∷ []))
      ∙ get_or_append_left (map items rows) (row.items ∷ []) [] k (let l = length-map rows items in omega arith)

  pub row_last : (row : Vec A Global) (new : List (Vec A Global)) → new ≡ rows ++ row ∷ [] → row_at new (length rows) ≡ row.items
  row_last row new e =
      ap (λ (rs : List (Vec A Global)). row_at rs (length rows)) e
      ∙ ap (λ (xss : List (List A)). get_or xss (length rows) []) (map-append items rows (row ∷ []))
      ∙ get_or_push (map items rows) row.items [] (length rows) (length-map rows items)

  pub row_read : (row : Vec A Global) (k : ℕ) → k < length rows → row ≡ get_or rows k row → row_at rows k ≡ row.items
  row_read row k lt e = get_or-map items rows k row [] lt ∙ ap items (sym e)

  -- what is so of all rows before is so of all rows now
  pub rows_push : (P : ℕ → List A → Type 0) (row : Vec A Global) (new : List (Vec A Global)) → new ≡ rows ++ row ∷ []
      → ((k : ℕ) → k < length rows → P k (row_at rows k)) → P (length rows) row.items → (k : ℕ) → k < length new → P k (row_at new k)
  rows_push P row new e before last k lt = elim (cases_lt k (length rows)) [
    | inl less ↦ subst (P k) (sym (row_left row new k e less)) (before k less)
    | inr ge ↦
        let long : length new ≡ length rows + 1 = ap length e ∙ length_push rows row in
        let same : length rows ≡ k = omega arith in
        subst (λ n. P n (row_at new n)) same (subst (P (length rows)) (sym (row_last row new e)) last)
  ]
