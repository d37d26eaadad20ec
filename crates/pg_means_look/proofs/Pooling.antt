-- Pools, as lists are added.
use Rattle.std.proofs.Common.{◌≡◌, ℕ, ◌+◌, ◌<◌, inl, inr, List, [], ◌∷◌, ◌++◌, length, get_or, map, arith, refl, sym, ap, subst, ◌∙◌}
use Rattle.std.specs.Prelude.{All}
use Rattle.std.specs.declared.vec.Vec.{Vec}
use Rattle.std.specs.declared.alloc.Global.{Global}
use Rattle.std.proofs.lemmas.Bool.{cases_lt}
use Rattle.std.proofs.lemmas.List.{map-append, get_or_append_left, get_or_push, get_or-map, length-map, length_push}
use Rattle.std.proofs.lemmas.List.Elements.{All-push}
use Rattle.pg_ltl.specs.NormalForms.{NormalForm}
use Rattle.pg_ltl.specs.Tableaux.{Choice, IsAmong, IsLeftOut, joined, with_each, product}
use Rattle.pg_ltl.proofs.Choosing.{each_map, each_append}
use Rattle.pg_means_look.specs.declared.choice.Choice as own
use Rattle.pg_means_look.specs.declared.pool.Origin.{Origin}
use Rattle.pg_means_look.specs.declared.pool.Origin.TheVariants.{Free, Nothing, Asked, PutOff, Product, Union}
use Rattle.pg_means_look.specs.declared.pool.Pooled.{Pooled}
use Rattle.pg_means_look.specs.Mirrors.Choices.{choices_in, AreCovered}
use Rattle.pg_means_look.specs.Mirrors.Pools.{list_at, made, IsWithin, IsMade, IsPool, IsAt, Stands, Grows, Has}
use Rattle.pg_means_look.proofs.Covering.{among_left, among_right, no_more_self, left_out_more, covered_product, covered_append}

-- ---- products ask for no less than each of their factors

module _ (kept : List Choice) where
  with_first : (c : Choice) (ds : List Choice) → IsLeftOut c kept → AreCovered kept (with_each c ds)
  with_first c [] out = tt
  with_first c (d ∷ ds) out = (
    left_out_more kept c (joined c d) out (
      each_map (IsAmong c.asks) (IsAmong (c.asks ++ d.asks)) c.asks (λ f i. among_left c.asks d.asks f i) (no_more_self c).0,
      each_map (IsAmong c.puts) (IsAmong (c.puts ++ d.puts)) c.puts (λ f i. among_left c.puts d.puts f i) (no_more_self c).1,
    ),
    with_first c ds out,
  )

  covered_first : (cs ds : List Choice) → AreCovered kept cs → AreCovered kept (product cs ds)
  covered_first [] ds h = tt
  covered_first (c ∷ cs) ds h =
      each_append (λ (x : Choice). IsLeftOut x kept) (with_each c ds) (product cs ds) (with_first c ds h.0) (covered_first cs ds h.1)

  with_second : (c : Choice) (ds : List Choice) → AreCovered kept ds → AreCovered kept (with_each c ds)
  with_second c [] h = tt
  with_second c (d ∷ ds) h = (
    left_out_more kept d (joined c d) h.0 (
      each_map (IsAmong d.asks) (IsAmong (c.asks ++ d.asks)) d.asks (λ f i. among_right c.asks d.asks f i) (no_more_self d).0,
      each_map (IsAmong d.puts) (IsAmong (c.puts ++ d.puts)) d.puts (λ f i. among_right c.puts d.puts f i) (no_more_self d).1,
    ),
    with_second c ds h.1,
  )

  covered_second : (cs ds : List Choice) → AreCovered kept ds → AreCovered kept (product cs ds)
  covered_second [] ds h = tt
  covered_second (c ∷ cs) ds h =
      each_append (λ (x : Choice). IsLeftOut x kept) (with_each c ds) (product cs ds) (with_second c ds h) (covered_second cs ds h)

-- ---- one list more

abbrev list_of : Pooled → List own.Choice
list_of x = x.list.items

list_left : (lists : List Pooled) (x : Pooled) (n : ℕ) → n < length lists → list_at (lists ++ x ∷ []) n ≡ list_at lists n
list_left lists x n lt =
    ap (λ (xss : List (List own.Choice)). get_or xss n []) (map-append list_of lists (x ∷ []))
    ∙ get_or_append_left (map list_of lists) (list_of x ∷ []) [] n (let l = length-map lists list_of in omega arith)

list_last : (lists : List Pooled) (x : Pooled) → list_at (lists ++ x ∷ []) (length lists) ≡ list_of x
list_last lists x =
    ap (λ (xss : List (List own.Choice)). get_or xss (length lists) []) (map-append list_of lists (x ∷ []))
    ∙ get_or_push (map list_of lists) (list_of x) [] (length lists) (length-map lists list_of)

pub grows_self : (lists : List Pooled) → Grows lists lists
grows_self lists = record { more = omega arith; same = λ n lt. refl }

grows_push : (lists : List Pooled) (x : Pooled) → Grows lists (lists ++ x ∷ [])
grows_push lists x = record {
  more = let l = length_push lists x in omega arith;
  same = λ n lt. list_left lists x n lt;
}

pub grows_on : {old mid new : List Pooled} → Grows old mid → Grows mid new → Grows old new
grows_on g h = record {
  more = let a = g.more in let b = h.more in omega arith;
  same = λ n lt. let a = g.more in h.same n (omega arith) ∙ g.same n lt;
}

-- ---- what stays

pub stands_on : {forms : List NormalForm} {old new : List Pooled} {all : List Choice} {n : ℕ} → Grows old new → Stands forms old all n
    → Stands forms new all n
stands_on {forms} {old} {new} {all} {n} g s = record {
  below = let a = g.more in let b = s.below in omega arith;
  covers = subst (λ (xs : List own.Choice). AreCovered (choices_in forms xs) all) (sym (g.same n s.below)) s.covers;
}

pub has_on : {forms : List NormalForm} {old mid new : List Pooled} {all : List Choice} {n : ℕ} → Grows old mid → Has forms mid new all n
    → Has forms old new all n
has_on g h = record { is = h.is; grows = grows_on g h.grows; stands = h.stands }

-- one number more
pub stands_push : {forms : List NormalForm} {old new : List Pooled} → Grows old new → (all : ℕ → List Choice) (numbers more : List ℕ) (n : ℕ)
    → ((k : ℕ) → k < length numbers → Stands forms old (all k) (get_or numbers k 0)) → more ≡ numbers ++ n ∷ []
    → Stands forms new (all (length numbers)) n → (k : ℕ) → k < length more → Stands forms new (all k) (get_or more k 0)
stands_push {forms} {old} {new} g all numbers more n before e last k lt = elim (cases_lt k (length numbers)) [
  | inl less ↦
      subst (Stands forms new (all k)) (sym (ap (λ (ns : List ℕ). get_or ns k 0) e ∙ get_or_append_left numbers (n ∷ []) 0 k less))
      (stands_on g (before k less))
  | inr ge ↦
      let long : length more ≡ length numbers + 1 = ap length e ∙ length_push numbers n in
      let same : length numbers ≡ k = omega arith in
      subst (λ i. Stands forms new (all i) (get_or more i 0)) same
      (subst (Stands forms new (all (length numbers)))
      (sym (ap (λ (ns : List ℕ). get_or ns (length numbers) 0) e ∙ get_or_push numbers n 0 (length numbers) refl)) last)
]

module _ (forms : List NormalForm) where
  module _ {old new : List Pooled} (g : Grows old new) where
    within_on : (o : Origin) → IsWithin (length old) o → IsWithin (length new) o
    within_on Free w = tt
    within_on Nothing w = tt
    within_on (Asked place) w = tt
    within_on (PutOff place) w = tt
    within_on (Product a b) w = let m = g.more in (omega (arith, w.0), omega (arith, w.1))
    within_on (Union a b) w = let m = g.more in (omega (arith, w.0), omega (arith, w.1))

    made_on : (o : Origin) → IsWithin (length old) o → made forms old o ≡ made forms new o
    made_on Free w = refl
    made_on Nothing w = refl
    made_on (Asked place) w = refl
    made_on (PutOff place) w = refl
    made_on (Product a b) w =
        ap (λ (xs : List own.Choice). product (choices_in forms xs) (choices_in forms (list_at old b))) (sym (g.same a w.0))
        ∙ ap (λ (xs : List own.Choice). product (choices_in forms (list_at new a)) (choices_in forms xs)) (sym (g.same b w.1))
    made_on (Union a b) w =
        ap (λ (xs : List own.Choice). choices_in forms xs ++ choices_in forms (list_at old b)) (sym (g.same a w.0))
        ∙ ap (λ (xs : List own.Choice). choices_in forms (list_at new a) ++ choices_in forms xs) (sym (g.same b w.1))

    is_made_on : (x : Pooled) → IsMade forms old x → IsMade forms new x
    is_made_on x is = record {
      within = within_on x.origin is.within;
      covers = subst (AreCovered (choices_in forms (list_of x))) (made_on x.origin is.within) is.covers;
    }

  -- ---- a list that is there, and one that is added

  pub has_self : (lists : List Pooled) (all : List Choice) (n : ℕ) → IsPool forms lists → Stands forms lists all n → Has forms lists lists all n
  has_self lists all n is stands = record { is = is; grows = grows_self lists; stands = stands }

  pub there : (lists : List Pooled) (o : Origin) (n : ℕ) → IsPool forms lists → IsAt lists o n → Has forms lists lists (made forms lists o) n
  there lists o n is at =
      let here : IsMade forms lists at.found = subst (IsMade forms lists) (sym at.at) (is n at.found at.below) in
      has_self lists (made forms lists o) n is (record {
        below = at.below;
        covers = subst (λ (xs : List own.Choice). AreCovered (choices_in forms xs) (made forms lists o))
            (sym (get_or-map list_of lists n at.found [] at.below ∙ ap list_of (sym at.at)))
            (subst (λ (r : Origin). AreCovered (choices_in forms (list_of at.found)) (made forms lists r)) at.same here.covers);
      })

  pub added : (old new : List Pooled) (o : Origin) (list : Vec own.Choice Global) (n : ℕ) → n ≡ length old
      → new ≡ old ++ (record { origin = o; list = list }) ∷ [] → AreCovered (choices_in forms list.items) (made forms old o)
      → IsPool forms old → IsWithin (length old) o → Has forms old new (made forms old o) n
  added old new o list n at e covers is within =
      let x : Pooled = record { origin = o; list = list } in
      let g : Grows old new = subst (Grows old) (sym e) (grows_push old x) in
      let last : IsMade forms old x = record { within = within; covers = covers } in
      let all : All (IsMade forms new) (old ++ x ∷ []) =
      All-push (IsMade forms new) old x (λ k d lt. is_made_on g (get_or old k d) (is k d lt)) (is_made_on g x last) in
      record {
        is = subst (All (IsMade forms new)) (sym e) all;
        grows = g;
        stands = record {
          below = omega (arith, ap length e, length_push old x);
          covers = subst (λ (xs : List own.Choice). AreCovered (choices_in forms xs) (made forms old o))
              (sym (ap (λ (ys : List Pooled). list_at ys n) e ∙ ap (list_at (old ++ x ∷ [])) at ∙ list_last old x)) covers;
        };
      }

  -- ---- products and unions

  module _ (lists new : List Pooled) (first second : List Choice) (a b n : ℕ) (sa : Stands forms lists first a)
      (sb : Stands forms lists second b) where
    pub has_product : Has forms lists new (made forms lists (Product a b)) n → Has forms lists new (product first second) n
    has_product h = record {
      is = h.is;
      grows = h.grows;
      stands = record {
        below = h.stands.below;
        covers = covered_product (choices_in forms (list_at new n)) (choices_in forms (list_at lists a)) (choices_in forms (list_at lists b))
            first second sa.covers sb.covers h.stands.covers;
      };
    }

    pub has_union : Has forms lists new (made forms lists (Union a b)) n → Has forms lists new (first ++ second) n
    has_union h = record {
      is = h.is;
      grows = h.grows;
      stands = record {
        below = h.stands.below;
        covers = covered_append (choices_in forms (list_at new n)) (choices_in forms (list_at lists a)) (choices_in forms (list_at lists b))
            first second sa.covers sb.covers h.stands.covers;
      };
    }

  module _ (lists : List Pooled) (is : IsPool forms lists) (first second : List Choice) (a b : ℕ) (sa : Stands forms lists first a)
      (sb : Stands forms lists second b) where
    pub product_by_first : Has forms lists lists (product first second) a
    product_by_first = has_self lists (product first second) a is (record {
      below = sa.below;
      covers = covered_first (choices_in forms (list_at lists a)) first second sa.covers;
    })

    pub product_by_second : Has forms lists lists (product first second) b
    product_by_second = has_self lists (product first second) b is (record {
      below = sb.below;
      covers = covered_second (choices_in forms (list_at lists b)) first second sb.covers;
    })
