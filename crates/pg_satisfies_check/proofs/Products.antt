-- Choices of several formulas together.
use Rattle.std.proofs.Common.{◌≡◌, ℕ, Bool, true, false, List, [], ◌∷◌, ◌++◌, refl, if◌then◌else◌}
use Rattle.pg_ltl.specs.NormalForms.{NormalForm, top, bottom, literal, both, either, next, until, release}
use Rattle.pg_ltl.specs.Tableaux.{Each, Choice, IsAmong, free, asked, put_off, joined, with_each, product, same, choices, choices_of}
use Rattle.pg_ltl.proofs.Choosing.{each_map, each_append, each_left, each_right}
use Rattle.pg_means_look.specs.Mirrors.Choices.{IsNoMore}
use Rattle.pg_means_look.proofs.Covering.{among_left, among_right, self_among}

pub each_with : (P : Choice → Type 0) (c : Choice) (ds : List Choice) → Each P (with_each c ds) → Each (λ d. P (joined c d)) ds
each_with P c [] h = tt
each_with P c (d ∷ ds) h = (h.0, each_with P c ds h.1)

pub each_product : (P : Choice → Type 0) (cs ds : List Choice) → Each P (product cs ds) → Each (λ c. Each (λ d. P (joined c d)) ds) cs
each_product P [] ds h = tt
each_product P (c ∷ cs) ds h = (
  each_with P c ds (each_left P (with_each c ds) (product cs ds) h),
  each_product P cs ds (each_right P (with_each c ds) (product cs ds) h),
)

pub with_all : (P : Choice → Type 0) (c : Choice) (ds : List Choice) → Each (λ d. P (joined c d)) ds → Each P (with_each c ds)
with_all P c [] h = tt
with_all P c (d ∷ ds) h = (h.0, with_all P c ds h.1)

pub product_all : (P : Choice → Type 0) (cs ds : List Choice) → Each (λ c. Each (λ d. P (joined c d)) ds) cs → Each P (product cs ds)
product_all P [] ds h = tt
product_all P (c ∷ cs) ds h = each_append P (with_each c ds) (product cs ds) (with_all P c ds h.0) (product_all P cs ds h.1)

-- ---- lists within lists

abbrev pub Within : List NormalForm → List NormalForm → Type 0
Within xs ys = Each (IsAmong ys) xs

pub to_left : (xs ys zs : List NormalForm) → Within xs ys → Within xs (ys ++ zs)
to_left xs ys zs h = each_map (IsAmong ys) (IsAmong (ys ++ zs)) xs (λ f i. among_left ys zs f i) h

pub to_right : (xs ys zs : List NormalForm) → Within xs zs → Within xs (ys ++ zs)
to_right xs ys zs h = each_map (IsAmong zs) (IsAmong (ys ++ zs)) xs (λ f i. among_right ys zs f i) h

pub together : (xs ys zs : List NormalForm) → Within xs zs → Within ys zs → Within (xs ++ ys) zs
together xs ys zs h k = each_append (IsAmong zs) xs ys h k

module _ (a b c d : List NormalForm) where
  -- a (b (c d)) within a ((b c) d)
  pub grouped : Within (a ++ (b ++ (c ++ d))) (a ++ ((b ++ c) ++ d))
  grouped =
      together a (b ++ (c ++ d)) (a ++ ((b ++ c) ++ d)) (to_left a a ((b ++ c) ++ d) (self_among a))
      (to_right (b ++ (c ++ d)) a ((b ++ c) ++ d)
      (together b (c ++ d) ((b ++ c) ++ d) (to_left b (b ++ c) d (to_left b b c (self_among b)))
      (together c d ((b ++ c) ++ d) (to_left c (b ++ c) d (to_right c b c (self_among c))) (to_right d (b ++ c) d (self_among d)))))

  -- (c a) (b d) within a ((b c) d)
  pub moved : Within ((c ++ a) ++ (b ++ d)) (a ++ ((b ++ c) ++ d))
  moved =
      together (c ++ a) (b ++ d) (a ++ ((b ++ c) ++ d))
      (together c a (a ++ ((b ++ c) ++ d))
      (to_right c a ((b ++ c) ++ d) (to_left c (b ++ c) d (to_right c b c (self_among c))))
      (to_left a a ((b ++ c) ++ d) (self_among a)))
      (to_right (b ++ d) a ((b ++ c) ++ d)
      (together b d ((b ++ c) ++ d) (to_left b (b ++ c) d (to_left b b c (self_among b))) (to_right d (b ++ c) d (self_among d))))

module _ (a b c : List NormalForm) where
  -- (b a) c within a (b c)
  pub turned : Within ((b ++ a) ++ c) (a ++ (b ++ c))
  turned =
      together (b ++ a) c (a ++ (b ++ c))
      (together b a (a ++ (b ++ c)) (to_right b a (b ++ c) (to_left b b c (self_among b))) (to_left a a (b ++ c) (self_among a)))
      (to_right c a (b ++ c) (to_right c b c (self_among c)))

  -- a c within a (b c)
  pub without : Within (a ++ c) (a ++ (b ++ c))
  without =
      together a c (a ++ (b ++ c)) (to_left a a (b ++ c) (self_among a)) (to_right c a (b ++ c) (to_right c b c (self_among c)))

-- ---- what is so of each choice of what is to do, together with what is asked already

module _ (P : Choice → Type 0) (more : (c d : Choice) → IsNoMore c d → P c → P d) (letter : ℕ → Bool) where
  abbrev pub Each_of : Choice → List NormalForm → Type 0
  Each_of acc todo = Each (λ d. P (joined acc d)) (choices_of letter todo)

  module _ (acc : Choice) (rest : List NormalForm) where
    abbrev R : List Choice
    R = choices_of letter rest

    abbrev Of : Choice → Choice → Type 0
    Of c d = P (joined acc (joined c d))

    pub step_top : Each_of acc rest → Each_of acc (top ∷ rest)
    step_top h = product_all (λ d. P (joined acc d)) (free ∷ []) R (h, tt)

    pub step_bottom : Each_of acc (bottom ∷ rest)
    step_bottom = tt

    step_here : (a b : Bool) → ((a ≡ b) → Each_of acc rest)
        → Each (λ d. P (joined acc d)) (product (if same a b then free ∷ [] else []) R)
    step_here true true h = product_all (λ d. P (joined acc d)) (free ∷ []) R (h refl, tt)
    step_here false false h = product_all (λ d. P (joined acc d)) (free ∷ []) R (h refl, tt)
    step_here true false h = tt
    step_here false true h = tt

    pub step_literal : (n : ℕ) (value : Bool) → ((letter n ≡ value) → Each_of acc rest) → Each_of acc (literal n value ∷ rest)
    step_literal n value h = step_here (letter n) value h

    -- what is to do may be left out
    pub step_without : (f : NormalForm) → Each_of acc rest → Each_of acc (f ∷ rest)
    step_without f h = product_all (λ d. P (joined acc d)) (choices letter f) R (each_of (choices letter f))
      where
        each_of : (cs : List Choice) → Each (λ c. Each (Of c) R) cs
        each_of [] = tt
        each_of (c ∷ cs) = (
          each_map (λ d. P (joined acc d)) (Of c) R
              (λ d p. more (joined acc d) (joined acc (joined c d)) (without acc.asks c.asks d.asks, without acc.puts c.puts d.puts) p) h,
          each_of cs,
        )

    module _ (f g : NormalForm) where
      abbrev F : List Choice
      F = choices letter f

      abbrev G : List Choice
      G = choices letter g

      -- each of two formulas and the rest
      twice : (cs ds : List Choice) → Each (λ d. P (joined acc d)) (product cs (product ds R)) → Each (λ d. P (joined acc d)) (product (product cs ds) R)
      twice cs ds h =
          product_all (λ d. P (joined acc d)) (product cs ds) R
          (product_all (λ c. Each (Of c) R) cs ds
          (each_map (λ a. Each (λ x. P (joined acc (joined a x))) (product ds R)) (λ a. Each (λ b. Each (Of (joined a b)) R) ds) cs
          (λ a k. each_map (λ b. Each (λ d. P (joined acc (joined a (joined b d)))) R) (λ b. Each (Of (joined a b)) R) ds
          (λ b l. each_map (λ d. P (joined acc (joined a (joined b d)))) (Of (joined a b)) R
          (λ d p. more (joined acc (joined a (joined b d))) (joined acc (joined (joined a b) d))
          (grouped acc.asks a.asks b.asks d.asks, grouped acc.puts a.puts b.puts d.puts) p) l)
          (each_product (λ x. P (joined acc (joined a x))) ds R k))
          (each_product (λ d. P (joined acc d)) cs (product ds R) h)))

      -- a formula, with something asked for beside it
      beside : (cs : List Choice) (o : Choice) → Each (λ d. P (joined (joined o acc) d)) (product cs R)
          → Each (λ d. P (joined acc d)) (product (product cs (o ∷ [])) R)
      beside cs o h =
          product_all (λ d. P (joined acc d)) (product cs (o ∷ [])) R
          (product_all (λ c. Each (Of c) R) cs (o ∷ [])
          (each_map (λ a. Each (λ d. P (joined (joined o acc) (joined a d))) R) (λ a. Each (λ b. Each (Of (joined a b)) R) (o ∷ [])) cs
          (λ a k. (
            each_map (λ d. P (joined (joined o acc) (joined a d))) (Of (joined a o)) R
                (λ d p. more (joined (joined o acc) (joined a d)) (joined acc (joined (joined a o) d))
                (moved acc.asks a.asks o.asks d.asks, moved acc.puts a.puts o.puts d.puts) p) k,
            tt,
          ))
          (each_product (λ d. P (joined (joined o acc) d)) cs R h)))

      -- a list of choices, and another one
      or_else : (cs ds : List Choice) → Each (λ d. P (joined acc d)) (product cs R) → Each (λ d. P (joined acc d)) (product ds R)
          → Each (λ d. P (joined acc d)) (product (cs ++ ds) R)
      or_else [] ds h k = k
      or_else (c ∷ cs) ds h k =
          each_append (λ d. P (joined acc d)) (with_each c R) (product (cs ++ ds) R)
          (each_left (λ d. P (joined acc d)) (with_each c R) (product cs R) h)
          (or_else cs ds (each_right (λ d. P (joined acc d)) (with_each c R) (product cs R) h) k)

      pub step_both : Each_of acc (f ∷ g ∷ rest) → Each_of acc (both f g ∷ rest)
      step_both h = twice F G h

      pub step_either : Each_of acc (f ∷ rest) → Each_of acc (g ∷ rest) → Each_of acc (either f g ∷ rest)
      step_either h k = or_else F G h k

      pub step_next : Each_of (joined (asked f) acc) rest → Each_of acc (next f ∷ rest)
      step_next h =
          product_all (λ d. P (joined acc d)) (asked f ∷ []) R (
            each_map (λ d. P (joined (joined (asked f) acc) d)) (Of (asked f)) R
                (λ d p. more (joined (joined (asked f) acc) d) (joined acc (joined (asked f) d))
                (turned acc.asks (f ∷ []) d.asks, turned acc.puts [] d.puts) p) h,
            tt,
          )

      pub step_until : Each_of acc (g ∷ rest) → Each_of (joined (put_off (until f g)) acc) (f ∷ rest) → Each_of acc (until f g ∷ rest)
      step_until h k = or_else G (product F (put_off (until f g) ∷ [])) h (beside F (put_off (until f g)) k)

      pub step_release : Each_of acc (g ∷ f ∷ rest) → Each_of (joined (asked (release f g)) acc) (g ∷ rest)
          → Each_of acc (release f g ∷ rest)
      step_release h k = split_up
        where
          again : Choice
          again = asked (release f g)

          -- g now, and f or the whole again: as the choices of g and f, and those of g and the whole again
          split_up : Each (λ d. P (joined acc d)) (product (product G (F ++ again ∷ [])) R)
          split_up = product_all (λ d. P (joined acc d)) (product G (F ++ again ∷ [])) R
              (product_all (λ c. Each (Of c) R) G (F ++ again ∷ [])
              (both_of G
              (each_product (λ c. Each (Of c) R) G F (each_product (λ d. P (joined acc d)) (product G F) R (twice G F h)))
              (each_product (λ c. Each (Of c) R) G (again ∷ []) (each_product (λ d. P (joined acc d)) (product G (again ∷ [])) R (beside G again k)))))
            where
              both_of : (cs : List Choice) → Each (λ a. Each (λ b. Each (Of (joined a b)) R) F) cs
                  → Each (λ a. Each (λ b. Each (Of (joined a b)) R) (again ∷ [])) cs
                  → Each (λ a. Each (λ b. Each (Of (joined a b)) R) (F ++ again ∷ [])) cs
              both_of [] x y = tt
              both_of (a ∷ cs) x y =
                  (each_append (λ b. Each (Of (joined a b)) R) F (again ∷ []) x.0 y.0, both_of cs x.1 y.1)
