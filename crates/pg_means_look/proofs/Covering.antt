-- Choices that cover others.
use Rattle.std.proofs.Common.{◌≡◌, ℕ, zero, suc, ◌<◌, ◌⊎◌, inl, inr, List, [], ◌∷◌, ◌++◌, length, get_or, arith, refl, ap, ◌∙◌}
use Rattle.std.specs.Prelude.{All, Contains}
use Rattle.std.proofs.lemmas.List.Elements.{All-head, All-tail}
use Rattle.pg_ltl.specs.NormalForms.{NormalForm}
use Rattle.pg_ltl.specs.Tableaux.{Choice, Each, IsAmong, IsLeftOut, joined, with_each, product}
use Rattle.pg_ltl.proofs.Choosing.{each_map, each_append, each_left, each_right, each_among}
use Rattle.pg_means_look.specs.declared.choice.Choice as kept
use Rattle.pg_means_look.specs.Mirrors.Choices.{part, parts, choice_of, choices_in, IsNoMore, AreCovered, Keeps}

-- ---- formulas and their places

pub among_left : (fs gs : List NormalForm) (f : NormalForm) → IsAmong fs f → IsAmong (fs ++ gs) f
among_left [] gs f i = absurd i
among_left (g ∷ fs) gs f (inl e) = inl e
among_left (g ∷ fs) gs f (inr i) = inr (among_left fs gs f i)

pub among_right : (fs gs : List NormalForm) (f : NormalForm) → IsAmong gs f → IsAmong (fs ++ gs) f
among_right [] gs f i = i
among_right (g ∷ fs) gs f i = inr (among_right fs gs f i)

pub among_parts : (forms : List NormalForm) (places : List ℕ) (x : ℕ) → Contains places x → IsAmong (parts forms places) (part forms x)
among_parts forms [] x (k, lt, e) = absurd (omega arith)
among_parts forms (y ∷ ys) x (zero, lt, e) = inl (ap (part forms) e)
among_parts forms (y ∷ ys) x (suc k, lt, e) = inr (among_parts forms ys x (k, omega arith, e))

pub each_parts : (forms : List NormalForm) (P : NormalForm → Type 0) (places : List ℕ) → All (λ x. P (part forms x)) places
    → Each P (parts forms places)
each_parts forms P [] h = tt
each_parts forms P (x ∷ xs) h =
    (All-head (λ y. P (part forms y)) x xs h, each_parts forms P xs (All-tail (λ y. P (part forms y)) x xs h))

pub within_parts : (forms : List NormalForm) (few many : List ℕ) → All (Contains many) few → Each (IsAmong (parts forms many)) (parts forms few)
within_parts forms few many h =
    each_parts forms (IsAmong (parts forms many)) few (λ k d lt. among_parts forms many (get_or few k d) (h k d lt))

pub union_parts : (forms : List NormalForm) (a b u : List ℕ) → All (λ x. Contains a x ⊎ Contains b x) u
    → Each (IsAmong (parts forms a ++ parts forms b)) (parts forms u)
union_parts forms a b u h = each_parts forms (IsAmong (parts forms a ++ parts forms b)) u (λ k d lt. go (get_or u k d) (h k d lt))
  where
    go : (x : ℕ) → Contains a x ⊎ Contains b x → IsAmong (parts forms a ++ parts forms b) (part forms x)
    go x (inl i) = among_left (parts forms a) (parts forms b) (part forms x) (among_parts forms a x i)
    go x (inr i) = among_right (parts forms a) (parts forms b) (part forms x) (among_parts forms b x i)

pub same_choice : (forms : List NormalForm) (c : kept.Choice) (asks puts : List ℕ) → c.asks.items ≡ asks → c.puts.items ≡ puts
    → choice_of forms c ≡ record { asks = parts forms asks; puts = parts forms puts }
same_choice forms c asks puts e h =
    ap (λ (xs : List ℕ). record { asks = parts forms xs; puts = parts forms c.puts.items }) e
    ∙ ap (λ (xs : List ℕ). record { asks = parts forms asks; puts = parts forms xs }) h

-- ---- choices that ask for no more

pub self_among : (fs : List NormalForm) → Each (IsAmong fs) fs
self_among [] = tt
self_among (f ∷ fs) = (inl refl, each_map (IsAmong fs) (IsAmong (f ∷ fs)) fs (λ g i. inr i) (self_among fs))

pub no_more_self : (c : Choice) → IsNoMore c c
no_more_self c = (self_among c.asks, self_among c.puts)

pub among_trans : (fs gs hs : List NormalForm) → Each (IsAmong gs) fs → Each (IsAmong hs) gs → Each (IsAmong hs) fs
among_trans fs gs hs h k = each_map (IsAmong gs) (IsAmong hs) fs (λ f i. each_among (IsAmong hs) gs f k i) h

pub no_more_trans : (c d e : Choice) → IsNoMore c d → IsNoMore d e → IsNoMore c e
no_more_trans c d e h k = (among_trans c.asks d.asks e.asks h.0 k.0, among_trans c.puts d.puts e.puts h.1 k.1)

among_joined : (fs gs hs is : List NormalForm) → Each (IsAmong hs) fs → Each (IsAmong is) gs → Each (IsAmong (hs ++ is)) (fs ++ gs)
among_joined fs gs hs is h k =
    each_append (IsAmong (hs ++ is)) fs gs (each_map (IsAmong hs) (IsAmong (hs ++ is)) fs (λ f i. among_left hs is f i) h)
    (each_map (IsAmong is) (IsAmong (hs ++ is)) gs (λ f i. among_right hs is f i) k)

no_more_joined : (c d e f : Choice) → IsNoMore c e → IsNoMore d f → IsNoMore (joined c d) (joined e f)
no_more_joined c d e f h k =
    (among_joined c.asks d.asks e.asks f.asks h.0 k.0, among_joined c.puts d.puts e.puts f.puts h.1 k.1)

-- ---- choices that are left out

pub left_out_more : (kept : List Choice) (c d : Choice) → IsLeftOut c kept → IsNoMore c d → IsLeftOut d kept
left_out_more [] c d out less = absurd out
left_out_more (k ∷ ks) c d (inl h) less = inl (no_more_trans k c d h less)
left_out_more (k ∷ ks) c d (inr out) less = inr (left_out_more ks c d out less)

pub keeps_push : (kept : List Choice) (c : Choice) → Keeps kept (kept ++ c ∷ [])
keeps_push [] c d out = absurd out
keeps_push (k ∷ ks) c d (inl h) = inl h
keeps_push (k ∷ ks) c d (inr out) = inr (keeps_push ks c d out)

pub left_out_last : (kept : List Choice) (c : Choice) → IsLeftOut c (kept ++ c ∷ [])
left_out_last [] c = inl (no_more_self c)
left_out_last (k ∷ ks) c = inr (left_out_last ks c)

pub left_out_at : (forms : List NormalForm) (list : List kept.Choice) (c : Choice) (k : ℕ) (d : kept.Choice) → k < length list
    → IsNoMore (choice_of forms (get_or list k d)) c → IsLeftOut c (choices_in forms list)
left_out_at forms [] c k d lt h = absurd (omega arith)
left_out_at forms (x ∷ xs) c zero d lt h = inl h
left_out_at forms (x ∷ xs) c (suc k) d lt h = inr (left_out_at forms xs c k d (omega arith) h)

pub covered_keep : (old new all : List Choice) → AreCovered old all → Keeps old new → AreCovered new all
covered_keep old new all h keeps = each_map (λ c. IsLeftOut c old) (λ c. IsLeftOut c new) all keeps h

pub covered_self : (all : List Choice) → AreCovered all all
covered_self [] = tt
covered_self (c ∷ cs) = (inl (no_more_self c), covered_keep cs (c ∷ cs) cs (covered_self cs) (λ d out. inr out))

-- ---- products

pub each_with_push : (P : Choice → Type 0) (c : Choice) (ds : List Choice) (d : Choice) → Each P (with_each c ds) → P (joined c d)
    → Each P (with_each c (ds ++ d ∷ []))
each_with_push P c [] d h p = (p, tt)
each_with_push P c (x ∷ xs) d h p = (h.0, each_with_push P c xs d h.1 p)

pub each_product_push : (P : Choice → Type 0) (cs ds : List Choice) (c : Choice) → Each P (product cs ds) → Each P (with_each c ds)
    → Each P (product (cs ++ c ∷ []) ds)
each_product_push P [] ds c h w = each_append P (with_each c ds) [] w tt
each_product_push P (x ∷ xs) ds c h w =
    each_append P (with_each x ds) (product (xs ++ c ∷ []) ds) (each_left P (with_each x ds) (product xs ds) h)
    (each_product_push P xs ds c (each_right P (with_each x ds) (product xs ds) h) w)

module _ (kept : List Choice) where
  abbrev Out : Choice → Type 0
  Out c = IsLeftOut c kept

  -- one that asks for no more than c, with what it makes of the others
  record Found (c : Choice) (ds : List Choice) : Type 0 where
    pub least : Choice
    pub less : IsNoMore least c
    pub with_all : Each Out (with_each least ds)

  found : (c : Choice) (cs ds : List Choice) → IsLeftOut c cs → Each Out (product cs ds) → Found c ds
  found c [] ds out h = absurd out
  found c (x ∷ xs) ds (inl less) h = record { least = x; less = less; with_all = each_left Out (with_each x ds) (product xs ds) h }
  found c (x ∷ xs) ds (inr out) h = found c xs ds out (each_right Out (with_each x ds) (product xs ds) h)

  both_out : (least c d : Choice) (ds : List Choice) → IsNoMore least c → IsLeftOut d ds → Each Out (with_each least ds) → Out (joined c d)
  both_out least c d [] less out h = absurd out
  both_out least c d (x ∷ xs) less (inl also) h =
      left_out_more kept (joined least x) (joined c d) h.0 (no_more_joined least x c d less also)
  both_out least c d (x ∷ xs) less (inr out) h = both_out least c d xs less out h.1

  with_out : (least c : Choice) (ds all : List Choice) → IsNoMore least c → AreCovered ds all → Each Out (with_each least ds)
      → Each Out (with_each c all)
  with_out least c ds [] less h w = tt
  with_out least c ds (d ∷ all) less h w = (both_out least c d ds less h.0 w, with_out least c ds all less h.1 w)

  -- products of covers cover products
  pub covered_product : (cs ds first second : List Choice) → AreCovered cs first → AreCovered ds second → AreCovered kept (product cs ds)
      → AreCovered kept (product first second)
  covered_product cs ds [] second h k w = tt
  covered_product cs ds (c ∷ first) second h k w =
      let f = found c cs ds h.0 w in
      each_append Out (with_each c second) (product first second) (with_out f.least c ds second f.less k f.with_all)
      (covered_product cs ds first second h.1 k w)

pub covered_append : (kept cs ds first second : List Choice) → AreCovered cs first → AreCovered ds second → AreCovered kept (cs ++ ds)
    → AreCovered kept (first ++ second)
covered_append kept cs ds first second h k w =
    each_append (λ c. IsLeftOut c kept) first second
    (covered_trans kept cs first h (each_left (λ c. IsLeftOut c kept) cs ds w))
    (covered_trans kept ds second k (each_right (λ c. IsLeftOut c kept) cs ds w))
  where
    out_of : (kept cs : List Choice) (c : Choice) → IsLeftOut c cs → AreCovered kept cs → IsLeftOut c kept
    out_of kept [] c out w = absurd out
    out_of kept (x ∷ xs) c (inl less) w = left_out_more kept x c w.0 less
    out_of kept (x ∷ xs) c (inr out) w = out_of kept xs c out w.1

    covered_trans : (kept cs all : List Choice) → AreCovered cs all → AreCovered kept cs → AreCovered kept all
    covered_trans kept cs all h w = each_map (λ c. IsLeftOut c cs) (λ c. IsLeftOut c kept) all (λ c out. out_of kept cs c out w) h
