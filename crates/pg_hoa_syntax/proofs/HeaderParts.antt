-- What headers say, one after another.
use Rattle.pg_hoa_syntax.proofs.Common.{◌≡◌, ℕ, ◌≤◌, List, [], ◌∷◌, ◌++◌, length, map, Option, Some, None, refl, sym, ap, ◌∙◌, append_assoc}
use Rattle.pg_hoa_syntax.proofs.Common.{arith, nat_tests, IfSome, flat_map, AllByRecursion, append-nil, map-append, Op, Formula, postfix}
use Rattle.pg_hoa_syntax.proofs.Common.{IsPropositionName, Header, state_counts, starts, names, acceptances, controls, character_code}
use Rattle.pg_hoa_syntax.proofs.Common.{Character, KeptHead, noted}
use Rattle.pg_hoa_syntax.specs.Syntax as text

-- nothing, or one
abbrev pub option_list : {A : Type 0} → Option A → List A
option_list None = []
option_list (Some x) = x ∷ []

-- names without their backslashes, numbers of propositions as they are noted, and conditions as operations
abbrev pub read_names : List Header → List (List (List ℕ))
read_names hs = map (map (map character_code)) (flat_map names hs)

abbrev pub read_controls : List Header → List (List ℕ)
read_controls hs = map noted (flat_map controls hs)

abbrev pub read_acceptances : List Header → List (ℕ × List Op)
read_acceptances hs = map (λ x. (x.0, postfix x.1)) (flat_map acceptances hs)

-- k says what h says, and then what these headers say
pub record Adds (h : KeptHead) (hs : List Header) (k : KeptHead) : Type 0 where
  pub states : option_list k.states ≡ option_list h.states ++ flat_map state_counts hs
  pub start : option_list k.start ≡ option_list h.start ++ flat_map starts hs
  pub names : option_list k.names ≡ option_list h.names ++ read_names hs
  pub controls : option_list k.controls ≡ option_list h.controls ++ read_controls hs
  pub acceptance : option_list k.acceptance ≡ option_list h.acceptance ++ read_acceptances hs

-- the limits that are checked as the headers are read
pub record IsWithin (h : KeptHead) : Type 0 where
  pub states : IfSome h.states (λ n. n ≤ 65535)
  pub start : IfSome h.start (λ q. q ≤ 65534)
  pub few_names : IfSome h.names (λ ns. length ns ≤ 16)
  pub good_names : IfSome h.names (λ ns. AllByRecursion IsPropositionName ns)
  pub sets : IfSome h.acceptance (λ x. x.0 ≤ 4096)

-- ---- one header more

unsaid : {A : Type 0} (list : List A) → list ≡ list ++ []
unsaid list = sym (append-nil list)

said : {A : Type 0} (o : Option A) (x : A) → o ≡ None → x ∷ [] ≡ option_list o ++ (x ∷ [])
said o x e = rw e refl

pub adds_states : (h : KeptHead) (n : ℕ) → h.states ≡ None → Adds h (text.states n ∷ []) (record h { states = Some n })
adds_states h n e = record { states = said h.states n e; start = unsaid _; names = unsaid _; controls = unsaid _; acceptance = unsaid _ }

pub adds_start : (h : KeptHead) (q : ℕ) → h.start ≡ None → Adds h (text.start q ∷ []) (record h { start = Some q })
adds_start h q e = record { states = unsaid _; start = said h.start q e; names = unsaid _; controls = unsaid _; acceptance = unsaid _ }

pub adds_names : (h : KeptHead) (ns : List (List Character)) → h.names ≡ None
    → Adds h (text.propositions ns ∷ []) (record h { names = Some (map (map character_code) ns) })
adds_names h ns e = record {
  states = unsaid _;
  start = unsaid _;
  names = said h.names (map (map character_code) ns) e;
  controls = unsaid _;
  acceptance = unsaid _;
}

pub adds_controls : (h : KeptHead) (ns : List ℕ) → h.controls ≡ None
    → Adds h (text.controllable ns ∷ []) (record h { controls = Some (noted ns) })
adds_controls h ns e =
    record { states = unsaid _; start = unsaid _; names = unsaid _; controls = said h.controls (noted ns) e; acceptance = unsaid _ }

pub adds_acceptance : (h : KeptHead) (n : ℕ) (f : Formula) → h.acceptance ≡ None
    → Adds h (text.acceptance n f ∷ []) (record h { acceptance = Some (n, postfix f) })
adds_acceptance h n f e =
    record { states = unsaid _; start = unsaid _; names = unsaid _; controls = unsaid _; acceptance = said h.acceptance (n, postfix f) e }

pub adds_nothing : (h : KeptHead) (name : List ℕ) (values : List text.Value) → Adds h (text.skipped name values ∷ []) h
adds_nothing h name values = record { states = unsaid _; start = unsaid _; names = unsaid _; controls = unsaid _; acceptance = unsaid _ }

pub adds_none : (h : KeptHead) → Adds h [] h
adds_none h = record { states = unsaid _; start = unsaid _; names = unsaid _; controls = unsaid _; acceptance = unsaid _ }

joined : {A : Type 0} (f : List Header → List A) (one : Header) (hs : List Header) (a b c : List A) → b ≡ a ++ f (one ∷ [])
    → c ≡ b ++ f hs → f (one ∷ []) ++ f hs ≡ f (one ∷ hs) → c ≡ a ++ f (one ∷ hs)
joined {A = A} f one hs a b c p q r =
    q ∙ ap (λ (l : List A). l ++ f hs) p ∙ append_assoc a (f (one ∷ [])) (f hs) ∙ ap (λ (l : List A). a ++ l) r

pub adds_more : (h k m : KeptHead) (one : Header) (hs : List Header) → Adds h (one ∷ []) k → Adds k hs m → Adds h (one ∷ hs) m
adds_more h k m one hs p q = record {
  states = joined (flat_map state_counts) one hs _ _ _ p.states q.states (simp append-nil);
  start = joined (flat_map starts) one hs _ _ _ p.start q.start (simp append-nil);
  names = joined read_names one hs _ _ _ p.names q.names (simp (append-nil, map-append));
  controls = joined read_controls one hs _ _ _ p.controls q.controls (simp (append-nil, map-append));
  acceptance = joined read_acceptances one hs _ _ _ p.acceptance q.acceptance (simp (append-nil, map-append));
}

-- ---- one header less

-- what is said at most once is said by the first header that says it
record SaysFirst {A : Type 0} (o p : Option A) (x : A) (xs : List A) : Type 0 where
  unsaid_before : p ≡ None
  is : o ≡ Some x
  left : option_list o ≡ x ∷ xs

says_first : {A : Type 0} (o p : Option A) (x : A) (xs : List A) → option_list o ≡ option_list p ++ (x ∷ xs) → SaysFirst o p x xs
says_first None None x xs e = absurd cc
says_first None (Some q) x xs e = absurd cc
says_first (Some y) None x xs e = record { unsaid_before = refl; is = cc; left = e }
says_first (Some y) (Some q) x xs e = absurd cc

pub record FirstOf {A : Type 0} (before after : Option A) (x : A) (h : KeptHead) (hs : List Header) (k : KeptHead) : Type 0 where
  pub unsaid_before : before ≡ None
  pub is : after ≡ Some x
  pub others : Adds h hs k

pub first_states : (h k : KeptHead) (n : ℕ) (hs : List Header) → Adds h (text.states n ∷ hs) k
    → FirstOf h.states k.states n (record h { states = Some n }) hs k
first_states h k n hs a = grind (arith, nat_tests, says_first k.states h.states n (flat_map state_counts hs) a.states)

pub first_start : (h k : KeptHead) (q : ℕ) (hs : List Header) → Adds h (text.start q ∷ hs) k
    → FirstOf h.start k.start q (record h { start = Some q }) hs k
first_start h k q hs a = grind (arith, nat_tests, says_first k.start h.start q (flat_map starts hs) a.start)

pub first_names : (h k : KeptHead) (ns : List (List Character)) (hs : List Header) → Adds h (text.propositions ns ∷ hs) k
    → FirstOf h.names k.names (map (map character_code) ns) (record h { names = Some (map (map character_code) ns) }) hs k
first_names h k ns hs a =
    grind (arith, nat_tests, says_first k.names h.names (map (map character_code) ns) (read_names hs) a.names)

pub first_controls : (h k : KeptHead) (ns : List ℕ) (hs : List Header) → Adds h (text.controllable ns ∷ hs) k
    → FirstOf h.controls k.controls (noted ns) (record h { controls = Some (noted ns) }) hs k
first_controls h k ns hs a = grind (arith, nat_tests, says_first k.controls h.controls (noted ns) (read_controls hs) a.controls)

pub first_acceptance : (h k : KeptHead) (n : ℕ) (f : Formula) (hs : List Header) → Adds h (text.acceptance n f ∷ hs) k
    → FirstOf h.acceptance k.acceptance (n, postfix f) (record h { acceptance = Some (n, postfix f) }) hs k
first_acceptance h k n f hs a =
    grind (arith, nat_tests, says_first k.acceptance h.acceptance (n, postfix f) (read_acceptances hs) a.acceptance)

pub none_first : (h k : KeptHead) (name : List ℕ) (values : List text.Value) (hs : List Header) → Adds h (text.skipped name values ∷ hs) k
    → Adds h hs k
none_first h k name values hs a =
    record { states = a.states; start = a.start; names = a.names; controls = a.controls; acceptance = a.acceptance }

option_same : {A : Type 0} (o p : Option A) → option_list p ≡ option_list o ++ [] → o ≡ p
option_same None None e = refl
option_same None (Some q) e = absurd cc
option_same (Some x) None e = absurd cc
option_same (Some x) (Some q) e = cc

abbrev head_of : Option ℕ → Option ℕ → Option (List (List ℕ)) → Option (List ℕ) → Option (ℕ × List Op) → KeptHead
head_of states start names controls acceptance =
    record { states = states; start = start; names = names; controls = controls; acceptance = acceptance }

same_head : (states states2 start start2 : Option ℕ) (names names2 : Option (List (List ℕ))) (controls controls2 : Option (List ℕ))
    (acceptance acceptance2 : Option (ℕ × List Op))
    → states ≡ states2 → start ≡ start2 → names ≡ names2 → controls ≡ controls2 → acceptance ≡ acceptance2
    → head_of states start names controls acceptance ≡ head_of states2 start2 names2 controls2 acceptance2
same_head states states2 start start2 names names2 controls controls2 acceptance acceptance2 p q r s t = cc

-- where no header is left the heads are the same
pub all_said : (h k : KeptHead) → Adds h [] k → h ≡ k
all_said h k a = grind (
  arith,
  nat_tests,
  same_head h.states k.states h.start k.start h.names k.names h.controls k.controls h.acceptance k.acceptance
      (option_same h.states k.states a.states) (option_same h.start k.start a.start) (option_same h.names k.names a.names)
      (option_same h.controls k.controls a.controls) (option_same h.acceptance k.acceptance a.acceptance),
)
