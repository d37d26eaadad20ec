-- What the reader of headers gives is written there, and what is written there it gives.
use Rattle.pg_hoa_syntax.proofs.Common.{◌≡◌, ◌≢◌, ℕ, suc, zero, ◌≤◌, ◌<◌, true, false, List, [], ◌∷◌, ◌++◌, length, map, Option, Some, None}
use Rattle.pg_hoa_syntax.proofs.Common.{refl, sym, ap, subst, ◌∙◌, arith, append_assoc, inl, inr, nat_tests, codes, IfSome, if◌then◌else◌}
use Rattle.pg_hoa_syntax.proofs.Common.{bytes_eq, flat_map, AllByRecursion, length-map, bytes_eq-Decides, Op, Condition, Lexeme, number}
use Rattle.pg_hoa_syntax.proofs.Common.{identifier, header, string, body, Character, IsToken, ◌>>=◌, Formula, formula_lexemes, IsWritten}
use Rattle.pg_hoa_syntax.proofs.Common.{ops_at, postfix, IsPropositionName, Header, header_lexemes, IsHeader, value_lexeme, character_code}
use Rattle.pg_hoa_syntax.proofs.Common.{names, controls, KeptHead, numeral_at, alone_at, numbers_from, noted, noted_at, skipped_from}
use Rattle.pg_hoa_syntax.proofs.Common.{names_from, once, states_at, start_at, names_at, acceptance_at, controls_at, begins_low, other_at}
use Rattle.pg_hoa_syntax.proofs.Common.{header_at, empty_head, headers_within, headers_from, opening_at, version_at, headers_at, chosen, some}
use Rattle.pg_hoa_syntax.proofs.Common.{some_is, none, none_is_some}
use Rattle.std.proofs.lemmas.List.{length-append}
use Rattle.pg_hoa_syntax.specs.Syntax as text
use Rattle.pg_hoa_syntax.proofs.Lists.{all_of_both}
use Rattle.pg_hoa_syntax.proofs.Steps.{bind_some}
use Rattle.pg_hoa_syntax.proofs.FormulasAgain.{Ends}
use Rattle.pg_hoa_syntax.proofs.FormulaLaws.{number_tokens, ops_take, ops_again, formula_tokens}
use Rattle.pg_hoa_syntax.proofs.HeaderValues.{Follows, numeral_take, numeral_again, alone_take, alone_again, TakesNumbers, numbers_take}
use Rattle.pg_hoa_syntax.proofs.HeaderValues.{numbers_again, skipped_take, skipped_again, names_take, names_again}
use Rattle.pg_hoa_syntax.proofs.HeaderParts.{Adds, IsWithin, adds_states, adds_start, adds_names, adds_controls, adds_acceptance}
use Rattle.pg_hoa_syntax.proofs.HeaderParts.{adds_nothing, adds_none, adds_more, first_states, first_start, first_names, first_controls}
use Rattle.pg_hoa_syntax.proofs.HeaderParts.{first_acceptance, none_first, all_said}

-- ---- one header that is read

-- the header that stands there, and the head with it
pub record TakesHeader (h : KeptHead) (name : List ℕ) (tokens : List Lexeme) (x : KeptHead × List Lexeme) : Type 0 where
  pub one : Header
  pub is : header name ∷ tokens ≡ header_lexemes one ++ x.1
  pub good : IsHeader one
  pub adds : Adds h (one ∷ []) x.0
  pub within : IsWithin h → IsWithin x.0

once_is : {A B : Type 0} (o : Option A) (next : Option B) (y : B) → once o next ≡ Some y → (o ≡ None) × (next ≡ Some y)
once_is None next y e = (refl, e)
once_is (Some x) next y e = absurd (none_is_some y e)

states_take : (h : KeptHead) (tokens : List Lexeme) (x : KeptHead × List Lexeme) → states_at h tokens ≡ Some x
    → TakesHeader h (codes "States") tokens x
unfolding states_at
states_take h tokens x e =
    let o = once_is h.states _ x e in
    let n = bind_some (numeral_at 65535 tokens) _ x o.1 in
    let b = numeral_take 65535 tokens n.0 n.1 in
    let k : KeptHead = record h { states = Some n.0.0 } in
    subst (TakesHeader h (codes "States") tokens) (some_is (k, n.0.1) x n.2)
    (record {
      one = text.states n.0.0;
      is = ap (λ (ts : List Lexeme). header (codes "States") ∷ ts) b.is;
      good = tt;
      adds = adds_states h n.0.0 o.0;
      within = λ w. record { states = b.few; start = w.start; few_names = w.few_names; good_names = w.good_names; sets = w.sets };
    })

start_take : (h : KeptHead) (tokens : List Lexeme) (x : KeptHead × List Lexeme) → start_at h tokens ≡ Some x
    → TakesHeader h (codes "Start") tokens x
unfolding start_at
start_take h tokens x e =
    let o = once_is h.start _ x e in
    let n = bind_some (numeral_at 65534 tokens) _ x o.1 in
    let b = numeral_take 65534 tokens n.0 n.1 in
    let k : KeptHead = record h { start = Some n.0.0 } in
    let r = bind_some (alone_at n.0.1) (λ (rest : List Lexeme). some (k, rest)) x n.2 in
    subst (TakesHeader h (codes "Start") tokens) (some_is (k, r.0) x r.2)
    (record {
      one = text.start n.0.0;
      is = ap (λ (ts : List Lexeme). header (codes "Start") ∷ ts) (b.is ∙ ap
          (λ (ts : List Lexeme). number n.0.0 ∷ ts) (alone_take n.0.1 r.0 r.1));
      good = tt;
      adds = adds_start h n.0.0 o.0;
      within = λ w. record { states = w.states; start = b.few; few_names = w.few_names; good_names = w.good_names; sets = w.sets };
    })

few_names : (n : ℕ) (names : List (List Character)) (ns : List (List ℕ)) → length names ≡ n → ns ≡ map (map character_code) names → n ≤ 16
    → length ns ≤ 16
few_names n names ns count is few = omega (arith, ap length is, length-map names (map character_code))

names_header_take : (h : KeptHead) (tokens : List Lexeme) (x : KeptHead × List Lexeme) → names_at h tokens ≡ Some x
    → TakesHeader h (codes "AP") tokens x
unfolding names_at
names_header_take h tokens x e =
    let o = once_is h.names _ x e in
    let n = bind_some (numeral_at 16 tokens) _ x o.1 in
    let b = numeral_take 16 tokens n.0 n.1 in
    let r = bind_some (names_from n.0.0 [] n.0.1) (λ (y : List (List ℕ) × List Lexeme). let k : KeptHead = record h { names = Some y.0 } in
    some (k, y.1)) x n.2 in
    let k : KeptHead = record h { names = Some r.0.0 } in
    let found = names_take n.0.0 [] n.0.1 r.0 r.1 in
    subst (TakesHeader h (codes "AP") tokens) (some_is (k, r.0.1) x r.2)
    (record {
      one = text.propositions found.names;
      is = ap (λ (ts : List Lexeme). header (codes "AP") ∷ ts) (b.is ∙ ap
          (λ (ts : List Lexeme). number n.0.0 ∷ ts) found.is ∙ ap (λ (m : ℕ). number m ∷ (map string found.names ++ r.0.1))
          (sym found.count));
      good = tt;
      adds = subst (λ (ns : List (List ℕ)). Adds h (text.propositions found.names ∷ []) (record h { names = Some ns })) (sym found.added)
          (adds_names h found.names o.0);
      within = λ w. record {
        states = w.states;
        start = w.start;
        few_names = few_names n.0.0 found.names r.0.0 found.count found.added b.few;
        good_names = subst (λ (ns : List (List ℕ)). AllByRecursion IsPropositionName ns) (sym found.added) found.good;
        sets = w.sets;
      };
    })

acceptance_take : (h : KeptHead) (tokens : List Lexeme) (x : KeptHead × List Lexeme) → acceptance_at h tokens ≡ Some x
    → TakesHeader h (codes "Acceptance") tokens x
unfolding acceptance_at
acceptance_take h tokens x e =
    let o = once_is h.acceptance _ x e in
    let n = bind_some (numeral_at 4096 tokens) _ x o.1 in
    let b = numeral_take 4096 tokens n.0 n.1 in
    let r = bind_some (ops_at (Condition n.0.0) n.0.1) (λ (y : List Op × List Lexeme). let k : KeptHead = record h
    { acceptance = Some (n.0.0, y.0) } in some (k, y.1)) x n.2 in
    let k : KeptHead = record h { acceptance = Some (n.0.0, r.0.0) } in
    let found = ops_take (Condition n.0.0) n.0.1 r.0 r.1 in
    subst (TakesHeader h (codes "Acceptance") tokens) (some_is (k, r.0.1) x r.2)
    (record {
      one = text.acceptance n.0.0 found.formula;
      is = ap (λ (ts : List Lexeme). header (codes "Acceptance") ∷ ts)
          (b.is ∙ ap (λ (ts : List Lexeme). number n.0.0 ∷ ts) found.is);
      good = found.written;
      adds = subst (λ (ops : List Op). Adds h (text.acceptance n.0.0 found.formula ∷ []) (record h { acceptance = Some (n.0.0, ops) }))
          (sym found.computed) (adds_acceptance h n.0.0 found.formula o.0);
      within = λ w. record { states = w.states; start = w.start; few_names = w.few_names; good_names = w.good_names; sets = b.few };
    })

controls_read : (h : KeptHead) (tokens : List Lexeme) (r n : List ℕ × List Lexeme) (x : KeptHead × List Lexeme) → h.controls ≡ None
    → TakesNumbers [] tokens r → (noted r.0, r.1) ≡ n → (let k : KeptHead = record h { controls = Some n.0 } in (k, n.1) ≡ x)
    → TakesHeader h (codes "controllable-AP") tokens x
controls_read h tokens r n x none found all same =
    subst (TakesHeader h (codes "controllable-AP") tokens)
    (ap (λ (y : List ℕ × List Lexeme). let k : KeptHead = record h { controls = Some y.0 } in (k, y.1)) all ∙ same)
    (record {
      one = text.controllable found.numbers;
      is = ap (λ (ts : List Lexeme). header (codes "controllable-AP") ∷ ts) found.is;
      good = tt;
      adds = subst (λ (ns : List ℕ). Adds h (text.controllable found.numbers ∷ []) (record h { controls = Some (noted ns) }))
          (sym found.added) (adds_controls h found.numbers none);
      within = λ w. record { states = w.states; start = w.start; few_names = w.few_names; good_names = w.good_names; sets = w.sets };
    })

controls_take : (h : KeptHead) (tokens : List Lexeme) (x : KeptHead × List Lexeme) → controls_at h tokens ≡ Some x
    → TakesHeader h (codes "controllable-AP") tokens x
unfolding controls_at noted_at
controls_take h tokens x e =
    let o = once_is h.controls _ x e in
    let n =
    bind_some (noted_at tokens) (λ (y : List ℕ × List Lexeme). let k : KeptHead = record h { controls = Some y.0 } in some (k, y.1)) x
    o.1 in
    let r = bind_some (numbers_from [] tokens) (λ (y : List ℕ × List Lexeme). some (noted y.0, y.1)) n.0 n.1 in
    let k : KeptHead = record h { controls = Some n.0.0 } in
    controls_read h tokens r.0 n.0 x o.0 (numbers_take tokens [] r.0 r.1) (some_is (noted r.0.0, r.0.1) n.0 r.2) (some_is (k, n.0.1) x n.2)

other_take : (h : KeptHead) (name : List ℕ) (tokens : List Lexeme) (x : KeptHead × List Lexeme) → name ≢ codes "controllable-AP"
    → other_at h name tokens ≡ Some x → TakesHeader h name tokens x
unfolding other_at
other_take h name tokens x other e =
    elim (chosen (begins_low name) (skipped_from tokens >>= λ rest. some (h, rest)) none (some x) e) [
      | inl c ↦
          let r = bind_some (skipped_from tokens) (λ (rest : List Lexeme). some (h, rest)) x c.1 in
          let found = skipped_take tokens r.0 r.1 in
          subst (TakesHeader h name tokens) (some_is (h, r.0) x r.2)
          (record {
            one = text.skipped name found.values;
            is = ap (λ (ts : List Lexeme). header name ∷ ts) found.is;
            good = (other, c.0);
            adds = adds_nothing h name found.values;
            within = λ w. w;
          })
      | inr c ↦ absurd (none_is_some x c.1)
    ]

-- a test of the name
named : (h : KeptHead) (name word : List ℕ) (tokens : List Lexeme) (x : KeptHead × List Lexeme)
    (there otherwise : Option (KeptHead × List Lexeme))
    → (there ≡ Some x → TakesHeader h word tokens x) → (name ≢ word → otherwise ≡ Some x → TakesHeader h name tokens x)
    → (if bytes_eq name word then there else otherwise) ≡ Some x → TakesHeader h name tokens x
named h name word tokens x there otherwise same other e = grind (
  arith,
  nat_tests,
  chosen (bytes_eq name word) there otherwise (some x) e,
  bytes_eq-Decides name word,
)

pub header_take : (h : KeptHead) (name : List ℕ) (tokens : List Lexeme) (x : KeptHead × List Lexeme) → header_at h name tokens ≡ Some x
    → TakesHeader h name tokens x
unfolding header_at
header_take h name tokens x =
    named h name (codes "States") tokens x _ _ (states_take h tokens x)
    (λ _. named h name (codes "Start") tokens x _ _ (start_take h tokens x)
    (λ _. named h name (codes "AP") tokens x _ _ (names_header_take h tokens x)
    (λ _. named h name (codes "Acceptance") tokens x _ _ (acceptance_take h tokens x)
    (λ _. named h name (codes "controllable-AP") tokens x _ _ (controls_take h tokens x)
    (λ other. other_take h name tokens x other)))))

pub header_shorter : (h : KeptHead) (name : List ℕ) (tokens : List Lexeme) (x : KeptHead × List Lexeme) → header_at h name tokens ≡ Some x
    → length x.1 ≤ length tokens
header_shorter h name tokens x e =
    let t = header_take h name tokens x e in
    let longer = some_lexemes t.one in
    omega (arith, ap length t.is, length-append (header_lexemes t.one) x.1)
  where
    some_lexemes : (one : Header) → 0 < length (header_lexemes one)
    some_lexemes (text.states n) = omega arith
    some_lexemes _ = omega arith

-- ---- one header that is written

abbrev pub header_name : Header → List ℕ
header_name (text.states n) = codes "States"
header_name (text.start q) = codes "Start"
header_name (text.propositions ns) = codes "AP"
header_name (text.acceptance n f) = codes "Acceptance"
header_name (text.controllable ns) = codes "controllable-AP"
header_name (text.skipped name values) = name

abbrev pub header_values : Header → List Lexeme
header_values (text.states n) = number n ∷ []
header_values (text.start q) = number q ∷ []
header_values (text.propositions ns) = number (length ns) ∷ map string ns
header_values (text.acceptance n f) = number n ∷ formula_lexemes f
header_values (text.controllable ns) = map number ns
header_values (text.skipped name values) = map value_lexeme values

named_values : (one : Header) → header_lexemes one ≡ header (header_name one) ∷ header_values one
named_values (text.states n) = refl
named_values _ = refl

-- the reader goes on behind the header, towards what all headers say
pub record ReadsOne (h : KeptHead) (one : Header) (hs : List Header) (k : KeptHead) (rest : List Lexeme) : Type 0 where
  pub more : KeptHead
  pub reads : header_at h (header_name one) (header_values one ++ rest) ≡ Some (more, rest)
  pub others : Adds more hs k

said_within : {A : Type 0} (o : Option A) (x : A) (P : A → Type 0) → o ≡ Some x → IfSome o P → P x
said_within {A = A} o x P e h = let found = subst (λ (v : Option A). IfSome v P) e h in found

states_again : (h k : KeptHead) (n : ℕ) (hs : List Header) (rest : List Lexeme) → Adds h (text.states n ∷ hs) k → IsWithin k
    → ReadsOne h (text.states n) hs k rest
unfolding header_at states_at
states_again h k n hs rest a w =
    let f = first_states h k n hs a in
    let few : n ≤ 65535 = said_within k.states n (λ m. m ≤ 65535) f.is w.states in
    record {
      more = record h { states = Some n };
      reads = rw (f.unsaid_before, numeral_again 65535 n rest few) refl;
      others = f.others;
    }

start_again : (h k : KeptHead) (q : ℕ) (hs : List Header) (rest : List Lexeme) → Adds h (text.start q ∷ hs) k → IsWithin k → Follows rest
    → ReadsOne h (text.start q) hs k rest
unfolding header_at start_at
start_again h k q hs rest a w follows =
    let f = first_start h k q hs a in
    let low : q ≤ 65534 = said_within k.start q (λ m. m ≤ 65534) f.is w.start in
    record {
      more = record h { start = Some q };
      reads = rw (f.unsaid_before, numeral_again 65534 q rest low, alone_again rest follows) refl;
      others = f.others;
    }

names_header_again : (h k : KeptHead) (ns : List (List Character)) (hs : List Header) (rest : List Lexeme)
    → Adds h (text.propositions ns ∷ hs) k → IsWithin k → ReadsOne h (text.propositions ns) hs k rest
unfolding header_at names_at
names_header_again h k ns hs rest a w =
    let f = first_names h k ns hs a in
    let names : List (List ℕ) = map (map character_code) ns in
    let good = said_within k.names names (λ (list : List (List ℕ)). AllByRecursion IsPropositionName list) f.is w.good_names in
    let short : length names ≤ 16 = said_within k.names names (λ (list : List (List ℕ)). length list ≤ 16) f.is w.few_names in
    let few : length ns ≤ 16 = omega (arith, short, length-map ns (map character_code)) in
    record {
      more = record h { names = Some names };
      reads = rw (f.unsaid_before, numeral_again 16 (length ns) (map string ns ++ rest) few, names_again ns [] rest good) refl;
      others = f.others;
    }

acceptance_again : (h k : KeptHead) (n : ℕ) (c : Formula) (hs : List Header) (rest : List Lexeme) → IsWritten (Condition n) c
    → Adds h (text.acceptance n c ∷ hs) k → IsWithin k → Follows rest → ReadsOne h (text.acceptance n c) hs k rest
unfolding header_at acceptance_at
acceptance_again h k n c hs rest written a w follows =
    let f = first_acceptance h k n c hs a in
    let few : n ≤ 4096 = said_within k.acceptance (n, postfix c) (λ x. x.0 ≤ 4096) f.is w.sets in
    record {
      more = record h { acceptance = Some (n, postfix c) };
      reads = rw (
        f.unsaid_before,
        numeral_again 4096 n (formula_lexemes c ++ rest) few,
        ops_again (Condition n) c rest written (ends rest follows),
      ) refl;
      others = f.others;
    }
  where
    ends : (rest : List Lexeme) → Follows rest → Ends rest
    ends (header word ∷ rest) follows = tt
    ends (body ∷ rest) follows = tt
    ends _ follows = absurd follows

controls_again : (h k : KeptHead) (ns : List ℕ) (hs : List Header) (rest : List Lexeme) → Adds h (text.controllable ns ∷ hs) k
    → Follows rest → ReadsOne h (text.controllable ns) hs k rest
unfolding header_at controls_at noted_at
controls_again h k ns hs rest a follows = grind (arith, nat_tests, first_controls h k ns hs a, numbers_again ns, follows)

-- a name that begins low is none that begins with an upper-case letter
is_other : (name word : List ℕ) → begins_low name ≡ true → begins_low word ≡ false → bytes_eq name word ≡ false
is_other name word low high = grind (arith, nat_tests, bytes_eq-Decides name word)

skipped_header_again : (h k : KeptHead) (name : List ℕ) (values : List text.Value) (hs : List Header) (rest : List Lexeme)
    → IsHeader (text.skipped name values) → Adds h (text.skipped name values ∷ hs) k → Follows rest
    → ReadsOne h (text.skipped name values) hs k rest
unfolding header_at other_at
skipped_header_again h k name values hs rest good a follows = record {
  more = h;
  reads = rw (
    is_other name (codes "States") good.1 refl,
    is_other name (codes "Start") good.1 refl,
    is_other name (codes "AP") good.1 refl,
    is_other name (codes "Acceptance") good.1 refl,
    not_named,
    good.1,
    skipped_again values rest follows,
  ) refl;
  others = none_first h k name values hs a;
}
  where
    not_named : bytes_eq name (codes "controllable-AP") ≡ false
    not_named =
        elim (bytes_eq name (codes "controllable-AP")) as
        (λ v. bytes_eq name (codes "controllable-AP") ≡ v → bytes_eq name (codes "controllable-AP") ≡ false) [
          | true ↦ λ e. absurd (good.0 ((bytes_eq-Decides name (codes "controllable-AP")).0 e))
          | false ↦ λ e. e
        ] refl

header_again : (h k : KeptHead) (one : Header) (hs : List Header) (rest : List Lexeme) → IsHeader one → Adds h (one ∷ hs) k → IsWithin k
    → Follows rest → ReadsOne h one hs k rest
header_again h k (text.states n) hs rest good a w f = states_again h k n hs rest a w
header_again h k (text.start q) hs rest good a w f = start_again h k q hs rest a w f
header_again h k (text.propositions ns) hs rest good a w f = names_header_again h k ns hs rest a w
header_again h k (text.acceptance n c) hs rest good a w f = acceptance_again h k n c hs rest good a w f
header_again h k (text.controllable ns) hs rest good a w f = controls_again h k ns hs rest a f
header_again h k (text.skipped name values) hs rest good a w f = skipped_header_again h k name values hs rest good a f

-- ---- all headers

-- headers that stand there, and the head with them
record TakesHeaders (h : KeptHead) (tokens : List Lexeme) (x : KeptHead × List Lexeme) : Type 0 where
  headers : List Header
  is : tokens ≡ flat_map header_lexemes headers ++ (body ∷ x.1)
  good : AllByRecursion IsHeader headers
  adds : Adds h headers x.0
  within : IsWithin h → IsWithin x.0

no_more : (h : KeptHead) (rest : List Lexeme) (x : KeptHead × List Lexeme) → some (h, rest) ≡ some x → TakesHeaders h (body ∷ rest) x
no_more h rest x e = subst (TakesHeaders h (body ∷ rest)) (some_is (h, rest) x e)
    (record { headers = []; is = refl; good = tt; adds = adds_none h; within = λ w. w })

one_more : (h : KeptHead) (name : List ℕ) (rest : List Lexeme) (y x : KeptHead × List Lexeme) → TakesHeader h name rest y
    → TakesHeaders y.0 y.1 x → TakesHeaders h (header name ∷ rest) x
one_more h name rest y x t more =
    grind (
      arith,
      nat_tests,
      append_assoc (header_lexemes t.one) (flat_map header_lexemes more.headers) (body ∷ x.1),
      adds_more h y.0 x.0 t.one more.headers t.adds more.adds,
    )

headers_within_take : (n : ℕ) (h : KeptHead) (tokens : List Lexeme) (x : KeptHead × List Lexeme) → headers_within n h tokens ≡ Some x
    → TakesHeaders h tokens x
unfolding headers_within
headers_within_take zero h tokens x e = absurd (none_is_some x e)
headers_within_take (suc n) h (body ∷ rest) x e = no_more h rest x e
headers_within_take (suc n) h (header name ∷ rest) x e =
    let found = bind_some (header_at h name rest) (λ (y : KeptHead × List Lexeme). headers_within n y.0 y.1) x e in
    one_more h name rest found.0 x (header_take h name rest found.0 found.1) (headers_within_take n found.0.0 found.0.1 x found.2)
headers_within_take (suc n) h _ x e = absurd (none_is_some x e)

follows : (hs : List Header) (rest : List Lexeme) → Follows (flat_map header_lexemes hs ++ (body ∷ rest))
follows [] rest = tt
follows (text.states n ∷ hs) rest = tt
follows (_ ∷ hs) rest = tt

-- the tokens of these headers, of their `--BODY--` and of what stands behind it
abbrev pub all_lexemes : List Header → List Lexeme → List Lexeme
all_lexemes hs rest = flat_map header_lexemes hs ++ (body ∷ rest)

first_apart : (one : Header) (hs : List Header) (rest : List Lexeme)
    → all_lexemes (one ∷ hs) rest ≡ header (header_name one) ∷ (header_values one ++ all_lexemes hs rest)
first_apart one hs rest =
    grind (arith, nat_tests, append_assoc (header_lexemes one) (flat_map header_lexemes hs) (body ∷ rest), named_values one)

headers_within_again : (n : ℕ) (hs : List Header) (h k : KeptHead) (rest : List Lexeme) → AllByRecursion IsHeader hs → Adds h hs k
    → IsWithin k → length (all_lexemes hs rest) < n → headers_within n h (all_lexemes hs rest) ≡ Some (k, rest)
unfolding headers_within
headers_within_again zero hs h k rest good a w few = absurd (omega arith)
headers_within_again (suc n) [] h k rest good a w few = ap (λ (m : KeptHead). some (m, rest)) (all_said h k a)
headers_within_again (suc n) (one ∷ hs) h k rest good a w few =
    let r = header_again h k one hs (all_lexemes hs rest) good.0 a w (follows hs rest) in
    let fewer : length (all_lexemes hs rest) < n = omega (
      arith,
      ap length (first_apart one hs rest),
      length-append (header_values one) (all_lexemes hs rest),
    ) in
    ap (headers_within (suc n) h) (first_apart one hs rest)
    ∙ ap (λ (o : Option (KeptHead × List Lexeme)). o >>= λ x. headers_within n x.0 x.1) r.reads
    ∙ headers_within_again n hs r.more k rest good.1 r.others w fewer

-- ---- from the first token on

-- what headers say, within the limits
pub record SaysHeaders (hs : List Header) (h : KeptHead) : Type 0 where
  pub adds : Adds empty_head hs h
  pub within : IsWithin h

-- the headers that stand at the front of the tokens, and what they say
pub record ReadHeaders (tokens : List Lexeme) (x : KeptHead × List Lexeme) : Type 0 where
  pub headers : List Header
  pub is : tokens ≡ header (codes "HOA") ∷ identifier (codes "v1") ∷ (flat_map header_lexemes headers ++ (body ∷ x.1))
  pub good : AllByRecursion IsHeader headers
  pub says : SaysHeaders headers x.0

empty_within : IsWithin empty_head
empty_within = record { states = tt; start = tt; few_names = tt; good_names = tt; sets = tt }

opening_take : (tokens rest : List Lexeme) → opening_at tokens ≡ Some rest → tokens ≡ header (codes "HOA") ∷ rest
unfolding opening_at
opening_take (header w ∷ ts) rest e =
    grind (arith, nat_tests, chosen (bytes_eq w (codes "HOA")) (some ts) none (some rest) e, bytes_eq-Decides w (codes "HOA"))
opening_take _ rest e = absurd (none_is_some rest e)

version_take : (tokens rest : List Lexeme) → version_at tokens ≡ Some rest → tokens ≡ identifier (codes "v1") ∷ rest
unfolding version_at
version_take (identifier w ∷ ts) rest e = grind (
  arith,
  nat_tests,
  chosen (bytes_eq w (codes "v1")) (some ts) none (some rest) e,
  bytes_eq-Decides w (codes "v1"),
)
version_take _ rest e = absurd (none_is_some rest e)

pub headers_take : (tokens : List Lexeme) (x : KeptHead × List Lexeme) → headers_at tokens ≡ Some x → ReadHeaders tokens x
unfolding headers_at headers_from
headers_take tokens x e =
    let opened = bind_some (opening_at tokens) (λ (named : List Lexeme). version_at named >>= λ rest. headers_from empty_head rest) x e in
    let version = bind_some (version_at opened.0) (λ (rest : List Lexeme). headers_from empty_head rest) x opened.2 in
    let t = headers_within_take (suc (length version.0)) empty_head version.0 x version.2 in
    record {
      headers = t.headers;
      is = opening_take tokens opened.0 opened.1 ∙ ap (λ (ts : List Lexeme). header (codes "HOA") ∷ ts)
          (version_take opened.0 version.0 version.1) ∙ ap (λ (ts : List Lexeme). header (codes "HOA") ∷ identifier (codes "v1") ∷ ts) t.is;
      good = t.good;
      says = record { adds = t.adds; within = t.within empty_within };
    }

-- ---- the tokens of headers

pub headers_again : (hs : List Header) (h : KeptHead) (rest : List Lexeme) → AllByRecursion IsHeader hs → SaysHeaders hs h
    → headers_at (header (codes "HOA") ∷ identifier (codes "v1") ∷ (flat_map header_lexemes hs ++ (body ∷ rest))) ≡ Some (h, rest)
unfolding headers_at opening_at version_at headers_from
headers_again hs h rest good s =
    headers_within_again (suc (length (all_lexemes hs rest))) hs empty_head h rest good s.adds s.within (omega arith)

string_tokens : (ns : List (List Character)) → AllByRecursion IsToken (map string ns)
string_tokens [] = tt
string_tokens (n ∷ ns) = (tt, string_tokens ns)

value_tokens : (vs : List text.Value) → AllByRecursion IsToken (map value_lexeme vs)
value_tokens [] = tt
value_tokens (text.numeral n ∷ vs) = (tt, value_tokens vs)
value_tokens (text.word w ∷ vs) = (tt, value_tokens vs)
value_tokens (text.quoted s ∷ vs) = (tt, value_tokens vs)

one_header_tokens : (one : Header) → AllByRecursion IsToken (header_lexemes one)
one_header_tokens (text.states n) = (tt, (tt, tt))
one_header_tokens (text.start q) = (tt, (tt, tt))
one_header_tokens (text.propositions ns) = (tt, (tt, string_tokens ns))
one_header_tokens (text.acceptance n f) = (tt, (tt, formula_tokens f))
one_header_tokens (text.controllable ns) = (tt, number_tokens ns)
one_header_tokens (text.skipped name values) = (tt, value_tokens values)

pub header_tokens : (hs : List Header) → AllByRecursion IsHeader hs → AllByRecursion IsToken (flat_map header_lexemes hs)
header_tokens [] good = tt
header_tokens (one ∷ hs) good =
    all_of_both IsToken (header_lexemes one) (flat_map header_lexemes hs) (one_header_tokens one) (header_tokens hs good.1)
