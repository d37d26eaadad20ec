-- Headers, lines and end, read one after another.
use Rattle.pg_hoa_syntax.proofs.Common.{◌≡◌, ◌∙◌, ◌≤◌, ℕ, List, [], ◌∷◌, map, length, Option, Some, None, refl, sym, ap, subst, arith}
use Rattle.pg_hoa_syntax.proofs.Common.{nat_tests, ◌<◌, IfSome, flat_map, Op, Shape, PartRefusal, Memory, Wrong, Lexeme, Fails, Formula, postfix}
use Rattle.pg_hoa_syntax.proofs.Common.{HasShape, acceptances, KeptHead, KeptLine, headers_at, body_at, Preamble, IsPreambleOf, HasCondition}
use Rattle.pg_hoa_syntax.proofs.Common.{HasNoPreamble, StartsBelow, listed, nothing_at, bound, states_in, state_count, Reads, NeverReads, some}
use Rattle.pg_hoa_syntax.proofs.Common.{some_is, none_is_some, one_shape}
use Rattle.pg_hoa_syntax.proofs.HeaderParts.{option_list}
use Rattle.pg_hoa_syntax.proofs.HeaderLaws.{headers_take}
use Rattle.pg_hoa_syntax.proofs.BodyLaws.{body_takes}
use Rattle.pg_hoa_syntax.proofs.ReadSpeltHeads.{shape_alike}
use Rattle.pg_hoa_syntax.proofs.ReadCan.{AreCounted, are_counted}

-- ---- what the headers say

abbrev kept : ℕ × Formula → ℕ × List Op
kept x = (x.0, postfix x.1)

first_is : {A : Type 0} (x y : A) (xs ys : List A) → x ∷ xs ≡ y ∷ ys → x ≡ y
first_is x y xs ys e = cc

accepted : (o : Option (ℕ × List Op)) (said : List (ℕ × Formula)) → option_list o ≡ map kept said → HasCondition o
accepted None said e = tt
accepted (Some x) [] e = absurd cc
accepted (Some x) (y ∷ said) e = (y.1, ap (λ (z : ℕ × List Op). z.1) (first_is x (kept y) [] (map kept said) e))

pub head_condition : (tokens : List Lexeme) (x : KeptHead × List Lexeme) → headers_at tokens ≡ Some x → HasCondition x.0.acceptance
head_condition tokens x e = let r = headers_take tokens x e in accepted x.0.acceptance (flat_map acceptances r.headers) r.says.adds.acceptance

few_listed : (names : Option (List (List ℕ))) → IfSome names (λ ns. length ns ≤ 16) → length (listed names) ≤ 16
few_listed None few = omega arith
few_listed (Some ns) few = few

pub few_names : (tokens : List Lexeme) (x : KeptHead × List Lexeme) (s : Preamble) → headers_at tokens ≡ Some x → IsPreambleOf x.0 s
    → length s.names ≤ 16
few_names tokens x s e i =
    subst (λ (ns : List (List ℕ)). length ns ≤ 16) (sym i.names) (few_listed x.0.names (headers_take tokens x e).says.within.few_names)

few_bound : (states : Option ℕ) → IfSome states (λ n. n ≤ 65535) → bound states ≤ 65535
few_bound None few = omega arith
few_bound (Some n) few = few

pub few_states : (tokens : List Lexeme) (x : KeptHead × List Lexeme) (s : Preamble) → headers_at tokens ≡ Some x → IsPreambleOf x.0 s
    → bound s.states ≤ 65535
few_states tokens x s e i =
    subst (λ (o : Option ℕ). bound o ≤ 65535) (sym i.states) (few_bound x.0.states (headers_take tokens x e).says.within.states)

-- ---- there is one preamble

pub record SamePreamble (s t : Preamble) : Type 0 where
  pub states : s.states ≡ t.states
  pub start : s.start ≡ t.start
  pub names : s.names ≡ t.names
  pub controllable : s.controllable ≡ t.controllable
  pub sets : s.sets ≡ t.sets
  pub shape : s.shape ≡ t.shape

same_shape : (f g : Formula) (sets more : ℕ) (s t : Shape) → sets ≡ more → postfix f ≡ postfix g → HasShape f sets s → HasShape g more t
    → s ≡ t
same_shape f g sets more s t n e a b = one_shape (shape_alike f g more s e (subst (λ (k : ℕ). HasShape f k s) n a)) b

pub one_preamble : (h : KeptHead) (s t : Preamble) → IsPreambleOf h s → IsPreambleOf h t → SamePreamble s t
one_preamble h s t i j =
    let start = some_is s.start t.start (sym i.start ∙ j.start) in
    let pair = some_is (kept (s.sets, i.condition)) (kept (t.sets, j.condition)) (sym i.acceptance ∙ j.acceptance) in
    let sets : s.sets ≡ t.sets = ap (λ (x : ℕ × List Op). x.0) pair in
    let ops : postfix i.condition ≡ postfix j.condition = ap (λ (x : ℕ × List Op). x.1) pair in
    record {
      states = i.states ∙ sym j.states;
      start = start;
      names = i.names ∙ sym j.names;
      controllable = i.controllable ∙ sym j.controllable;
      sets = sets;
      shape = same_shape i.condition j.condition s.sets t.sets s.shape t.shape sets ops i.shape j.shape;
    }

-- ---- where reading fails

pub headers_never : (refusal : PartRefusal) (tokens : List Lexeme) → Fails refusal (headers_at tokens) → NeverReads tokens refusal
headers_never Memory tokens f = tt
headers_never (Wrong fault) tokens f = λ h s lines r. none_is_some (h, r.behind) (sym f ∙ r.headers)

-- there is one head, and the same tokens stand behind it
same_head : (tokens behind more : List Lexeme) (h k : KeptHead) → headers_at tokens ≡ Some (h, behind) → headers_at tokens ≡ Some (k, more)
    → (k ≡ h) × (more ≡ behind)
same_head tokens behind more h k e d = let pair = some_is (k, more) (h, behind) (sym d ∙ e) in
    (ap (λ (x : KeptHead × List Lexeme). x.0) pair, ap (λ (x : KeptHead × List Lexeme). x.1) pair)

preamble_too : (tokens behind : List Lexeme) (h k : KeptHead) (s : Preamble) (lines : List KeptLine) → headers_at tokens ≡ Some (h, behind)
    → Reads tokens k s lines → IsPreambleOf h s
preamble_too tokens behind h k s lines e r =
    subst (λ (g : KeptHead). IsPreambleOf g s) (same_head tokens behind r.behind h k e r.headers).0 r.preamble

pub preamble_never : (refusal : PartRefusal) (tokens behind : List Lexeme) (h : KeptHead) → headers_at tokens ≡ Some (h, behind)
    → HasNoPreamble h refusal → NeverReads tokens refusal
preamble_never Memory tokens behind h e never = tt
preamble_never (Wrong fault) tokens behind h e never = λ k s lines r. never s (preamble_too tokens behind h k s lines e r)

-- whatever is read has these lines in its body
same_body : (tokens behind : List Lexeme) (h k : KeptHead) (s t : Preamble) (lines : List KeptLine) → headers_at tokens ≡ Some (h, behind)
    → IsPreambleOf h s → Reads tokens k t lines → body_at (bound s.states) (length s.names) s.sets behind ≡ some (lines, [])
same_body tokens behind h k s t lines e i r = grind (
  arith,
  nat_tests,
  one_preamble h s t i (preamble_too tokens behind h k t lines e r),
  same_head tokens behind r.behind h k e r.headers,
)

pub body_never : (refusal : PartRefusal) (tokens behind : List Lexeme) (h : KeptHead) (s : Preamble) → headers_at tokens ≡ Some (h, behind)
    → IsPreambleOf h s → Fails refusal (body_at (bound s.states) (length s.names) s.sets behind) → NeverReads tokens refusal
body_never Memory tokens behind h s e i f = tt
body_never (Wrong fault) tokens behind h s e i f =
    λ k t lines r. none_is_some (lines, []) (sym f ∙ same_body tokens behind h k s t lines e i r)

pub end_never : (refusal : PartRefusal) (tokens behind rest : List Lexeme) (h : KeptHead) (s : Preamble) (lines : List KeptLine)
    → headers_at tokens ≡ Some (h, behind) → IsPreambleOf h s → body_at (bound s.states) (length s.names) s.sets behind ≡ Some (lines, rest)
    → Fails refusal (nothing_at rest) → NeverReads tokens refusal
end_never Memory tokens behind rest h s lines e i b f = tt
end_never (Wrong fault) tokens behind rest h s lines e i b f = grind (arith, nat_tests)

-- ---- where all is read

nothing_left : (rest : List Lexeme) → nothing_at rest ≡ Some 0 → rest ≡ []
nothing_left [] e = refl
nothing_left (t ∷ rest) e = absurd (none_is_some 0 e)

pub all_read : (tokens behind rest : List Lexeme) (h : KeptHead) (s : Preamble) (lines : List KeptLine)
    → headers_at tokens ≡ Some (h, behind) → IsPreambleOf h s → body_at (bound s.states) (length s.names) s.sets behind ≡ Some (lines, rest)
    → nothing_at rest ≡ Some 0 → Reads tokens h s lines
all_read tokens behind rest h s lines e i b n = grind (arith, nat_tests, nothing_left rest n)

if_some : {A : Type 0} (P : A → Type 0) (o : Option A) (x : A) → o ≡ Some x → IfSome o P → P x
if_some {A = A} P o x e p = subst (λ (q : Option A). IfSome q P) e p

-- the start and the counts are in range
pub record IsInRange (s : Preamble) (lines : List KeptLine) : Type 0 where
  pub start_below : s.start < state_count s lines
  pub few_states : state_count s lines ≤ 65535
  pub few_propositions : length s.names ≤ 16
  pub few_sets : s.sets ≤ 4096

pub reads_within : (tokens : List Lexeme) (h : KeptHead) (s : Preamble) (lines : List KeptLine) → Reads tokens h s lines → IsInRange s lines
reads_within tokens h s lines r =
    let i = r.preamble in
    let says = (headers_take tokens (h, r.behind) r.headers).says in
    let body = body_takes (bound s.states) (length s.names) s.sets r.behind (lines, []) r.body in
    let low : s.start ≤ 65534 = if_some (λ (q : ℕ). q ≤ 65534) h.start s.start i.start says.within.start in
    let below : StartsBelow s.start s.states = subst (StartsBelow s.start) (sym i.states) i.start_below in
    let few = few_states tokens (h, r.behind) s r.headers i in
    let all : AreCounted (states_in s.states s.start lines) s.start =
    subst (λ (ls : List KeptLine). AreCounted (states_in s.states s.start ls) s.start) body.kept
    (are_counted s.states s.start (length s.names) s.sets body.lines few low below body.fit) in
    record {
      start_below = all.start_below;
      few_states = all.few;
      few_propositions = few_names tokens (h, r.behind) s r.headers i;
      few_sets = if_some (λ (x : ℕ × List Op). x.0 ≤ 4096) h.acceptance (kept (s.sets, i.condition)) i.acceptance says.within.sets;
    }
