-- A header ahead of the others is spelt.
use Rattle.pg_hoa_syntax.proofs.Common.{◌≡◌, ℕ, ◌+◌, ◌<◌, ◌≤◌, true, false, cond, ltb, List, [], ◌∷◌, ◌++◌, map, refl, sym, ap, subst, arith}
use Rattle.pg_hoa_syntax.proofs.Common.{nat_tests, codes, append_assoc, flat_map, AllByRecursion, All, All-head, All-tail, Lexeme, number}
use Rattle.pg_hoa_syntax.proofs.Common.{identifier, header, body, end, space, is_space, is_digit, Stops, value_of, Spells, IsText, Written}
use Rattle.pg_hoa_syntax.proofs.Common.{header_lexemes, text_lexemes, ltb-true, lex, IsToken, state_lexemes, IsSpelt, Begins, stray}
use Rattle.pg_hoa_syntax.specs.Mirrors.HeaderNames.{behind_version, control_bytes}
use Rattle.pg_hoa_syntax.specs.Headers.{with_controls}
use Rattle.pg_hoa_syntax.proofs.Spelling.{lex_spelt}

-- ---- what stands before tokens

space_before : (b : ℕ) (bytes : List ℕ) (tokens : List Lexeme) → is_space b ≡ true → Spells bytes tokens → Spells (b ∷ bytes) tokens
space_before b bytes [] h s = (space b ∷ s.0, ap (λ (l : List ℕ). b ∷ l) s.1, (h, s.2))
space_before b bytes (t ∷ tokens) h s = (
  s.0,
  record {
    gap = space b ∷ s.1.gap;
    text = s.1.text;
    parts = ap (λ (l : List ℕ). b ∷ l) s.1.parts;
    blank = (h, s.1.blank);
    spelt = s.1.spelt;
  },
  s.2,
)

one_digit : (n : ℕ) (bytes : List ℕ) (tokens : List Lexeme) → n < 10 → Stops is_digit bytes → Spells bytes tokens
    → Spells (32 ∷ (48 + n) ∷ bytes) (number n ∷ tokens)
one_digit n bytes tokens low stops s =
    let digit : is_digit (48 + n) ≡ true = grind (arith, nat_tests) in
    let value : value_of ((48 + n) ∷ []) ≡ n = omega arith in
    let begins : Begins (32 ∷ (48 + n) ∷ bytes) (number n) bytes = record {
      gap = space 32 ∷ [];
      text = (48 + n) ∷ [];
      parts = refl;
      blank = (refl, tt);
      spelt = ((λ e. absurd cc), (digit, tt), stops, value, omega arith);
    } in (bytes, begins, s)

two_digits : (n : ℕ) (bytes : List ℕ) (tokens : List Lexeme) → 10 ≤ n → n < 16 → Stops is_digit bytes → Spells bytes tokens
    → Spells (32 ∷ 49 ∷ (38 + n) ∷ bytes) (number n ∷ tokens)
two_digits n bytes tokens high low stops s =
    let digit : is_digit (38 + n) ≡ true = grind (arith, nat_tests) in
    let value : value_of (49 ∷ (38 + n) ∷ []) ≡ n = omega arith in
    let begins : Begins (32 ∷ 49 ∷ (38 + n) ∷ bytes) (number n) bytes = record {
      gap = space 32 ∷ [];
      text = 49 ∷ (38 + n) ∷ [];
      parts = refl;
      blank = (refl, tt);
      spelt = ((λ e. absurd cc), (refl, (digit, tt)), stops, value, omega arith);
    } in (bytes, begins, s)

number_before : (n : ℕ) (bytes : List ℕ) (tokens : List Lexeme) → n < 16 → Stops is_digit bytes → Spells bytes tokens
    → Spells (control_bytes n ++ bytes) (number n ∷ tokens)
number_before n bytes tokens low stops s =
    elim (ltb n 10) as (λ b. ltb n 10 ≡ b
    → Spells (cond b (32 ∷ (48 + n) ∷ []) (32 ∷ 49 ∷ (38 + n) ∷ []) ++ bytes) (number n ∷ tokens)) [
      | true ↦ λ e. one_digit n bytes tokens (ltb-true n 10 e) stops s
      | false ↦ λ e. two_digits n bytes tokens (grind (arith, nat_tests)) low stops s
    ] refl

controls_stop : (ns : List ℕ) (rest : List ℕ) → Stops is_digit (flat_map control_bytes ns ++ (10 ∷ rest))
controls_stop [] rest = refl
controls_stop (n ∷ ns) rest =
    elim (ltb n 10) as (λ b. Stops is_digit ((cond b (32 ∷ (48 + n) ∷ []) (32 ∷ 49 ∷ (38 + n) ∷ []) ++ flat_map control_bytes ns)
    ++ (10 ∷ rest))) [
      | true ↦ refl
      | false ↦ refl
    ]

numbers_before : (ns rest : List ℕ) (tokens : List Lexeme) → All (λ n. n < 16) ns → Spells rest tokens
    → Spells (flat_map control_bytes ns ++ (10 ∷ rest)) (map number ns ++ tokens)
numbers_before [] rest tokens low s = space_before 10 rest tokens refl s
numbers_before (n ∷ ns) rest tokens low s =
    rw (append_assoc (control_bytes n) (flat_map control_bytes ns) (10 ∷ rest))
    (number_before n (flat_map control_bytes ns ++ (10 ∷ rest)) (map number ns ++ tokens) (All-head (λ m. m < 16) n ns low) (controls_stop ns rest)
    (numbers_before ns rest tokens (All-tail (λ m. m < 16) n ns low) s))

-- ---- the whole text

front_before : (bytes : List ℕ) (tokens : List Lexeme) → Spells bytes tokens
    → Spells (codes "HOA: v1\ncontrollable-AP:" ++ bytes)
    (header (codes "HOA") ∷ identifier (codes "v1") ∷ header (codes "controllable-AP") ∷ tokens)
front_before bytes tokens s =
    let last = codes "\ncontrollable-AP:" ++ bytes in
    let later = codes " v1\ncontrollable-AP:" ++ bytes in
    let control : Begins last (header (codes "controllable-AP")) bytes = record {
      gap = space 10 ∷ [];
      text = codes "controllable-AP:";
      parts = refl;
      blank = (refl, tt);
      spelt = (
        (refl, (refl, (refl, (refl, (refl, (refl, (refl, (refl, (refl, (refl, (refl, (refl, (refl, (refl, (refl, tt))))))))))))))),
        refl,
      );
    } in
    let version : Begins later (identifier (codes "v1")) last = record {
      gap = space 32 ∷ [];
      text = codes "v1";
      parts = refl;
      blank = (refl, tt);
      spelt = ((refl, (refl, tt)), refl, refl, refl);
    } in
    let opening : Begins (codes "HOA: v1\ncontrollable-AP:" ++ bytes) (header (codes "HOA")) later = record {
      gap = [];
      text = codes "HOA:";
      parts = refl;
      blank = tt;
      spelt = ((refl, (refl, (refl, tt))), refl);
    } in (later, opening, (last, version, (bytes, control, s)))

-- what is spelt are tokens
token_spelt : (t : Lexeme) (text rest : List ℕ) → IsSpelt t text rest → IsToken t
token_spelt stray text rest s = absurd s
token_spelt t text rest s = tt

tokens_spelt : (bytes : List ℕ) (tokens : List Lexeme) → Spells bytes tokens → AllByRecursion IsToken tokens
tokens_spelt bytes [] s = tt
tokens_spelt bytes (t ∷ tokens) s = (token_spelt t s.1.text s.0 s.1.spelt, tokens_spelt s.0 tokens s.2)

rest_spelt : (bytes rest : List ℕ) (w : Written) → IsText bytes w → lex rest ≡ behind_version w → Spells rest (behind_version w)
rest_spelt bytes rest w t is = lex_spelt rest (behind_version w) (tokens_spelt bytes (text_lexemes w) t.spelt).1.1 is

pub controls_written : (bytes rest new ns : List ℕ) (w : Written) → lex rest ≡ behind_version w → All (λ n. n < 16) ns
    → new ≡ codes "HOA: v1\ncontrollable-AP:" ++ (flat_map control_bytes ns ++ (10 ∷ rest))
    → IsText bytes w → IsText new (with_controls ns w)
controls_written bytes rest new ns w behind low is t =
    let tokens = flat_map header_lexemes w.headers in
    let last = body ∷ (flat_map state_lexemes w.lines ++ (end ∷ [])) in
    let spelt = front_before (flat_map control_bytes ns ++ (10 ∷ rest)) (map number ns ++ (tokens ++ last))
    (numbers_before ns rest (tokens ++ last) low (rest_spelt bytes rest w t behind)) in
    let same : text_lexemes (with_controls ns w)
    ≡ header (codes "HOA") ∷ identifier (codes "v1") ∷ header (codes "controllable-AP") ∷ (map number ns ++ (tokens ++ last)) =
    ap (λ (ts : List Lexeme). header (codes "HOA") ∷ identifier (codes "v1") ∷ header (codes "controllable-AP") ∷ ts)
    (append_assoc (map number ns) tokens last) in
    record {
      spelt = subst (λ (ts : List Lexeme). Spells new ts) (sym same)
          (subst (λ (bytes : List ℕ). Spells bytes (header (codes "HOA") ∷ identifier (codes "v1") ∷ header (codes "controllable-AP")
          ∷ (map number ns ++ (tokens ++ last)))) (sym is) spelt);
      headers = (tt, t.headers);
    }
