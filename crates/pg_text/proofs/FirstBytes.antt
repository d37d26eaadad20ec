-- The first byte behind white space says which token stands there.
use Rattle.pg_text.proofs.Common.{◌≡◌, ◌≢◌, ℕ, ◌≤◌, Bool, true, false, eqb, get_or, List, [], ◌∷◌, ◌++◌, length, Option, None, Result, Ok}
use Rattle.pg_text.proofs.Common.{Err, IfErr, option_map, Bor, refl, sym, ap, subst, ◌∙◌, arith, nat_tests, result_ok, Line, Lexeme, number}
use Rattle.pg_text.proofs.Common.{semicolon, comma, quoted, end, is_space, IsSpelt, after_space, is_digit, Each, Stops, TokenFault}
use Rattle.pg_text.proofs.Common.{NumberTooLarge, number_at, solid_at, lexeme_at, or_fault, token_at, ◌>>=◌, Read, Reads, Step, item, stop}
use Rattle.pg_text.proofs.Common.{misplaced_in, misplaced, number_in, natural_at, string_in, string_at, semicolon_in, semicolon_at}
use Rattle.pg_text.proofs.Common.{further_in, further_at, ending_in, ending_at, line_at, item_in, item_at, some, run_stops}
use Rattle.pg_text.proofs.Common.{Some, drop, one_more, rest_again, player_in, owner_at}
use Rattle.pg_text.proofs.Steps.{ok, err, ok_is, err_is_ok}
use Rattle.pg_text.proofs.Lexing.{solid_digit, solid_again, token_fronts, digit_no_space}

-- ---- digits

-- a digit stands first
token_of_digits : (bytes front : List ℕ) → front ≡ after_space bytes → 1 ≤ length front → is_digit (get_or front 0 0) ≡ true
    → token_at bytes ≡ or_fault (number_at front) (NumberTooLarge (length front))
unfolding token_at lexeme_at
token_of_digits bytes [] is some digit = absurd (omega arith)
token_of_digits bytes (b ∷ rest) is some digit = rw (sym is, solid_digit b rest digit, digit) refl

-- what is read of the digits is read of the text
pub natural_of_digits : (r : Result (ℕ × Bor (List ℕ)) TokenFault) (bytes front : List ℕ) → front ≡ after_space bytes
    → 1 ≤ length front → is_digit (get_or front 0 0) ≡ true
    → option_map (λ x. (number x.0, x.1.now)) (result_ok r) ≡ number_at front → IfErr r (λ e. e ≡ NumberTooLarge (length front))
    → Reads (λ x. (x.0, x.1.now)) r (natural_at bytes)
unfolding natural_at
natural_of_digits (Ok x) bytes front is some digit token fault = rw (token_of_digits bytes front is some digit, sym token) refl
natural_of_digits (Err e) bytes front is some digit token fault =
    rw (token_of_digits bytes front is some digit, sym token) (ap err (sym fault))

first_passes : (test : ℕ → Bool) (text rest : List ℕ) → text ≢ [] → Each test text → (1 ≤ length (text ++ rest)) × (test (get_or (text ++ rest) 0 0) ≡ true)
first_passes test [] rest some each = absurd (some refl)
first_passes test (b ∷ text) rest some each = (omega arith, each.0)

no_digits : (bytes front : List ℕ) (n : ℕ) (rest : List ℕ) → front ≡ after_space bytes
    → (1 ≤ length front → is_digit (get_or front 0 0) ≡ false) → token_at bytes ≡ Ok (number n, rest) → ⊥
no_digits bytes front n rest is other e =
    let token = token_fronts bytes (number n, rest) e in
    let first = first_passes is_digit token.text rest token.spelt.0 token.spelt.1 in
    let fails : is_digit (get_or (token.text ++ rest) 0 0) ≡ false =
    subst (λ (bs : List ℕ). 1 ≤ length bs → is_digit (get_or bs 0 0) ≡ false) (is ∙ token.parts) other first.0 in
    let both : true ≡ false = sym first.1 ∙ fails in
    cc

-- no digit stands first
pub natural_of_others : (bytes front : List ℕ) → front ≡ after_space bytes → (1 ≤ length front → is_digit (get_or front 0 0) ≡ false)
    → natural_at bytes ≡ Err (misplaced bytes)
unfolding natural_at misplaced
natural_of_others bytes front is other = go (token_at bytes) refl
  where
    go : (o : Read (Lexeme × List ℕ)) → token_at bytes ≡ o → (o >>= number_in bytes) ≡ Err (misplaced_in bytes o)
    go (Err e) h = refl
    go (Ok (number n, rest)) h = absurd (no_digits bytes front n rest is other h)
    go (Ok (_, rest)) h = refl

pub after_space-again : (bytes : List ℕ) → after_space (after_space bytes) ≡ after_space bytes
after_space-again bytes = grind (arith, nat_tests, run_stops is_space bytes)

-- white space in front makes no difference
natural_behind : (bytes : List ℕ) → natural_at (after_space bytes) ≡ natural_at bytes
unfolding natural_at token_at lexeme_at
natural_behind bytes = grind (arith, nat_tests, after_space-again bytes)

-- a byte of white space in front makes none
pub blank_skipped : (bytes : List ℕ) → 1 ≤ length bytes → is_space (get_or bytes 0 0) ≡ true
    → after_space (drop 1 bytes) ≡ after_space bytes
blank_skipped [] some blank = absurd (omega arith)
blank_skipped (b ∷ bytes) some blank = rw (one_more is_space b bytes blank) refl

at_digit : (bytes : List ℕ) → 1 ≤ length bytes → is_digit (get_or bytes 0 0) ≡ true → bytes ≡ after_space bytes
at_digit [] some digit = absurd (omega arith)
at_digit (b ∷ bytes) some digit = sym (rest_again is_space [] (b ∷ bytes) tt (digit_no_space b digit))

-- the number whose digits stand at the front, perhaps behind a byte of white space
pub natural_of_front : (bytes front : List ℕ) (n : ℕ) (rest : List ℕ) → after_space front ≡ after_space bytes → 1 ≤ length front
    → is_digit (get_or front 0 0) ≡ true → number_at front ≡ Some (number n, rest) → natural_at bytes ≡ Ok (n, rest)
unfolding natural_at
natural_of_front bytes front n rest same some digit e =
    rw (token_of_digits bytes front (at_digit front some digit ∙ same) some digit, e) refl

-- ---- semicolons and commas

token_of_byte : (bytes : List ℕ) (b : ℕ) (token : Lexeme) (rest : List ℕ) → after_space bytes ≡ b ∷ rest → IsSpelt token (b ∷ []) rest
    → token_at bytes ≡ Ok (token, rest)
unfolding token_at lexeme_at
token_of_byte bytes b token rest is spelt = rw (is, solid_again token (b ∷ []) rest spelt) refl

pub semicolon_of_byte : (bytes rest : List ℕ) → after_space bytes ≡ 59 ∷ rest → semicolon_at bytes ≡ Ok rest
unfolding semicolon_at
semicolon_of_byte bytes rest is = rw (token_of_byte bytes 59 semicolon rest is refl) refl

no_semicolon : (bytes rest : List ℕ) → Stops (λ b. eqb b 59) (after_space bytes) → token_at bytes ≡ Ok (semicolon, rest) → ⊥
no_semicolon bytes rest other e = grind (arith, nat_tests, token_fronts bytes (semicolon, rest) e)

pub semicolon_of_others : (bytes : List ℕ) → Stops (λ b. eqb b 59) (after_space bytes) → semicolon_at bytes ≡ Err (misplaced bytes)
unfolding semicolon_at misplaced
semicolon_of_others bytes other = go (token_at bytes) refl
  where
    go : (o : Read (Lexeme × List ℕ)) → token_at bytes ≡ o → (o >>= semicolon_in bytes) ≡ Err (misplaced_in bytes o)
    go (Err e) h = refl
    go (Ok (semicolon, rest)) h = absurd (no_semicolon bytes rest other h)
    go (Ok (_, rest)) h = refl

pub further_of_comma : (bytes rest : List ℕ) → after_space bytes ≡ 44 ∷ rest → further_at bytes ≡ (natural_at rest >>= λ n. ok (item n.0, n.1))
unfolding further_at
further_of_comma bytes rest is = rw (token_of_byte bytes 44 comma rest is refl) refl

pub further_of_semicolon : (bytes rest : List ℕ) → after_space bytes ≡ 59 ∷ rest → further_at bytes ≡ Ok (stop tt, bytes)
unfolding further_at
further_of_semicolon bytes rest is = rw (token_of_byte bytes 59 semicolon rest is refl) refl

-- another token than a comma stands there
pub further_of_others : (bytes : List ℕ) (x : Lexeme × List ℕ) → Stops (λ b. eqb b 44) (after_space bytes) → token_at bytes ≡ Ok x
    → further_at bytes ≡ Ok (stop tt, bytes)
unfolding further_at
further_of_others bytes x other e = rw e (go x e)
  where
    go : (x : Lexeme × List ℕ) → token_at bytes ≡ Ok x → further_in bytes x ≡ Ok (stop tt, bytes)
    go (comma, rest) h =
        let token = token_fronts bytes (comma, rest) h in
        let same : true ≡ false = subst (Stops (λ b. eqb b 44)) (token.parts ∙ ap (λ (text : List ℕ). text ++ rest) token.spelt) other in
        absurd cc
    go (_, rest) h = refl

-- ---- names and lines of games

pub ending_of_byte : (bytes rest : List ℕ) → after_space bytes ≡ 59 ∷ rest → ending_at bytes ≡ Ok (None, rest)
unfolding ending_at
ending_of_byte bytes rest is = rw (token_of_byte bytes 59 semicolon rest is refl) refl

-- a name, and what stands behind it
abbrev pub named : List ℕ × List ℕ → Read (Option (List ℕ) × List ℕ)
named name = semicolon_at name.1 >>= λ after. ok (some name.0, after)

pub ending_of_others : (bytes : List ℕ) → Stops (λ b. eqb b 59) (after_space bytes) → ending_at bytes ≡ (string_at bytes >>= named)
unfolding ending_at string_at
ending_of_others bytes other = go (token_at bytes) refl
  where
    go : (o : Read (Lexeme × List ℕ)) → token_at bytes ≡ o → (o >>= ending_in bytes) ≡ (o >>= string_in bytes >>= named)
    go (Err e) h = refl
    go (Ok (quoted s, rest)) h = refl
    go (Ok (semicolon, rest)) h = absurd (no_semicolon bytes rest other h)
    go (Ok (_, rest)) h = refl

pub item_of_none : (bytes front : List ℕ) → front ≡ after_space bytes → length front ≡ 0 → item_at bytes ≡ Ok (stop tt, front)
unfolding item_at token_at lexeme_at solid_at
item_of_none bytes [] is none = rw (sym is) refl
item_of_none bytes (b ∷ front) is none = absurd (omega arith)

-- the line with this number, as an item
abbrev pub line_of : ℕ × List ℕ → Read (Step Line (Unit {0}) × List ℕ)
line_of n = line_at n.0 n.1 >>= λ l. ok (item l.0, l.1)

item_is_line : (bytes front : List ℕ) → front ≡ after_space bytes → 1 ≤ length front → item_at bytes ≡ (natural_at front >>= line_of)
unfolding item_at natural_at
item_is_line bytes front is some =
    go (token_at bytes) refl ∙ ap (λ (r : Read (ℕ × List ℕ)). r >>= line_of) (sym (natural_behind bytes) ∙ ap natural_at (sym is))
  where
    go : (o : Read (Lexeme × List ℕ)) → token_at bytes ≡ o → (o >>= item_in bytes) ≡ (o >>= number_in bytes >>= line_of)
    go (Err e) h = refl
    go (Ok (number n, rest)) h = refl
    go (Ok (end, rest)) h =
        let token = token_fronts bytes (end, rest) h in
        let none : front ≡ [] = is ∙ token.parts ∙ rw (token.spelt.0, token.spelt.1) refl in
        absurd (omega (arith, ap length none))
    go (Ok (_, rest)) h = refl

pub item_of_fault : (bytes front : List ℕ) (fault : TokenFault) → front ≡ after_space bytes → 1 ≤ length front
    → natural_at front ≡ Err fault → item_at bytes ≡ Err fault
item_of_fault bytes front fault is some e = item_is_line bytes front is some ∙ ap (λ (r : Read (ℕ × List ℕ)). r >>= line_of) e

pub item_of_line : (bytes front : List ℕ) (n : ℕ) (rest : List ℕ) → front ≡ after_space bytes → 1 ≤ length front
    → natural_at front ≡ Ok (n, rest) → item_at bytes ≡ line_of (n, rest)
item_of_line bytes front n rest is some e = item_is_line bytes front is some ∙ ap (λ (r : Read (ℕ × List ℕ)). r >>= line_of) e

-- where a number is read a number stands
pub token_of_number : (bytes : List ℕ) (n : ℕ) (rest : List ℕ) → natural_at bytes ≡ Ok (n, rest) → token_at bytes ≡ Ok (number n, rest)
unfolding natural_at
token_of_number bytes n rest e = go (token_at bytes) refl e
  where
    go : (o : Read (Lexeme × List ℕ)) → token_at bytes ≡ o → (o >>= number_in bytes) ≡ Ok (n, rest) → token_at bytes ≡ Ok (number n, rest)
    go (Err f) h k = absurd (err_is_ok f (n, rest) k)
    go (Ok (number m, after)) h k = h ∙ ap (λ (x : ℕ × List ℕ). ok (number x.0, x.1)) (ok_is (m, after) (n, rest) k)
    go (Ok (_, after)) h k = absurd (err_is_ok _ (n, rest) k)

pub item_of_number : (bytes : List ℕ) (n : ℕ) (rest : List ℕ) → natural_at bytes ≡ Ok (n, rest) → item_at bytes ≡ line_of (n, rest)
unfolding item_at
item_of_number bytes n rest e = rw (token_of_number bytes n rest e) refl

pub owner_of_number : (bytes : List ℕ) (n : ℕ) (rest : List ℕ) → natural_at bytes ≡ Ok (n, rest) → owner_at bytes ≡ player_in bytes (n, rest)
unfolding owner_at
owner_of_number bytes n rest e = rw e refl
