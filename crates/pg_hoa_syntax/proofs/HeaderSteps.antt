-- Header by header.
use Rattle.pg_hoa_syntax.proofs.Common.{◌≡◌, ℕ, suc, zero, ◌<◌, List, ◌∷◌, length, Option, Some, None, refl, sym, arith, nat_tests, PartRefusal}
use Rattle.pg_hoa_syntax.proofs.Common.{Memory, Wrong, Lexeme, header, body, first, ◌>>=◌, Fails, KeptHead, header_at, headers_within}
use Rattle.pg_hoa_syntax.proofs.Common.{headers_from, none_is_some}
use Rattle.pg_hoa_syntax.proofs.Turning.{first_end, first_token}
use Rattle.pg_hoa_syntax.proofs.HeaderLaws.{header_shorter}

-- how many headers may follow doesn't matter where it is enough
enough : (n m : ℕ) (h : KeptHead) (tokens : List Lexeme) → length tokens < n → length tokens < m
    → headers_within n h tokens ≡ headers_within m h tokens
unfolding headers_within
enough zero m h tokens p q = absurd (omega arith)
enough (suc n) zero h tokens p q = absurd (omega arith)
enough (suc n) (suc m) h (body ∷ rest) p q = refl
enough (suc n) (suc m) h (header name ∷ rest) p q =
    elim (header_at h name rest) as (λ v. header_at h name rest ≡ v
    → (v >>= λ x. headers_within n x.0 x.1) ≡ (v >>= λ x. headers_within m x.0 x.1)) [
      | None ↦ λ e. refl
      | Some x ↦ λ e. let shorter = header_shorter h name rest x e in enough n m x.0 x.1 (omega arith) (omega arith)
    ] refl
enough (suc n) (suc m) h _ p q = refl

headers_none : (h : KeptHead) (ts : List Lexeme) → first ts ≡ None → headers_from h ts ≡ None
unfolding headers_from headers_within
headers_none h (body ∷ ts) e = absurd (none_is_some (Some body, ts) (sym e))
headers_none h (header name ∷ ts) e = absurd (none_is_some (Some (header name), ts) (sym e))
headers_none h _ e = refl

pub headers_fail : (refusal : PartRefusal) (h : KeptHead) (ts : List Lexeme) → Fails refusal (first ts) → Fails refusal (headers_from h ts)
headers_fail Memory h ts f = tt
headers_fail (Wrong fault) h ts f = headers_none h ts f

pub headers_end : (h : KeptHead) (ts after : List Lexeme) → first ts ≡ Some (Some body, after) → headers_from h ts ≡ Some (h, after)
unfolding headers_from headers_within
headers_end h ts after e = rw (first_token ts body after e) refl

pub headers_more : (h : KeptHead) (name : List ℕ) (ts after : List Lexeme) (x : KeptHead × List Lexeme)
    → first ts ≡ Some (Some (header name), after) → header_at h name after ≡ Some x → headers_from h ts ≡ headers_from x.0 x.1
unfolding headers_from headers_within
headers_more h name ts after x e f =
    let shorter = header_shorter h name after x f in
    rw (first_token ts (header name) after e, f) (enough (suc (length after)) (suc (length x.1)) x.0 x.1 (omega arith) (omega arith))

pub header_fails : (refusal : PartRefusal) (h : KeptHead) (name : List ℕ) (ts after : List Lexeme) → first ts ≡ Some (Some (header name), after)
    → Fails refusal (header_at h name after) → Fails refusal (headers_from h ts)
unfolding headers_from headers_within
header_fails Memory h name ts after e f = tt
header_fails (Wrong fault) h name ts after e f = rw (first_token ts (header name) after e, f) refl

pub fewer : (h : KeptHead) (name : List ℕ) (ts after : List Lexeme) (x : KeptHead × List Lexeme)
    → first ts ≡ Some (Some (header name), after) → header_at h name after ≡ Some x → length x.1 < length ts
fewer h name ts after x e f = grind (arith, nat_tests, header_shorter h name after x f, first_token ts (header name) after e)

-- what may stand there is a header or the end of the headers
abbrev pub IsElse : Option Lexeme → Type 0
IsElse (Some body) = ⊥
IsElse (Some (header name)) = ⊥
IsElse _ = Unit {0}

pub headers_refused : (h : KeptHead) (ts after : List Lexeme) (t : Option Lexeme) → first ts ≡ Some (t, after) → IsElse t
    → headers_from h ts ≡ None
unfolding headers_from headers_within
headers_refused h ts after None e other = rw (first_end ts after e).0 refl
headers_refused h ts after (Some body) e other = absurd other
headers_refused h ts after (Some (header name)) e other = absurd other
headers_refused h ts after (Some t) e other = rw (first_token ts t after e) refl
