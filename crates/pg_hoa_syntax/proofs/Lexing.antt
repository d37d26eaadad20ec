-- The tokens of the bytes, one after another.
use Rattle.pg_hoa_syntax.proofs.Common.{◌≡◌, ℕ, zero, suc, ◌≤◌, ◌<◌, true, false, eqb, List, [], ◌∷◌, length, length-append, Option, Some, None}
use Rattle.pg_hoa_syntax.proofs.Common.{refl, sym, ap, ◌∙◌, arith, flat_map, eqb-true, blank_bytes, Lexeme, stray, Fails, PartRefusal, Memory}
use Rattle.pg_hoa_syntax.proofs.Common.{Wrong, HoaToken, lexeme, gap_step, gap_within, gap_from, solid_at, behind_token, behind_gap, lex_within}
use Rattle.pg_hoa_syntax.proofs.Common.{lex, first, none_is_some}
use Rattle.pg_hoa_syntax.specs.declared.token.HoaToken.TheVariants as tokens
use Rattle.pg_hoa_syntax.proofs.SpellingBlanks.{gap_written}
use Rattle.pg_hoa_syntax.proofs.SpellingTokens.{solid_takes, spelt_some}

gap_shrinks : (bytes rest : List ℕ) → gap_from 0 bytes ≡ Some rest → length rest ≤ length bytes
gap_shrinks bytes rest e =
    let w = gap_written bytes rest e in
    omega (arith, ap length w.parts, length-append (flat_map blank_bytes w.gap) rest)

-- a token takes a byte at least
pub solid_shrinks : (bytes : List ℕ) (x : Lexeme × List ℕ) → solid_at bytes ≡ Some x → length x.1 < length bytes
solid_shrinks bytes x e =
    let w = solid_takes bytes x e in
    let some_byte = spelt_some x.0 w.text x.1 w.spelt in
    omega (arith, some_byte, ap length w.parts, length-append w.text x.1)

-- ---- one token after another

enough : (n m : ℕ) (bytes : List ℕ) → length bytes < n → length bytes < m → lex_within n bytes ≡ lex_within m bytes
unfolding lex_within
enough zero m bytes p q = absurd (omega arith)
enough (suc n) zero bytes p q = absurd (omega arith)
enough (suc n) (suc m) bytes p q =
    let token : (b : ℕ) (mid : List ℕ) → length (b ∷ mid) ≤ length bytes → (o : Option (Lexeme × List ℕ)) → solid_at (b ∷ mid) ≡ o
    → behind_token (lex_within n) o ≡ behind_token (lex_within m) o
    = λ b mid le o. elim o as (λ o. solid_at (b ∷ mid) ≡ o → behind_token (lex_within n) o ≡ behind_token (lex_within m) o) [
      | None ↦ λ e. refl
      | Some x ↦ λ e. let lt = solid_shrinks (b ∷ mid) x e in ap (λ (ts : List Lexeme). x.0 ∷ ts)
          (enough n m x.1 (omega (arith, lt, le)) (omega (arith, lt, le)))
    ] in
    let gap : (o : Option (List ℕ)) → gap_from 0 bytes ≡ o → behind_gap (lex_within n) o ≡ behind_gap (lex_within m) o
    = λ o. elim o as (λ o. gap_from 0 bytes ≡ o → behind_gap (lex_within n) o ≡ behind_gap (lex_within m) o) [
      | None ↦ λ e. refl
      | Some mid ↦ elim mid as (λ mid. gap_from 0 bytes ≡ Some mid → behind_gap (lex_within n) (Some mid) ≡ behind_gap (lex_within m)
          (Some mid)) [
            | [] ↦ λ e. refl
            | b ∷ mid ↦ λ e. token b mid (gap_shrinks bytes (b ∷ mid) e) (solid_at (b ∷ mid)) refl
          ]
    ] in
    gap (gap_from 0 bytes) refl

pub lex_fails : (bytes : List ℕ) → gap_from 0 bytes ≡ None → lex bytes ≡ stray ∷ []
unfolding lex lex_within
lex_fails bytes e = rw e refl

pub lex_ends : (bytes : List ℕ) → gap_from 0 bytes ≡ Some [] → lex bytes ≡ []
unfolding lex lex_within
lex_ends bytes e = rw e refl

pub lex_wrong : (bytes : List ℕ) (b : ℕ) (mid : List ℕ) → gap_from 0 bytes ≡ Some (b ∷ mid) → solid_at (b ∷ mid) ≡ None
    → lex bytes ≡ stray ∷ []
unfolding lex lex_within
lex_wrong bytes b mid e h = rw (e, h) refl

pub lex_more : (bytes : List ℕ) (b : ℕ) (mid : List ℕ) (t : Lexeme) (rest : List ℕ) → gap_from 0 bytes ≡ Some (b ∷ mid)
    → solid_at (b ∷ mid) ≡ Some (t, rest) → lex bytes ≡ t ∷ lex rest
unfolding lex lex_within
lex_more bytes b mid t rest e h =
    let le = gap_shrinks bytes (b ∷ mid) e in
    let lt = solid_shrinks (b ∷ mid) (t, rest) h in
    rw (e, h) (ap (λ (ts : List Lexeme). t ∷ ts) (enough (length bytes) (suc (length rest)) rest (omega (arith, lt, le)) (omega arith)))

-- ---- the first token

pub first_lexeme : (t : HoaToken) (rest : List Lexeme) → first (lexeme t ∷ rest) ≡ Some (Some (lexeme t), rest)
first_lexeme (tokens.Number n) rest = refl
first_lexeme _ rest = refl

pub gap_unread : (refusal : PartRefusal) (bytes : List ℕ) → Fails refusal (gap_from 0 bytes) → Fails refusal (first (lex bytes))
gap_unread Memory bytes h = tt
gap_unread (Wrong fault) bytes h = ap first (lex_fails bytes h)

pub token_unread : (refusal : PartRefusal) (bytes mid : List ℕ) → gap_from 0 bytes ≡ Some mid → eqb (length mid) 0 ≡ false
    → Fails refusal (solid_at mid) → Fails refusal (first (lex bytes))
token_unread refusal bytes [] e lt h = absurd cc
token_unread Memory bytes (b ∷ mid) e lt h = tt
token_unread (Wrong fault) bytes (b ∷ mid) e lt h = ap first (lex_wrong bytes b mid e h)

pub ended : (bytes mid : List ℕ) → gap_from 0 bytes ≡ Some mid → eqb (length mid) 0 ≡ true → first (lex bytes) ≡ Some (None, lex mid)
unfolding gap_from gap_within gap_step
ended bytes [] e z = ap first (lex_ends bytes e) ∙ ap (λ (ts : List Lexeme). Some (None, ts)) (sym (lex_ends [] refl))
ended bytes (b ∷ mid) e z = let y : length (b ∷ mid) ≡ 0 = eqb-true (length (b ∷ mid)) 0 z in absurd (omega arith)

pub token_read : (bytes mid : List ℕ) (t : HoaToken) (rest : List ℕ) → gap_from 0 bytes ≡ Some mid → solid_at mid ≡ Some (lexeme t, rest)
    → first (lex bytes) ≡ Some (Some (lexeme t), lex rest)
unfolding solid_at
token_read bytes [] t rest e h = absurd (none_is_some (lexeme t, rest) h)
token_read bytes (b ∷ mid) t rest e h = ap first (lex_more bytes b mid (lexeme t) rest e h) ∙ first_lexeme t (lex rest)
