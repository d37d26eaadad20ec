-- The tokens of bytes that spell them: `lex` gives them, and gives no others.
use Rattle.pg_hoa_syntax.proofs.Common.{◌≡◌, ℕ, List, [], ◌∷◌, ◌++◌, Some, None, refl, ap, subst, ◌∙◌, arith, nat_tests, flat_map}
use Rattle.pg_hoa_syntax.proofs.Common.{AllByRecursion, append-nil, Lexeme, stray, Blank, blank_bytes, IsBlank, Begins, Spells, gap_step}
use Rattle.pg_hoa_syntax.proofs.Common.{gap_from, solid_at, lex, IsToken, none, none_is_some}
use Rattle.pg_hoa_syntax.proofs.Lexing.{lex_fails, lex_ends, lex_wrong, lex_more}
use Rattle.pg_hoa_syntax.proofs.SpellingBlanks.{gap_written, gap_again}
use Rattle.pg_hoa_syntax.proofs.SpellingTokens.{solid_takes, token_again}

-- ---- what `lex` says of the bytes

-- how the bytes go on, as `lex` sees it
data Seen : List ℕ → List Lexeme → Type 0 where
  ended : {bytes : List ℕ} → gap_from 0 bytes ≡ Some [] → Seen bytes []
  failed : {bytes : List ℕ} → Seen bytes (stray ∷ [])
  token : {bytes : List ℕ} {t : Lexeme} (mid rest : List ℕ) → gap_from 0 bytes ≡ Some mid → solid_at mid ≡ Some (t, rest)
      → Seen bytes (t ∷ lex rest)

seen_solid : (bytes : List ℕ) (b : ℕ) (mid : List ℕ) → gap_from 0 bytes ≡ Some (b ∷ mid) → Seen bytes (lex bytes)
seen_solid bytes b mid e =
    elim (solid_at (b ∷ mid)) as (λ o. solid_at (b ∷ mid) ≡ o → Seen bytes (lex bytes)) [
      | None ↦ λ h. rw (lex_wrong bytes b mid e h) failed
      | Some x ↦ λ h. rw (lex_more bytes b mid x.0 x.1 e h) (token (b ∷ mid) x.1 e h)
    ] refl

seen : (bytes : List ℕ) → Seen bytes (lex bytes)
seen bytes =
    elim (gap_from 0 bytes) as (λ o. gap_from 0 bytes ≡ o → Seen bytes (lex bytes)) [
      | None ↦ λ e. rw (lex_fails bytes e) failed
      | Some mid ↦ elim mid as (λ mid. gap_from 0 bytes ≡ Some mid → Seen bytes (lex bytes)) [
        | [] ↦ λ e. rw (lex_ends bytes e) (ended e)
        | b ∷ mid ↦ λ e. seen_solid bytes b mid e
      ]
    ] refl

begins : (bytes mid rest : List ℕ) (t : Lexeme) → gap_from 0 bytes ≡ Some mid → solid_at mid ≡ Some (t, rest) → Begins bytes t rest
begins bytes mid rest t e h = grind (arith, nat_tests, gap_written bytes mid e, solid_takes mid (t, rest) h)

ended_spelt : (bytes : List ℕ) (tokens : List Lexeme) → Seen bytes tokens → tokens ≡ [] → Spells bytes []
ended_spelt bytes [] (ended e) none = let g = gap_written bytes [] e in (g.gap, rw append-nil at g.parts, g.blank)
ended_spelt bytes (stray ∷ []) failed none = absurd cc
ended_spelt bytes (t ∷ tokens) (token mid rest e h) none = absurd cc

token_spelt : (bytes : List ℕ) (found : List Lexeme) (t : Lexeme) (tokens : List Lexeme) → Seen bytes found → found ≡ t ∷ tokens → IsToken t
    → (rest : List ℕ) × Begins bytes t rest × (lex rest ≡ tokens)
token_spelt bytes [] t tokens (ended e) is sound = absurd cc
token_spelt bytes (stray ∷ []) t tokens failed is sound = let same : t ≡ stray = cc in absurd (subst IsToken same sound)
token_spelt bytes (u ∷ later) t tokens (token mid rest e h) is sound =
    let same : u ≡ t = cc in
    let later : lex rest ≡ tokens = cc in
    (rest, begins bytes mid rest t e (rw same at h), later)

pub lex_spelt : (bytes : List ℕ) (tokens : List Lexeme) → AllByRecursion IsToken tokens → lex bytes ≡ tokens → Spells bytes tokens
lex_spelt bytes [] all e = ended_spelt bytes (lex bytes) (seen bytes) e
lex_spelt bytes (t ∷ tokens) all e =
    let n = token_spelt bytes (lex bytes) t tokens (seen bytes) e all.0 in
    (n.0, n.1, lex_spelt n.0 tokens all.1 n.2)

-- ---- what the bytes say of `lex`

lex_token : (bytes mid : List ℕ) (t : Lexeme) (rest : List ℕ) → gap_from 0 bytes ≡ Some mid → solid_at mid ≡ Some (t, rest)
    → lex bytes ≡ t ∷ lex rest
unfolding solid_at
lex_token bytes [] t rest e h = absurd (none_is_some (t, rest) h)
lex_token bytes (b ∷ mid) t rest e h = lex_more bytes b mid t rest e h

begins_lex : (bytes : List ℕ) (t : Lexeme) (rest : List ℕ) → Begins bytes t rest → lex bytes ≡ t ∷ lex rest
begins_lex bytes t rest b =
    let r = token_again t b.text rest b.spelt in
    let gap : gap_from 0 bytes ≡ Some (b.text ++ rest) = rw b.parts (gap_again b.gap (b.text ++ rest) b.blank r.stands) in
    lex_token bytes (b.text ++ rest) t rest gap r.read

blank_lex : (gap : List Blank) → AllByRecursion IsBlank gap → lex (flat_map blank_bytes gap) ≡ []
unfolding gap_step
blank_lex gap blank = lex_ends (flat_map blank_bytes gap) (rw append-nil at (gap_again gap [] blank refl))

pub spelt_lex : (bytes : List ℕ) (tokens : List Lexeme) → Spells bytes tokens → lex bytes ≡ tokens
spelt_lex bytes [] s = rw s.1 (blank_lex s.0 s.2)
spelt_lex bytes (t ∷ tokens) s = begins_lex bytes t s.0 s.1 ∙ ap (λ (ts : List Lexeme). t ∷ ts) (spelt_lex s.0 tokens s.2)
