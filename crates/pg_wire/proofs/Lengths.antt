-- The bytes after a length that counts them all, and the frames that they give.
use Rattle.pg_wire.proofs.Common.{◌≡◌, ℕ, ◌-◌, ◌<◌, ◌≤◌, List, [], ◌∷◌, ◌++◌, length, take, drop, get_or, refl, sym, ap, subst, ◌∙◌, arith}
use Rattle.pg_wire.proofs.Common.{w32, from_be_bytes, take_all, length-append, be_bytes_4, Frame, TellsMeasures, word, body, longest}
use Rattle.pg_wire.proofs.Common.{IsWell, Spells, IsCounted}
use Rattle.pg_wire.specs.declared.frame.Frame.TheVariants as frames
use Rattle.pg_wire.proofs.Grammar.{IsBytes, IsBytes-take}
use Rattle.pg_wire.proofs.Bodies.{spelling_split}

pub counted_by : (bytes front rest : List ℕ) (n : ℕ) → IsBytes bytes → front ≡ take 4 bytes → bytes ≡ front ++ rest → length front ≡ 4
    → n ≡ from_be_bytes w32 front → length rest ≡ n → n ≤ longest → IsCounted bytes rest
counted_by bytes front rest n fits taken e len is size within =
    let small : IsBytes front = subst IsBytes (sym taken) (IsBytes-take 4 bytes fits) in
    let first : word (length rest) ≡ front = ap word size ∙ be_bytes_4 front n len small is in
    record { within = omega arith; whole = e ∙ ap (λ (t : List ℕ). t ++ rest) (sym first) }

-- too few bytes for a length
pub too_few : (bytes : List ℕ) (f : Frame) → length bytes < 4 → Spells f bytes → ⊥
too_few bytes f few s = absurd (omega (arith, ap length s.spelled, length-append (word (length (body f))) (body f)))

-- a length that is over the limit, or doesn't count the bytes
pub miscounted : (bytes front rest : List ℕ) (n : ℕ) (f : Frame) → bytes ≡ front ++ rest → length front ≡ 4 → n ≡ from_be_bytes w32 front
    → ((length rest ≡ n) → n ≤ longest → ⊥) → Spells f bytes → ⊥
miscounted bytes front rest n f e len is other s =
    let split = spelling_split bytes front rest f e len s in
    let size : length rest ≡ n = sym (is ∙ split.size) in
    other size (omega (arith, size, split.within))

-- the bytes after the length are the body of the frame that is spelled
pub counted_body : (bytes rest : List ℕ) (f : Frame) → IsCounted bytes rest → Spells f bytes → rest ≡ body f
counted_body bytes rest f c s = (spelling_split bytes (word (length rest)) rest f c.whole refl s).whole

-- the body of a well frame after its length
pub counted_spells : (bytes rest : List ℕ) (f : Frame) → IsCounted bytes rest → rest ≡ body f → IsWell f → Spells f bytes
counted_spells bytes rest f c is well = record {
  well = well;
  within = subst (λ (t : List ℕ). length t ≤ longest) is c.within;
  spelled = subst (λ (t : List ℕ). bytes ≡ word (length t) ++ t) is c.whole;
}

-- the bytes after a kind
abbrev pub after_kind : List ℕ → List ℕ
after_kind rest = take (length rest - 1) (drop 1 rest)

pub kind_and_after : (rest : List ℕ) (kind : ℕ) → 1 ≤ length rest → get_or rest 0 0 ≡ kind → (kind ∷ after_kind rest) ≡ rest
kind_and_after [] kind some is = absurd (omega arith)
kind_and_after (k ∷ fields) kind some is =
    let size : length (k ∷ fields) - 1 ≡ length fields = omega arith in
    ap (λ (n : ℕ). n ∷ take (length (k ∷ fields) - 1) fields) (sym is) ∙ ap (λ (n : ℕ). k ∷ take n fields) size
    ∙ ap (λ (t : List ℕ). k ∷ t) (take_all (length fields) fields (omega arith))

-- a frame of measures has a body
pub no_measures : (f : Frame) → TellsMeasures f → length (body f) < 1 → ⊥
no_measures (frames.Values v) tells few = absurd (omega arith)
no_measures (frames.Sparse s) tells few = absurd (omega arith)
no_measures f tells few = absurd tells
