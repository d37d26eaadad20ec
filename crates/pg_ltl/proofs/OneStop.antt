-- A text stops making sense at one byte.
use Rattle.std.proofs.Common.{◌≡◌, ℕ, ◌⊎◌, inl, inr, List, [], ◌∷◌, ◌++◌, length, Some, refl, sym, subst, ap, ◌∙◌, arith, append_assoc}
use Rattle.std.specs.List.{fold}
use Rattle.pg_list_lemmas.proofs.Steps.{some_is}
use Rattle.pg_ltl.specs.declared.token.FormulaToken.{FormulaToken}
use Rattle.pg_ltl.specs.FormulaTexts.{AreTokensOf, BeginsNone}
use Rattle.pg_ltl.specs.Words.{Word, behind_blanks, word_at, Begins}
use Rattle.pg_ltl.specs.Texts.{Noted, note, noted, IsWrong, StopsAt}
use Rattle.pg_ltl.proofs.Spelling.{noted-push, noted-append, tokens_grow}

-- the second words go on where the first ones end
record GoesOn (first : List Word) (rest : List ℕ) (second : List Word) : Type 0 where
  pub word : Word
  pub after : List ℕ
  pub is : word_at (behind_blanks rest) ≡ Some (word, after)
  pub more : List Word
  pub longer : second ≡ first ++ (word ∷ more)

abbrev Compared : List Word → List ℕ → List Word → List ℕ → Type 0
Compared first rest second other = (rest ≡ other) ⊎ (GoesOn first rest second ⊎ GoesOn second other first)

one_more : (w v : Word) (first : List Word) (rest : List ℕ) (second : List Word) (other : List ℕ) → w ≡ v → Compared first rest second other
    → Compared (w ∷ first) rest (v ∷ second) other
one_more w v first rest second other e (inl same) = inl same
one_more w v first rest second other e (inr (inl on)) = inr (inl (record {
  word = on.word;
  after = on.after;
  is = on.is;
  more = on.more;
  longer = ap (λ (ws : List Word). v ∷ ws) on.longer ∙ ap (λ (x : Word). x ∷ (first ++ (on.word ∷ on.more))) (sym e);
}))
one_more w v first rest second other e (inr (inr on)) = inr (inr (record {
  word = on.word;
  after = on.after;
  is = on.is;
  more = on.more;
  longer = ap (λ (ws : List Word). w ∷ ws) on.longer ∙ ap (λ (x : Word). x ∷ (second ++ (on.word ∷ on.more))) e;
}))

compared : (bytes : List ℕ) (first : List Word) (rest : List ℕ) (second : List Word) (other : List ℕ) → Begins bytes first rest
    → Begins bytes second other → Compared first rest second other
compared bytes [] rest [] other a b = inl (sym a ∙ b)
compared bytes [] rest (v ∷ second) other a b = inr (inl (record {
  word = v;
  after = b.0;
  is = subst (λ bs. word_at (behind_blanks bs) ≡ Some (v, b.0)) a b.1;
  more = second;
  longer = refl;
}))
compared bytes (w ∷ first) rest [] other a b = inr (inr (record {
  word = w;
  after = a.0;
  is = subst (λ bs. word_at (behind_blanks bs) ≡ Some (w, a.0)) b a.1;
  more = first;
  longer = refl;
}))
compared bytes (w ∷ first) rest (v ∷ second) other a b =
    let same : (w, a.0) ≡ (v, b.0) = some_is (w, a.0) (v, b.0) (sym a.1 ∙ b.1) in
    one_more w v first rest second other (ap (λ (x : Word × List ℕ). x.0) same)
    (compared b.0 first rest second other (subst (λ bs. Begins bs first rest) (ap (λ (x : Word × List ℕ). x.1) same) a.2) b.2)

not_past : (bytes : List ℕ) (m n : ℕ) (a : StopsAt bytes m) (b : StopsAt bytes n) → GoesOn a.words a.rest b.words → ⊥
not_past bytes m n a b on =
    let none : BeginsNone (note (noted a.words) on.word).tokens = subst (IsWrong (noted a.words)) on.is a.wrong in
    let grown = tokens_grow on.more (note (noted a.words) on.word) in
    let parts : (noted b.words).tokens ≡ (note (noted a.words) on.word).tokens ++ grown.0 =
    ap (λ (ws : List Word). (noted ws).tokens) (on.longer ∙ sym (append_assoc a.words (on.word ∷ []) on.more))
    ∙ ap (λ (k : Noted). k.tokens) (noted-append (a.words ++ (on.word ∷ [])) on.more)
    ∙ subst (λ (k : Noted). (fold note k on.more).tokens ≡ (note (noted a.words) on.word).tokens ++ grown.0)
    (sym (noted-push a.words on.word)) grown.1 in
    none (grown.0 ++ b.before.more) b.before.formula
    (subst (λ (ts : List FormulaToken). AreTokensOf ts b.before.formula)
    (ap (λ (ts : List FormulaToken). ts ++ b.before.more) parts ∙ append_assoc (note (noted a.words) on.word).tokens grown.0 b.before.more) b.before.is)

pub one_stop : (bytes : List ℕ) (m n : ℕ) → StopsAt bytes m → StopsAt bytes n → m ≡ n
one_stop bytes m n a b = elim (compared bytes a.words a.rest b.words b.rest a.begins b.begins) [
  | inl same ↦
      let l = ap (λ bs. length (behind_blanks bs)) same in
      let p = a.there in
      let q = b.there in
      omega (arith, l, p, q)
  | inr (inl on) ↦ absurd (not_past bytes m n a b on)
  | inr (inr on) ↦ absurd (not_past bytes n m b a on)
]
