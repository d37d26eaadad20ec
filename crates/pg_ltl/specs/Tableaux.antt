-- What a set of formulas asks of a letter, and of the word after it: a list of choices.
use Rattle.std.specs.Prelude.{◌≡◌, ℕ, ◌+◌, Bool, true, false, List, [], ◌∷◌, ◌++◌, if◌then◌else◌, ◌⊎◌}
use Rattle.pg_ltl.specs.NormalForms.{NormalForm, top, bottom, literal, both, either, next, until, release, Holds}

abbrev pub Each : {A : Type 0} → (A → Type 0) → List A → Type 0
Each P [] = Unit {0}
Each P (x ∷ xs) = P x × Each P xs

-- what must hold from the next step on, and which Untils are put off
pub record Choice : Type 0 where
  pub asks : List NormalForm
  pub puts : List NormalForm

abbrev pub free : Choice
free = record { asks = []; puts = [] }

abbrev pub asked : NormalForm → Choice
asked f = record { asks = f ∷ []; puts = [] }

abbrev pub put_off : NormalForm → Choice
put_off f = record { asks = f ∷ []; puts = f ∷ [] }

abbrev pub joined : Choice → Choice → Choice
joined c d = record { asks = c.asks ++ d.asks; puts = c.puts ++ d.puts }

abbrev pub with_each : Choice → List Choice → List Choice
with_each c [] = []
with_each c (d ∷ ds) = joined c d ∷ with_each c ds

abbrev pub product : List Choice → List Choice → List Choice
product [] ds = []
product (c ∷ cs) ds = with_each c ds ++ product cs ds

abbrev pub same : Bool → Bool → Bool
same true b = b
same false true = false
same false false = true

abbrev pub choices : (ℕ → Bool) → NormalForm → List Choice
choices letter top = free ∷ []
choices letter bottom = []
choices letter (literal p value) = if same (letter p) value then free ∷ [] else []
choices letter (both f g) = product (choices letter f) (choices letter g)
choices letter (either f g) = choices letter f ++ choices letter g
choices letter (next f) = asked f ∷ []
choices letter (until f g) = choices letter g ++ product (choices letter f) (put_off (until f g) ∷ [])
choices letter (release f g) = product (choices letter g) (choices letter f ++ asked (release f g) ∷ [])

abbrev pub choices_of : (ℕ → Bool) → List NormalForm → List Choice
choices_of letter [] = free ∷ []
choices_of letter (f ∷ fs) = product (choices letter f) (choices_of letter fs)

-- an Until that holds, but whose right side doesn't hold yet
abbrev pub IsPutOff : (ℕ → ℕ → Bool) → NormalForm → ℕ → Type 0
IsPutOff word (until f g) t = Holds word (until f g) t × (¬ Holds word g t)
IsPutOff word _ t = ⊥

-- what is asked for holds from the next step on, and what is put off is indeed put off
pub record IsRight (word : ℕ → ℕ → Bool) (t : ℕ) (c : Choice) : Type 0 where
  pub asks : Each (λ f. Holds word f (t + 1)) c.asks
  pub puts : Each (λ u. IsPutOff word u t) c.puts

abbrev pub IsAmong : List NormalForm → NormalForm → Type 0
IsAmong [] f = ⊥
IsAmong (g ∷ gs) f = (g ≡ f) ⊎ IsAmong gs f

-- one of the kept choices asks for no more and puts off no more
abbrev pub IsLeftOut : Choice → List Choice → Type 0
IsLeftOut c [] = ⊥
IsLeftOut c (d ∷ ds) = (Each (IsAmong c.asks) d.asks × Each (IsAmong c.puts) d.puts) ⊎ IsLeftOut c ds
