-- The tokens and names of a text, as the code keeps them.
use Rattle.std.specs.Prelude.{◌≡◌, ◌≢◌, ℕ, ◌+◌, ◌≤◌, ◌<◌, List, [], ◌∷◌, Option, Some, None, map, length}
use Rattle.pg_ltl.specs.declared.fault.FormulaFault.{FormulaFault}
use Rattle.pg_ltl.specs.declared.fault.FormulaFault.TheVariants.{Syntax, TooManyNames}
use Rattle.pg_ltl.specs.declared.noting.Tokens.{Tokens}
use Rattle.pg_ltl.specs.declared.noting.Stop.{Stop}
use Rattle.pg_ltl.specs.declared.noting.Stop.TheVariants.{End, NoWord, Overfull}
use Rattle.pg_ltl.specs.Words.{Word, behind_blanks, word_at}
use Rattle.pg_ltl.specs.Texts.{Noted, noted}

abbrev pub noted_in : Tokens → Noted
noted_in t = record { names = map (λ v. v.items) t.names.items; tokens = t.tokens.items }

abbrev pub stop_at : List ℕ → Stop
stop_at [] = End
stop_at (b ∷ bytes) = NoWord

-- the bytes are these words followed by the rest; each word begins at its offset in the text, whose length is the number given
abbrev pub Placed : ℕ → List ℕ → List Word → List ℕ → List ℕ → Type 0
Placed len bytes [] [] rest = bytes ≡ rest
Placed len bytes (w ∷ words) (offset ∷ offsets) rest =
    (after : List ℕ) × (word_at (behind_blanks bytes) ≡ Some (w, after)) × (offset + length (behind_blanks bytes) ≡ len)
    × Placed len after words offsets rest
Placed len bytes words offsets rest = ⊥

-- the tokens are the words before the rest
pub record HasPlaced (bytes : List ℕ) (t : Tokens) (rest : List ℕ) : Type 0 where
  pub words : List Word
  pub is : noted words ≡ noted_in t
  pub placed : Placed (length bytes) bytes words t.offsets.items rest

-- why reading of words stopped
abbrev pub StopsFor : Stop → List ℕ → Noted → Type 0
StopsFor End rest found = (behind_blanks rest ≡ []) × (length found.names ≤ 65535)
StopsFor NoWord rest found = (behind_blanks rest ≢ []) × (word_at (behind_blanks rest) ≡ None)
StopsFor Overfull rest found = 65535 < length found.names

-- the tokens of a text up to where they stop
pub record IsTextOf (bytes : List ℕ) (t : Tokens) (stop : Stop) (end : ℕ) : Type 0 where
  pub rest : List ℕ
  pub has : HasPlaced bytes t rest
  pub there : end + length (behind_blanks rest) ≡ length bytes
  pub stops : StopsFor stop rest (noted_in t)

-- the fault of a text whose words stop at this byte for this reason, if all words before it are in order
abbrev pub stop_fault : Stop → ℕ → FormulaFault
stop_fault Overfull end = TooManyNames
stop_fault End end = Syntax end
stop_fault NoWord end = Syntax end

-- the fault at the token that begins at the offset, or after all tokens if there is no offset
abbrev pub fault_or : Stop → ℕ → Option ℕ → FormulaFault
fault_or stop end None = stop_fault stop end
fault_or stop end (Some offset) = Syntax offset
