-- Why a text is refused.
use Rattle.std.specs.Prelude.{◌≡◌, ◌≢◌, ◌⊎◌, ℕ, zero, suc, ◌+◌, ◌<◌, ◌≤◌, List, [], ◌∷◌, ◌++◌, length}
use Rattle.std.specs.List.{AllByRecursion}
use Rattle.pg_aiger.specs.Circuits.{Circuit}
use Rattle.pg_aiger_reader.specs.declared.fault.Section.{Section}
use Rattle.pg_aiger_reader.specs.declared.fault.Section.TheVariants.{BadStates, Constraints, Justice, Fairness}
use Rattle.pg_aiger_reader.specs.declared.fault.ReaderFault.{ReaderFault}
use Rattle.pg_aiger_reader.specs.declared.fault.ReaderFault.TheVariants.{OutOfMemory, Syntax, NumberTooLarge, TooLarge, TooFewVariables, OtherVariables, LeftOut, Reset}
use Rattle.pg_aiger_reader.specs.declared.item.AigerFormat.{AigerFormat}
use Rattle.pg_aiger_reader.specs.declared.item.AigerFormat.TheVariants.{Ascii, Binary}
use Rattle.pg_aiger_reader.specs.declared.item.LatchLine.{LatchLine}
use Rattle.pg_aiger_reader.specs.Texts.{BeginsLine, form_text, HasBody, IsBody, SpellsNone}

-- Of the numbers B, C, J and F, as far as they are given, this section's is the first that isn't 0.
abbrev pub IsLeftOut : Section → List ℕ → Type 0
IsLeftOut BadStates (b ∷ counts) = b ≢ 0
IsLeftOut Constraints (b ∷ c ∷ counts) = (b ≡ 0) × (c ≢ 0)
IsLeftOut Justice (b ∷ c ∷ j ∷ counts) = (b ≡ 0) × (c ≡ 0) × (j ≢ 0)
IsLeftOut Fairness (b ∷ c ∷ j ∷ f ∷ counts) = (b ≡ 0) × (c ≡ 0) × (j ≡ 0) × (f ≢ 0)
IsLeftOut _ _ = ⊥

-- nothing is left out, and M and O are within the limits
abbrev pub IsWithin : ℕ → ℕ → List ℕ → Type 0
IsWithin m o counts = AllByRecursion (λ n. n ≡ 0) counts × (m ≤ 16777216) × (o ≤ 16777216)

-- the named fault of a header in this form with these numbers M, I + L + A and O, and these numbers after A
abbrev pub IsHeaderFault : AigerFormat → ℕ → ℕ → ℕ → List ℕ → ReaderFault → Type 0
IsHeaderFault form m defined o counts (LeftOut section) = IsLeftOut section counts
IsHeaderFault form m defined o counts TooLarge = AllByRecursion (λ n. n ≡ 0) counts × ((16777216 < m) ⊎ (16777216 < o))
IsHeaderFault form m defined o counts TooFewVariables = IsWithin m o counts × (form ≡ Ascii) × (m < defined)
IsHeaderFault form m defined o counts OtherVariables = IsWithin m o counts × (form ≡ Binary) × (defined ≢ m)
IsHeaderFault form m defined o counts _ = ⊥

-- The bytes begin with a header, perhaps after a line `REALIZABLE` or `UNREALIZABLE`, that is refused with this fault.
pub record HasHeaderFault (bytes : List ℕ) (fault : ReaderFault) : Type 0 where
  pub form : AigerFormat
  pub text : List ℕ
  pub rest : List ℕ
  pub m : ℕ
  pub i : ℕ
  pub l : ℕ
  pub o : ℕ
  pub a : ℕ
  pub counts : List ℕ
  pub whole : HasBody bytes (form_text form ++ text)
  pub line : BeginsLine text (m ∷ i ∷ l ∷ o ∷ a ∷ counts) rest
  pub few : length counts ≤ 4
  pub wrong : IsHeaderFault form m (i + l + a) o counts fault

-- the latch at this place is the first that doesn't start at 0
abbrev pub IsFirstReset : List LatchLine → ℕ → Type 0
IsFirstReset [] place = ⊥
IsFirstReset (l ∷ lines) zero = l.reset ≢ 0
IsFirstReset (l ∷ lines) (suc place) = (l.reset ≡ 0) × IsFirstReset lines place

-- The bytes begin as a circuit's do, up to the symbols, except that the latch at this place is the first that doesn't start at 0.
pub record HasReset (bytes : List ℕ) (place : ℕ) : Type 0 where
  pub form : AigerFormat
  pub body : List ℕ
  pub circuit : Circuit
  pub lines : List LatchLine
  pub rest : List ℕ
  pub whole : HasBody bytes body
  pub good : IsBody form body circuit lines rest
  pub wrong : IsFirstReset lines place

-- the faults whose name says what is wrong
abbrev pub IsNamedFault : List ℕ → ReaderFault → Type 0
IsNamedFault bytes (Reset place) = HasReset bytes place
IsNamedFault bytes fault = HasHeaderFault bytes fault

-- Memory may run out on any text. With any other fault, the text spells no circuit. A named fault is returned if and only if the text has
-- it.
abbrev pub Refuses : List ℕ → ReaderFault → Type 0
Refuses bytes OutOfMemory = Unit {0}
Refuses bytes (Syntax offset) = SpellsNone bytes × ((fault : ReaderFault) → ¬ IsNamedFault bytes fault)
Refuses bytes (NumberTooLarge offset) = SpellsNone bytes × ((fault : ReaderFault) → ¬ IsNamedFault bytes fault)
Refuses bytes fault = SpellsNone bytes × IsNamedFault bytes fault
