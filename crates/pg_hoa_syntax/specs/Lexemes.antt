-- The tokens of an automaton text, and the bytes that spell them.
use Rattle.std.specs.Prelude.{◌≡◌, ◌≢◌, ℕ, suc, zero, ◌^◌, ◌<◌, Bool, true, ◌||◌, ◌&&◌, ◌==◌, nat_le, nat_lt, List, [], ◌∷◌, ◌++◌, Option}
use Rattle.std.specs.Prelude.{Some, None, codes, if◌then◌else◌}
use Rattle.std.specs.List.{flat_map, AllByRecursion}
use Rattle.pg_list_lemmas.specs.Bytes.{is_digit, Each, Stops, value_of}

-- a byte of a string: by itself, or after a backslash
pub data Character : Type 0 where
  plain : ℕ → Character
  escaped : ℕ → Character

pub data Lexeme : Type 0 where
  number : ℕ → Lexeme
  identifier : List ℕ → Lexeme
  header : List ℕ → Lexeme
  string : List Character → Lexeme
  alias : List ℕ → Lexeme
  body : Lexeme
  end : Lexeme
  abort : Lexeme
  left_bracket : Lexeme
  right_bracket : Lexeme
  left_brace : Lexeme
  right_brace : Lexeme
  left_paren : Lexeme
  right_paren : Lexeme
  bang : Lexeme
  ampersand : Lexeme
  bar : Lexeme
  stray : Lexeme

abbrev pub is_space : ℕ → Bool
is_space b = b == 9 || b == 10 || b == 13 || b == 32

abbrev pub is_letter : ℕ → Bool
is_letter b = (nat_le 65 b && nat_le b 90) || (nat_le 97 b && nat_le b 122)

-- letters, digits, `_` and `-`
abbrev pub is_inner : ℕ → Bool
is_inner b = is_letter b || is_digit b || b == 95 || b == 45

-- a letter or `_`, and then letters, digits, `_` and `-`
abbrev pub IsName : List ℕ → Type 0
IsName [] = ⊥
IsName (b ∷ bytes) = (is_letter b || b == 95 ≡ true) × Each is_inner bytes

abbrev pub character_bytes : Character → List ℕ
character_bytes (plain b) = b ∷ []
character_bytes (escaped b) = 92 ∷ b ∷ []

-- neither a quote nor a backslash stands for itself
abbrev pub IsCharacter : Character → Type 0
IsCharacter (plain b) = (b ≢ 34) × (b ≢ 92)
IsCharacter (escaped b) = Unit {0}

abbrev pub is_colon : ℕ → Bool
is_colon b = b == 58

-- The bytes of one token, and the bytes that may follow it: a run is as long as possible. Nothing spells `stray`.
abbrev pub IsSpelt : Lexeme → List ℕ → List ℕ → Type 0
IsSpelt (number n) text rest = (text ≢ []) × Each is_digit text × Stops is_digit rest × (value_of text ≡ n) × (n < 2 ^ 32)
IsSpelt (identifier w) text rest = IsName text × Stops is_inner rest × Stops is_colon rest × (text ≡ w)
IsSpelt (header w) text rest = IsName w × (text ≡ w ++ 58 ∷ [])
IsSpelt (string s) text rest = AllByRecursion IsCharacter s × (text ≡ 34 ∷ (flat_map character_bytes s ++ 34 ∷ []))
IsSpelt (alias w) text rest = (w ≢ []) × Each is_inner w × Stops is_inner rest × (text ≡ 64 ∷ w)
IsSpelt body text rest = text ≡ codes "--BODY--"
IsSpelt end text rest = text ≡ codes "--END--"
IsSpelt abort text rest = text ≡ codes "--ABORT--"
IsSpelt left_bracket text rest = text ≡ codes "["
IsSpelt right_bracket text rest = text ≡ codes "]"
IsSpelt left_brace text rest = text ≡ codes "{"
IsSpelt right_brace text rest = text ≡ codes "}"
IsSpelt left_paren text rest = text ≡ codes "("
IsSpelt right_paren text rest = text ≡ codes ")"
IsSpelt bang text rest = text ≡ codes "!"
IsSpelt ampersand text rest = text ≡ codes "&"
IsSpelt bar text rest = text ≡ codes "|"
IsSpelt stray text rest = ⊥

-- the bytes after all comments, where the given number is open: inside, each `/*` opens one more and each `*/` ends
-- one; 8,192 may be open at once
abbrev pub after_comments : ℕ → List ℕ → Option (List ℕ)
after_comments zero bytes = Some bytes
after_comments (suc deep) [] = None
after_comments (suc deep) (b ∷ []) = None
after_comments (suc deep) (b ∷ c ∷ bytes) =
    if b == 47 && c == 42 then (if nat_lt (suc deep) 8192 then after_comments (suc (suc deep)) bytes else None)
    else (if b == 42 && c == 47 then after_comments deep bytes
    else after_comments (suc deep) (c ∷ bytes))

-- what may come between tokens
pub data Blank : Type 0 where
  space : ℕ → Blank
  comment : List ℕ → Blank

abbrev pub blank_bytes : Blank → List ℕ
blank_bytes (space b) = b ∷ []
blank_bytes (comment inside) = 47 ∷ 42 ∷ inside

abbrev pub IsBlank : Blank → Type 0
IsBlank (space b) = is_space b ≡ true
IsBlank (comment inside) = after_comments 1 inside ≡ Some []

-- blanks, and then the bytes of one token; the rest follows
pub record Begins (bytes : List ℕ) (token : Lexeme) (rest : List ℕ) : Type 0 where
  pub gap : List Blank
  pub text : List ℕ
  pub parts : bytes ≡ flat_map blank_bytes gap ++ (text ++ rest)
  pub blank : AllByRecursion IsBlank gap
  pub spelt : IsSpelt token text rest

-- the bytes are these tokens one after another, with blanks before, between and after them
abbrev pub Spells : List ℕ → List Lexeme → Type 0
Spells bytes [] = (gap : List Blank) × (bytes ≡ flat_map blank_bytes gap) × AllByRecursion IsBlank gap
Spells bytes (token ∷ tokens) = (rest : List ℕ) × Begins bytes token rest × Spells rest tokens
