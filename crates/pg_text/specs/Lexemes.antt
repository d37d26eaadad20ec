-- The tokens of a text in the PGSolver format, and the bytes that spell them.
use Rattle.std.specs.Prelude.{◌≡◌, ◌≢◌, ℕ, ◌^◌, ◌<◌, Bool, true, false, ◌||◌, ◌&&◌, ◌==◌, nat_le, List, [], ◌∷◌, ◌++◌, length, drop}
use Rattle.std.specs.Prelude.{Option, Some, None, if◌then◌else◌}
use Rattle.std.specs.List.{prefix_len}
use Rattle.pg_list_lemmas.specs.Bytes.{is_digit, Each, Stops, value_of}
use Rattle.pg_text.specs.declared.tokens.Token.{Token}
use Rattle.pg_text.specs.declared.tokens.Token.TheVariants as tokens
use Rattle.pg_text.specs.declared.tokens.TokenFault.{TokenFault}
use Rattle.pg_text.specs.declared.tokens.TokenFault.TheVariants.{Syntax, NumberTooLarge}

-- A token, apart from its place in memory; `end` comes after the last one.
pub data Lexeme : Type 0 where
  number : ℕ → Lexeme
  word : List ℕ → Lexeme
  semicolon : Lexeme
  comma : Lexeme
  quoted : List ℕ → Lexeme
  end : Lexeme

abbrev pub lexeme : Token → Lexeme
lexeme (tokens.Number n) = number n
lexeme (tokens.Word w) = word w.now
lexeme tokens.Semicolon = semicolon
lexeme tokens.Comma = comma
lexeme (tokens.Quoted s) = quoted s.now
lexeme tokens.End = end

-- white space: tabs, the ends of lines and pages, and blanks
abbrev pub is_space : ℕ → Bool
is_space b = (nat_le 9 b && nat_le b 13) || b == 32

-- 'a' to 'z'
abbrev pub is_letter : ℕ → Bool
is_letter b = nat_le 97 b && nat_le b 122

-- any byte but a quote
abbrev pub is_plain : ℕ → Bool
is_plain b = if b == 34 then false else true

-- The bytes of one token, and the bytes that may follow it: a run of digits or of letters is as long as possible.
abbrev pub IsSpelt : Lexeme → List ℕ → List ℕ → Type 0
IsSpelt (number n) text rest =
    (text ≢ []) × Each is_digit text × Stops is_digit rest × (value_of text ≡ n) × (n < 2 ^ 32)
IsSpelt (word w) text rest = (text ≢ []) × Each is_letter text × Stops is_letter rest × (text ≡ w)
IsSpelt semicolon text rest = text ≡ 59 ∷ []
IsSpelt comma text rest = text ≡ 44 ∷ []
IsSpelt (quoted s) text rest = Each is_plain s × (text ≡ 34 ∷ (s ++ 34 ∷ []))
IsSpelt end text rest = (text ≡ []) × (rest ≡ [])

-- white space, and then the bytes of one token; the rest follows
pub record Begins (bytes : List ℕ) (token : Lexeme) (rest : List ℕ) : Type 0 where
  pub gap : List ℕ
  pub text : List ℕ
  pub parts : bytes ≡ gap ++ (text ++ rest)
  pub blank : Each is_space gap
  pub spelt : IsSpelt token text rest

-- the bytes are these tokens one after another, and the rest follows
abbrev pub Spells : List ℕ → List Lexeme → List ℕ → Type 0
Spells bytes [] rest = bytes ≡ rest
Spells bytes (token ∷ tokens) rest = (mid : List ℕ) × Begins bytes token mid × Spells mid tokens rest

-- a word, a number and a semicolon; or nothing
abbrev pub clause_lexemes : List ℕ → Option ℕ → List Lexeme
clause_lexemes name None = []
clause_lexemes name (Some n) = word name ∷ number n ∷ semicolon ∷ []

-- the bytes after the white space at the start
abbrev pub after_space : List ℕ → List ℕ
after_space bytes = drop (prefix_len is_space bytes) bytes

-- why no token is at the very start: a number there can only be too large
abbrev pub fault_at : List ℕ → TokenFault
fault_at [] = Syntax 0
fault_at (b ∷ bytes) = if is_digit b then NumberTooLarge (length (b ∷ bytes)) else Syntax (length (b ∷ bytes))

-- why no token begins; the fault is at the token's first byte, and has the number of bytes left from there on
abbrev pub token_fault : List ℕ → TokenFault
token_fault bytes = fault_at (after_space bytes)

-- the number of bytes left from the token at fault on
abbrev pub left_of : TokenFault → ℕ
left_of (Syntax left) = left
left_of (NumberTooLarge left) = left
