-- The words of a text, which is split into them from left to right.
use Rattle.std.specs.Prelude.{◌≡◌, ℕ, Bool, true, false, ◌||◌, ◌&&◌, ◌==◌, nat_le, List, [], ◌∷◌, Option, Some, None, codes, drop, option_map}
use Rattle.std.specs.Prelude.{if◌then◌else◌}
use Rattle.std.specs.List.{prefix_len, take_while}
use Rattle.std.specs.Str.{bytes_eq}
use Rattle.pg_list_lemmas.specs.Bytes.{is_digit}
use Rattle.pg_ltl.specs.declared.formula.Prefix.{Prefix}
use Rattle.pg_ltl.specs.declared.formula.Prefix.TheVariants.{Not, Next, Finally, Globally}
use Rattle.pg_ltl.specs.declared.formula.Infix.TheVariants.{Implies, Equivalent, Or, Exclusive, And, Until, Release, Weak, Strong, Also}
use Rattle.pg_ltl.specs.declared.token.FormulaToken.{FormulaToken}
use Rattle.pg_ltl.specs.declared.token.FormulaToken.TheVariants.{Constant, Before, Between, LeftParen, RightParen}

pub data Word : Type 0 where
  name : List ℕ → Word
  sign : FormulaToken → Word

abbrev pub is_space : ℕ → Bool
is_space b = b == 9 || b == 10 || b == 13 || b == 32

abbrev pub is_letter : ℕ → Bool
is_letter b = (nat_le 65 b && nat_le b 90) || (nat_le 97 b && nat_le b 122)

-- a letter, `_` or `.`
abbrev pub is_start : ℕ → Bool
is_start b = is_letter b || b == 95 || b == 46

abbrev pub is_inner : ℕ → Bool
is_inner b = is_start b || is_digit b

-- no control character and no quote
abbrev pub is_quoted : ℕ → Bool
is_quoted b = nat_le 32 b && (if b == 127 then false else (if b == 34 then false else true))

unfoldable pub behind_blanks : List ℕ → List ℕ
behind_blanks bytes = drop (prefix_len is_space bytes) bytes

-- the words that aren't names
unfoldable pub reserved : List ℕ → Option FormulaToken
reserved w =
    if bytes_eq w (codes "true") then Some (Constant true)
    else (if bytes_eq w (codes "false") then Some (Constant false)
    else (if bytes_eq w (codes "xor") then Some (Between Exclusive)
    else (if bytes_eq w (codes "U") then Some (Between Until)
    else (if bytes_eq w (codes "R") then Some (Between Release)
    else (if bytes_eq w (codes "V") then Some (Between Release)
    else (if bytes_eq w (codes "W") then Some (Between Weak)
    else (if bytes_eq w (codes "M") then Some (Between Strong)
    else None)))))))

abbrev pub word_or : List ℕ → Option FormulaToken → Word
word_or w None = name w
word_or w (Some t) = sign t

-- a letter, `_` or `.`, and then letters, digits, `_` and `.`
unfoldable pub bare_at : List ℕ → Word × List ℕ
bare_at bytes = (word_or (take_while is_inner bytes) (reserved (take_while is_inner bytes)), drop (prefix_len is_inner bytes) bytes)

unfoldable pub operator_of : ℕ → Option Prefix
operator_of b = if b == 70 then Some Finally else (if b == 71 then Some Globally else (if b == 88 then Some Next else None))

-- F, G and X are operators unless a digit or `_` follows: `GFa` is `G F a`
unfoldable pub makes_name : List ℕ → Bool
makes_name [] = false
makes_name (b ∷ rest) = is_digit b || b == 95

abbrev pub lettered : Option Prefix → ℕ → List ℕ → Word × List ℕ
lettered None b rest = bare_at (b ∷ rest)
lettered (Some op) b rest = if makes_name rest then bare_at (b ∷ rest) else (sign (Before op), rest)

-- after the opening quote
abbrev pub closed_by_quote : List ℕ → List ℕ → Option (Word × List ℕ)
closed_by_quote w [] = None
closed_by_quote w (b ∷ rest) = if b == 34 then Some (name w, rest) else None

unfoldable pub quoted_at : List ℕ → Option (Word × List ℕ)
quoted_at bytes =
    if prefix_len is_quoted bytes == 0 then None
    else closed_by_quote (take_while is_quoted bytes) (drop (prefix_len is_quoted bytes) bytes)

-- the byte may come once more
unfoldable pub without : ℕ → List ℕ → List ℕ
without b [] = []
without b (c ∷ rest) = if c == b then rest else c ∷ rest

-- the byte must come next
unfoldable pub behind : ℕ → FormulaToken → List ℕ → Option (FormulaToken × List ℕ)
behind b t [] = None
behind b t (c ∷ rest) = if c == b then Some (t, rest) else None

-- after `<`: `>`, or `->`, or `=>`
unfoldable pub arrow_at : List ℕ → Option (FormulaToken × List ℕ)
arrow_at [] = None
arrow_at (b ∷ rest) = if b == 62 then Some (Before Finally, rest) else (if b == 45 || b == 61 then behind 62 (Between Equivalent) rest else None)

unfoldable pub single : ℕ → Option FormulaToken
single b =
    if b == 33 || b == 126 then Some (Before Not)
    else (if b == 40 then Some LeftParen
    else (if b == 41 then Some RightParen
    else (if b == 48 then Some (Constant false)
    else (if b == 49 then Some (Constant true)
    else (if b == 59 then Some (Between Also)
    else (if b == 94 then Some (Between Exclusive)
    else None))))))

unfoldable pub sign_at : ℕ → List ℕ → Option (FormulaToken × List ℕ)
sign_at b rest =
    if b == 38 then Some (Between And, without 38 rest)
    else (if b == 124 then Some (Between Or, without 124 rest)
    else (if b == 45 || b == 61 then behind 62 (Between Implies) rest
    else (if b == 91 then behind 93 (Before Globally) rest
    else (if b == 60 then arrow_at rest
    else option_map (λ t. (t, rest)) (single b)))))

-- the word at the start, without white space before it, and the rest
unfoldable pub word_at : List ℕ → Option (Word × List ℕ)
word_at [] = None
word_at (b ∷ rest) =
    if is_start b then Some (lettered (operator_of b) b rest)
    else (if b == 34 then quoted_at rest
    else option_map (λ x. (sign x.0, x.1)) (sign_at b rest))

-- the bytes are these words one after another, with any white space before, between and after them
abbrev pub Spells : List ℕ → List Word → Type 0
Spells bytes [] = behind_blanks bytes ≡ []
Spells bytes (w ∷ ws) = (rest : List ℕ) × (word_at (behind_blanks bytes) ≡ Some (w, rest)) × Spells rest ws

-- the bytes are these words followed by the rest
abbrev pub Begins : List ℕ → List Word → List ℕ → Type 0
Begins bytes [] rest = bytes ≡ rest
Begins bytes (w ∷ ws) rest = (after : List ℕ) × (word_at (behind_blanks bytes) ≡ Some (w, after)) × Begins after ws rest
