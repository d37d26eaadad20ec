-- What is read of a line of a game is spelt there, and what is spelt there is read.
use Rattle.pg_text.proofs.Common.{◌≡◌, ◌≢◌, ℕ, zero, suc, List, [], ◌∷◌, ◌++◌, Option, Some, None, Ok, refl, sym, ap, subst, arith, Player}
use Rattle.pg_text.proofs.Common.{Even, Odd, Line, Lexeme, number, semicolon, comma, quoted, end, Begins, Spells, numbers_lexemes}
use Rattle.pg_text.proofs.Common.{player_number, name_lexemes, line_lexemes, ◌>>=◌, Step, item, stop, token_at, natural_at, semicolon_at}
use Rattle.pg_text.proofs.Common.{numbers_at, player_in, owner_at, ending_in, ending_at, line_at, item_in, item_at, some, none}
use Rattle.pg_text.proofs.Steps.{bind_ok, ok, ok_is}
use Rattle.pg_text.proofs.Lexing.{token_takes, token_again}
use Rattle.pg_text.proofs.Items.{Shrinks}
use Rattle.pg_text.proofs.Spelling.{spells_append, spells_parts, begins_shorter, spells_within, IsExact}
use Rattle.pg_text.proofs.Parts.{natural_takes, natural_again, semicolon_takes, semicolon_again, numbers_take, numbers_again}

player_in_is : (bytes : List ℕ) (x : ℕ × List ℕ) (y : Player × List ℕ) → player_in bytes x ≡ Ok y → x ≡ (player_number y.0, y.1)
player_in_is bytes (zero, rest) y e = ap (λ (p : Player × List ℕ). (player_number p.0, p.1)) (ok_is (Even, rest) y e)
player_in_is bytes (suc zero, rest) y e = ap (λ (p : Player × List ℕ). (player_number p.0, p.1)) (ok_is (Odd, rest) y e)
player_in_is bytes (suc (suc n), rest) y e = absurd cc

pub owner_takes : (bytes : List ℕ) (y : Player × List ℕ) → owner_at bytes ≡ Ok y → Begins bytes (number (player_number y.0)) y.1
unfolding owner_at
owner_takes bytes y e =
    let b = bind_ok (natural_at bytes) (player_in bytes) y e in
    subst (λ (x : ℕ × List ℕ). Begins bytes (number x.0) x.1) (player_in_is bytes b.0 y b.2) (natural_takes bytes b.0 b.1)

player_again : (bytes : List ℕ) (player : Player) (rest : List ℕ) → player_in bytes (player_number player, rest) ≡ Ok (player, rest)
player_again bytes Even rest = refl
player_again bytes Odd rest = refl

pub owner_again : (bytes : List ℕ) (player : Player) (rest : List ℕ) → Begins bytes (number (player_number player)) rest → owner_at bytes ≡ Ok (player, rest)
unfolding owner_at
owner_again bytes player rest h = rw (natural_again bytes (player_number player) rest h) (player_again bytes player rest)

-- ---- what stands behind the successors

abbrev IsEnding : List ℕ → Option (List ℕ) × List ℕ → Type 0
IsEnding bytes y = Spells bytes (name_lexemes y.0 ++ semicolon ∷ []) y.1

ending_in_is : (bytes : List ℕ) (x : Lexeme × List ℕ) (y : Option (List ℕ) × List ℕ) → Begins bytes x.0 x.1 → ending_in bytes x ≡ Ok y → IsEnding bytes y
ending_in_is bytes (quoted s, mid) y begins e =
    let b = bind_ok (semicolon_at mid) (λ after. ok (some s, after)) y e in
    subst (IsEnding bytes) (ok_is (some s, b.0) y b.2) (mid, begins, (b.0, semicolon_takes mid b.0 b.1, refl))
ending_in_is bytes (semicolon, mid) y begins e = subst (IsEnding bytes) (ok_is (none, mid) y e) (mid, begins, refl)
ending_in_is bytes (_, mid) y begins e = absurd cc

ending_takes : (bytes : List ℕ) (y : Option (List ℕ) × List ℕ) → ending_at bytes ≡ Ok y → IsEnding bytes y
unfolding ending_at
ending_takes bytes y e =
    let b = bind_ok (token_at bytes) (ending_in bytes) y e in
    ending_in_is bytes b.0 y (token_takes bytes b.0 b.1) b.2

ending_again : (name : Option (List ℕ)) (bytes rest : List ℕ) → Spells bytes (name_lexemes name ++ semicolon ∷ []) rest → ending_at bytes ≡ Ok (name, rest)
unfolding ending_at
ending_again None bytes rest s = rw (token_again bytes semicolon s.0 s.1, s.2) refl
ending_again (Some name) bytes rest s = rw (token_again bytes (quoted name) s.0 s.1, semicolon_again s.0 s.2.0 s.2.1, s.2.2) refl

-- the first token of an ending is no comma
record Closes (bytes : List ℕ) : Type 0 where
  token : Lexeme
  mid : List ℕ
  begins : Begins bytes token mid
  other : token ≢ comma

closes : (name : Option (List ℕ)) (bytes rest : List ℕ) → Spells bytes (name_lexemes name ++ semicolon ∷ []) rest → Closes bytes
closes None bytes rest s = record { token = semicolon; mid = s.0; begins = s.1; other = λ e. cc }
closes (Some name) bytes rest s = record { token = quoted name; mid = s.0; begins = s.1; other = λ e. cc }

-- ---- a line behind its identifier

abbrev behind_lexemes : Line → List Lexeme
behind_lexemes line = number line.priority ∷ number (player_number line.owner) ∷ (numbers_lexemes line.successors ++ (name_lexemes line.name ++ semicolon ∷ []))

abbrev LineTaken : List ℕ → Line × List ℕ → Type 0
LineTaken bytes y = Spells bytes (behind_lexemes y.0) y.1 × (y.0.successors ≢ [])

pub line_takes : (identifier : ℕ) (bytes : List ℕ) (y : Line × List ℕ) → line_at identifier bytes ≡ Ok y → LineTaken bytes y × (y.0.identifier ≡ identifier)
unfolding line_at
line_takes identifier bytes y e =
    let made = λ (p : ℕ) (o : Player) (s : List ℕ) (n : Option (List ℕ) × List ℕ). let line : Line =
    record { identifier = identifier; priority = p; owner = o; successors = s; name = n.0 } in ok (line, n.1) in
    let a = bind_ok (natural_at bytes) (λ p. owner_at p.1 >>= λ o. numbers_at o.1 >>= λ s. ending_at s.1 >>= λ n. made p.0 o.0 s.0 n) y e in
    let b = bind_ok (owner_at a.0.1) (λ o. numbers_at o.1 >>= λ s. ending_at s.1 >>= λ n. made a.0.0 o.0 s.0 n) y a.2 in
    let c = bind_ok (numbers_at b.0.1) (λ s. ending_at s.1 >>= λ n. made a.0.0 b.0.0 s.0 n) y b.2 in
    let d = bind_ok (ending_at c.0.1) (λ n. made a.0.0 b.0.0 c.0.0 n) y c.2 in
    let numbers = numbers_take b.0.1 c.0 c.1 in
    let ending = ending_takes c.0.1 d.0 d.1 in
    let line : Line = record { identifier = identifier; priority = a.0.0; owner = b.0.0; successors = c.0.0; name = d.0.0 } in
    subst (λ (y : Line × List ℕ). LineTaken bytes y × (y.0.identifier ≡ identifier)) (ok_is (line, d.0.1) y d.2) (
      (
        (
          a.0.1,
          natural_takes bytes a.0 a.1,
          (
            b.0.1,
            owner_takes a.0.1 b.0 b.1,
            spells_append (numbers_lexemes c.0.0) (name_lexemes d.0.0 ++ semicolon ∷ []) b.0.1 c.0.1 d.0.1 numbers.0 ending,
          ),
        ),
        numbers.1,
      ),
      refl,
    )

pub line_again : (line : Line) (bytes rest : List ℕ) → line.successors ≢ [] → Spells bytes (behind_lexemes line) rest
    → line_at line.identifier bytes ≡ Ok (line, rest)
unfolding line_at
line_again line bytes rest h s =
    let parts = spells_parts (numbers_lexemes line.successors) (name_lexemes line.name ++ semicolon ∷ []) s.2.0 rest s.2.2 in
    let close = closes line.name parts.0 rest parts.2 in
    rw (
      natural_again bytes line.priority s.0 s.1,
      owner_again s.0 line.owner s.2.0 s.2.1,
      numbers_again line.successors s.2.0 parts.0 close.token close.mid h parts.1 close.other close.begins,
      ending_again line.name parts.0 rest parts.2,
    ) refl

-- ---- lines, up to the end

abbrev pub HasSuccessors : Line → Type 0
HasSuccessors line = line.successors ≢ []

abbrev LineStep : Type 0
LineStep = Step Line (Unit {0}) × List ℕ

abbrev IsItem : List ℕ → LineStep → Type 0
IsItem bytes (item line, rest) = Spells bytes (line_lexemes line) rest × HasSuccessors line
IsItem bytes (stop _, rest) = Begins bytes end rest

item_in_is : (bytes : List ℕ) (x : Lexeme × List ℕ) (y : LineStep) → Begins bytes (x.0) (x.1) → item_in bytes x ≡ Ok y → IsItem bytes y
item_in_is bytes (number n, mid) y begins e =
    let b = bind_ok (line_at n mid) (λ l. ok (item l.0, l.1)) y e in
    let taken = line_takes n mid (b.0) (b.1) in
    subst (IsItem bytes) (ok_is (item b.0.0, b.0.1) y b.2)
    ((mid, subst (λ (k : ℕ). Begins bytes (number k) mid) (sym (taken.1)) begins, taken.0.0), taken.0.1)
item_in_is bytes (end, mid) y begins e = subst (IsItem bytes) (ok_is (stop tt, mid) y e) begins
item_in_is bytes (_, mid) y begins e = absurd cc

item_takes : (bytes : List ℕ) (y : LineStep) → item_at bytes ≡ Ok y → IsItem bytes y
unfolding item_at
item_takes bytes y e =
    let b = bind_ok (token_at bytes) (item_in bytes) y e in
    item_in_is bytes (b.0) y (token_takes bytes (b.0) (b.1)) (b.2)

item_again : (bytes : List ℕ) (line : Line) (rest : List ℕ) → HasSuccessors line → Spells bytes (line_lexemes line) rest → item_at bytes ≡ Ok (item line, rest)
unfolding item_at
item_again bytes line rest h s = rw (token_again bytes (number (line.identifier)) (s.0) (s.1), line_again line (s.0) rest h (s.2)) refl

pub item_exact : IsExact item_at line_lexemes HasSuccessors
item_exact = record { takes = λ bytes line rest e. item_takes bytes (item line, rest) e; again = item_again }

pub item_shrinks : Shrinks item_at
item_shrinks = record {
  shorter = λ bytes line rest e.
      let s = (item_takes bytes (item line, rest) e).0 in
      omega (arith, begins_shorter bytes (number (line.identifier)) (s.0) (λ e. cc) (s.1), spells_within (behind_lexemes line) (s.0) rest (s.2));
}

pub end_takes : (bytes : List ℕ) (u : Unit {0}) (rest : List ℕ) → item_at bytes ≡ Ok (stop u, rest) → Begins bytes end rest
end_takes bytes u rest e = item_takes bytes (stop u, rest) e

pub end_again : (bytes rest : List ℕ) → Begins bytes end rest → item_at bytes ≡ Ok (stop tt, rest)
unfolding item_at
end_again bytes rest h = rw (token_again bytes end rest h) refl
