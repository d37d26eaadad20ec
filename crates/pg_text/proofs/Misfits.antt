-- Lines that can't be taken, known by the tokens with which they begin.
use Rattle.pg_text.proofs.Common.{◌≡◌, ◌≢◌, ℕ, ◌<◌, Bool, true, false, cond, List, [], ◌∷◌, ◌++◌, length, Option, Some, None, Err, refl}
use Rattle.pg_text.proofs.Common.{sym, ap, subst, ◌∙◌, inl, inr, Player, Even, Odd, GameVertex, identifier, IsEdge, IsGame, SolutionLine}
use Rattle.pg_text.proofs.Common.{Misfit, NotOfGame, Repeated, Lexeme, number, semicolon, Begins, Spells, player_number, Ok, TokenFault}
use Rattle.pg_text.proofs.Common.{natural_at, owner_at, owns, strategy_lexemes, answer_lexemes, Fits, StartsLine, IsUnknown, IsNoMove}
use Rattle.pg_text.proofs.Common.{BeginsUnfit, is_seen, IsLost, IsUnmarked, IsMisfit, BeginsMisfit, BeginsWell, some, some_is, none}
use Rattle.pg_text.proofs.Common.{none_is_some}
use Rattle.pg_text.proofs.Steps.{ok_is, err_is_ok}
use Rattle.pg_text.proofs.Lexing.{token_again}
use Rattle.pg_text.proofs.Parts.{natural_again, natural_takes}
use Rattle.pg_text.proofs.Takes.{owner_again, owner_takes}
use Rattle.pg_text.proofs.Answering.{same_vertex, unfit, unmarked_here}

-- ---- tokens are read in one way only

pub same_token : (bytes : List ℕ) (a b : Lexeme) (p q : List ℕ) → Begins bytes a p → Begins bytes b q → (a ≡ b) × (p ≡ q)
same_token bytes a b p q x y =
    let same : (let r : Lexeme × List ℕ = (a, p) in r) ≡ (b, q) = ok_is (a, p) (b, q) (sym (token_again bytes a p x) ∙ token_again bytes b q y) in
    (ap (λ (t : Lexeme × List ℕ). t.0) same, ap (λ (t : Lexeme × List ℕ). t.1) same)

number_is : (n m : ℕ) → number n ≡ number m → n ≡ m
number_is n m e = cc

player_is : (p q : Player) → player_number p ≡ player_number q → p ≡ q
player_is Even Even e = refl
player_is Odd Odd e = refl
player_is Even Odd e = absurd cc
player_is Odd Even e = absurd cc

-- a number and a token start a line
pub starts_line : (here : List ℕ) (n : ℕ) (mid : List ℕ) (token : Lexeme) (rest : List ℕ) → Begins here (number n) mid → Begins mid token rest
    → StartsLine here n
starts_line here n mid token rest first second = record { token = token; rest = rest; stands = (mid, first, (rest, second, refl)) }

-- a line has the number with which it starts
pub starts_with : (here : List ℕ) (n : ℕ) (tokens : List Lexeme) (mid : List ℕ) (line : SolutionLine) (after : List ℕ)
    → Spells here (number n ∷ tokens) mid → Spells here (answer_lexemes line) after → line.identifier ≡ n
starts_with here n tokens mid line after p q = number_is line.identifier n (same_token here (number line.identifier) (number n) q.0 p.0 q.1 p.1).0

strategy_is : (bytes : List ℕ) (m : ℕ) (mid : List ℕ) (strategy : Option ℕ) (after : List ℕ) → Begins bytes (number m) mid
    → Spells bytes (strategy_lexemes strategy ++ semicolon ∷ []) after → strategy ≡ some m
strategy_is bytes m mid None after b s = absurd (let same : semicolon ≡ number m = (same_token bytes semicolon (number m) s.0 mid s.1 b).0 in cc)
strategy_is bytes m mid (Some k) after b s = ap (λ (n : ℕ). some n) (number_is k m (same_token bytes (number k) (number m) s.0 mid s.1 b).0)

-- the winner and the strategy of a line of which the first three tokens are known
front_is : (here : List ℕ) (n : ℕ) (winner : Player) (m : ℕ) (mid : List ℕ) (line : SolutionLine) (after : List ℕ)
    → Spells here (number n ∷ number (player_number winner) ∷ number m ∷ []) mid → Spells here (answer_lexemes line) after
    → (line.winner ≡ winner) × (line.strategy ≡ some m)
front_is here n winner m mid line after p q =
    let one = same_token here (number line.identifier) (number n) q.0 p.0 q.1 p.1 in
    let second : Begins p.0 (number (player_number line.winner)) q.2.0 =
    subst (λ (b : List ℕ). Begins b (number (player_number line.winner)) q.2.0) one.1 q.2.1 in
    let two = same_token p.0 (number (player_number line.winner)) (number (player_number winner)) q.2.0 p.2.0 second p.2.1 in
    let third : Begins q.2.0 (number m) p.2.2.0 = subst (λ (b : List ℕ). Begins b (number m) p.2.2.0) (sym two.1) p.2.2.1 in (
      player_is line.winner winner (number_is (player_number line.winner) (player_number winner) two.0),
      strategy_is q.2.0 m p.2.2.0 line.strategy after third q.2.2,
    )

-- ---- what begins so is no line that fits

pub unknown_unfit : (game : List GameVertex) (n : ℕ) (line : SolutionLine) → line.identifier ≡ n → IsUnknown game n → ¬ Fits game line
unknown_unfit game n line named unknown f = unknown f.v f.within (sym f.named ∙ named)

pub no_move_unfit : (game : List GameVertex) (here : List ℕ) (n : ℕ) (line : SolutionLine) (after : List ℕ) → IsGame game
    → IsNoMove game here n → Spells here (answer_lexemes line) after → ¬ Fits game line
no_move_unfit game here n line after well m s =
    let front = front_is here n m.winner m.strategy m.rest line after m.stands s in
    let named : identifier game m.v ≡ line.identifier =
    sym (starts_with here n (number (player_number m.winner) ∷ number m.strategy ∷ []) m.rest line after m.stands s ∙ m.named) in
    let owned : owns game line.winner m.v ≡ true = ap (λ (p : Player). owns game p m.v) front.0 ∙ m.owned in
    unfit game line m.v well m.within named
    (record { n = m.strategy; counts = ap (λ (b : Bool). cond b line.strategy none) owned ∙ front.1; absent = m.absent })

pub unfit_front : (game : List GameVertex) (here : List ℕ) (n : ℕ) (line : SolutionLine) (after : List ℕ) → IsGame game
    → BeginsUnfit game here n → Spells here (answer_lexemes line) after → ¬ Fits game line
unfit_front game here n line after well (inl u) s = unknown_unfit game n line (starts_with here n (u.0.token ∷ []) u.0.rest line after u.0.stands s) u.1
unfit_front game here n line after well (inr m) s = no_move_unfit game here n line after well m s

pub front_starts : (game : List GameVertex) (here : List ℕ) (n : ℕ) → BeginsUnfit game here n → StartsLine here n
front_starts game here n (inl u) = u.0
front_starts game here n (inr m) = starts_line here n m.stands.0 (number (player_number m.winner)) m.stands.2.0 m.stands.1 m.stands.2.1

-- ---- a whole line begins so too

pub line_starts : (here : List ℕ) (line : SolutionLine) (after : List ℕ) → Spells here (answer_lexemes line) after → StartsLine here line.identifier
line_starts here line after s = starts_line here line.identifier s.0 (number (player_number line.winner)) s.2.0 s.1 s.2.1

-- the strategy that counts stands there, where the winner owns the vertex
counts_is : (b : Bool) (strategy : Option ℕ) (n : ℕ) → cond b strategy none ≡ some n → (b ≡ true) × (strategy ≡ some n)
counts_is true strategy n e = (refl, e)
counts_is false strategy n e = absurd (none_is_some n e)

strategy_stands : (bytes : List ℕ) (strategy : Option ℕ) (m : ℕ) (after : List ℕ) → strategy ≡ some m
    → Spells bytes (strategy_lexemes strategy ++ semicolon ∷ []) after → (mid : List ℕ) × Begins bytes (number m) mid
strategy_stands bytes None m after e s = absurd (none_is_some m e)
strategy_stands bytes (Some k) m after e s = (s.0, subst (λ (n : ℕ). Begins bytes (number n) s.0) (some_is k m e) s.1)

lost_front : (game : List GameVertex) (here : List ℕ) (line : SolutionLine) (after : List ℕ) → Spells here (answer_lexemes line) after
    → IsLost game line → IsNoMove game here line.identifier
lost_front game here line after s l =
    let c = counts_is (owns game line.winner l.v) line.strategy l.nowhere.n l.nowhere.counts in
    let third = strategy_stands s.2.0 line.strategy l.nowhere.n after c.1 s.2.2 in
    record {
      winner = line.winner;
      strategy = l.nowhere.n;
      rest = third.0;
      stands = (s.0, s.1, (s.2.0, s.2.1, (third.0, third.1, refl)));
      v = l.v;
      within = l.within;
      named = l.named;
      owned = c.0;
      absent = l.nowhere.absent;
    }

pub line_front : (game : List GameVertex) (seen : List Bool) (here : List ℕ) (line : SolutionLine) (after : List ℕ) (misfit : Misfit)
    → Spells here (answer_lexemes line) after → IsMisfit game line seen misfit → BeginsMisfit game seen here line.identifier misfit
line_front game seen here line after NotOfGame s (inl unknown, unmarked) = (inl (line_starts here line after s, unknown), unmarked)
line_front game seen here line after NotOfGame s (inr lost, unmarked) = (inr (lost_front game here line after s lost), unmarked)
line_front game seen here line after Repeated s m = (line_starts here line after s, m)

-- ---- what begins well

well_unstarted : (game : List GameVertex) (seen : List Bool) (here : List ℕ) → ((n : ℕ) → ¬ StartsLine here n) → BeginsWell game seen here
well_unstarted game seen here none = record {
  fresh = λ n s. absurd (none n s);
  no_unfit = λ n b. none n (front_starts game here n b);
}

-- no number stands here
pub well_numberless : (game : List GameVertex) (seen : List Bool) (here : List ℕ) → ((n : ℕ) (mid : List ℕ) → ¬ Begins here (number n) mid)
    → BeginsWell game seen here
well_numberless game seen here none = well_unstarted game seen here (λ n s. none n s.stands.0 s.stands.1)

-- no token stands behind the identifier
pub well_cut : (game : List GameVertex) (seen : List Bool) (here : List ℕ) (n : ℕ) (mid : List ℕ) → natural_at here ≡ Ok (n, mid)
    → ((token : Lexeme) (rest : List ℕ) → ¬ Begins mid token rest) → BeginsWell game seen here
well_cut game seen here n mid first none = well_unstarted game seen here (λ k s.
    let same = same_token here (number k) (number n) s.stands.0 mid s.stands.1 (natural_takes here (n, mid) first) in
    none s.token s.stands.2.0 (subst (λ (b : List ℕ). Begins b s.token s.stands.2.0) same.1 s.stands.2.1))

-- at this vertex no strategy that counts and is no successor stands behind the identifier
abbrev pub HasMove : List GameVertex → ℕ → List ℕ → Type 0
HasMove game v mid = (player : Player) (m : ℕ) (rest : List ℕ) → Spells mid (number (player_number player) ∷ number m ∷ []) rest
    → owns game player v ≡ true → ((w : ℕ) → IsEdge game v w → identifier game w ≢ m) → ⊥

pub well_here : (game : List GameVertex) (seen : List Bool) (here : List ℕ) (n : ℕ) (mid : List ℕ) (v : ℕ) → IsGame game
    → natural_at here ≡ Ok (n, mid) → (v < length game) × (identifier game v ≡ n) → is_seen seen v ≡ false → HasMove game v mid
    → BeginsWell game seen here
well_here game seen here n mid v well read found unmarked moves = record { fresh = fresh; no_unfit = no_unfit }
  where
    first : Begins here (number n) mid
    first = natural_takes here (n, mid) read

    fresh : (k : ℕ) → StartsLine here k → IsUnmarked game k seen
    fresh k s =
        let same : k ≡ n = number_is k n (same_token here (number k) (number n) s.stands.0 mid s.stands.1 first).0 in
        unmarked_here game k v seen well found.0 (same ∙ sym found.1) unmarked

    no_unfit : (k : ℕ) → ¬ BeginsUnfit game here k
    no_unfit k (inl u) =
        let same : k ≡ n = number_is k n (same_token here (number k) (number n) u.0.stands.0 mid u.0.stands.1 first).0 in
        u.1 v found.0 (found.1 ∙ sym same)
    no_unfit k (inr m) =
        let same = same_token here (number k) (number n) m.stands.0 mid m.stands.1 first in
        let at : m.v ≡ v = same_vertex game m.v v well m.within found.0 (sym m.named ∙ number_is k n same.0 ∙ sym found.1) in
        moves m.winner m.strategy m.rest (subst (λ (b : List ℕ). Spells b (number (player_number m.winner) ∷ number m.strategy ∷ []) m.rest) same.1 m.stands.2)
        (subst (λ (u : ℕ). owns game m.winner u ≡ true) at m.owned)
        (subst (λ (u : ℕ). (w : ℕ) → IsEdge game u w → identifier game w ≢ m.strategy) at m.absent)

-- no winner stands there
pub moves_unwon : (game : List GameVertex) (v : ℕ) (mid : List ℕ) (fault : TokenFault) → owner_at mid ≡ Err fault → HasMove game v mid
moves_unwon game v mid fault e = λ player m rest s owned absent. err_is_ok fault _ (sym e ∙ owner_again mid player s.0 s.1)

-- no strategy stands there
pub moves_unnamed : (game : List GameVertex) (v : ℕ) (mid : List ℕ) (winner : Player) (after : List ℕ)
    → owner_at mid ≡ Ok (winner, after) → ((n : ℕ) (rest : List ℕ) → ¬ Begins after (number n) rest) → HasMove game v mid
moves_unnamed game v mid winner after won none = λ player m rest s owned absent.
    let same = same_token mid (number (player_number player)) (number (player_number winner)) s.0 after s.1 (owner_takes mid (winner, after) won) in
    none m s.2.0 (subst (λ (b : List ℕ). Begins b (number m) s.2.0) same.1 s.2.1)

-- this winner and this strategy stand there, and they don't refuse the line
pub moves_named : (game : List GameVertex) (v : ℕ) (mid : List ℕ) (winner : Player) (after : List ℕ) (n : ℕ) (rest : List ℕ)
    → owner_at mid ≡ Ok (winner, after) → natural_at after ≡ Ok (n, rest)
    → (owns game winner v ≡ true → ((w : ℕ) → IsEdge game v w → identifier game w ≢ n) → ⊥) → HasMove game v mid
moves_named game v mid winner after n rest won named holds = λ player m end s owned absent.
    let same = same_token mid (number (player_number player)) (number (player_number winner)) s.0 after s.1 (owner_takes mid (winner, after) won) in
    let who : player ≡ winner = player_is player winner (number_is (player_number player) (player_number winner) same.0) in
    let what : m ≡ n = number_is m n (same_token after (number m) (number n) s.2.0 rest
    (subst (λ (b : List ℕ). Begins b (number m) s.2.0) same.1 s.2.1) (natural_takes after (n, rest) named)).0 in
    holds (subst (λ (p : Player). owns game p v ≡ true) who owned) (subst (λ (k : ℕ). (w : ℕ) → IsEdge game v w → identifier game w ≢ k) what absent)

-- ---- what isn't read doesn't stand there

pub unread_number : (bytes : List ℕ) (fault : TokenFault) → natural_at bytes ≡ Err fault → (n : ℕ) (mid : List ℕ) → ¬ Begins bytes (number n) mid
unread_number bytes fault e = λ n mid b. err_is_ok fault (n, mid) (sym e ∙ natural_again bytes n mid b)

pub not_both : (b : Bool) → b ≡ true → b ≡ false → ⊥
not_both true e f = absurd cc
not_both false e f = absurd cc
