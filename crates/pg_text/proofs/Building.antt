-- Lines read one after another into a builder.
use Rattle.pg_text.proofs.Common.{◌≡◌, ◌⊎◌, ℕ, length, List, [], ◌∷◌, ◌++◌, map, Option, Some, None, Result, Ok, Err, inl, inr, refl, sym}
use Rattle.pg_text.proofs.Common.{ap, subst, ◌∙◌, append_assoc, codes, flat_map, map-append, append-nil, flat_map-append, ArenaFault, Line}
use Rattle.pg_text.proofs.Common.{counted, add_fault, Answers, Accepts, Refusal, Memory, Token, TokenFault, NumberTooLarge, arena_fault}
use Rattle.pg_text.proofs.Common.{token_fault_of, fault_of, Lexeme, number, word, end, Begins, Spells, clause_lexemes, line_lexemes, IsText}
use Rattle.pg_text.proofs.Common.{IsNoText, HasBadLine, ◌>>=◌, Read, Fails, item, stop, items_at, clause_at, item_at, body_at, lines_at}
use Rattle.pg_text.proofs.Common.{BuildsLines, none_is_some}
use Rattle.pg_arena.specs.declared.fault.ArenaFault.TheVariants as arena
use Rattle.pg_text.specs.declared.tokens.TokenFault.TheVariants.{Syntax}
use Rattle.pg_text.proofs.Steps.{bind_ok, ok, err, ok_is, err_is_ok}
use Rattle.pg_text.proofs.Items.{with_front, nothing_yet, goes_on, ends, items_err}
use Rattle.pg_text.proofs.Spelling.{spells_append}
use Rattle.pg_text.proofs.Parts.{clause_takes, clause_absent}
use Rattle.pg_text.proofs.Takes.{item_exact, item_shrinks, end_again}
use Rattle.pg_text.proofs.Texts.{body_takes, lines_take, lines_again}

-- these lines are read and built, and the rest follows
pub record Built (bytes : List ℕ) (built : List Line) (rest : List ℕ) : Type 0 where
  pub start : List ℕ
  pub front : List Line
  pub body : body_at bytes ≡ Ok start
  pub so_far : with_front front (items_at item_at rest) ≡ items_at item_at start
  pub spelt : Spells start (flat_map line_lexemes front) rest
  pub is : built ≡ map counted front
  pub fits : Accepts [] front

pub begins : (bytes start : List ℕ) → body_at bytes ≡ Ok start → Built bytes [] start
begins bytes start e = record { start = start; front = []; body = e; so_far = nothing_yet (items_at item_at start); spelt = refl; is = refl; fits = tt }

accepts_push : (before front : List Line) (line : Line) → Accepts before front
    → add_fault (before ++ map counted front) (counted line) ≡ None → Accepts before (front ++ line ∷ [])
accepts_push before [] line a e = (subst (λ (b : List Line). add_fault b (counted line) ≡ None) (append-nil before) e, tt)
accepts_push before (x ∷ front) line a e = (
  a.0,
  accepts_push (before ++ counted x ∷ []) front line (a.1) (subst (λ (b : List Line). add_fault b (counted line) ≡ None)
      (sym (append_assoc before (counted x ∷ []) (map counted front))) e),
)

accepts_at : (before front : List Line) (line : Line) (later : List Line) → Accepts before (front ++ line ∷ later)
    → add_fault (before ++ map counted front) (counted line) ≡ None
accepts_at before [] line later a = subst (λ (b : List Line). add_fault b (counted line) ≡ None) (sym (append-nil before)) (a.0)
accepts_at before (x ∷ front) line later a = subst (λ (b : List Line). add_fault b (counted line) ≡ None)
    (append_assoc before (counted x ∷ []) (map counted front)) (accepts_at (before ++ counted x ∷ []) front line later (a.1))

-- a line more is spelt
spelt_push : (start : List ℕ) (front : List Line) (rest after : List ℕ) (line : Line) → Spells start (flat_map line_lexemes front) rest
    → item_at rest ≡ Ok (item line, after) → Spells start (flat_map line_lexemes (front ++ line ∷ [])) after
spelt_push start front rest after line s e =
    let last : Spells rest (flat_map line_lexemes (line ∷ [])) after =
    subst (λ (ts : List Lexeme). Spells rest ts after) (sym (append-nil (line_lexemes line)))
    ((item_exact.takes rest line after e).0) in
    subst (λ (ts : List Lexeme). Spells start ts after) (sym (flat_map-append line_lexemes front (line ∷ [])))
    (spells_append (flat_map line_lexemes front) (flat_map line_lexemes (line ∷ [])) start rest after s last)

pub more : (bytes : List ℕ) (built after_built : List Line) (rest after : List ℕ) (line : Line) → Built bytes built rest
    → item_at rest ≡ Ok (item line, after) → add_fault built (counted line) ≡ None → after_built ≡ built ++ counted line ∷ []
    → Built bytes after_built after
more bytes built after_built rest after line b e fault grown = record {
  start = b.start;
  front = b.front ++ line ∷ [];
  body = b.body;
  so_far = goes_on item_at item_shrinks (b.front) rest line after (items_at item_at (b.start)) e (b.so_far);
  spelt = spelt_push b.start b.front rest after line b.spelt e;
  is = grown ∙ ap (λ (ls : List Line). ls ++ counted line ∷ []) (b.is) ∙ sym (map-append counted (b.front) (line ∷ []));
  fits = accepts_push [] (b.front) line (b.fits) (subst (λ (ls : List Line). add_fault ls (counted line) ≡ None) (b.is) fault);
}

-- all lines are read
read_all : (bytes : List ℕ) (built : List Line) (rest : List ℕ) (u : Unit {0}) (after : List ℕ) (b : Built bytes built rest)
    → item_at rest ≡ Ok (stop u, after) → lines_at bytes ≡ Ok b.front
unfolding lines_at
read_all bytes built rest u after b e =
    let all = ends item_at (b.front) rest u after (items_at item_at (b.start)) e (b.so_far) in
    rw (b.body, all) refl

pub finishes : (bytes : List ℕ) (built : List Line) (rest : List ℕ) (u : Unit {0}) (after : List ℕ) → Built bytes built rest
    → item_at rest ≡ Ok (stop u, after) → BuildsLines bytes (Ok built)
finishes bytes built rest u after b e = (b.front, lines_take bytes b.front (read_all bytes built rest u after b e), b.is, b.fits)

-- nothing is read behind the body, so nothing is read
no_items : (bytes start : List ℕ) (fault : TokenFault) → body_at bytes ≡ Ok start → items_at item_at start ≡ Err fault → lines_at bytes ≡ Err fault
unfolding lines_at
no_items bytes start fault e h = rw (e, h) refl

no_body : (bytes : List ℕ) (fault : TokenFault) → body_at bytes ≡ Err fault → lines_at bytes ≡ Err fault
unfolding lines_at
no_body bytes fault e = rw e refl

-- what is not read is no text
no_text : (bytes : List ℕ) (fault : TokenFault) → lines_at bytes ≡ Err fault → (lines : List Line) → IsText bytes lines → ⊥
no_text bytes fault e lines text = err_is_ok fault lines (sym e ∙ lines_again bytes lines text)

refuses : (fault : TokenFault) (bytes : List ℕ) → IsNoText bytes → BuildsLines bytes (Err (token_fault_of (length bytes) fault))
refuses (Syntax left) bytes none = none
refuses (NumberTooLarge left) bytes none = none

-- where a clause can't be read no other token than its word stands
no_other : (name bytes : List ℕ) (fault : TokenFault) (token : Lexeme) (mid : List ℕ) → (token ≡ word name → ⊥)
    → clause_at name bytes ≡ Err fault → ¬ Begins bytes token mid
no_other name bytes fault token mid other e b = err_is_ok fault _ (sym e ∙ clause_absent name bytes token mid other b)

-- in the place of a clause that can't be read stands neither a line nor the end
stops_at_clause : (name bytes : List ℕ) (header : Option ℕ) (here : List ℕ) (fault : TokenFault) → Spells bytes (clause_lexemes (codes "parity") header) here
    → clause_at name here ≡ Err fault → lines_at bytes ≡ Err fault → IsNoText bytes
stops_at_clause name bytes header here fault s e h = record {
  header = header;
  start = None;
  lines = [];
  here = here;
  spelt = spells_append (clause_lexemes (codes "parity") header) [] bytes here here s refl;
  limits = tt;
  no_line = λ line rest some l. no_other name here fault (number line.identifier) l.0 (λ e. cc) e l.1;
  no_end = λ l. no_other name here fault end l.0 (λ e. cc) e l.1;
  no_text = no_text bytes fault h;
}

err_same : {A : Type 0} (f g : TokenFault) → (let r : Read A = Err f in r) ≡ Err g → f ≡ g
err_same f g e = cc

bind_err : {A B : Type 0} (o : Read A) (f : A → Read B) (fault : TokenFault) → (o >>= f) ≡ Err fault
    → (o ≡ Err fault) ⊎ ((x : A) × (o ≡ Ok x) × (f x ≡ Err fault))
bind_err (Err g) f fault e = inl (ap (λ (h : TokenFault). err h) (err_same g fault e))
bind_err (Ok x) f fault e = inr (x, refl, e)

no_front : (bytes : List ℕ) (fault : TokenFault) → body_at bytes ≡ Err fault → IsNoText bytes
unfolding body_at
no_front bytes fault e =
    elim (bind_err (clause_at (codes "parity") bytes) (λ header. clause_at (codes "start") header.1 >>= λ start. ok start.1) fault e) [
      | inl f ↦ stops_at_clause (codes "parity") bytes None bytes fault refl f (no_body bytes fault e)
      | inr h ↦ elim (bind_err (clause_at (codes "start") h.0.1) (λ start. ok start.1) fault h.2) [
        | inl f ↦ stops_at_clause (codes "start") bytes h.0.0 h.0.1 fault (clause_takes (codes "parity") bytes h.0 h.1) f (no_body bytes fault e)
        | inr f ↦ absurd (err_is_ok fault _ (sym f.2))
      ]
    ]

pub fails_body : (fault : TokenFault) (bytes : List ℕ) → body_at bytes ≡ Err fault → BuildsLines bytes (Err (token_fault_of (length bytes) fault))
fails_body fault bytes h = refuses fault bytes (no_front bytes fault h)

unread : (bytes : List ℕ) (built : List Line) (rest : List ℕ) (fault : TokenFault) → Built bytes built rest → item_at rest ≡ Err fault
    → lines_at bytes ≡ Err fault
unread bytes built rest fault b h = no_items bytes b.start fault b.body (sym b.so_far ∙ ap (with_front b.front) (items_err item_at rest fault h))

-- behind the lines so far stands neither a line nor the end
stops_at_line : (bytes : List ℕ) (built : List Line) (rest : List ℕ) (fault : TokenFault) → Built bytes built rest → item_at rest ≡ Err fault
    → IsNoText bytes
stops_at_line bytes built rest fault b e =
    let front = body_takes bytes b.start b.body in record {
      header = front.0;
      start = front.1;
      lines = b.front;
      here = rest;
      spelt = front.2 (flat_map line_lexemes b.front ++ []) rest (spells_append (flat_map line_lexemes b.front) [] b.start rest rest b.spelt refl);
      limits = b.fits;
      no_line = λ line after some l. err_is_ok fault _ (sym e ∙ item_exact.again rest line after some l);
      no_end = λ l. err_is_ok fault _ (sym e ∙ end_again rest l.0 l.1);
      no_text = no_text bytes fault (unread bytes built rest fault b e);
    }

-- a refusal for another cause than memory says that nothing is read
pub fails_item : (refusal : Refusal) (bytes : List ℕ) (built : List Line) (rest : List ℕ) → Built bytes built rest
    → Fails refusal (item_at rest) → BuildsLines bytes (Err (fault_of (length bytes) refusal))
fails_item Memory bytes built rest b h = tt
fails_item (Token fault) bytes built rest b h = refuses fault bytes (stops_at_line bytes built rest fault b h)

-- a line that is not accepted stands in each list of lines that is read
spoils : (bytes : List ℕ) (built : List Line) (rest after : List ℕ) (line : Line) (f : ArenaFault) → Built bytes built rest
    → item_at rest ≡ Ok (item line, after) → add_fault built (counted line) ≡ Some f → (lines : List Line) → lines_at bytes ≡ Ok lines
    → Accepts [] lines → ⊥
unfolding lines_at
spoils bytes built rest after line f b e fault lines read accepts =
    let total = goes_on item_at item_shrinks (b.front) rest line after (items_at item_at (b.start)) e (b.so_far) in
    let a = bind_ok (body_at bytes) (λ rest. items_at item_at rest >>= λ x. ok (x.0)) lines read in
    let start : a.0 ≡ b.start = ok_is (a.0) (b.start) (sym (a.1) ∙ b.body) in
    let d = bind_ok (items_at item_at (a.0)) (λ x. ok (x.0)) lines (a.2) in
    let g = bind_ok (items_at item_at after) (λ x. ok ((b.front ++ line ∷ []) ++ x.0, x.1, x.2)) (d.0) (total ∙ ap (items_at item_at) (sym start) ∙ d.1) in
    let whole : lines ≡ b.front ++ line ∷ g.0.0 =
    sym (ok_is (d.0.0) lines (d.2)) ∙ sym
    (ap (λ (p : List Line × Unit {0} × List ℕ). p.0) (ok_is ((b.front ++ line ∷ []) ++ g.0.0, g.0.1, g.0.2) (d.0) (g.2)))
    ∙ append_assoc (b.front) (line ∷ []) (g.0.0) in
    let none_here = accepts_at [] (b.front) line (g.0.0) (subst (Accepts []) whole accepts) in
    none_is_some f (sym (subst (λ (ls : List Line). add_fault ls (counted line) ≡ None) (sym (b.is)) none_here) ∙ fault)

-- the text begins with the lines so far and then this one
bad_line : (bytes : List ℕ) (built : List Line) (rest after : List ℕ) (line : Line) (f : ArenaFault) → Built bytes built rest
    → item_at rest ≡ Ok (item line, after) → add_fault built (counted line) ≡ Some f → HasBadLine bytes f
bad_line bytes built rest after line f b e fault =
    let front = body_takes bytes b.start b.body in
    let lines = spells_append (flat_map line_lexemes b.front) (line_lexemes line) b.start rest after b.spelt ((item_exact.takes rest line after e).0) in
    record {
      header = front.0;
      start = front.1;
      lines = b.front;
      line = line;
      rest = after;
      spelt = front.2 (flat_map line_lexemes b.front ++ line_lexemes line) after lines;
      successors = (item_exact.takes rest line after e).1;
      limits = b.fits;
      refused = subst (λ (ls : List Line). add_fault ls (counted line) ≡ Some f) b.is fault;
    }

abbrev refusing : {T : Type 0} → ArenaFault → Result T ArenaFault
refusing f = Err f

named : (T : Type 0) (f : ArenaFault) (bytes : List ℕ) (reason : Option ArenaFault) → Answers (refusing {T = T} f) reason
    → ((reason ≡ Some f) → HasBadLine bytes f × ((lines : List Line) → IsText bytes lines → Accepts [] lines → ⊥))
    → BuildsLines bytes (Err (arena_fault f))
named T arena.OutOfMemory bytes reason h k = tt
named T _ bytes reason h k = k h

pub fails_add : {T : Type 0} (r : Result T ArenaFault) (f : ArenaFault) (bytes : List ℕ) (built : List Line) (rest after : List ℕ) (line : Line)
    → r ≡ Err f → Built bytes built rest → item_at rest ≡ Ok (item line, after) → Answers r (add_fault built (counted line))
    → BuildsLines bytes (Err (arena_fault f))
fails_add {T} r f bytes built rest after line was b e h =
    named T f bytes (add_fault built (counted line)) (subst (λ (r : Result T ArenaFault). Answers r (add_fault built (counted line))) was h)
    (λ fault. (
      bad_line bytes built rest after line f b e fault,
      λ lines text accepts. spoils bytes built rest after line f b e fault lines
          (lines_again bytes lines text) accepts,
    ))
