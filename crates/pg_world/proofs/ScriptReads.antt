-- A script read line by line.
use Rattle.pg_world.proofs.Common.{◌≡◌, ℕ, List, [], ◌∷◌, ◌++◌, Option, Some, None, Ok, Err, refl, sym, ap, subst, ◌∙◌, append_assoc, All}
use Rattle.pg_world.proofs.Common.{flat_map, append-nil, All-nil, All-cons, All-head, All-tail, All-append, flat_map-append, GameVertex}
use Rattle.pg_world.proofs.Common.{identifier, IsGame, Lexeme, end, Spells, TokenFault, err_is_ok, same_ok, some, some_is, none_is_some}
use Rattle.pg_world.proofs.Common.{spells_append, spells_parts, same_vertex, Event, ScriptLine, IsEventOf, event_lexemes, events_lexemes}
use Rattle.pg_world.proofs.Common.{next_line_at, line_of, IsEventAt, AreEvents}
use Rattle.pg_world.specs.declared.event.Event.TheVariants as event
use Rattle.pg_world.proofs.ScriptLines.{line_lexemes, line_takes, line_again, text_ends, text_ends_again}

pub event_line : (game : List GameVertex) (e : Event) → event_lexemes game e ≡ line_lexemes (line_of game e)
event_line game (event.Lift worker v) = refl
event_line game (event.Deliver replica n) = refl
event_line game (event.Restart worker) = refl
event_line game (event.CoordinatorLift v) = refl

-- the first event, and the others behind it
pub record Split (bytes : List ℕ) (game : List GameVertex) (e : Event) (es : List Event) : Type 0 where
  pub mid : List ℕ
  pub first : Spells bytes (event_lexemes game e) mid
  pub read : next_line_at bytes ≡ Ok (Some (line_of game e), mid)
  pub vertex : IsEventOf game e
  pub others : AreEvents mid game es

pub split : (bytes : List ℕ) (game : List GameVertex) (e : Event) (es : List Event) → AreEvents bytes game (e ∷ es) → Split bytes game e es
split bytes game e es a =
    let regrouped = subst (λ (tokens : List Lexeme). Spells bytes tokens [])
    (append_assoc (event_lexemes game e) (flat_map (event_lexemes game) es) (end ∷ [])) a.spelt in
    let parts = spells_parts (event_lexemes game e) (events_lexemes game es) bytes [] regrouped in
    record {
      mid = parts.0;
      first = parts.1;
      read = line_again bytes (line_of game e) parts.0 (subst (λ (tokens : List Lexeme). Spells bytes tokens parts.0) (event_line game e) parts.1);
      vertex = All-head (IsEventOf game) e es a.vertices;
      others = record { spelt = parts.2; vertices = All-tail (IsEventOf game) e es a.vertices };
    }

no_events_read : (bytes : List ℕ) (game : List GameVertex) → AreEvents bytes game [] → next_line_at bytes ≡ Ok (None, bytes)
no_events_read bytes game a = text_ends_again bytes a.spelt

none_some : (line : ScriptLine) (bytes rest : List ℕ) → (let x : Option ScriptLine × List ℕ = (None, bytes) in x ≡ (Some line, rest)) → ⊥
none_some line bytes rest e = none_is_some line (ap (λ (p : Option ScriptLine × List ℕ). p.0) e)

-- ---- while the events are read

-- these events were read, and all that the text may go on with stands in the rest
pub record Reading (bytes : List ℕ) (game : List GameVertex) (events : List Event) (rest : List ℕ) : Type 0 where
  pub spelt : Spells bytes (flat_map (event_lexemes game) events) rest
  pub vertices : All (IsEventOf game) events
  pub others : (all : List Event) → AreEvents bytes game all → (later : List Event) × AreEvents rest game later

goes_later : (game : List GameVertex) (rest : List ℕ) (line : ScriptLine) (after : List ℕ) (later : List Event)
    → next_line_at rest ≡ Ok (Some line, after) → AreEvents rest game later
    → (e : Event) × (es : List Event) × IsEventAt game line e × AreEvents after game es
goes_later game rest line after [] read a =
    absurd (none_some line rest after (same_ok (next_line_at rest) (None, rest) (Some line, after) (no_events_read rest game a) read))
goes_later game rest line after (e ∷ es) read a =
    let s = split rest game e es a in
    let same : (some (line_of game e), s.mid) ≡ (some line, after) =
    same_ok (next_line_at rest) (Some (line_of game e), s.mid) (Some line, after) s.read read in
    let same_line : line_of game e ≡ line = some_is (line_of game e) line (ap (λ (p : Option ScriptLine × List ℕ). p.0) same) in (
      e,
      es,
      record { vertex = s.vertex; same = same_line },
      subst (λ (r : List ℕ). AreEvents r game es)
          (ap (λ (p : Option ScriptLine × List ℕ). p.1) same) s.others,
    )

pub goes : (bytes : List ℕ) (game : List GameVertex) (events : List Event) (rest : List ℕ) (line : ScriptLine) (after : List ℕ) (e : Event)
    → Reading bytes game events rest → next_line_at rest ≡ Ok (Some line, after) → IsEventAt game line e
    → Reading bytes game (events ++ e ∷ []) after
goes bytes game events rest line after e r read at =
    let line_there = subst (λ (l : ScriptLine). Spells rest (line_lexemes l) after) (sym at.same) (line_takes rest line after read) in
    let there = subst (λ (tokens : List Lexeme). Spells rest tokens after) (sym (event_line game e)) line_there in
    let one : flat_map (event_lexemes game) (events ++ e ∷ []) ≡ flat_map (event_lexemes game) events ++ event_lexemes game e =
    flat_map-append (event_lexemes game) events (e ∷ []) ∙ ap (λ (l : List Lexeme). flat_map (event_lexemes game) events ++ l)
    (append-nil (event_lexemes game e)) in
    record {
      spelt = subst (λ (tokens : List Lexeme). Spells bytes tokens after) (sym one)
          (spells_append (flat_map (event_lexemes game) events) (event_lexemes game e) bytes rest after r.spelt there);
      vertices = All-append (IsEventOf game) events (e ∷ []) r.vertices (All-cons (IsEventOf game) e [] at.vertex (All-nil (IsEventOf game)));
      others = λ all a. (let o = r.others all a in let l = goes_later game rest line after o.0 read o.1 in (l.1, l.3));
    }

pub finishes : (bytes : List ℕ) (game : List GameVertex) (events : List Event) (rest after : List ℕ) → Reading bytes game events rest
    → next_line_at rest ≡ Ok (None, after) → AreEvents bytes game events
finishes bytes game events rest after r read = record {
  spelt = spells_append (flat_map (event_lexemes game) events) (end ∷ []) bytes rest [] r.spelt (text_ends rest after read);
  vertices = r.vertices;
}

no_line : (game : List GameVertex) (rest : List ℕ) (fault : TokenFault) (later : List Event) → next_line_at rest ≡ Err fault → AreEvents rest game later → ⊥
no_line game rest fault [] read a = err_is_ok fault _ (sym read ∙ no_events_read rest game a)
no_line game rest fault (e ∷ es) read a = (let s = split rest game e es a in err_is_ok fault _ (sym read ∙ s.read))

-- where no line stands no events do
pub fails_line : (bytes : List ℕ) (game : List GameVertex) (events : List Event) (rest : List ℕ) (fault : TokenFault)
    → Reading bytes game events rest → next_line_at rest ≡ Err fault → (all : List Event) → ¬ AreEvents bytes game all
fails_line bytes game events rest fault r read = λ all a. (let o = r.others all a in no_line game rest fault o.0 read o.1)

-- nor where a line stands that is no event's
pub fails_event : (bytes : List ℕ) (game : List GameVertex) (events : List Event) (rest : List ℕ) (line : ScriptLine) (after : List ℕ)
    → Reading bytes game events rest → next_line_at rest ≡ Ok (Some line, after) → ((e : Event) → ¬ IsEventAt game line e)
    → (all : List Event) → ¬ AreEvents bytes game all
fails_event bytes game events rest line after r read none = λ all a. (let o = r.others all a in let l =
    goes_later game rest line after o.0 read o.1 in none l.0 l.2)

-- ---- one text, one list of events

same_event : (game : List GameVertex) (e e' : Event) → IsGame game → IsEventOf game e → IsEventOf game e' → line_of game e ≡ line_of game e' → e ≡ e'
same_event game (event.Lift a v) (event.Lift b w) well p q same =
    let named : identifier game v ≡ identifier game w = cc in
    let vertex : v ≡ w = same_vertex game v w well p q named in
    let worker : a ≡ b = cc in
    rw (vertex, worker) refl
same_event game (event.Deliver a n) (event.Deliver b m) well p q same =
    let number : n ≡ m = cc in
    let replica : a ≡ b = cc in
    rw (number, replica) refl
same_event game (event.Restart a) (event.Restart b) well p q same =
    let worker : a ≡ b = cc in
    rw worker refl
same_event game (event.CoordinatorLift v) (event.CoordinatorLift w) well p q same =
    let named : identifier game v ≡ identifier game w = cc in
    let vertex : v ≡ w = same_vertex game v w well p q named in
    rw vertex refl
same_event game _ _ well p q same = absurd cc

pub same_events : (game : List GameVertex) (bytes : List ℕ) (es es' : List Event) → IsGame game → AreEvents bytes game es → AreEvents bytes game es' → es ≡ es'
same_events game bytes [] [] well a b = refl
same_events game bytes [] (e' ∷ es') well a b =
    let s = split bytes game e' es' b in
    absurd (none_some (line_of game e') bytes s.mid
    (same_ok (next_line_at bytes) (None, bytes) (Some (line_of game e'), s.mid) (no_events_read bytes game a) s.read))
same_events game bytes (e ∷ es) [] well a b =
    let s = split bytes game e es a in
    absurd (none_some (line_of game e) bytes s.mid
    (same_ok (next_line_at bytes) (None, bytes) (Some (line_of game e), s.mid) (no_events_read bytes game b) s.read))
same_events game bytes (e ∷ es) (e' ∷ es') well a b =
    let s = split bytes game e es a in
    let s' = split bytes game e' es' b in
    let same : (some (line_of game e), s.mid) ≡ (some (line_of game e'), s'.mid) =
    same_ok (next_line_at bytes) (Some (line_of game e), s.mid) (Some (line_of game e'), s'.mid) s.read s'.read in
    let same_line : line_of game e ≡ line_of game e' = some_is (line_of game e) (line_of game e') (ap (λ (p : Option ScriptLine × List ℕ). p.0) same) in
    let first : e ≡ e' = same_event game e e' well s.vertex s'.vertex same_line in
    let later : es ≡ es' = same_events game s.mid es es' well s.others
    (subst (λ (r : List ℕ). AreEvents r game es') (sym (ap (λ (p : Option ScriptLine × List ℕ). p.1) same)) s'.others) in
    rw (first, later) refl
