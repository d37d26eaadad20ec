-- The lines before the events.
use Rattle.pg_world.proofs.Common.{◌≡◌, ◌≢◌, ℕ, ◌<◌, ◌≤◌, List, [], ◌∷◌, Option, Some, None, Ok, Err, refl, sym, ap, subst, ◌∙◌, arith}
use Rattle.pg_world.proofs.Common.{length, codes, IfSome, IfNone, ext_get_or, GameVertex, IsGame, Spells, clause_lexemes, TokenFault}
use Rattle.pg_world.proofs.Common.{Refusal, Memory, Token, Fails, err_is_ok, same_ok, some, some_is, none_is_some, spells_append, spells_parts, CutValue}
use Rattle.pg_world.proofs.Common.{even_worker, Event, MAX_WORKERS, ScriptFault, OutOfMemory, Syntax, NumberTooLarge, NoVertex, CutMismatch}
use Rattle.pg_world.proofs.Common.{cut_lexemes, head_lexemes, events_lexemes, IsCutOf, IsScriptText, clause_at, clause_takes, clause_there, cut_at, refusal_in}
use Rattle.pg_world.proofs.Common.{line_of, AreEvents, IsHead, IsOnlyHead, IsNoScript}
use Rattle.pg_world.proofs.ScriptLines.{cut_takes, cut_there, no_cut_at_end, no_cut_at_line}
use Rattle.pg_world.proofs.ScriptReads.{event_line, split, same_events}

-- ---- what is read of a text

-- how the lines before the events of a text are read
pub record HeadRead (bytes : List ℕ) (game : List GameVertex) (workers : ℕ) (numbers : Option (List ℕ)) (events : List Event) : Type 0 where
  pub mid : List ℕ
  pub after : List ℕ
  pub workers_read : clause_at (codes "workers") bytes ≡ Ok (Some workers, mid)
  pub cut_read : cut_at mid ≡ Ok (numbers, after)
  pub later : AreEvents after game events

no_cut_at_events : (bytes : List ℕ) (game : List GameVertex) (events : List Event) → AreEvents bytes game events → cut_at bytes ≡ Ok (None, bytes)
no_cut_at_events bytes game [] a = no_cut_at_end bytes a.spelt
no_cut_at_events bytes game (e ∷ es) a =
    let s = split bytes game e es a in
    no_cut_at_line bytes (line_of game e) s.mid (subst (λ tokens. Spells bytes tokens s.mid) (event_line game e) s.first)

numbers_there : (game : List GameVertex) (ns : List ℕ) → IsGame game → length ns ≡ length game → ns ≢ []
numbers_there game ns well size e = (let full = well.nonempty in omega (arith, size, ap length e, full))

cut_again : (bytes : List ℕ) (game : List GameVertex) (numbers : Option (List ℕ)) (cut : CutValue) (events : List Event) (rest : List ℕ)
    → IsGame game → IsCutOf game numbers cut
    → Spells bytes (cut_lexemes numbers) rest → AreEvents rest game events → cut_at bytes ≡ Ok (numbers, rest)
cut_again bytes game None cut events rest well is s a = subst (λ (b : List ℕ). cut_at b ≡ Ok (None, rest)) (sym s) (no_cut_at_events rest game events a)
cut_again bytes game (Some ns) cut events rest well is s a = cut_there bytes ns rest (numbers_there game ns well is.1) s

head_read : (bytes : List ℕ) (game : List GameVertex) (cut : CutValue) (events : List Event) → IsGame game
    → (t : IsScriptText bytes game cut events) → HeadRead bytes game cut.workers t.numbers events
head_read bytes game cut events well t =
    let parts = spells_parts (head_lexemes cut.workers t.numbers) (events_lexemes game events) bytes [] t.text in
    let head = spells_parts (clause_lexemes (codes "workers") (Some cut.workers)) (cut_lexemes t.numbers) bytes parts.0 parts.1 in
    let later : AreEvents parts.0 game events = record { spelt = parts.2; vertices = t.vertices } in
    record {
      mid = head.0;
      after = parts.0;
      workers_read = clause_there (codes "workers") cut.workers bytes head.0 head.1;
      cut_read = cut_again head.0 game t.numbers cut events parts.0 well t.cut_is head.2 later;
      later = later;
    }

-- ---- why there is no script

pub fails_workers : (bytes : List ℕ) (game : List GameVertex) (fault : TokenFault) → IsGame game → clause_at (codes "workers") bytes ≡ Err fault
    → (cut : CutValue) (events : List Event) → ¬ IsScriptText bytes game cut events
fails_workers bytes game fault well read = λ cut events t. (let h = head_read bytes game cut events well t in err_is_ok fault _ (sym read ∙ h.workers_read))

pub fails_none : (bytes : List ℕ) (game : List GameVertex) (mid : List ℕ) → IsGame game → clause_at (codes "workers") bytes ≡ Ok (None, mid)
    → (cut : CutValue) (events : List Event) → ¬ IsScriptText bytes game cut events
fails_none bytes game mid well read = λ cut events t.
    let h = head_read bytes game cut events well t in
    none_is_some cut.workers (ap (λ (p : Option ℕ × List ℕ). p.0)
    (same_ok (clause_at (codes "workers") bytes) (None, mid) (Some cut.workers, h.mid) read h.workers_read))

-- the head of a text is what was read
same_workers : (bytes : List ℕ) (a b : ℕ) (p q : List ℕ) → clause_at (codes "workers") bytes ≡ Ok (Some a, p)
    → clause_at (codes "workers") bytes ≡ Ok (Some b, q)
    → (a ≡ b) × (p ≡ q)
same_workers bytes a b p q first second =
    let same = same_ok (clause_at (codes "workers") bytes) (some a, p) (some b, q) first second in
    (some_is a b (ap (λ (x : Option ℕ × List ℕ). x.0) same), ap (λ (x : Option ℕ × List ℕ). x.1) same)

pub fails_many : (bytes : List ℕ) (game : List GameVertex) (workers : ℕ) (mid : List ℕ) → IsGame game
    → clause_at (codes "workers") bytes ≡ Ok (Some workers, mid) → 16 < workers → (cut : CutValue) (events : List Event) → ¬ IsScriptText bytes game cut events
fails_many bytes game workers mid well read many = λ cut events t.
    let h = head_read bytes game cut events well t in
    let same = (same_workers bytes cut.workers workers h.mid mid h.workers_read read).0 in
    omega (arith, t.few, same, many)

pub fails_cut : (bytes : List ℕ) (game : List GameVertex) (workers : ℕ) (mid : List ℕ) (refusal : Refusal) (len : ℕ) → IsGame game
    → clause_at (codes "workers") bytes ≡ Ok (Some workers, mid) → Fails refusal (cut_at mid) → IsNoScript bytes game (refusal_in len refusal)
fails_cut bytes game workers mid Memory len well read fails = λ other. absurd (other refl)
fails_cut bytes game workers mid (Token fault) len well read fails = λ other cut events t.
    let h = head_read bytes game cut events well t in
    let same = (same_workers bytes cut.workers workers h.mid mid h.workers_read read).1 in
    err_is_ok fault _ (sym fails ∙ subst (λ (b : List ℕ). cut_at b ≡ Ok (t.numbers, h.after)) same h.cut_read)

-- what a text of the same bytes says before its events
pub record SameHead (bytes : List ℕ) (game : List GameVertex) (workers : ℕ) (numbers : Option (List ℕ)) (rest : List ℕ) (cut : CutValue)
    (events : List Event) : Type 0 where
  pub workers_are : cut.workers ≡ workers
  pub cut_is : IsCutOf game numbers cut
  pub later : AreEvents rest game events

pub same_head : (bytes : List ℕ) (game : List GameVertex) (workers : ℕ) (mid : List ℕ) (numbers : Option (List ℕ)) (rest : List ℕ)
    → IsGame game → clause_at (codes "workers") bytes ≡ Ok (Some workers, mid) → cut_at mid ≡ Ok (numbers, rest)
    → (cut : CutValue) (events : List Event) → IsScriptText bytes game cut events → SameHead bytes game workers numbers rest cut events
same_head bytes game workers mid numbers rest well read cut_read = λ cut events t.
    let h = head_read bytes game cut events well t in
    let first = same_workers bytes cut.workers workers h.mid mid h.workers_read read in
    let second : (t.numbers, h.after) ≡ (numbers, rest) = same_ok (cut_at mid) (t.numbers, h.after) (numbers, rest)
    (subst (λ (b : List ℕ). cut_at b ≡ Ok (t.numbers, h.after)) first.1 h.cut_read) cut_read in
    record {
      workers_are = first.0;
      cut_is = subst (λ (ns : Option (List ℕ)). IsCutOf game ns cut) (ap (λ (p : Option (List ℕ) × List ℕ). p.0) second) t.cut_is;
      later = subst (λ (b : List ℕ). AreEvents b game events) (ap (λ (p : Option (List ℕ) × List ℕ). p.1) second) h.later;
    }

pub fails_misfit : (bytes : List ℕ) (game : List GameVertex) (workers : ℕ) (mid : List ℕ) (numbers : Option (List ℕ)) (rest : List ℕ)
    → IsGame game → clause_at (codes "workers") bytes ≡ Ok (Some workers, mid) → cut_at mid ≡ Ok (numbers, rest)
    → ((cut : CutValue) → cut.workers ≡ workers → ¬ IsCutOf game numbers cut) → (cut : CutValue) (events : List Event) → ¬ IsScriptText bytes game cut events
fails_misfit bytes game workers mid numbers rest well read cut_read none = λ cut events t.
    let s = same_head bytes game workers mid numbers rest well read cut_read cut events t in
    none cut s.workers_are s.cut_is

-- ---- the head that was read

pub head : (bytes : List ℕ) (game : List GameVertex) (workers : ℕ) (mid : List ℕ) (numbers : Option (List ℕ)) (rest : List ℕ) (cut : CutValue)
    → clause_at (codes "workers") bytes ≡ Ok (Some workers, mid) → cut_at mid ≡ Ok (numbers, rest) → workers ≤ MAX_WORKERS → cut.workers ≡ workers
    → IsCutOf game numbers cut → IsHead bytes game cut rest
head bytes game workers mid numbers rest cut read cut_read few same is = record {
  numbers = numbers;
  spelt = subst (λ (n : ℕ). Spells bytes (head_lexemes n numbers) rest) (sym same)
      (spells_append (clause_lexemes (codes "workers") (Some workers)) (cut_lexemes numbers) bytes mid rest
      (clause_takes (codes "workers") bytes (Some workers, mid) read) (cut_takes mid (numbers, rest) cut_read));
  few = subst (λ (n : ℕ). n ≤ MAX_WORKERS) (sym same) few;
  cut_is = is;
}

cut_eta : (a b : CutValue) → a.workers ≡ b.workers → a.numbers ≡ b.numbers → a ≡ b
cut_eta a b p q = rw (p, q) refl

pub same_cut : (game : List GameVertex) (numbers : Option (List ℕ)) (a b : CutValue) → a.workers ≡ b.workers → IsCutOf game numbers a
    → IsCutOf game numbers b → a ≡ b
same_cut game None a b same p q =
    let size : length a.numbers ≡ length b.numbers = p.size ∙ sym q.size in
    let each = λ (k : ℕ) (l : k < length a.numbers). p.each k (subst (λ (n : ℕ). k < n) p.size l)
    ∙ ap (λ (w : ℕ). even_worker (length game) w k) same ∙ sym (q.each k (subst (λ (n : ℕ). k < n) p.size l)) in
    cut_eta a b same (ext_get_or 0 a.numbers b.numbers size each)
same_cut game (Some ns) a b same p q = cut_eta a b same (p.0 ∙ sym q.0)

pub only_head : (bytes : List ℕ) (game : List GameVertex) (workers : ℕ) (mid : List ℕ) (numbers : Option (List ℕ)) (rest : List ℕ) (cut : CutValue)
    → IsGame game → clause_at (codes "workers") bytes ≡ Ok (Some workers, mid) → cut_at mid ≡ Ok (numbers, rest) → cut.workers ≡ workers
    → IsCutOf game numbers cut → IsOnlyHead bytes game cut rest
only_head bytes game workers mid numbers rest cut well read cut_read same is = λ other events t.
    let s = same_head bytes game workers mid numbers rest well read cut_read other events t in
    (same_cut game numbers other cut (s.workers_are ∙ sym same) s.cut_is is, s.later)

-- ---- the whole

pub whole : (bytes : List ℕ) (game : List GameVertex) (cut : CutValue) (rest : List ℕ) (events : List Event) → IsHead bytes game cut rest → cut.workers ≤ 16
    → AreEvents rest game events → IsScriptText bytes game cut events
whole bytes game cut rest events h few a = record {
  numbers = h.numbers;
  text = spells_append (head_lexemes cut.workers h.numbers) (events_lexemes game events) bytes rest [] h.spelt a.spelt;
  few = few;
  cut_is = h.cut_is;
  vertices = a.vertices;
}

pub only_whole : (bytes : List ℕ) (game : List GameVertex) (cut : CutValue) (rest : List ℕ) (events : List Event) → IsGame game
    → IsOnlyHead bytes game cut rest → AreEvents rest game events
    → (other : CutValue) (others : List Event) → IsScriptText bytes game other others → (cut ≡ other) × (events ≡ others)
only_whole bytes game cut rest events well only a other others t = (let o = only other others t in (sym o.0, same_events game rest events others well a o.1))

-- a fault that can't be another is want of memory
pub is_memory : (fault : ScriptFault) → (fault ≢ OutOfMemory → ⊥) → fault ≡ OutOfMemory
is_memory OutOfMemory h = refl
is_memory (Syntax offset) h = absurd (h (λ e. cc))
is_memory (NumberTooLarge offset) h = absurd (h (λ e. cc))
is_memory (NoVertex id) h = absurd (h (λ e. cc))
is_memory CutMismatch h = absurd (h (λ e. cc))

-- ---- options

pub some_holds : {X : Type 0} (P : X → Type 0) (o : Option X) (x : X) → o ≡ Some x → IfSome o P → P x
some_holds P (Some y) x e h = subst P (some_is y x e) h
some_holds P None x e h = absurd cc

pub none_holds : {X : Type 0} (Q : Type 0) (o : Option X) → o ≡ None → IfNone o Q → Q
none_holds Q None e h = h
none_holds Q (Some y) e h = absurd cc

-- ---- one text, one script

pub one_script : (bytes : List ℕ) (game : List GameVertex) (cut other : CutValue) (events others : List Event) → IsGame game
    → IsScriptText bytes game cut events → IsScriptText bytes game other others → (other ≡ cut) × (others ≡ events)
one_script bytes game cut other events others well t u =
    let h = head_read bytes game cut events well t in
    let s = same_head bytes game cut.workers h.mid t.numbers h.after well h.workers_read h.cut_read other others u in
    (same_cut game t.numbers other cut s.workers_are s.cut_is t.cut_is, same_events game h.after others events well s.later h.later)
