-- What one text says is determined or not.
use Rattle.pg_hoa.proofs.Common.{◌≡◌, ◌∙◌, ◌<◌, ℕ, List, ◌^◌, length, sym, ap, subst, Automaton, Written, SaysNone, KeptLine, SaysOnce}
use Rattle.pg_hoa.proofs.Common.{says_once, IsUndetermined, IsDeterministicAt, SpellsNone, steps_of, kept_steps}
use Rattle.pg_hoa.proofs.TableLaws.{kept_steps_are}

pub says_spell_none : (bytes : List ℕ) → SaysNone bytes → SpellsNone bytes
says_spell_none bytes none = λ a s. none s.written a s.text s.says

pub steps_once : (w x : Written) (a b : Automaton) → SaysOnce w x a b → (state letter : ℕ)
    → steps_of w.lines state letter ≡ steps_of x.lines state letter
steps_once w x a b o state letter = sym (kept_steps_are w.lines state letter)
    ∙ ap (λ (ls : List KeptLine). kept_steps ls state letter) o.kept ∙ kept_steps_are x.lines state letter

determined_once : (w x : Written) (a b : Automaton) (state letter : ℕ) → SaysOnce w x a b → IsDeterministicAt b x.lines state letter
    → IsDeterministicAt a w.lines state letter
determined_once w x a b state letter o agree = rw (o.preamble.shape, steps_once w x a b o state letter) agree

pub letters_below : (w x : Written) (a b : Automaton) (letter : ℕ) → SaysOnce w x a b → letter < 2 ^ length a.propositions
    → letter < 2 ^ length b.propositions
letters_below w x a b letter o h = subst (λ (ns : List (List ℕ)). letter < 2 ^ length ns) o.preamble.names h

pub undetermined_spell_none : (bytes : List ℕ) (state letter : ℕ) → IsUndetermined bytes state letter → SpellsNone bytes
undetermined_spell_none bytes state letter u = λ a s.
    let o = says_once bytes u.written s.written u.automaton a u.text s.text u.says s.says in
    u.fails (determined_once u.written s.written u.automaton a state letter o
    (s.deterministic state letter (subst (λ (n : ℕ). state < n) o.states u.state_below)
    (letters_below u.written s.written u.automaton a letter o u.letter_below)))
