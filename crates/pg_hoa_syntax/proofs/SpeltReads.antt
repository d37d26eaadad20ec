-- What is written is read.
use Rattle.pg_hoa_syntax.proofs.Common.{◌≡◌, ◌∙◌, ◌≤◌, ℕ, List, [], ◌∷◌, ◌++◌, ◌*◌, ◌^◌, map, length, refl, sym, ap, subst, flat_map, PartRefusal}
use Rattle.pg_hoa_syntax.proofs.Common.{Memory, Wrong, Lexeme, end, lex, Automaton, Written, IsText, Says, SaysNone, state_counts}
use Rattle.pg_hoa_syntax.proofs.Common.{state_lexemes, text_lexemes, KeptHead, KeptLine, kept_of_line, headers_at, body_at, Preamble}
use Rattle.pg_hoa_syntax.proofs.Common.{IsPreambleOf, Reads, NeverReads, SaysNothing, AreFew, bound, state_count, letter_count, some_is}
use Rattle.pg_hoa_syntax.proofs.Spelling.{spelt_lex}
use Rattle.pg_hoa_syntax.proofs.HeaderLaws.{headers_again}
use Rattle.pg_hoa_syntax.proofs.HeaderHead.{first_written, written_head, says_head}
use Rattle.pg_hoa_syntax.proofs.BodyLaws.{body_again}
use Rattle.pg_hoa_syntax.proofs.ReadParts.{SamePreamble, one_preamble}
use Rattle.pg_hoa_syntax.proofs.SpeltReadsHead.{written_preamble, says_preamble, states_are, within_bound, lines_fit}

pub text_reads : (bytes : List ℕ) (w : Written) (a : Automaton) → IsText bytes w → Says w a
    → Reads (lex bytes) (written_head w.headers) (written_preamble w a) (map kept_of_line w.lines)
text_reads bytes w a text s =
    let behind : List Lexeme = flat_map state_lexemes w.lines ++ (end ∷ []) in
    let most : a.states ≤ bound (first_written (flat_map state_counts w.headers)) =
    within_bound (flat_map state_counts w.headers) _ a.states s.states s.few_states in
    record {
      behind = behind;
      headers = ap headers_at (spelt_lex bytes (text_lexemes w) text.spelt)
          ∙ headers_again w.headers (written_head w.headers) behind text.headers (says_head w a s);
      preamble = says_preamble w a s;
      body = body_again (bound (first_written (flat_map state_counts w.headers))) (length a.propositions) a.sets w.lines []
          (lines_fit a.states _ (length a.propositions) a.sets w.lines most s.lines) s.distinct;
    }

pub states_same : (w : Written) (a : Automaton) → Says w a → a.states ≡ state_count (written_preamble w a) (map kept_of_line w.lines)
states_same w a s = s.states ∙ sym (states_are (flat_map state_counts w.headers) a.start w.lines)

pub says_nothing : (bytes : List ℕ) (refusal : PartRefusal) → NeverReads (lex bytes) refusal → SaysNothing bytes refusal
says_nothing bytes Memory never = tt
says_nothing bytes (Wrong fault) never =
    λ w a text says. never (written_head w.headers) (written_preamble w a) (map kept_of_line w.lines) (text_reads bytes w a text says)

-- ---- what is read is read once

record ReadOnce (s t : Preamble) (lines more : List KeptLine) : Type 0 where
  preamble : SamePreamble s t
  lines_are : lines ≡ more

read_once : (tokens : List Lexeme) (h k : KeptHead) (s t : Preamble) (lines more : List KeptLine) → Reads tokens h s lines
    → Reads tokens k t more → ReadOnce s t lines more
read_once tokens h k s t lines more r q =
    let both = some_is (h, r.behind) (k, q.behind) (sym r.headers ∙ q.headers) in
    let head_is : h ≡ k = ap (λ (x : KeptHead × List Lexeme). x.0) both in
    let behind_is : r.behind ≡ q.behind = ap (λ (x : KeptHead × List Lexeme). x.1) both in
    let preamble = one_preamble k s t (subst (λ (x : KeptHead). IsPreambleOf x s) head_is r.preamble) q.preamble in
    let body_is : body_at (bound s.states) (length s.names) s.sets r.behind ≡ body_at (bound t.states) (length t.names) t.sets q.behind =
    rw (preamble.states, preamble.names, preamble.sets, behind_is) refl in
    let lines_are = some_is (lines, []) (more, []) (sym r.body ∙ body_is ∙ q.body) in
    record { preamble = preamble; lines_are = ap (λ (x : List KeptLine × List Lexeme). x.0) lines_are }

states_once : (s t : Preamble) (lines more : List KeptLine) → ReadOnce s t lines more → state_count s lines ≡ state_count t more
states_once s t lines more o = rw (o.preamble.states, o.preamble.start, o.lines_are) refl

letters_once : (s t : Preamble) (lines more : List KeptLine) → ReadOnce s t lines more → letter_count s ≡ letter_count t
letters_once s t lines more o = ap (λ (ns : List (List ℕ)). 2 ^ length ns) o.preamble.names

few_once : (s t : Preamble) (lines more : List KeptLine) → ReadOnce s t lines more → AreFew t more → AreFew s lines
few_once s t lines more o few = rw (states_once s t lines more o, letters_once s t lines more o) few

few_said : (w : Written) (a : Automaton) → Says w a → AreFew (written_preamble w a) (map kept_of_line w.lines)
few_said w a s = subst (λ (n : ℕ). n * letter_count (written_preamble w a) ≤ 16777216) (states_same w a s) s.few_steps

pub many_say_none : (bytes : List ℕ) (h : KeptHead) (s : Preamble) (lines : List KeptLine) → Reads (lex bytes) h s lines
    → (AreFew s lines → ⊥) → SaysNone bytes
many_say_none bytes h s lines r many = λ w a text says.
    let said = written_preamble w a in
    many (few_once s said lines (map kept_of_line w.lines) (read_once (lex bytes) h (written_head w.headers) s said lines
    (map kept_of_line w.lines) r (text_reads bytes w a text says)) (few_said w a says))

-- ---- what is said is said once

-- two automata that one text says, and its lines
pub record SaysOnce (w x : Written) (a b : Automaton) : Type 0 where
  pub states : a.states ≡ b.states
  pub preamble : SamePreamble (written_preamble w a) (written_preamble x b)
  pub kept : map kept_of_line w.lines ≡ map kept_of_line x.lines

pub says_once : (bytes : List ℕ) (w x : Written) (a b : Automaton) → IsText bytes w → IsText bytes x → Says w a → Says x b
    → SaysOnce w x a b
says_once bytes w x a b text other says more =
    let s = written_preamble w a in
    let t = written_preamble x b in
    let once =
    read_once (lex bytes) (written_head w.headers) (written_head x.headers) s t (map kept_of_line w.lines) (map kept_of_line x.lines)
    (text_reads bytes w a text says) (text_reads bytes x b other more) in
    record {
      states = states_same w a says ∙ states_once s t (map kept_of_line w.lines) (map kept_of_line x.lines) once
          ∙ sym (states_same x b more);
      preamble = once.preamble;
      kept = once.lines_are;
    }
