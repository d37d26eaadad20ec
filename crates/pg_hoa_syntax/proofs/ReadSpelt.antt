-- What is read is written.
use Rattle.pg_hoa_syntax.proofs.Common.{◌≡◌, ◌∙◌, ℕ, List, [], ◌∷◌, ◌++◌, map, length, sym, ap, subst, arith, nat_tests, codes, flat_map}
use Rattle.pg_hoa_syntax.proofs.Common.{AllByRecursion, Automaton, IsPropositionName, Lexeme, identifier, header, body, end, Written, IsText}
use Rattle.pg_hoa_syntax.proofs.Common.{IsHeader, Says, IsDistinct, LineFits, EachBelow, header_lexemes, state_lexemes, text_lexemes}
use Rattle.pg_hoa_syntax.proofs.Common.{character_code, state_counts, names, controls, acceptances, lex, IsToken, KeptHead, KeptLine}
use Rattle.pg_hoa_syntax.proofs.Common.{kept_of_line, noted, Preamble, IsPreambleOf, listed, marked, Reads, AreFew, Declares, bare_automaton}
use Rattle.pg_hoa_syntax.proofs.Common.{bound, state_count}
use Rattle.pg_hoa_syntax.proofs.Spelling.{lex_spelt}
use Rattle.pg_hoa_syntax.proofs.HeaderParts.{option_list}
use Rattle.pg_hoa_syntax.proofs.HeaderLaws.{SaysHeaders, headers_take, header_tokens}
use Rattle.pg_hoa_syntax.proofs.BodyLaws.{body_takes, line_tokens}
use Rattle.pg_hoa_syntax.proofs.ReadParts.{IsInRange, reads_within}
use Rattle.pg_hoa_syntax.proofs.ReadSpeltHeads.{once, mapped_once, states_are, names_are, good_names, controls_are, one_condition, shape_alike}
use Rattle.pg_hoa_syntax.proofs.Lists.{all_of_both}
use Rattle.pg_hoa_syntax.proofs.Noting.{marked_noted, noted_below}
use Rattle.pg_hoa_syntax.proofs.ReadSpeltLines.{states_fit}

-- ---- the text

-- the text that the bytes are, and what its headers and lines say
record ReadText (bytes : List ℕ) (h : KeptHead) (s : Preamble) (lines : List KeptLine) : Type 0 where
  written : Written
  text : IsText bytes written
  headers : SaysHeaders written.headers h
  kept : map kept_of_line written.lines ≡ lines
  fit : AllByRecursion (LineFits (bound s.states) (length s.names) s.sets) written.lines
  distinct : IsDistinct (map (λ l. l.state) written.lines)

all_tokens : (w : Written) → AllByRecursion IsHeader w.headers → AllByRecursion IsToken (text_lexemes w)
all_tokens w good =
    let ended = all_of_both IsToken (flat_map state_lexemes w.lines) (end ∷ []) (line_tokens w.lines) (tt, tt) in (
      tt,
      (
        tt,
        all_of_both IsToken (flat_map header_lexemes w.headers) (body ∷ (flat_map state_lexemes w.lines ++ (end ∷ [])))
            (header_tokens w.headers good) (tt, ended),
      ),
    )

reads_text : (bytes : List ℕ) (h : KeptHead) (s : Preamble) (lines : List KeptLine) → Reads (lex bytes) h s lines → ReadText bytes h s lines
reads_text bytes h s lines r =
    let t = headers_take (lex bytes) (h, r.behind) r.headers in
    let b = body_takes (bound s.states) (length s.names) s.sets r.behind (lines, []) r.body in
    let w : Written = record { headers = t.headers; lines = b.lines } in
    let is : lex bytes ≡ text_lexemes w = t.is
    ∙ ap (λ (ts : List Lexeme). header (codes "HOA") ∷ identifier (codes "v1") ∷
    (flat_map header_lexemes t.headers ++ (body ∷ ts))) b.is in
    record {
      written = w;
      text = record { spelt = lex_spelt bytes (text_lexemes w) (all_tokens w t.good) is; headers = t.good };
      headers = t.says;
      kept = b.kept;
      fit = b.fit;
      distinct = b.distinct;
    }

-- ---- what the text says

abbrev pub preamble_automaton : Preamble → List KeptLine → Automaton
preamble_automaton s lines = bare_automaton (state_count s lines) s.start s.names s.controllable s.sets s.shape

says_preamble : (w : Written) (h : KeptHead) (s : Preamble) → SaysHeaders w.headers h → IsPreambleOf h s
    → IsInRange s (map kept_of_line w.lines)
    → AreFew s (map kept_of_line w.lines) → AllByRecursion (LineFits (bound s.states) (length s.names) s.sets) w.lines
    → IsDistinct (map (λ l. l.state) w.lines) → Says w (preamble_automaton s (map kept_of_line w.lines))
says_preamble w h s said i within few fit distinct =
    let hs = w.headers in
    let propositions = names_are h.names (flat_map names hs) said.adds.names in
    let numbers = flat_map (λ x. x) (flat_map controls hs) in
    let noted_are = controls_are h.controls (flat_map controls hs) said.adds.controls in
    let count : length (listed h.names) ≡ length s.names = ap length (sym i.names) in
    let one = one_condition (flat_map acceptances hs) s.sets i.condition (sym (ap option_list i.acceptance) ∙ said.adds.acceptance) in
    record {
      counted = once h.states (flat_map state_counts hs) said.adds.states;
      states = states_are s.states (flat_map state_counts hs) s.start w.lines (ap option_list i.states ∙ said.adds.states);
      start = sym said.adds.start ∙ ap option_list i.start;
      named = mapped_once (map (map character_code)) h.names (flat_map names hs) said.adds.names;
      propositions = i.names ∙ propositions;
      good_names = subst (λ (ns : List (List ℕ)). AllByRecursion IsPropositionName ns) (sym i.names) (good_names h.names said.within.good_names);
      controlled = mapped_once noted h.controls (flat_map controls hs) said.adds.controls;
      controllable = i.controllable ∙ ap (λ (ns : List ℕ). marked ns (length (listed h.names))) noted_are
          ∙ ap (λ (n : ℕ). marked (noted numbers) n) count ∙ marked_noted numbers (length s.names) within.few_propositions;
      controls_below = noted_below numbers (length s.names) within.few_propositions
          (subst (λ (n : ℕ). EachBelow n (noted numbers)) count
          (subst (λ (ns : List ℕ). EachBelow (length (listed h.names)) ns) noted_are i.controls_below));
      condition = one.condition;
      accepted = one.is;
      shape = shape_alike i.condition one.condition s.sets s.shape one.alike i.shape;
      start_below = within.start_below;
      distinct = distinct;
      lines = states_fit s.states s.start (length s.names) s.sets w.lines fit;
      few_states = within.few_states;
      few_propositions = within.few_propositions;
      few_sets = within.few_sets;
      few_steps = few;
    }

pub reads_declare : (bytes : List ℕ) (h : KeptHead) (s : Preamble) (lines : List KeptLine) → Reads (lex bytes) h s lines → AreFew s lines
    → Declares bytes (preamble_automaton s lines) lines
reads_declare bytes h s lines r few =
    let t = reads_text bytes h s lines r in
    record {
      written = t.written;
      text = t.text;
      says = grind (
        arith,
        nat_tests,
        says_preamble t.written h s t.headers r.preamble
            (subst (IsInRange s) (sym t.kept) (reads_within (lex bytes) h s lines r)) (subst (AreFew s) (sym t.kept) few) t.fit t.distinct,
      );
      kept = t.kept;
    }
