-- A solution text read line by line.
use Rattle.pg_text.proofs.Common.{◌≡◌, ℕ, ◌-◌, ◌<◌, Bool, true, false, cond, eqb, List, [], ◌∷◌, ◌++◌, length, Option, None, Ok, Err, refl}
use Rattle.pg_text.proofs.Common.{sym, ap, subst, ◌∙◌, arith, inl, inr, append_assoc, nat_tests, codes, replicate, list_any}
use Rattle.pg_text.proofs.Common.{AllByRecursion, GameVertex, identifier, IsGame, Answer, SolutionLine, Misfit}
use Rattle.pg_text.proofs.Common.{NotOfGame, Repeated, TokenFault, TextFault, token_fault_of, Lexeme, number, word, end, Begins, Spells}
use Rattle.pg_text.proofs.Common.{after_space, item, stop, clause_at, unanswered, answer_lexemes}
use Rattle.pg_text.proofs.Common.{BeginsWithLines, AreLines, Fits, line_count, answers, IsSolutionText, SpellsNoSolution, has_line}
use Rattle.pg_text.proofs.Common.{StartsLine, BeginsUnfit, IsFirstMissing, next_answer_at, Puts, State, IsMarked, IsUnmarked}
use Rattle.pg_text.proofs.Common.{IsMisfit, BeginsMisfit, BeginsWell, HasRead, IsRefused, is_complete, misfit_fault}
use Rattle.pg_text.specs.declared.tokens.TokenFault.TheVariants as tokens
use Rattle.pg_text.specs.declared.fault.TextFault.TheVariants as text
use Rattle.pg_text.specs.SolutionText.{IsNoText}
use Rattle.pg_text.proofs.Steps.{err_is_ok}
use Rattle.pg_text.proofs.Parts.{clause_absent}
use Rattle.pg_text.proofs.Misfits.{same_token, starts_with, unfit_front, front_starts, line_front}
use Rattle.pg_text.proofs.SolutionLines.{AreRest, rest_parts, same_step, no_line_at_end, line_takes, line_again, end_again, header_takes, header_again, behind_header, begins_more, lines_end, same_lines}
use Rattle.pg_text.proofs.Marking.{all_at, nothing_read, reads_more, named_if, answered_is, all_answered, text_fits, read_fits, read_taken}
use Rattle.pg_text.proofs.Marking.{no_line, one_too_many, reads_same, reads_text}

-- these lines were read, and those that a text of the bytes has behind them stand in the rest
pub record Reading (bytes : List ℕ) (game : List GameVertex) (solution : List Answer) (seen : List Bool) (rest : List ℕ) : Type 0 where
  pub front : List SolutionLine
  pub begins : BeginsWithLines bytes front rest
  pub later : (lines : List SolutionLine) → AreLines bytes lines → (others : List SolutionLine) × (lines ≡ front ++ others) × AreRest rest others
  pub state : State game front solution seen

pub starts : (bytes : List ℕ) (game : List GameVertex) (solution : List Answer) (seen : List Bool) (header : Option ℕ) (start : List ℕ)
    → clause_at (codes "paritysol") bytes ≡ Ok (header, start)
    → solution ≡ replicate (length game) unanswered → seen ≡ replicate (length game) false → Reading bytes game solution seen start
starts bytes game solution seen header start read s m = record {
  front = [];
  begins = header_takes bytes header start read;
  later = λ lines text. (lines, refl, behind_header bytes header start lines read text);
  state = rw (s, m) (nothing_read game);
}

-- what stands behind one line more
one_later : (lines front others : List SolutionLine) (rest : List ℕ) (line : SolutionLine) (after : List ℕ)
    → next_answer_at rest ≡ Ok (item line, after) → lines ≡ front ++ others → AreRest rest others
    → (later : List SolutionLine) × (lines ≡ (front ++ line ∷ []) ++ later) × AreRest after later
one_later lines front [] rest line after e is s = absurd (no_line_at_end rest line after s e)
one_later lines front (y ∷ others) rest line after e is s =
    let p = rest_parts rest y others s in
    let same = same_step rest y p.0 line after p.1 e in (
      others,
      is ∙ ap (λ (l : SolutionLine). front ++ l ∷ others) same.0 ∙ sym (append_assoc front (line ∷ []) others),
      subst (λ (b : List ℕ). AreRest b others) same.1 p.2,
    )

pub goes : (bytes : List ℕ) (game : List GameVertex) (solution : List Answer) (seen : List Bool) (rest : List ℕ) (line : SolutionLine)
    (after : List ℕ) (solution' : List Answer) (seen' : List Bool)
    → IsGame game → Reading bytes game solution seen rest → next_answer_at rest ≡ Ok (item line, after)
    → Puts game line solution seen solution' seen' → Reading bytes game solution' seen' after
goes bytes game solution seen rest line after solution' seen' well r e p = record {
  front = r.front ++ line ∷ [];
  begins = begins_more bytes r.front rest line after r.begins (line_takes rest line after e);
  later = λ lines text. (let l = r.later lines text in one_later lines r.front l.0 rest line after e l.1 l.2);
  state = reads_more game r.front line solution seen solution' seen' well r.state p;
}

pub finishes : (bytes : List ℕ) (game : List GameVertex) (solution : List Answer) (seen : List Bool) (rest after : List ℕ)
    → Reading bytes game solution seen rest → next_answer_at rest ≡ Ok (stop tt, after) → HasRead bytes game solution seen
finishes bytes game solution seen rest after r e = record { lines = r.front; text = lines_end bytes r.front rest after r.begins e; state = r.state }

-- no line that was read has the identifier of an unmarked vertex
unnamed : (game : List GameVertex) (lines : List SolutionLine) (n : ℕ) (solution : List Answer) (seen : List Bool)
    → State game lines solution seen → IsUnmarked game n seen → has_line lines n ≡ false
unnamed game lines n solution seen s unmarked = no_line game lines n (read_fits game lines solution seen s)
    (λ v within named. s.counted v within ∙ ap (λ (b : Bool). cond b 1 0) (unmarked v within named))

-- ---- no text

refused : (bytes : List ℕ) (game : List GameVertex) (fault : TokenFault) → SpellsNoSolution bytes game → IsNoText bytes game
    → IsRefused bytes game (token_fault_of (length bytes) fault)
refused bytes game (tokens.Syntax left) none no_text = (none, inr no_text)
refused bytes game (tokens.NumberTooLarge left) none no_text = (none, no_text)

-- where the header can't be read no token stands
no_header : (bytes : List ℕ) (fault : TokenFault) (token : Lexeme) (rest : List ℕ) → (token ≡ word (codes "paritysol") → ⊥)
    → clause_at (codes "paritysol") bytes ≡ Err fault → ¬ Begins bytes token rest
no_header bytes fault token rest other e b = err_is_ok fault _ (sym e ∙ clause_absent (codes "paritysol") bytes token rest other b)

no_header_spelt : (bytes : List ℕ) (game : List GameVertex) (fault : TokenFault) → clause_at (codes "paritysol") bytes ≡ Err fault
    → SpellsNoSolution bytes game
no_header_spelt bytes game fault e = λ solution t. (let h = header_again bytes t.lines t.text in err_is_ok fault _ (sym e ∙ h.1))

pub fails_header : (bytes : List ℕ) (game : List GameVertex) (fault : TokenFault) → clause_at (codes "paritysol") bytes ≡ Err fault
    → IsRefused bytes game (token_fault_of (length bytes) fault)
fails_header bytes game fault e = refused bytes game fault (no_header_spelt bytes game fault e) (record {
  before = [];
  here = bytes;
  begins = record { header = None; spelt = refl };
  taken = record { fitting = tt; single = λ v within. omega arith };
  no_line = λ line rest l. no_header bytes fault (number line.identifier) l.0 (λ e. cc) e l.1;
  no_end = λ l. no_header bytes fault end l.0 (λ e. cc) e l.1;
  new = λ n l. refl;
  no_unfit = λ n b. let l = front_starts game bytes n b in no_header bytes fault (number n) l.stands.0 (λ e. cc) e l.stands.1;
})

unread : (rest : List ℕ) (fault : TokenFault) (others : List SolutionLine) → next_answer_at rest ≡ Err fault → ¬ AreRest rest others
unread rest fault [] e s = err_is_ok fault _ (sym e ∙ end_again rest s.0 s.1)
unread rest fault (line ∷ others) e s = (let p = rest_parts rest line others s in err_is_ok fault _ (sym e ∙ p.1))

pub fails_line : (bytes : List ℕ) (game : List GameVertex) (solution : List Answer) (seen : List Bool) (rest : List ℕ) (fault : TokenFault)
    → Reading bytes game solution seen rest → next_answer_at rest ≡ Err fault → BeginsWell game seen rest
    → IsRefused bytes game (token_fault_of (length bytes) fault)
fails_line bytes game solution seen rest fault r e well =
    refused bytes game fault (λ other t. (let l = r.later t.lines t.text in unread rest fault l.0 e l.2)) (record {
      before = r.front;
      here = rest;
      begins = r.begins;
      taken = read_taken game r.front solution seen r.state;
      no_line = λ line after l. err_is_ok fault _ (sym e ∙ line_again rest line after l);
      no_end = λ l. err_is_ok fault _ (sym e ∙ end_again rest l.0 l.1);
      new = λ n l. unnamed game r.front n solution seen r.state (well.fresh n l);
      no_unfit = well.no_unfit;
    })

-- ---- a line that doesn't fit

-- where a number stands in a text it begins a line
first_line : (rest : List ℕ) (n : ℕ) (others : List SolutionLine) → StartsLine rest n → AreRest rest others
    → (line : SolutionLine) × (later : List SolutionLine) × (after : List ℕ) × (others ≡ line ∷ later) × Spells rest (answer_lexemes line) after
first_line rest n [] s a = absurd (let same : end ≡ number n = (same_token rest end (number n) a.0 s.stands.0 a.1 s.stands.1).0 in cc)
first_line rest n (line ∷ later) s a = (let p = rest_parts rest line later a in (line, later, p.0, refl, line_takes rest line p.0 p.1))

-- a line of a text fits
unfit_spoils : (bytes : List ℕ) (game : List GameVertex) (solution : List Answer) (seen : List Bool) (rest : List ℕ) (n : ℕ)
    → IsGame game → Reading bytes game solution seen rest → BeginsUnfit game rest n → SpellsNoSolution bytes game
unfit_spoils bytes game solution seen rest n well r misfit = λ other t.
    let l = r.later t.lines t.text in
    let f = first_line rest n l.0 (front_starts game rest n misfit) l.2 in
    unfit_front game rest n f.0 f.2 well misfit f.4
    (all_at (Fits game) r.front f.0 f.1 (subst (AllByRecursion (Fits game)) (l.1 ∙ ap (λ (x : List SolutionLine). r.front ++ x) f.3) (text_fits bytes game other t)))

-- no two lines of a text name one vertex
second_spoils : (bytes : List ℕ) (game : List GameVertex) (solution : List Answer) (seen : List Bool) (rest : List ℕ) (n : ℕ)
    → Reading bytes game solution seen rest → StartsLine rest n → IsMarked game n seen → SpellsNoSolution bytes game
second_spoils bytes game solution seen rest n r s m = λ other t.
    let l = r.later t.lines t.text in
    let f = first_line rest n l.0 s l.2 in
    let named : f.0.identifier ≡ identifier game m.v = starts_with rest n (s.token ∷ []) s.rest f.0 f.2 s.stands f.4 ∙ m.named in
    one_too_many game r.front f.0 f.1 m.v named (r.state.counted m.v m.within ∙ ap (λ (b : Bool). cond b 1 0) m.marked)
    (subst (λ (lines : List SolutionLine). line_count game lines m.v ≡ 1) (l.1 ∙ ap (λ (x : List SolutionLine). r.front ++ x) f.3) (t.one_each m.v m.within))

pub fails_front : (bytes : List ℕ) (game : List GameVertex) (solution : List Answer) (seen : List Bool) (rest : List ℕ) (n : ℕ) (misfit : Misfit)
    → IsGame game → Reading bytes game solution seen rest → BeginsMisfit game seen rest n misfit
    → IsRefused bytes game (misfit_fault misfit n (length bytes - length (after_space rest)))
fails_front bytes game solution seen rest n NotOfGame well r m =
    grind (
      arith,
      nat_tests,
      unfit_spoils bytes game solution seen rest n well r m.0,
      read_taken game r.front solution seen r.state,
      unnamed game r.front n solution seen r.state m.1,
    )
fails_front bytes game solution seen rest n Repeated well r m = (
  second_spoils bytes game solution seen rest n r m.0 m.1,
  inl (record {
    before = r.front;
    here = rest;
    begins = r.begins;
    taken = read_taken game r.front solution seen r.state;
    n = n;
    starts = m.0;
    twice = subst (λ (k : ℕ). list_any (λ (other : SolutionLine). eqb other.identifier k) r.front ≡ true) (sym m.1.named)
        (named_if game m.1.v r.front true (r.state.counted m.1.v m.1.within ∙ ap (λ (b : Bool). cond b 1 0) m.1.marked));
  }),
)

pub fails_misfit : (bytes : List ℕ) (game : List GameVertex) (solution : List Answer) (seen : List Bool) (rest : List ℕ)
    (line : SolutionLine) (after : List ℕ) (misfit : Misfit)
    → IsGame game → Reading bytes game solution seen rest → next_answer_at rest ≡ Ok (item line, after) → IsMisfit game line seen misfit
    → IsRefused bytes game (misfit_fault misfit line.identifier (length bytes - length (after_space rest)))
fails_misfit bytes game solution seen rest line after misfit well r e m =
    fails_front bytes game solution seen rest line.identifier misfit well r
    (line_front game seen rest line after misfit (line_takes rest line after e) m)

-- ---- the end

pub found : (bytes : List ℕ) (game : List GameVertex) (solution : List Answer) (seen : List Bool) → HasRead bytes game solution seen
    → ((v : ℕ) → v < length game → is_complete game solution seen v ≡ true) → IsSolutionText bytes game solution
found bytes game solution seen h complete = reads_text bytes game h.lines solution seen h.text h.state complete

pub found_only : (bytes : List ℕ) (game : List GameVertex) (solution : List Answer) (seen : List Bool) (spelt : List Answer) → IsGame game
    → HasRead bytes game solution seen → IsSolutionText bytes game spelt → solution ≡ spelt
found_only bytes game solution seen spelt well h t =
    let same : h.lines ≡ t.lines = same_lines bytes h.lines t.lines h.text t.text in
    reads_same bytes game solution seen spelt well t (subst (λ (lines : List SolutionLine). State game lines solution seen) same h.state)

pub missing : (bytes : List ℕ) (game : List GameVertex) (solution : List Answer) (seen : List Bool) (v : ℕ) → IsGame game
    → HasRead bytes game solution seen → v < length game → is_complete game solution seen v ≡ false
    → ((u : ℕ) → u < v → is_complete game solution seen u ≡ true) → SpellsNoSolution bytes game × IsFirstMissing bytes game (identifier game v)
missing bytes game solution seen v well h within lacks first =
    let unanswered : list_any (answers game v) h.lines ≡ false = answered_is game h.lines solution seen v well within h.state ∙ lacks in (
      λ other t.
          let same : h.lines ≡ t.lines = same_lines bytes h.lines t.lines h.text t.text in
          let yet : list_any (answers game v) h.lines ≡ true = ap (λ (lines : List SolutionLine). list_any (answers game v) lines) same
          ∙ all_answered bytes game other v well within t in
          absurd (differ (list_any (answers game v) h.lines) yet unanswered),
      record {
        lines = h.lines;
        text = h.text;
        taken = read_taken game h.lines solution seen h.state;
        v = v;
        within = within;
        named = refl;
        missing = unanswered;
        first = λ u lt. answered_is game h.lines solution seen u well (omega arith) h.state ∙ first u lt;
      },
    )
  where
    differ : (b : Bool) → b ≡ true → b ≡ false → ⊥
    differ true e f = absurd cc
    differ false e f = absurd cc

-- nothing else is spelt where the bytes are refused
pub refused_only : (bytes : List ℕ) (game : List GameVertex) (fault : TextFault) (spelt : List Answer) → IsRefused bytes game fault
    → IsSolutionText bytes game spelt → fault ≡ text.OutOfMemory
refused_only bytes game text.OutOfMemory spelt h t = refl
refused_only bytes game _ spelt h t = absurd (h.0 spelt t)
