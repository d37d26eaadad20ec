use Rattle.pg_hoa.proofs.Common.{◌∙◌, [], sym, refl, ap, drop, length, get_or, ℕ, List, with_items, false≢true, truth, stage}
use Rattle.pg_hoa.proofs.Instructions.{given_back}
use Rattle.pg_hoa.proofs.TableFilling.{adds_none, adds_noted}
use Rattle.pg_hoa.proofs.table.begin.Goals as goal

pub returns-then-not-is_of : goal.returns-then-not-is_of
returns-then-not-is_of c =
    let words = c.args.filling.now.covered.words in
    let same =
    given_back words.len c.clear.new.words (drop (length c.clear.new.words) words.items)
    (c.clear.auto.words ∙ c.deref_mut.ensures.len) in
    adds_noted c.args.way.now.shape (λ i. []) (stage c.args.filling.now) (stage c.args.filling.now) _
    (record {
      first = c.args.way.now.row.first;
      target = c.args.way.now.target;
      counts = c.args.way.now.counts;
      words = with_items words
          c.clear.new.words;
    })
    (adds_none c.args.way.now.shape (λ i. []) (stage c.args.filling.now) (λ i. refl)) refl
    (λ given old b j small bit. absurd (false≢true (sym (ap (λ (l : List ℕ). truth (get_or l b 0) j) same ∙ c.clear.ensures b j) ∙ bit)))
