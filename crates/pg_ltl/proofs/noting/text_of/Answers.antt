use Rattle.std.proofs.Common.{◌≡◌, ℕ, ◌+◌, ◌-◌, ◌<◌, ◌≤◌, List, [], ◌∷◌, length, Option, None, map, sym, subst, ap, ◌∙◌, arith}
use Rattle.std.specs.declared.vec.Vec.{Vec}
use Rattle.std.specs.declared.alloc.Global.{Global}
use Rattle.std.proofs.lemmas.List.{length-map}
use Rattle.pg_ltl.specs.declared.noting.Stop.{Stop}
use Rattle.pg_ltl.specs.Words.{Word, behind_blanks, word_at}
use Rattle.pg_ltl.specs.Texts.{Noted}
use Rattle.pg_ltl.specs.Mirrors.Notes.{stop_at, StopsFor}
use Rattle.pg_ltl.proofs.Spelling.{word_shrinks, has_word, has_less}
use Rattle.pg_ltl.proofs.noting.text_of.Goals as goal

seen : (solid rest : List ℕ) (o : Option (Word × List ℕ)) → solid ≡ behind_blanks rest → o ≡ word_at solid → word_at (behind_blanks rest) ≡ o
seen solid rest o s e = ap word_at (sym s) ∙ sym e

there_at : (bytes rest solid : List ℕ) (end : ℕ) → solid ≡ behind_blanks rest → end ≡ length bytes - length solid
    → length (behind_blanks rest) ≤ length bytes → end + length (behind_blanks rest) ≡ length bytes
there_at bytes rest solid end s e less = let l = ap length s in omega (arith, l, e, less)

few_there : (names : List (Vec ℕ Global)) → length names ≤ 65535 → length (map (λ v. v.items) names) ≤ 65535
few_there names few = let l = length-map names (λ (v : Vec ℕ Global). v.items) in omega (arith, l, few)

many_there : (names : List (Vec ℕ Global)) → 65535 < length names → 65535 < length (map (λ v. v.items) names)
many_there names many = let l = length-map names (λ (v : Vec ℕ Global). v.items) in omega (arith, l, many)

stops_for : (solid rest : List ℕ) (found : Noted) (s : Stop) → solid ≡ behind_blanks rest → word_at (behind_blanks rest) ≡ None
    → length found.names ≤ 65535 → s ≡ stop_at solid → StopsFor s rest found
stops_for [] rest found s e none few stop = subst (λ q. StopsFor q rest found) (sym stop) (sym e, few)
stops_for (b ∷ solid) rest found s e none few stop =
    subst (λ q. StopsFor q rest found) (sym stop) (λ n. let z : length (b ∷ solid) ≡ 0 = ap length (e ∙ n) in omega (arith, z), none)

pub returns-then-len-gt-MOST_NAMES : goal.returns-then-len-gt-MOST_NAMES
returns-then-len-gt-MOST_NAMES c =
    let many : 65535 < length c.words.tokens.names.items = omega arith in
    record {
      rest = c.words.rest.now;
      has = c.words.invariant;
      there = there_at c.args.bytes.now c.words.rest.now c.behind_blanks-solid.result.now c.saturating_sub-end.result c.behind_blanks-solid.ensures
          c.saturating_sub-end.ensures (has_less c.args.bytes.now c.words.rest.now c.words.tokens c.words.invariant);
      stops = many_there c.words.tokens.names.items many;
    }

pub words-smaller : goal.words-smaller
words-smaller c =
    word_shrinks c.words.rest.now _ c.in-Some.after.now
    (seen c.behind_blanks-solid.result.now c.words.rest.now _ c.behind_blanks-solid.ensures c.in-Some.ensures)

pub words-preserved : goal.words-preserved
words-preserved c =
    has_word c.args.bytes.now c.words.rest.now c.words.tokens c.in_ok-tokens-in-Some.tokens _ c.in-Some.after.now c.saturating_sub-end.result
    c.words.invariant
    (seen c.behind_blanks-solid.result.now c.words.rest.now _ c.behind_blanks-solid.ensures c.in-Some.ensures)
    (there_at c.args.bytes.now c.words.rest.now c.behind_blanks-solid.result.now c.saturating_sub-end.result c.behind_blanks-solid.ensures
    c.saturating_sub-end.ensures (has_less c.args.bytes.now c.words.rest.now c.words.tokens c.words.invariant))
    c.in_ok-tokens-in-Some.ensures.value c.in_ok-tokens-in-Some.ensures.offsets

pub returns-in-None : goal.returns-in-None
returns-in-None c =
    let few : length c.words.tokens.names.items ≤ 65535 = omega arith in
    record {
      rest = c.words.rest.now;
      has = c.words.invariant;
      there = there_at c.args.bytes.now c.words.rest.now c.behind_blanks-solid.result.now c.saturating_sub-end.result c.behind_blanks-solid.ensures
          c.saturating_sub-end.ensures (has_less c.args.bytes.now c.words.rest.now c.words.tokens c.words.invariant);
      stops = stops_for c.behind_blanks-solid.result.now c.words.rest.now _ c.stop_at.result c.behind_blanks-solid.ensures
          (seen c.behind_blanks-solid.result.now c.words.rest.now None c.behind_blanks-solid.ensures c.in-None.ensures)
          (few_there c.words.tokens.names.items few) c.stop_at.ensures;
    }
