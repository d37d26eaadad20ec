-- The steps of lines whose numbers are in range are in range.
use Rattle.pg_hoa.proofs.Common.{◌≡◌, ℕ, ◌<◌, Bool, true, false, eqb, List, [], ◌∷◌, ◌++◌, map, refl, arith, nat_tests, AllByRecursion}
use Rattle.pg_hoa.proofs.Common.{filter, All-append, IsStepOf, Edge, StateLine, set_list, EachBelow, EdgeFits, LineFits, edge_steps}
use Rattle.pg_hoa.proofs.Common.{steps_of, KeptLine, kept_of_line, kept_steps, rising_below, rising_rises, all_of_both}
use Rattle.pg_hoa.proofs.TableLaws.{written_step, written_steps}

edge_good : (states propositions sets : ℕ) (own : List ℕ) (e : Edge) → EachBelow sets own → EdgeFits states propositions sets e
    → IsStepOf states sets (written_step own e)
edge_good states propositions sets own e below fits = record {
  target_below = fits.target;
  sets_below = rising_below sets (own ++ set_list e.sets) (All-append (λ n. n < sets) own (set_list e.sets) below fits.own_sets);
  sets_rise = rising_rises (own ++ set_list e.sets);
}

edges_good : (states propositions sets : ℕ) (test : Edge → Bool) (own : List ℕ) (edges : List Edge) → EachBelow sets own
    → AllByRecursion (EdgeFits states propositions sets) edges
    → AllByRecursion (IsStepOf states sets) (map (written_step own) (filter test edges))
edges_good states propositions sets test own [] below fits = tt
edges_good states propositions sets test own (e ∷ edges) below fits =
    go (test e) refl (edges_good states propositions sets test own edges below fits.1)
  where
    go : (b : Bool) → test e ≡ b → AllByRecursion (IsStepOf states sets) (map (written_step own) (filter test edges))
        → AllByRecursion (IsStepOf states sets) (map (written_step own) (filter test (e ∷ edges)))
    go true t rest = rw t (edge_good states propositions sets own e below fits.0, rest)
    go false t rest = rw t rest

line_good : (states propositions sets state letter : ℕ) (l : StateLine) → LineFits states propositions sets l
    → AllByRecursion (IsStepOf states sets) (edge_steps state letter l)
line_good states propositions sets state letter l fits = go (eqb l.state state) refl
  where
    go : (b : Bool) → eqb l.state state ≡ b → AllByRecursion (IsStepOf states sets) (edge_steps state letter l)
    go true t = rw t (edges_good states propositions sets _ (set_list l.sets) l.edges fits.own_sets fits.edges)
    go false t = rw t tt

lines_good : (states propositions sets state letter : ℕ) (lines : List StateLine) → AllByRecursion (LineFits states propositions sets) lines
    → AllByRecursion (IsStepOf states sets) (steps_of lines state letter)
lines_good states propositions sets state letter [] fits = tt
lines_good states propositions sets state letter (l ∷ lines) fits =
    grind (
      arith,
      nat_tests,
      all_of_both (IsStepOf states sets) (edge_steps state letter l) (steps_of lines state letter)
          (line_good states propositions sets state letter l fits.0) (lines_good states propositions sets state letter lines fits.1),
    )

pub kept_good : (states propositions sets state letter : ℕ) (lines : List StateLine) (kept : List KeptLine) → map kept_of_line lines ≡ kept
    → AllByRecursion (LineFits states propositions sets) lines → AllByRecursion (IsStepOf states sets) (kept_steps kept state letter)
kept_good states propositions sets state letter lines kept e fits = grind (
  arith,
  nat_tests,
  written_steps lines kept state letter e,
  lines_good states propositions sets state letter lines fits,
)
