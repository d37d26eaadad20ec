-- Pairs of places: what they stand for, and what the operators make of them.
use Rattle.std.proofs.Common.{◌≡◌, ℕ, ◌+◌, ◌<◌, inl, inr, Bool, true, false, List, [], ◌∷◌, ◌++◌, length, get_or, sym, subst, ap, ◌∙◌, arith, append-nil}
use Rattle.std.proofs.lemmas.Bool.{cases_lt}
use Rattle.std.proofs.lemmas.List.{length-append, get_or_append_left, get_or_push}
use Rattle.pg_ltl.specs.declared.normal.NormalNode.{NormalNode}
use Rattle.pg_ltl.specs.declared.formula.FormulaNode.{FormulaNode}
use Rattle.pg_ltl.specs.declared.pair.NegationPair.{NegationPair}
use Rattle.pg_ltl.specs.declared.formula.Prefix.TheVariants.{Not, Next}
use Rattle.pg_ltl.specs.declared.formula.Infix.TheVariants.{Equivalent, Or, Until}
use Rattle.pg_ltl.specs.Formulas.{Formula, constant, one, two}
use Rattle.pg_ltl.specs.NormalForms.{NormalForm, top, bottom, both, either, next, until, release, normal}
use Rattle.pg_ltl.specs.Mirrors.Nodes.{AreFormulaNodes, node_in, formula_at, formulas_of, normal_in, AreNormalNodes}
use Rattle.pg_ltl.specs.Mirrors.Pairs.{Extends, AddsNode, AddsPair, AddsFormula, IsWithin, StandsFor, PairsStand, pair_in, negated, side}
use Rattle.pg_ltl.proofs.Nodes.{formula_step, normal_in-extends, length-extends, extends_twice, operands_kept, paired}

pub within_kept : (old new : List NormalNode) (f : NegationPair) → Extends old new → IsWithin old f → IsWithin new f
within_kept old new f grown within =
    let l = length-extends old new grown in
    let y = within.yes in
    let n = within.no in
    record { yes = omega (arith, l, y); no = omega (arith, l, n) }

pub within_negated : (nodes : List NormalNode) (f g : NegationPair) → g ≡ negated f → IsWithin nodes f → IsWithin nodes g
within_negated nodes f g e within = subst (IsWithin nodes) (sym e) (record { yes = within.no; no = within.yes })

pub stands_kept : (old new : List NormalNode) (f : NegationPair) (a : Formula) → Extends old new → StandsFor old f a → StandsFor new f a
stands_kept old new f a grown stands = record {
  within = within_kept old new f grown stands.within;
  is_yes = normal_in-extends old new f.yes grown stands.within.yes ∙ stands.is_yes;
  is_no = normal_in-extends old new f.no grown stands.within.no ∙ stands.is_no;
}

pub stands_negated : (nodes : List NormalNode) (f g : NegationPair) (a : Formula) → g ≡ negated f → StandsFor nodes f a → StandsFor nodes g (one Not a)
stands_negated nodes f g a e stands = subst (λ p. StandsFor nodes p (one Not a)) (sym e) (record {
  within = record { yes = stands.within.no; no = stands.within.yes };
  is_yes = stands.is_no;
  is_no = stands.is_yes;
})

pub adds_stands : (old new : List NormalNode) (p : NegationPair) (a : Formula) → AddsFormula old new p a → StandsFor new p a
adds_stands old new p a adds = record { within = adds.within; is_yes = adds.is_yes; is_no = adds.is_no }

pub adds_there : (nodes : List NormalNode) (p : NegationPair) (a : Formula) → AreNormalNodes nodes → StandsFor nodes p a → AddsFormula nodes nodes p a
adds_there nodes p a ordered stands = record {
  grown = ([], sym (append-nil nodes));
  ordered = ordered;
  within = stands.within;
  is_yes = stands.is_yes;
  is_no = stands.is_no;
}

pub adds_negated : (old new : List NormalNode) (p q : NegationPair) (a b : NormalForm) → q ≡ negated p → AddsPair old new p a b → AddsPair old new q b a
adds_negated old new p q a b e adds = subst (λ r. AddsPair old new r b a) (sym e) (record {
  grown = adds.grown;
  ordered = adds.ordered;
  within = record { yes = adds.within.no; no = adds.within.yes };
  is_yes = adds.is_no;
  is_no = adds.is_yes;
})

pub adds_over : (old mid new : List NormalNode) (p : NegationPair) (a b : NormalForm) → Extends old mid → AddsPair mid new p a b → AddsPair old new p a b
adds_over old mid new p a b grown adds = record {
  grown = extends_twice old mid new grown adds.grown;
  ordered = adds.ordered;
  within = adds.within;
  is_yes = adds.is_yes;
  is_no = adds.is_no;
}

adds_changed : (old new : List NormalNode) (p : NegationPair) (a b c d : NormalForm) → a ≡ c → b ≡ d → AddsPair old new p a b → AddsPair old new p c d
adds_changed old new p a b c d e g adds = record {
  grown = adds.grown;
  ordered = adds.ordered;
  within = adds.within;
  is_yes = adds.is_yes ∙ e;
  is_no = adds.is_no ∙ g;
}

pub next_adds : (old new : List NormalNode) (p f : NegationPair) (a : Formula) → StandsFor old f a
    → AddsPair old new p (next (normal_in old f.yes)) (next (normal_in old f.no)) → AddsFormula old new p (one Next a)
next_adds old new p f a stands adds = adds_changed old new p _ _ _ _ (ap next stands.is_yes) (ap next stands.is_no) adds

ap2 : (op : NormalForm → NormalForm → NormalForm) (a b c d : NormalForm) → a ≡ c → b ≡ d → op a b ≡ op c d
ap2 op a b c d e g = ap (λ x. op x b) e ∙ ap (λ x. op c x) g

pub or_adds : (old new : List NormalNode) (p f g : NegationPair) (a b : Formula) → StandsFor old f a → StandsFor old g b
    → AddsPair old new p (either (normal_in old f.yes) (normal_in old g.yes)) (both (normal_in old f.no) (normal_in old g.no))
    → AddsFormula old new p (two Or a b)
or_adds old new p f g a b s t adds =
    adds_changed old new p _ _ _ _ (ap2 either _ _ _ _ s.is_yes t.is_yes) (ap2 both _ _ _ _ s.is_no t.is_no) adds

pub until_adds : (old new : List NormalNode) (p f g : NegationPair) (a b : Formula) → StandsFor old f a → StandsFor old g b
    → AddsPair old new p (until (normal_in old f.yes) (normal_in old g.yes)) (release (normal_in old f.no) (normal_in old g.no))
    → AddsFormula old new p (two Until a b)
until_adds old new p f g a b s t adds =
    adds_changed old new p _ _ _ _ (ap2 until _ _ _ _ s.is_yes t.is_yes) (ap2 release _ _ _ _ s.is_no t.is_no) adds

pub equivalent_adds : (old new : List NormalNode) (p f g : NegationPair) (a b : Formula) → StandsFor old f a → StandsFor old g b
    → AddsPair old new p (either (both (normal_in old f.yes) (normal_in old g.yes)) (both (normal_in old f.no) (normal_in old g.no)))
    (either (both (normal_in old f.yes) (normal_in old g.no)) (both (normal_in old f.no) (normal_in old g.yes)))
    → AddsFormula old new p (two Equivalent a b)
equivalent_adds old new p f g a b s t adds =
    adds_changed old new p _ _ _ _
    (ap2 either _ _ _ _ (ap2 both _ _ _ _ s.is_yes t.is_yes) (ap2 both _ _ _ _ s.is_no t.is_no))
    (ap2 either _ _ _ _ (ap2 both _ _ _ _ s.is_yes t.is_no) (ap2 both _ _ _ _ s.is_no t.is_yes)) adds

-- an always that is new, and then an until
pub finally_adds : (old mid new : List NormalNode) (p always f : NegationPair) (a : Formula) → AddsPair old mid always top bottom → StandsFor old f a
    → AddsPair mid new p (until (normal_in mid always.yes) (normal_in mid f.yes)) (release (normal_in mid always.no) (normal_in mid f.no))
    → AddsFormula old new p (two Until (constant true) a)
finally_adds old mid new p always f a truth s adds =
    adds_over old mid new p _ _ truth.grown
    (until_adds mid new p always f (constant true) a (adds_stands old mid always (constant true) truth)
    (stands_kept old mid f a truth.grown s) adds)

-- a pair of parts, and then one made of them
pub made_of : (op : NormalForm → NormalForm → NormalForm) (old mid new : List NormalNode) (p : NegationPair) (place : ℕ) (a b : NormalForm)
    → AddsPair old mid p a b → AddsNode mid new place (op (normal_in mid p.yes) (normal_in mid p.no)) → AddsNode old new place (op a b)
made_of op old mid new p place a b first second = record {
  grown = extends_twice old mid new first.grown second.grown;
  ordered = second.ordered;
  below = second.below;
  is = second.is ∙ ap2 op _ _ _ _ first.is_yes first.is_no;
}

abbrev agree : List NormalNode → NegationPair → NegationPair → NormalForm
agree nodes f g = either (both (normal_in nodes f.yes) (normal_in nodes g.yes)) (both (normal_in nodes f.no) (normal_in nodes g.no))

agree_kept : (old new : List NormalNode) (f g : NegationPair) → Extends old new → IsWithin old f → IsWithin old g → agree new f g ≡ agree old f g
agree_kept old new f g grown s t =
    ap2 either _ _ _ _ (operands_kept both old new f.yes g.yes grown s.yes t.yes) (operands_kept both old new f.no g.no grown s.no t.no)

pub agreements : (old mid new : List NormalNode) (y n : ℕ) (f g h : NegationPair) → h ≡ negated g → IsWithin old f → IsWithin old g
    → AddsNode old mid y (agree old f g) → AddsNode mid new n (agree mid f h)
    → AddsPair old new (record { yes = y; no = n }) (agree old f g) (agree old f (negated g))
agreements old mid new y n f g h e s t first second =
    paired old mid new y n _ _ _ first second
    (agree_kept old mid f h first.grown s (within_negated old g h e t) ∙ ap (agree old f) e)

-- a disjunction, and then an until of its negation
pub weak_adds : (old mid new : List NormalNode) (some p f g h k : NegationPair) (a b : Formula) → StandsFor old f a → StandsFor old g b
    → AddsPair old mid some (either (normal_in old f.yes) (normal_in old g.yes)) (both (normal_in old f.no) (normal_in old g.no))
    → h ≡ negated g → k ≡ negated some
    → AddsPair mid new p (until (normal_in mid h.yes) (normal_in mid k.yes)) (release (normal_in mid h.no) (normal_in mid k.no))
    → AddsFormula old new p (two Until (one Not b) (one Not (two Or a b)))
weak_adds old mid new some p f g h k a b s t any e u adds =
    let or = or_adds old mid some f g a b s t any in
    adds_over old mid new p _ _ or.grown
    (until_adds mid new p h k (one Not b) (one Not (two Or a b))
    (stands_negated mid g h b e (stands_kept old mid g b or.grown t))
    (stands_negated mid some k (two Or a b) u (adds_stands old mid some (two Or a b) or)) adds)

pub side_within : (nodes : List NormalNode) (p : NegationPair) (positive : Bool) → IsWithin nodes p → side p positive < length nodes
side_within nodes p true within = within.yes
side_within nodes p false within = within.no

pub side_is : (nodes : List NormalNode) (p : NegationPair) (f : Formula) (positive : Bool) → StandsFor nodes p f
    → normal_in nodes (side p positive) ≡ normal positive f
side_is nodes p f true stands = stands.is_yes
side_is nodes p f false stands = stands.is_no

-- one pair more
pub pairs_push : (old new : List NormalNode) (pairs : List NegationPair) (p : NegationPair) (fs : List Formula) → Extends old new → PairsStand old pairs fs
    → StandsFor new p (get_or fs (length pairs) (constant false)) → PairsStand new (pairs ++ (p ∷ [])) fs
pairs_push old new pairs p fs grown stand here i lt = elim (cases_lt i (length pairs)) [
  | inl below ↦
      subst (λ q. StandsFor new q (get_or fs i (constant false))) (sym (get_or_append_left pairs (p ∷ []) _ i below))
      (stands_kept old new (pair_in pairs i) (get_or fs i (constant false)) grown (stand i below))
  | inr above ↦
      let l : length (pairs ++ (p ∷ [])) ≡ length pairs + 1 = length-append pairs (p ∷ []) in
      let e : length pairs ≡ i = omega (arith, l, lt, above) in
      subst (λ q. StandsFor new q (get_or fs i (constant false))) (sym (get_or_push pairs p _ i e))
      (subst (λ k. StandsFor new p (get_or fs k (constant false))) e here)
]

-- what the loop knows behind one part more
pub record Stepped (nodes : List NormalNode) (pairs : List NegationPair) (place : ℕ) (fs : List Formula) : Type 0 where
  pub count : length pairs ≡ place
  pub ordered : AreNormalNodes nodes
  pub stand : PairsStand nodes pairs fs

pub stepped : (old new : List NormalNode) (pairs slice longer : List NegationPair) (p : NegationPair) (parts : List FormulaNode) (node : FormulaNode) (place : ℕ)
    → slice ≡ pairs → longer ≡ pairs ++ (p ∷ []) → length pairs ≡ place → place < length parts → AreFormulaNodes parts
    → node ≡ node_in parts place
    → ((fs : List Formula) → PairsStand old slice fs → AddsFormula old new p (formula_at fs node))
    → PairsStand old pairs (formulas_of parts) → Stepped new longer (place + 1) (formulas_of parts)
stepped old new pairs slice longer p parts node place e l count lt good n adds stand =
    let fs = formulas_of parts in
    let same : PairsStand old slice fs = subst (λ ps. PairsStand old ps fs) (sym e) stand in
    let now : AddsFormula old new p (formula_at fs node) = adds fs same in
    let is : formula_at fs node ≡ get_or fs place (constant false) =
    ap (formula_at fs) n ∙ sym (formula_step parts place lt (good place lt)) in
    let here : StandsFor new p (get_or fs place (constant false)) = subst (StandsFor new p) is (adds_stands old new p (formula_at fs node) now) in
    let there : StandsFor new p (get_or fs (length pairs) (constant false)) =
    subst (λ k. StandsFor new p (get_or fs k (constant false))) (sym count) here in
    let size : length (pairs ++ (p ∷ [])) ≡ length pairs + 1 = length-append pairs (p ∷ []) in
    record {
      count = ap length l ∙ size ∙ ap (λ k. k + 1) count;
      ordered = now.ordered;
      stand = subst (λ ps. PairsStand new ps fs) (sym l) (pairs_push old new pairs p fs now.grown stand there);
    }
