-- One after another of what waits for an operand.
use Rattle.std.proofs.Common.{◌≡◌, ℕ, Bool, true, false, List, [], ◌∷◌, ◌++◌, length, Some, None, refl, sym, ap, ◌∙◌, if◌then◌else◌}
use Rattle.std.specs.Prelude.{nat_le, reverse}
use Rattle.std.proofs.lemmas.List.{reverse-append}
use Rattle.pg_list_lemmas.proofs.Steps.{some_is, none_is_some}
use Rattle.pg_ltl.specs.declared.formula.Prefix.{Prefix}
use Rattle.pg_ltl.specs.declared.formula.Infix.{Infix}
use Rattle.pg_ltl.specs.declared.formula.FormulaNode.{FormulaNode}
use Rattle.pg_ltl.specs.declared.formula.FormulaNode.TheVariants as parts
use Rattle.pg_ltl.specs.declared.reading.Pending.{Pending}
use Rattle.pg_ltl.specs.declared.reading.Pending.TheVariants.{Paren, Ahead, Left}
use Rattle.pg_ltl.specs.FormulaTexts.{strength}
use Rattle.pg_ltl.specs.Mirrors.Run.{kept, ahead_of, taking, completed_at, reduced_at}

ahead_more : (f : Pending) (op : Prefix) (nodes : List FormulaNode) (fs : List Pending) (place : ℕ) → ahead_of f ≡ Some op
    → completed_at (nodes ++ (parts.One op place ∷ [])) fs (length nodes) ≡ completed_at nodes (f ∷ fs) place
unfolding completed_at
ahead_more (Ahead other) op nodes fs place e =
    ap (λ (o : Prefix). completed_at (nodes ++ (parts.One o place ∷ [])) fs (length nodes)) (sym (some_is other op e))
ahead_more Paren op nodes fs place e = absurd (none_is_some op e)
ahead_more (Left other g) op nodes fs place e = absurd (none_is_some op e)

ahead_none : (f : Pending) (nodes : List FormulaNode) (fs : List Pending) (place : ℕ) → ahead_of f ≡ None
    → record { nodes = nodes; pending = f ∷ fs; operand = Some place } ≡ completed_at nodes (f ∷ fs) place
unfolding completed_at
ahead_none (Ahead other) nodes fs place e = absurd (none_is_some other (sym e))
ahead_none Paren nodes fs place e = refl
ahead_none (Left other g) nodes fs place e = refl

pub completed_turn : (old new : List FormulaNode) (before after : List Pending) (f : Pending) (op : Prefix) (place next : ℕ)
    → reverse before ≡ f ∷ reverse after → ahead_of f ≡ Some op → new ≡ old ++ (parts.One op place ∷ []) → next ≡ length old
    → completed_at new (reverse after) next ≡ completed_at old (reverse before) place
completed_turn old new before after f op place next e a n l =
    ap (λ (ns : List FormulaNode). completed_at ns (reverse after) next) n
    ∙ ap (λ (k : ℕ). completed_at (old ++ (parts.One op place ∷ [])) (reverse after) k) l
    ∙ ahead_more f op old (reverse after) place a
    ∙ ap (λ (fs : List Pending). completed_at old fs place) (sym e)

pub completed_there : (nodes : List FormulaNode) (before after pushed : List Pending) (f : Pending) (place : ℕ) → reverse before ≡ f ∷ reverse after
    → ahead_of f ≡ None → pushed ≡ after ++ (f ∷ []) → kept nodes pushed (Some place) ≡ completed_at nodes (reverse before) place
completed_there nodes before after pushed f place e a p =
    ap (λ (fs : List Pending). record { nodes = nodes; pending = fs; operand = Some place }) (ap reverse p ∙ reverse-append after (f ∷ []))
    ∙ ahead_none f nodes (reverse after) place a
    ∙ ap (λ (fs : List Pending). completed_at nodes fs place) (sym e)

pub completed_ends : (nodes : List FormulaNode) (before after : List Pending) (place : ℕ) → reverse before ≡ [] → reverse after ≡ []
    → kept nodes after (Some place) ≡ completed_at nodes (reverse before) place
unfolding completed_at
completed_ends nodes before after place e a =
    ap (λ (fs : List Pending). record { nodes = nodes; pending = fs; operand = Some place }) a
    ∙ ap (λ (fs : List Pending). completed_at nodes fs place) (sym e)

-- ---- operators between operands

taken_if : (b : Bool) (x y : Infix × ℕ) → (if b then Some x else None) ≡ Some y → (b ≡ true) × (x ≡ y)
taken_if true x y e = (refl, some_is x y e)
taken_if false x y e = absurd (none_is_some y e)

left_if : (b : Bool) (x : Infix × ℕ) → (if b then Some x else None) ≡ None → b ≡ false
left_if true x e = absurd (none_is_some x (sym e))
left_if false x e = refl

taking_more : (bound : ℕ) (f : Pending) (op : Infix) (other : ℕ) (nodes : List FormulaNode) (fs : List Pending) (place : ℕ)
    → taking bound f ≡ Some (op, other)
    → reduced_at bound (nodes ++ (parts.Two op other place ∷ [])) fs (length nodes) ≡ reduced_at bound nodes (f ∷ fs) place
unfolding reduced_at
taking_more bound (Left q g) op other nodes fs place e =
    let t = taken_if (nat_le bound (strength q)) (q, g) (op, other) e in
    ap (λ (x : Infix × ℕ). reduced_at bound (nodes ++ (parts.Two x.0 x.1 place ∷ [])) fs (length nodes)) (sym t.1)
    ∙ ap (λ (b : Bool). if b then reduced_at bound (nodes ++ (parts.Two q g place ∷ [])) fs (length nodes)
    else record { nodes = nodes; pending = Left q g ∷ fs; operand = Some place }) (sym t.0)
taking_more bound Paren op other nodes fs place e = absurd (none_is_some (op, other) e)
taking_more bound (Ahead q) op other nodes fs place e = absurd (none_is_some (op, other) e)

taking_none : (bound : ℕ) (f : Pending) (nodes : List FormulaNode) (fs : List Pending) (place : ℕ) → taking bound f ≡ None
    → record { nodes = nodes; pending = f ∷ fs; operand = Some place } ≡ reduced_at bound nodes (f ∷ fs) place
unfolding reduced_at
taking_none bound (Left q g) nodes fs place e =
    ap (λ (b : Bool). if b then reduced_at bound (nodes ++ (parts.Two q g place ∷ [])) fs (length nodes)
    else record { nodes = nodes; pending = Left q g ∷ fs; operand = Some place }) (sym (left_if (nat_le bound (strength q)) (q, g) e))
taking_none bound Paren nodes fs place e = refl
taking_none bound (Ahead q) nodes fs place e = refl

pub reduced_turn : (bound : ℕ) (old new : List FormulaNode) (before after : List Pending) (f : Pending) (op : Infix) (other place next : ℕ)
    → reverse before ≡ f ∷ reverse after → taking bound f ≡ Some (op, other) → new ≡ old ++ (parts.Two op other place ∷ []) → next ≡ length old
    → reduced_at bound new (reverse after) next ≡ reduced_at bound old (reverse before) place
reduced_turn bound old new before after f op other place next e a n l =
    ap (λ (ns : List FormulaNode). reduced_at bound ns (reverse after) next) n
    ∙ ap (λ (k : ℕ). reduced_at bound (old ++ (parts.Two op other place ∷ [])) (reverse after) k) l
    ∙ taking_more bound f op other old (reverse after) place a
    ∙ ap (λ (fs : List Pending). reduced_at bound old fs place) (sym e)

pub reduced_there : (bound : ℕ) (nodes : List FormulaNode) (before after pushed : List Pending) (f : Pending) (place : ℕ)
    → reverse before ≡ f ∷ reverse after → taking bound f ≡ None → pushed ≡ after ++ (f ∷ [])
    → kept nodes pushed (Some place) ≡ reduced_at bound nodes (reverse before) place
reduced_there bound nodes before after pushed f place e a p =
    ap (λ (fs : List Pending). record { nodes = nodes; pending = fs; operand = Some place }) (ap reverse p ∙ reverse-append after (f ∷ []))
    ∙ taking_none bound f nodes (reverse after) place a
    ∙ ap (λ (fs : List Pending). reduced_at bound nodes fs place) (sym e)

pub reduced_ends : (bound : ℕ) (nodes : List FormulaNode) (before after : List Pending) (place : ℕ) → reverse before ≡ [] → reverse after ≡ []
    → kept nodes after (Some place) ≡ reduced_at bound nodes (reverse before) place
unfolding reduced_at
reduced_ends bound nodes before after place e a =
    ap (λ (fs : List Pending). record { nodes = nodes; pending = fs; operand = Some place }) a
    ∙ ap (λ (fs : List Pending). reduced_at bound nodes fs place) (sym e)
