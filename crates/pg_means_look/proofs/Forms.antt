-- The formulas of a list of nodes.
use Rattle.std.proofs.Common.{◌≡◌, ℕ, zero, suc, ◌+◌, ◌<◌, ◌≤◌, List, [], ◌∷◌, ◌++◌, length, get_or, arith, refl, sym, ap, ◌∙◌}
use Rattle.std.specs.List.{fold}
use Rattle.std.proofs.lemmas.List.{get_or_append_left, get_or_push, length_push}
use Rattle.pg_ltl.specs.declared.normal.NormalNode.{NormalNode}
use Rattle.pg_ltl.specs.declared.normal.NormalNode.TheVariants.{Top, Bottom, Literal, Both, Either, Next, Until, Release}
use Rattle.pg_ltl.specs.NormalForms.{NormalForm, top, both, either, next, until, release}
use Rattle.pg_ltl.specs.Mirrors.Nodes.{normal_at, normals_of, normal_reach, AreNormalNodes}
use Rattle.pg_means_look.specs.Mirrors.Choices.{part, AreForms}

abbrev more : List NormalForm → NormalNode → List NormalForm
more before node = before ++ (normal_at before node ∷ [])

abbrev all : List NormalForm → List NormalNode → List NormalForm
all before nodes = fold more before nodes

front : (nodes : List NormalNode) (before : List NormalForm) (k : ℕ) → k < length before → part (all before nodes) k ≡ part before k
front [] before k lt = refl
front (n ∷ ns) before k lt =
    front ns (more before n) k (let l = length_push before (normal_at before n) in omega arith)
    ∙ get_or_append_left before (normal_at before n ∷ []) top k lt

-- a node makes the same of two lists that agree before its reach
same_node : (node : NormalNode) (fs gs : List NormalForm) → ((k : ℕ) → k < normal_reach node → part fs k ≡ part gs k)
    → normal_at fs node ≡ normal_at gs node
same_node Top fs gs h = refl
same_node Bottom fs gs h = refl
same_node (Literal p value) fs gs h = refl
same_node (Both a b) fs gs h = ap (λ (f : NormalForm). both f (part fs b)) (h a (omega arith)) ∙ ap (both (part gs a)) (h b (omega arith))
same_node (Either a b) fs gs h = ap (λ (f : NormalForm). either f (part fs b)) (h a (omega arith)) ∙ ap (either (part gs a)) (h b (omega arith))
same_node (Next a) fs gs h = ap next (h a (omega arith))
same_node (Until a b) fs gs h = ap (λ (f : NormalForm). until f (part fs b)) (h a (omega arith)) ∙ ap (until (part gs a)) (h b (omega arith))
same_node (Release a b) fs gs h =
    ap (λ (f : NormalForm). release f (part fs b)) (h a (omega arith)) ∙ ap (release (part gs a)) (h b (omega arith))

behind : (nodes : List NormalNode) (before : List NormalForm) (k n : ℕ) → k < length nodes → length before + k ≡ n
    → normal_reach (get_or nodes k Top) ≤ n → part (all before nodes) n ≡ normal_at (all before nodes) (get_or nodes k Top)
behind [] before k n lt at reach = absurd (omega arith)
behind (x ∷ xs) before zero n lt at reach =
    let long : length (more before x) ≡ length before + 1 = length_push before (normal_at before x) in
    let here : length before ≡ n = omega arith in
    front xs (more before x) n (omega arith) ∙ get_or_push before (normal_at before x) top n here
    ∙ same_node x before (all (more before x) xs) (λ k less.
    let inside : k < length before = omega arith in
    sym (front xs (more before x) k (omega arith) ∙ get_or_append_left before (normal_at before x ∷ []) top k inside))
behind (x ∷ xs) before (suc k) n lt at reach =
    let long : length (more before x) ≡ length before + 1 = length_push before (normal_at before x) in
    behind xs (more before x) k n (omega arith) (omega arith) reach

pub are_forms : (nodes : List NormalNode) → AreNormalNodes nodes → AreForms nodes (normals_of nodes)
are_forms nodes ordered place lt = behind nodes [] place place lt (omega arith) (ordered place lt)
