-- What the check finds out.
use Rattle.std.proofs.Common.{◌≡◌, ℕ, ◌+◌, ◌<◌, ◌⊎◌, inl, inr, Bool, true, false, List, [], ◌∷◌, ◌++◌, Option, Some, None, length, get_or, map, refl, sym, ap, subst, ◌∙◌, arith}
use Rattle.std.specs.Prelude.{Contains, All}
use Rattle.std.specs.declared.vec.Vec.{Vec}
use Rattle.std.specs.declared.alloc.Global.{Global}
use Rattle.std.proofs.lemmas.List.{get_or_append_left, get_or-append-add, get_or-map, length-map}
use Rattle.pg_aiger.specs.declared.gate.Latch.{Latch}
use Rattle.pg_aiger.specs.Circuits.{Circuit, no_latch}
use Rattle.pg_aiger.specs.Runs.{Valuation, value}
use Rattle.pg_ltl.specs.NormalForms.{NormalForm, top, bottom, literal, both, either, next, until, release}
use Rattle.pg_ltl.specs.Tableaux.{Each, Choice, IsAmong, free, asked, put_off, joined, choices_of}
use Rattle.pg_ltl.proofs.Choosing.{each_map, each_among, each_append, each_left, each_right}
use Rattle.pg_means_look.specs.Mirrors.Choices.{part, parts, IsNoMore}
use Rattle.pg_means_look.specs.Mirrors.Tables.{row_at}
use Rattle.pg_means_look.proofs.Covering.{self_among, among_trans, within_parts}
use Rattle.pg_satisfies_check.specs.declared.certificate.EmptinessCertificate as proposed
use Rattle.pg_satisfies_check.specs.declared.steps.CubeSteps.{CubeSteps}
use Rattle.pg_satisfies_check.specs.declared.system.CircuitPart.{CircuitPart}
use Rattle.pg_satisfies_check.specs.declared.system.Bit.{Bit}
use Rattle.pg_satisfies_check.specs.declared.cube.LatchCube.{LatchCube}
use Rattle.pg_satisfies_check.specs.declared.branch.TableauBranch.{TableauBranch}
use Rattle.pg_satisfies_check.specs.declared.branch.BranchPieces.{BranchPieces}
use Rattle.pg_satisfies_check.specs.declared.branch.BranchPieces.TheVariants.{Stuck, Done, One, Two}
use Rattle.pg_satisfies_check.specs.Satisfaction.{holds_in}
use Rattle.pg_satisfies_check.specs.Certificates.{AreBits, EmptinessCertificate, IsFirst, IsEmptyBy, IsStep, Follows, IsFine, Stays, Goes}
use Rattle.pg_satisfies_check.specs.Mirrors.Known.{IsKnown, Learns, known_at, Follow}
use Rattle.pg_satisfies_check.specs.Mirrors.Steps.{circuit_of, spoken_of, view, IsSeen, IsCube}
use Rattle.pg_satisfies_check.specs.Mirrors.Views.{bits_at, cube_in, certificate_of, choice_of, Covers, CoversEach, GoesFrom}
use Rattle.pg_satisfies_check.specs.Mirrors.Branches.{IsCovered, IsBranch, AreTwo, Splits, HasPut}
use Rattle.pg_satisfies_check.proofs.Products.{to_left, step_top, step_without, step_literal, step_both, step_either, step_next, step_until, step_release}

-- ---- edges with fewer demands

pub goes_more : (circuit : Circuit) (cert : EmptinessCertificate) (v : ℕ) (u : Valuation) (c d : Choice) → IsNoMore c d → Goes circuit cert v u c
    → Goes circuit cert v u d
goes_more circuit cert v u c d less g = record {
  to = g.to;
  below = g.below;
  stands = g.stands;
  fewer = among_trans (cert.node g.to).asks c.asks d.asks g.fewer less.0;
  fine = elim g.fine [
    | inl lt ↦ inl lt
    | inr s ↦ inr (s.0, stays_more (cert.witness (cert.rank v)) s.1)
  ];
}
  where
    stays_more : (w : Option NormalForm) → Stays w c.puts → Stays w d.puts
    stays_more None stays = stays
    stays_more (Some x) stays = each_among (IsAmong d.puts) c.puts x less.1 stays

-- ---- formulas taken apart

module _ (s : CubeSteps) (c : proposed.EmptinessCertificate) (forms : List NormalForm) (v : ℕ) (row : List (Option Bool)) (place : ℕ) (rest asks puts : List ℕ) where
  abbrev acc : Choice
  acc = choice_of forms asks puts

  abbrev P : Valuation → Choice → Type 0
  P u d = Goes (circuit_of s.system) (certificate_of forms s.cubes.items c) v u d

  abbrev todo : List NormalForm
  todo = parts forms rest

  more : (u : Valuation) (d e : Choice) → IsNoMore d e → P u d → P u e
  more u d e less g = goes_more (circuit_of s.system) (certificate_of forms s.cubes.items c) v u d e less g

  -- in each step with what is known
  abbrev Covered : (Choice → Choice) → List NormalForm → Type 0
  Covered with fs = (u : Valuation) → IsStep (circuit_of s.system) u → IsSeen s.system row u
      → Each (λ d. P u (joined (with acc) d)) (choices_of (holds_in s.system.literals.items u) fs)

  abbrev Goal : Type 0
  Goal = Covers s c forms v row (place ∷ rest) asks puts

  -- whatever formula stands at the place
  by : (f : NormalForm) → part forms place ≡ f → Covered (λ x. x) (f ∷ todo) → Goal
  by f e h u step known =
      subst (λ g. Each (λ d. P u (joined acc d)) (choices_of (holds_in s.system.literals.items u) (g ∷ todo))) (sym e) (h u step known)

  pub cover_top : part forms place ≡ top → Covers s c forms v row rest asks puts → Goal
  cover_top e h = by top e (λ u step known. step_top (P u) (more u) (holds_in s.system.literals.items u) acc todo (h u step known))

  pub cover_without : Covers s c forms v row rest asks puts → Goal
  cover_without h u step known =
      step_without (P u) (more u) (holds_in s.system.literals.items u) acc todo (part forms place) (h u step known)

  pub cover_bottom : part forms place ≡ bottom → Goal
  cover_bottom e = by bottom e (λ u step known. tt)

  -- a literal that can't hold
  pub cover_clash : (p : ℕ) (is : Bool) → part forms place ≡ literal p is
      → ((u : Valuation) → IsSeen s.system row u → holds_in s.system.literals.items u p ≡ is → ⊥) → Goal
  cover_clash p is e none = by (literal p is) e (λ u step known.
      step_literal (P u) (more u) (holds_in s.system.literals.items u) acc todo p is (λ so. absurd (none u known so)))

  -- a literal that then is known to hold
  pub cover_literal : (p : ℕ) (is : Bool) (new : List (Option Bool)) → part forms place ≡ literal p is
      → ((u : Valuation) → IsSeen s.system row u → holds_in s.system.literals.items u p ≡ is → IsSeen s.system new u)
      → Covers s c forms v new rest asks puts → Goal
  cover_literal p is new e learns h = by (literal p is) e (λ u step known.
      step_literal (P u) (more u) (holds_in s.system.literals.items u) acc todo p is (λ so. h u step (learns u known so)))

  pub cover_both : (a b : ℕ) → part forms place ≡ both (part forms a) (part forms b) → Covers s c forms v row (a ∷ b ∷ rest) asks puts → Goal
  cover_both a b e h = by (both (part forms a) (part forms b)) e (λ u step known.
      step_both (P u) (more u) (holds_in s.system.literals.items u) acc todo (part forms a) (part forms b) (h u step known))

  pub cover_either : (a b : ℕ) → part forms place ≡ either (part forms a) (part forms b) → Covers s c forms v row (a ∷ rest) asks puts
      → Covers s c forms v row (b ∷ rest) asks puts → Goal
  cover_either a b e h k = by (either (part forms a) (part forms b)) e (λ u step known.
      step_either (P u) (more u) (holds_in s.system.literals.items u) acc todo (part forms a) (part forms b) (h u step known) (k u step known))

  pub cover_next : (a : ℕ) → part forms place ≡ next (part forms a) → Covers s c forms v row rest (a ∷ asks) puts → Goal
  cover_next a e h = by (next (part forms a)) e (λ u step known.
      step_next (P u) (more u) (holds_in s.system.literals.items u) acc todo (part forms a) (part forms a) (h u step known))

  pub cover_until : (a b : ℕ) → part forms place ≡ until (part forms a) (part forms b) → Covers s c forms v row (b ∷ rest) asks puts
      → Covers s c forms v row (a ∷ rest) (place ∷ asks) (place ∷ puts) → Goal
  cover_until a b e h k = by (until (part forms a) (part forms b)) e (λ u step known.
      step_until (P u) (more u) (holds_in s.system.literals.items u) acc todo (part forms a) (part forms b) (h u step known)
      (subst (λ f. Each (λ d. P u (joined (joined (put_off f) acc) d)) (choices_of (holds_in s.system.literals.items u) (part forms a ∷ todo))) e
      (k u step known)))

  pub cover_release : (a b : ℕ) → part forms place ≡ release (part forms a) (part forms b) → Covers s c forms v row (b ∷ a ∷ rest) asks puts
      → Covers s c forms v row (b ∷ rest) (place ∷ asks) puts → Goal
  cover_release a b e h k = by (release (part forms a) (part forms b)) e (λ u step known.
      step_release (P u) (more u) (holds_in s.system.literals.items u) acc todo (part forms a) (part forms b) (h u step known)
      (subst (λ f. Each (λ d. P u (joined (joined (asked f) acc) d)) (choices_of (holds_in s.system.literals.items u) (part forms b ∷ todo))) e
      (k u step known)))

-- ---- branches

module _ (s : CubeSteps) (c : proposed.EmptinessCertificate) (forms : List NormalForm) (v : ℕ) (b : TableauBranch) (row : List (Option Bool)) (todo asks puts : List ℕ)
    (is : IsBranch b row todo asks puts) where
  -- what covers the branch covers its lists
  pub of_branch : IsCovered s c forms v b → Covers s c forms v row todo asks puts
  of_branch h =
      subst (λ r. Covers s c forms v r todo asks puts) is.row
      (subst (λ xs. Covers s c forms v b.row.items xs asks puts) is.todo
      (subst (λ xs. Covers s c forms v b.row.items b.todo.items xs puts) is.asks
      (subst (λ xs. Covers s c forms v b.row.items b.todo.items b.asks.items xs) is.puts h)))

-- two branches that cover a third one
pub of_two : (s : CubeSteps) (c : proposed.EmptinessCertificate) (forms : List NormalForm) (v : ℕ) (row : List (Option Bool)) (first asks puts second more off : List ℕ)
    (goal_row : List (Option Bool)) (goal_todo goal_asks goal_puts : List ℕ) (p : BranchPieces) → AreTwo row first asks puts second more off p
    → (Covers s c forms v row first asks puts → Covers s c forms v row second more off → Covers s c forms v goal_row goal_todo goal_asks goal_puts)
    → Splits s c forms v goal_row goal_todo goal_asks goal_puts p
of_two s c forms v row first asks puts second more off gr gt ga gp Stuck is go = tt
of_two s c forms v row first asks puts second more off gr gt ga gp Done is go = absurd is
of_two s c forms v row first asks puts second more off gr gt ga gp (One b) is go = absurd is
of_two s c forms v row first asks puts second more off gr gt ga gp (Two b d) is go = λ h k.
    go (of_branch s c forms v b row first asks puts is.0 h) (of_branch s c forms v d row second more off is.1 k)

-- ---- the same, of equal lists

pub covers_at : (s : CubeSteps) (c : proposed.EmptinessCertificate) (forms : List NormalForm) (v : ℕ) (row : List (Option Bool)) (todo asks puts todo' asks' puts' : List ℕ)
    → todo ≡ todo' → asks ≡ asks' → puts ≡ puts' → Covers s c forms v row todo asks puts → Covers s c forms v row todo' asks' puts'
covers_at s c forms v row todo asks puts todo' asks' puts' e f g h =
    subst (λ xs. Covers s c forms v row xs asks' puts') e
    (subst (λ xs. Covers s c forms v row todo xs puts') f (subst (λ xs. Covers s c forms v row todo asks xs) g h))

-- ---- edges

-- the row's first values are those of the latches in the next step
pub at_latch : (s : CircuitPart) (u : Valuation) (j : ℕ) → j < length s.latches.items
    → view (spoken_of s) u j ≡ value u (get_or s.latches.items j no_latch).next
at_latch s u j lt =
    let long : length (map Latch.next s.latches.items) ≡ length s.latches.items = length-map s.latches.items Latch.next in
    let inside : j < length (map Latch.next s.latches.items) = omega arith in
    ap (λ l. value u l)
    (get_or_append_left (map Latch.next s.latches.items) s.literals.items 0 j inside ∙ get_or-map Latch.next s.latches.items j no_latch 0 lt)

-- and then come those of the propositions
pub at_proposition : (s : CircuitPart) (u : Valuation) (p k : ℕ) → k ≡ length s.latches.items + p
    → view (spoken_of s) u k ≡ holds_in s.literals.items u p
at_proposition s u p k e =
    let long : length (map Latch.next s.latches.items) ≡ length s.latches.items = length-map s.latches.items Latch.next in
    let same : k ≡ length (map Latch.next s.latches.items) + p = omega arith in
    ap (λ l. value u l)
    (ap (λ n. get_or (spoken_of s) n 0) same ∙ get_or-append-add (map Latch.next s.latches.items) s.literals.items p 0)

-- what is noted of a proposition
pub learnt_at : (s : CircuitPart) (p k : ℕ) (is ok : Bool) (row seen new : List (Option Bool)) → k ≡ length s.latches.items + p → seen ≡ row
    → Learns (λ u. u k ≡ is) seen ok new → (u : Valuation) → IsSeen s row u → holds_in s.literals.items u p ≡ is
    → (ok ≡ true) × IsSeen s new u
learnt_at s p k is ok row seen new at e learns u known so =
    learns (view (spoken_of s) u) (at_proposition s u p k at ∙ so) (subst (λ r. IsSeen s r u) (sym e) known)

follow_bits : (s : CircuitPart) (row : List (Option Bool)) (u w : Valuation) (bits : List Bit) → IsSeen s row u → Follows (circuit_of s) u w
    → Follow (length s.latches.items) row bits → AreBits s.latches.items w bits
follow_bits s row u w bits seen follows h =
    each_map (λ (b : Bit). (b.latch < length s.latches.items) × (known_at row b.latch ≡ Some b.value))
    (λ (b : Bit). b.latch < length s.latches.items → value w (get_or s.latches.items b.latch no_latch).literal ≡ b.value) bits
    (λ b x lt. follows b.latch lt ∙ sym (at_latch s u b.latch lt) ∙ seen b.latch b.value x.1) h

pub landed : (s : CubeSteps) (c : proposed.EmptinessCertificate) (forms : List NormalForm) (v to : ℕ) (row : List (Option Bool)) (asks puts : List ℕ)
    → to < length c.places.items → Follow (length s.system.latches.items) row (bits_at s.cubes.items (cube_in c.places.items to))
    → All (Contains asks) (row_at c.asks.items to)
    → IsFine (certificate_of forms s.cubes.items c) v (parts forms puts) to → Covers s c forms v row [] asks puts
landed s c forms v to row asks puts below follow few fine u step known =
    let acc = choice_of forms asks puts in (
      goes_more (circuit_of s.system) (certificate_of forms s.cubes.items c) v u acc (joined acc free)
          (to_left acc.asks acc.asks [] (self_among acc.asks), to_left acc.puts acc.puts [] (self_among acc.puts))
          (record {
            to = to;
            below = below;
            stands = λ w is follows.
                follow_bits s.system row u w (bits_at s.cubes.items (cube_in c.places.items to)) known follows follow;
            fewer = within_parts forms (row_at c.asks.items to) asks few;
            fine = fine;
          }),
      tt,
    )

-- ---- stacks

module _ (s : CubeSteps) (c : proposed.EmptinessCertificate) (forms : List NormalForm) (v : ℕ) where
  abbrev pub Stack : List TableauBranch → Type 0
  Stack bs = Each (IsCovered s c forms v) bs

  -- where all on the new stack is covered, so is the branch that was taken apart, and the rest
  pub put_back : (old new : List TableauBranch) (b : TableauBranch) (p : BranchPieces) → HasPut old p new
      → Splits s c forms v b.row.items b.todo.items b.asks.items b.puts.items p → Stack new → Stack (old ++ b ∷ [])
  put_back old new b Stuck has splits h = absurd has
  put_back old new b Done has splits h =
      each_append (IsCovered s c forms v) old (b ∷ []) (subst Stack has h) (splits, tt)
  put_back old new b (One d) has splits h =
      let k = subst Stack has h in
      each_append (IsCovered s c forms v) old (b ∷ []) (each_left (IsCovered s c forms v) old (d ∷ []) k)
      (splits (each_right (IsCovered s c forms v) old (d ∷ []) k).0, tt)
  put_back old new b (Two d e) has splits h =
      let k = subst Stack has h in
      let left = each_left (IsCovered s c forms v) (old ++ d ∷ []) (e ∷ []) k in
      each_append (IsCovered s c forms v) old (b ∷ []) (each_left (IsCovered s c forms v) old (d ∷ []) left)
      (splits (each_right (IsCovered s c forms v) old (d ∷ []) left).0 (each_right (IsCovered s c forms v) (old ++ d ∷ []) (e ∷ []) k).0, tt)

-- ---- the ends of the check

pub each_none : {A : Type 0} (P : A → Type 0) (xs : List A) → length xs ≡ 0 → Each P xs
each_none P [] e = tt
each_none P (x ∷ xs) e = absurd (omega arith)

pub nil_of : (xs : List ℕ) → length xs ≡ 0 → [] ≡ xs
nil_of [] e = refl
nil_of (x ∷ xs) e = absurd (omega arith)

pub covers_row : (s : CubeSteps) (c : proposed.EmptinessCertificate) (forms : List NormalForm) (v : ℕ) (row other : List (Option Bool)) (todo asks puts : List ℕ)
    → row ≡ other → Covers s c forms v row todo asks puts → Covers s c forms v other todo asks puts
covers_row s c forms v row other todo asks puts e h = subst (λ r. Covers s c forms v r todo asks puts) e h

-- ---- nodes

pub goes_by : (s : CubeSteps) (c : proposed.EmptinessCertificate) (forms : List NormalForm) (v number : ℕ) (cube : LatchCube) → number < length s.cubes.items
    → cube ≡ get_or s.cubes.items number cube → cube_in c.places.items v ≡ number → CoversEach s c forms v cube.rows.items
    → GoesFrom s c forms v
goes_by s c forms v number cube lt is at covered u step bits none =
    right u step (subst (λ xs. AreBits s.system.latches.items u xs) same bits)
    (λ k d l seen. none (covered k d l u step seen))
  where
    right : IsCube s.system cube
    right = subst (IsCube s.system) (sym is) (s.right number cube lt)

    same : bits_at s.cubes.items (cube_in c.places.items v) ≡ cube.bits.items
    same = ap (bits_at s.cubes.items) at ∙ get_or-map (λ (x : LatchCube). x.bits.items) s.cubes.items number cube [] lt
        ∙ ap (λ (x : LatchCube). x.bits.items) (sym is)

-- the latches are off at first
off_at_first : (circuit : Circuit) (u : Valuation) (bits : List Bit) → IsFirst circuit u → Each (λ (b : Bit). b.value ≡ false) bits
    → AreBits circuit.latches u bits
off_at_first circuit u bits first off =
    each_map (λ (b : Bit). b.value ≡ false)
    (λ (b : Bit). b.latch < length circuit.latches → value u (get_or circuit.latches b.latch no_latch).literal ≡ b.value) bits
    (λ b e lt. first b.latch lt ∙ sym e) off

pub empty_by : (s : CubeSteps) (c : proposed.EmptinessCertificate) (forms : List NormalForm) (root : ℕ) → 0 < length c.places.items
    → Each (λ (b : Bit). b.value ≡ false) (bits_at s.cubes.items (cube_in c.places.items 0)) → All (Contains (root ∷ [])) (row_at c.asks.items 0)
    → ((v : ℕ) → v < length c.places.items → GoesFrom s c forms v)
    → IsEmptyBy (circuit_of s.system) s.system.literals.items (part forms root) (certificate_of forms s.cubes.items c)
empty_by s c forms root some off few goes = record {
  start = 0;
  below = some;
  stands = λ u step first. off_at_first (circuit_of s.system) u (bits_at s.cubes.items (cube_in c.places.items 0)) first off;
  fewer = within_parts forms (row_at c.asks.items 0) (root ∷ []) few;
  goes = λ v u below step bits. goes v below u step bits;
}
