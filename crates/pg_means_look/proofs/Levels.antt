-- Levels: what is said of an edge at each priority of a parity.
use Rattle.std.proofs.Common.{◌≡◌, ◌≢◌, ℕ, ◌+◌, ◌*◌, ◌/◌, ◌%◌, ◌<◌, ◌≤◌, ◌⊎◌, inl, inr, List, [], length, get_or, map, Option, Some, None, arith, sym, ap, subst, ◌∙◌}
use Rattle.std.specs.Prelude.{option_map}
use Rattle.std.proofs.lemmas.Bool.{cases_lt}
use Rattle.std.proofs.lemmas.List.{get_or-map, get_or_past, length-map}
use Rattle.pg_ltl.specs.NormalForms.{NormalForm}
use Rattle.pg_means_look.specs.declared.certificate.Level.{Level}
use Rattle.pg_means_look.specs.declared.certificate.Certificate as proposed
use Rattle.pg_means_look.specs.Certificates.{Stays, IsFine}
use Rattle.pg_means_look.specs.Mirrors.Choices.{part, parts}
use Rattle.pg_means_look.specs.Mirrors.Views.{ranks_at, witnesses_at, rank_in, witness_in, StaysBy, IsFineAt, certificate_of}
use Rattle.pg_means_look.proofs.Covering.{among_parts}

ranks_read : (levels : List Level) (k : ℕ) (x : Level) → k < length levels → x ≡ get_or levels k x → x.ranks.items ≡ ranks_at levels k
ranks_read levels k x lt e =
    sym (get_or-map (λ (level : Level). level.ranks.items) levels k x [] lt ∙ ap (λ (level : Level). level.ranks.items) (sym e))

witnesses_read : (levels : List Level) (k : ℕ) (x : Level) → k < length levels → x ≡ get_or levels k x
    → x.witnesses.items ≡ witnesses_at levels k
witnesses_read levels k x lt e =
    sym (get_or-map (λ (level : Level). level.witnesses.items) levels k x [] lt ∙ ap (λ (level : Level). level.witnesses.items) (sym e))

pub fine_more : (levels : List Level) (parity priority : ℕ) (puts : List ℕ) (v w k : ℕ) (x : Level) (seen : List Level) → seen ≡ levels
    → k < length seen → x ≡ get_or seen k x
    → ((j : ℕ) → j < k → IsFineAt (ranks_at levels j) (witnesses_at levels j) (2 * j + parity) priority puts v w)
    → IsFineAt x.ranks.items x.witnesses.items (2 * k + parity) priority puts v w
    → (j : ℕ) → j < k + 1 → IsFineAt (ranks_at levels j) (witnesses_at levels j) (2 * j + parity) priority puts v w
fine_more levels parity priority puts v w k x seen same lt e before here j le = elim (cases_lt j k) [
  | inl less ↦ before j less
  | inr ge ↦
      let at : k ≡ j = omega arith in
      let lt' : k < length levels = subst (λ (ls : List Level). k < length ls) same lt in
      let e' : x ≡ get_or levels k x = e ∙ ap (λ (ls : List Level). get_or ls k x) same in
      subst (λ n. IsFineAt (ranks_at levels n) (witnesses_at levels n) (2 * n + parity) priority puts v w) at
      (subst (λ (ws : List (Option ℕ)). IsFineAt (ranks_at levels k) ws (2 * k + parity) priority puts v w) (witnesses_read levels k x lt' e')
      (subst (λ (rs : List ℕ). IsFineAt rs x.witnesses.items (2 * k + parity) priority puts v w) (ranks_read levels k x lt' e') here))
]

stays : (forms : List NormalForm) (o : Option ℕ) (p priority : ℕ) (puts : List ℕ) → StaysBy o p priority puts
    → Stays (option_map (part forms) o) p priority (parts forms puts)
stays forms None p priority puts h = h
stays forms (Some u) p priority puts h = among_parts forms puts u h

pub fine_each : (c : proposed.Certificate) (parity priority : ℕ) (puts : List ℕ) (v w k : ℕ) → length c.levels.items ≤ k
    → priority < 2 * length c.levels.items + parity → parity < 2
    → ((j : ℕ) → j < k → IsFineAt (ranks_at c.levels.items j) (witnesses_at c.levels.items j) (2 * j + parity) priority puts v w)
    → (forms : List NormalForm) (p : ℕ) → p % 2 ≡ parity → IsFine (certificate_of forms c) p priority (parts forms puts) v w
fine_each c parity priority puts v w k all low few each forms p is = elim (cases_lt (p / 2) (length c.levels.items)) [
  | inl lt ↦
      let at : 2 * (p / 2) + parity ≡ p = omega arith in
      let here = subst (λ n. IsFineAt (ranks_at c.levels.items (p / 2)) (witnesses_at c.levels.items (p / 2)) n priority puts v w) at
      (each (p / 2) (omega arith)) in
      λ le. go (here le)
  | inr ge ↦ λ le.
      let above : priority ≢ p = λ e. omega arith in
      let none : ranks_at c.levels.items (p / 2) ≡ [] =
      get_or_past (map (λ (level : Level). level.ranks.items) c.levels.items) (p / 2) []
      (let l = length-map c.levels.items (λ (level : Level). level.ranks.items) in omega arith) in
      let no_witness : witnesses_at c.levels.items (p / 2) ≡ [] =
      get_or_past (map (λ (level : Level). level.witnesses.items) c.levels.items) (p / 2) []
      (let l = length-map c.levels.items (λ (level : Level). level.witnesses.items) in omega arith) in
      inr (
        ap (λ (rs : List ℕ). rank_in rs w) none ∙ sym (ap (λ (rs : List ℕ). rank_in rs v) none),
        subst (λ (ws : List (Option ℕ)). Stays (option_map (part forms) (witness_in ws (rank_in (ranks_at c.levels.items (p / 2)) v))) p priority
            (parts forms puts)) (sym no_witness) above,
      )
]
  where
    go : (rank_in (ranks_at c.levels.items (p / 2)) w < rank_in (ranks_at c.levels.items (p / 2)) v)
        ⊎ ((rank_in (ranks_at c.levels.items (p / 2)) w ≡ rank_in (ranks_at c.levels.items (p / 2)) v)
        × StaysBy (witness_in (witnesses_at c.levels.items (p / 2)) (rank_in (ranks_at c.levels.items (p / 2)) v)) p priority puts)
        → (rank_in (ranks_at c.levels.items (p / 2)) w < rank_in (ranks_at c.levels.items (p / 2)) v)
        ⊎ ((rank_in (ranks_at c.levels.items (p / 2)) w ≡ rank_in (ranks_at c.levels.items (p / 2)) v)
        × Stays (option_map (part forms) (witness_in (witnesses_at c.levels.items (p / 2)) (rank_in (ranks_at c.levels.items (p / 2)) v))) p
        priority (parts forms puts))
    go (inl less) = inl less
    go (inr h) = inr (h.0, stays forms (witness_in (witnesses_at c.levels.items (p / 2)) (rank_in (ranks_at c.levels.items (p / 2)) v)) p priority puts h.1)
