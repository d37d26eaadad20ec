-- A function of two numbers as a table.
use Rattle.std.proofs.Common.{◌≡◌, ◌∙◌, ◌<◌, ◌≤◌, ℕ, true, false, ltb, [], map, get_or, None, refl, sym, ap, arith}
use Rattle.std.specs.List.{range_with_len}
use Rattle.std.proofs.lemmas.Bool.{ltb-true, ltb-false, lt-ltb, le-ltb}
use Rattle.std.proofs.lemmas.List.{get_or_past}
use Rattle.std.proofs.lemmas.List.FromFn.{get_or-map-range_with_len, length-map-range_with_len}
use Rattle.pg_hoa_automaton.specs.declared.table.Table.{Table}
use Rattle.pg_hoa_automaton.specs.Automata.{rows}
use Rattle.pg_hoa_automaton.specs.Mirrors.Tables as tables

pub rows_at : {A : Type 0} (f : ℕ → ℕ → A) (n m q l : ℕ) (d : A) → q < n → l < m → get_or (get_or (rows f n m) q []) l d ≡ f q l
rows_at f n m q l d p r =
    ap (λ row. get_or row l d) (get_or-map-range_with_len (λ state. map (f state) (range_with_len 0 m)) 0 n q q [] p (omega arith))
    ∙ get_or-map-range_with_len (f q) 0 m l l d r (omega arith)

pub rows_below : {A : Type 0} (f : ℕ → ℕ → A) (n m q l : ℕ) (d : A) → n ≤ q → get_or (get_or (rows f n m) q []) l d ≡ d
rows_below f n m q l d p =
    ap (λ row. get_or row l d) (get_or_past (rows f n m) q [] (omega (arith, length-map-range_with_len (λ state. map (f state) (range_with_len 0 m)) 0 n)))

pub rows_beside : {A : Type 0} (f : ℕ → ℕ → A) (n m q l : ℕ) (d : A) → q < n → m ≤ l → get_or (get_or (rows f n m) q []) l d ≡ d
rows_beside f n m q l d p r =
    ap (λ row. get_or row l d) (get_or-map-range_with_len (λ state. map (f state) (range_with_len 0 m)) 0 n q q [] p (omega arith))
    ∙ get_or_past (map (f q) (range_with_len 0 m)) l d (omega (arith, length-map-range_with_len (f q) 0 m))

outside : (t : Table) (q l : ℕ) → t.states ≤ q → tables.next t q l ≡ None
outside t q l h = rw (le-ltb q t.states h) refl

beside : (t : Table) (q l : ℕ) → q < t.states → t.letters ≤ l → tables.next t q l ≡ None
beside t q l p h = rw (lt-ltb q t.states p, le-ltb l t.letters h) refl

-- the table of steps is all that there is
pub next_viewed : (t : Table) (q l : ℕ) → tables.next t q l ≡ get_or (get_or (rows (tables.next t) t.states t.letters) q []) l None
next_viewed t q l =
    elim (ltb q t.states) as (λ v. ltb q t.states ≡ v → tables.next t q l ≡ get_or (get_or (rows (tables.next t) t.states t.letters) q []) l None) [
      | false ↦ λ e. let h : t.states ≤ q = ltb-false q t.states e in outside t q l h ∙ sym (rows_below (tables.next t) t.states t.letters q l None h)
      | true ↦ λ e.
          let p : q < t.states = ltb-true q t.states e in
          elim (ltb l t.letters) as (λ v. ltb l t.letters ≡ v → tables.next t q l ≡ get_or (get_or (rows (tables.next t) t.states t.letters) q []) l None) [
            | false ↦ λ e. let h : t.letters ≤ l = ltb-false l t.letters e in beside t q l p h
                ∙ sym (rows_beside (tables.next t) t.states t.letters q l None p h)
            | true ↦ λ e. sym (rows_at (tables.next t) t.states t.letters q l None p (ltb-true l t.letters e))
          ] refl
    ] refl
