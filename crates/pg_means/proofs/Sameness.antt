-- Which normal forms say the same.
use Rattle.std.proofs.Common.{ℕ, ◌+◌, ◌≤◌, Bool, arith}
use Rattle.pg_ltl.specs.NormalForms.{NormalForm, top, bottom, both, either, next, until, release, Holds}
use Rattle.pg_ltl.proofs.Holding.{stable}
use Rattle.pg_means.specs.Mirrors.Simplified.{SayTheSame}

module _ (word : ℕ → ℕ → Bool) where
  abbrev H : NormalForm → ℕ → Type 0
  H f t = Holds word f t

  ever : (f : NormalForm) (t s : ℕ) → t ≤ s → H f s → H (until top f) t
  ever f t s le h none = none s le (λ q a b. tt) h

  not_never : (f : NormalForm) (t : ℕ) → H (until top f) t → ¬ ((s : ℕ) → t ≤ s → ¬ H f s)
  not_never f t h never = h (λ s le lasts x. never s le x)

  always : (f : NormalForm) (t : ℕ) → ((s : ℕ) → t ≤ s → H f s) → H (release bottom f) t
  always f t all s le lasts = all s le

  each : (f : NormalForm) (t s : ℕ) → H (release bottom f) t → t ≤ s → H f s
  each f t s h le = h s le (λ q a b z. z)

  ever_ever : (f : NormalForm) (t : ℕ) → H (until top (until top f)) t → H (until top f) t
  ever_ever f t h none =
      not_never (until top f) t h (λ s le x. not_never f s x (λ r later y. none r (omega arith) (λ q a b. tt) y))

  always_always : (f : NormalForm) (t : ℕ) → H (release bottom f) t → H (release bottom (release bottom f)) t
  always_always f t h = always (release bottom f) t (λ s le. always f s (λ r later. each f t r h (omega arith)))

  -- what recurs from some step on recurs
  recurs_ever : (f : NormalForm) (t : ℕ) → H (until top (release bottom (until top f))) t → H (release bottom (until top f)) t
  recurs_ever f t h = always (until top f) t (λ s le none.
      not_never (release bottom (until top f)) t h (λ r later x.
      not_never f (r + s) (each (until top f) r (r + s) x (omega arith)) (λ q last y. none q (omega arith) (λ u a b. tt) y)))

  -- what lasts from some step on does so seen from each later step
  lasts_always : (f : NormalForm) (t : ℕ) → H (until top (release bottom f)) t → H (release bottom (until top (release bottom f))) t
  lasts_always f t h = always (until top (release bottom f)) t (λ s le none.
      not_never (release bottom f) t h (λ r later x.
      none (r + s) (omega arith) (λ u a b. tt) (always f (r + s) (λ q last. each f r q x (omega arith)))))

  recurs_either : (f g : NormalForm) (t : ℕ) → H (either (release bottom (until top f)) (release bottom (until top g))) t
      → H (release bottom (until top (either f g))) t
  recurs_either f g t h = always (until top (either f g)) t (λ s le none. h (
    λ a. not_never f s (each (until top f) t s a le) (λ r later x. none r later (λ u a b. tt) (λ n. n.0 x)),
    λ b. not_never g s (each (until top g) t s b le) (λ r later x. none r later (λ u a b. tt) (λ n. n.1 x)),
  ))

  either_recurs : (f g : NormalForm) (t : ℕ) → H (release bottom (until top (either f g))) t
      → H (either (release bottom (until top f)) (release bottom (until top g))) t
  either_recurs f g t k n = n.0 (always (until top f) t (λ s le no_f. n.1 (always (until top g) t (λ r later no_g.
      not_never (either f g) (s + r) (each (until top (either f g)) t (s + r) k (omega arith)) (λ q last x. x (
        λ y. no_f q (omega arith) (λ u a b. tt) y,
        λ z. no_g q (omega arith) (λ u a b. tt) z,
      ))))))

  lasts_both : (f g : NormalForm) (t : ℕ) → H (both (until top (release bottom f)) (until top (release bottom g))) t
      → H (until top (release bottom (both f g))) t
  lasts_both f g t h none =
      not_never (release bottom f) t h.0 (λ s le x. not_never (release bottom g) t h.1 (λ r later y.
      none (s + r) (omega arith) (λ u a b. tt) (always (both f g) (s + r) (λ q last. (
        each f s q x (omega arith),
        each g r q y (omega arith),
      )))))

  both_lasts : (f g : NormalForm) (t : ℕ) → H (until top (release bottom (both f g))) t
      → H (both (until top (release bottom f)) (until top (release bottom g))) t
  both_lasts f g t h = (
    λ none. not_never (release bottom (both f g)) t h (λ s le x. none s le (λ u a b. tt) (always f s (λ q last. (each (both f g) s q x last).0))),
    λ none. not_never (release bottom (both f g)) t h (λ s le x. none s le (λ u a b. tt) (always g s (λ q last. (each (both f g) s q x last).1))),
  )

pub itself : (f : NormalForm) → SayTheSame f f
itself f = record { to = λ word t h. h; from = λ word t h. h }

pub both_same : (f : NormalForm) → SayTheSame f (both f f)
both_same f = record { to = λ word t h. (h, h); from = λ word t h. h.0 }

pub either_same : (f : NormalForm) → SayTheSame f (either f f)
either_same f = record { to = λ word t h n. n.0 h; from = λ word t h. stable word f t (λ n. h (n, n)) }

pub ever_same : (f : NormalForm) → SayTheSame (until top f) (until top (until top f))
ever_same f = record { to = λ word t h. ever word (until top f) t t (omega arith) h; from = λ word t h. ever_ever word f t h }

pub always_same : (f : NormalForm) → SayTheSame (release bottom f) (release bottom (release bottom f))
always_same f = record { to = λ word t h. always_always word f t h; from = λ word t h. each word (release bottom f) t t h (omega arith) }

pub recurs_same : (f : NormalForm) → SayTheSame (release bottom (until top f)) (until top (release bottom (until top f)))
recurs_same f = record {
  to = λ word t h. ever word (release bottom (until top f)) t t (omega arith) h;
  from = λ word t h. recurs_ever word f t h;
}

pub lasts_same : (f : NormalForm) → SayTheSame (until top (release bottom f)) (release bottom (until top (release bottom f)))
lasts_same f = record {
  to = λ word t h. lasts_always word f t h;
  from = λ word t h. each word (until top (release bottom f)) t t h (omega arith);
}

pub recurs_merged : (f g : NormalForm)
    → SayTheSame (release bottom (until top (either f g))) (either (release bottom (until top f)) (release bottom (until top g)))
recurs_merged f g = record { to = λ word t h. either_recurs word f g t h; from = λ word t h. recurs_either word f g t h }

pub lasts_merged : (f g : NormalForm)
    → SayTheSame (until top (release bottom (both f g))) (both (until top (release bottom f)) (until top (release bottom g)))
lasts_merged f g = record { to = λ word t h. both_lasts word f g t h; from = λ word t h. lasts_both word f g t h }

pub same_twice : (f g h : NormalForm) → SayTheSame f g → SayTheSame g h → SayTheSame f h
same_twice f g h a b = record { to = λ word t x. b.to word t (a.to word t x); from = λ word t x. a.from word t (b.from word t x) }

-- ---- operators

module _ (f g h k : NormalForm) (a : SayTheSame f h) (b : SayTheSame g k) where
  pub both_alike : SayTheSame (both f g) (both h k)
  both_alike = record {
    to = λ word t x. (a.to word t x.0, b.to word t x.1);
    from = λ word t x. (a.from word t x.0, b.from word t x.1);
  }

  pub either_alike : SayTheSame (either f g) (either h k)
  either_alike = record {
    to = λ word t x n. x (λ y. n.0 (a.to word t y), λ z. n.1 (b.to word t z));
    from = λ word t x n. x (λ y. n.0 (a.from word t y), λ z. n.1 (b.from word t z));
  }

  pub until_alike : SayTheSame (until f g) (until h k)
  until_alike = record {
    to = λ word t x none. x (λ s le lasts y. none s le (λ q from lt. a.to word q (lasts q from lt)) (b.to word s y));
    from = λ word t x none. x (λ s le lasts y. none s le (λ q from lt. a.from word q (lasts q from lt)) (b.from word s y));
  }

  pub release_alike : SayTheSame (release f g) (release h k)
  release_alike = record {
    to = λ word t x s le lasts. b.to word s (x s le (λ q from lt y. lasts q from lt (a.to word q y)));
    from = λ word t x s le lasts. b.from word s (x s le (λ q from lt y. lasts q from lt (a.from word q y)));
  }

pub next_alike : (f h : NormalForm) → SayTheSame f h → SayTheSame (next f) (next h)
next_alike f h a = record { to = λ word t x. a.to word (t + 1) x; from = λ word t x. a.from word (t + 1) x }
