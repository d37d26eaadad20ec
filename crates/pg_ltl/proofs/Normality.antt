-- Formulas as they are written, and their normal forms.
use Rattle.std.proofs.Common.{◌≡◌, ℕ, ◌+◌, inl, inr, Bool, true, false, arith, refl, sym, subst, true≢false}
use Rattle.std.proofs.lemmas.Bool.{cases_lt}
use Rattle.pg_ltl.specs.declared.formula.Prefix.TheVariants.{Not, Next, Finally, Globally}
use Rattle.pg_ltl.specs.declared.formula.Infix.TheVariants.{Implies, Equivalent, Or, Exclusive, And, Until, Release, Weak, Strong, Also}
use Rattle.pg_ltl.specs.Formulas.{Formula, constant, proposition, bracket, one, two, Satisfies, Lasts}
use Rattle.pg_ltl.specs.NormalForms.{NormalForm, Holds, normal}
use Rattle.pg_ltl.specs.Laws.{IsNormal}
use Rattle.pg_ltl.proofs.Holding.{stable}

to_false : (b : Bool) → ¬ (b ≡ true) → b ≡ false
to_false true n = absurd (n refl)
to_false false n = refl

of_false : (b : Bool) → b ≡ false → ¬ (b ≡ true)
of_false true e h = true≢false e
of_false false e h = true≢false (sym h)

module _ (word : ℕ → ℕ → Bool) where
  abbrev S : Formula → ℕ → Type 0
  S f t = Satisfies word f t

  abbrev N : NormalForm → ℕ → Type 0
  N f t = Holds word f t

  -- what the operands say at each step
  abbrev Both : Formula → Type 0
  Both f = (t : ℕ) → IsNormal word f t

  settled : (f : Formula) (t : ℕ) → Both f → ¬ ¬ S f t → S f t
  settled f t is k = (is t).yes.1 (stable word (normal true f) t (λ n. k (λ s. n ((is t).yes.0 s))))

  module _ (f : Formula) (is : Both f) where
    flip : (t : ℕ) → IsNormal word (one Not f) t
    flip t = record {
      yes = (is t).no;
      no = (λ n. (is t).yes.0 (settled f t is n), λ h n. n ((is t).yes.1 h));
    }

    step : (t : ℕ) → IsNormal word (one Next f) t
    step t = record { yes = (is (t + 1)).yes; no = (is (t + 1)).no }

    in_the_end : (t : ℕ) → IsNormal word (one Finally f) t
    in_the_end t = record {
      yes = (
        λ s none. s (λ r le x. none r le (λ q a b. tt) ((is r).yes.0 x)),
        λ h none. h (λ r le lasts x. none r le ((is r).yes.1 x)),
      );
      no = (
        λ n r le lasts. (is r).no.0 (λ x. n (λ none. none r le x)),
        λ h s. s (λ r le x. (is r).no.1 (h r le (λ q a b z. z)) x),
      );
    }

    always : (t : ℕ) → IsNormal word (one Globally f) t
    always t = record {
      yes = (λ s r le lasts. (is r).yes.0 (s r le), λ h r le. (is r).yes.1 (h r le (λ q a b z. z)));
      no = (
        λ n none. n (λ r le. settled f r is (λ x. none r le (λ q a b. tt) ((is r).no.0 x))),
        λ h s. h (λ r le lasts x. (is r).no.1 x (s r le)),
      );
    }

  module _ (f g : Formula) (fs : Both f) (gs : Both g) where
    if_so : (t : ℕ) → IsNormal word (two Implies f g) t
    if_so t = record {
      yes = (
        λ s x. x.0 ((fs t).no.0 (λ a. x.1 ((gs t).yes.0 (s a)))),
        λ h a. settled g t gs (λ n. h (λ x. (fs t).no.1 x a, λ y. n ((gs t).yes.1 y))),
      );
      no = (
        λ n. ((fs t).yes.0 (settled f t fs (λ m. n (λ a. absurd (m a)))), (gs t).no.0 (λ b. n (λ a. b))),
        λ h s. (gs t).no.1 h.1 (s ((fs t).yes.1 h.0)),
      );
    }

    same_yes : (t : ℕ) → (S f t → S g t) × (S g t → S f t) → N (normal true (two Equivalent f g)) t
    same_yes t s x =
        let no_f : ¬ S f t = λ a. x.0 ((fs t).yes.0 a, (gs t).yes.0 (s.0 a)) in
        x.1 ((fs t).no.0 no_f, (gs t).no.0 (λ b. no_f (s.1 b)))

    same_back : (t : ℕ) → N (normal true (two Equivalent f g)) t → (S f t → S g t) × (S g t → S f t)
    same_back t h = (
      λ a. settled g t gs (λ n. h (λ x. n ((gs t).yes.1 x.1), λ y. (fs t).no.1 y.0 a)),
      λ b. settled f t fs (λ n. h (λ x. n ((fs t).yes.1 x.0), λ y. (gs t).no.1 y.1 b)),
    )

    other_yes : (t : ℕ) → ¬ ((S f t → S g t) × (S g t → S f t)) → N (normal false (two Equivalent f g)) t
    other_yes t n x = n (
      λ a. settled g t gs (λ m. x.0 ((fs t).yes.0 a, (gs t).no.0 m)),
      λ b. settled f t fs (λ m. x.1 ((fs t).no.0 m, (gs t).yes.0 b)),
    )

    other_back : (t : ℕ) → N (normal false (two Equivalent f g)) t → ¬ ((S f t → S g t) × (S g t → S f t))
    other_back t h s = h (
      λ x. (gs t).no.1 x.1 (s.0 ((fs t).yes.1 x.0)),
      λ y. (fs t).no.1 y.0 (s.1 ((gs t).yes.1 y.1)),
    )

    same_both : (t : ℕ) → IsNormal word (two Equivalent f g) t
    same_both t = record { yes = (same_yes t, same_back t); no = (other_yes t, other_back t) }

    other_both : (t : ℕ) → IsNormal word (two Exclusive f g) t
    other_both t = record {
      yes = (other_yes t, other_back t);
      no = (
        λ n. same_yes t (
          λ a. settled g t gs (λ m. n (λ s. m (s.0 a))),
          λ b. settled f t fs (λ m. n (λ s. m (s.1 b))),
        ),
        λ h n. n (same_back t h),
      );
    }

    any : (t : ℕ) → IsNormal word (two Or f g) t
    any t = record {
      yes = (
        λ s x. s (λ a. x.0 ((fs t).yes.0 a), λ b. x.1 ((gs t).yes.0 b)),
        λ h x. h (λ a. x.0 ((fs t).yes.1 a), λ b. x.1 ((gs t).yes.1 b)),
      );
      no = (
        λ n. ((fs t).no.0 (λ a. n (λ x. x.0 a)), (gs t).no.0 (λ b. n (λ x. x.1 b))),
        λ h s. s ((fs t).no.1 h.0, (gs t).no.1 h.1),
      );
    }

    all : (t : ℕ) → IsNormal word (two And f g) t
    all t = record {
      yes = (λ s. ((fs t).yes.0 s.0, (gs t).yes.0 s.1), λ h. ((fs t).yes.1 h.0, (gs t).yes.1 h.1));
      no = (
        λ n x. x.0 ((fs t).no.0 (λ a. x.1 ((gs t).no.0 (λ b. n (a, b))))),
        λ h s. h (λ a. (fs t).no.1 a s.0, λ b. (gs t).no.1 b s.1),
      );
    }

    until_both : (t : ℕ) → IsNormal word (two Until f g) t
    until_both t = record {
      yes = (
        λ s none. s (λ r le lasts b. none r le (λ q from lt. (fs q).yes.0 (lasts q from lt)) ((gs r).yes.0 b)),
        λ h none. h (λ r le lasts b. none r le (λ q from lt. (fs q).yes.1 (lasts q from lt)) ((gs r).yes.1 b)),
      );
      no = (
        λ n r le lasts. (gs r).no.0 (λ b. n (λ none. none r le
            (λ q from lt. settled f q fs (λ m. lasts q from lt ((fs q).no.0 m))) b)),
        λ h s. s (λ r le lasts b. (gs r).no.1 (h r le (λ q from lt x. (fs q).no.1 x (lasts q from lt))) b),
      );
    }

    release_both : (t : ℕ) → IsNormal word (two Release f g) t
    release_both t = record {
      yes = (
        λ s r le lasts. (gs r).yes.0 (s r le (λ q from lt a. lasts q from lt ((fs q).yes.0 a))),
        λ h r le lasts. (gs r).yes.1 (h r le (λ q from lt a. lasts q from lt ((fs q).yes.1 a))),
      );
      no = (
        λ n none. n (λ r le lasts. settled g r gs (λ m. none r le (λ q from lt. (fs q).no.0 (lasts q from lt)) ((gs r).no.0 m))),
        λ h s. h (λ r le lasts b. (gs r).no.1 b (s r le (λ q from lt. (fs q).no.1 (lasts q from lt)))),
      );
    }

    -- up to s, and at s
    and_there : (P : ℕ → Type 0) (t s : ℕ) → Lasts P t s → P s → Lasts P t (s + 1)
    and_there P t s lasts here r from lt = elim (cases_lt r s) [
      | inl less ↦ lasts r from less
      | inr ge ↦ let e : s ≡ r = omega arith in subst P e here
    ]

    weak_both : (t : ℕ) → IsNormal word (two Weak f g) t
    weak_both t = record {
      yes = (
        λ s r le lasts x.
            let no_g : ¬ S g r = λ b. x.1 ((gs r).yes.0 b) in
            x.0 ((fs r).yes.0 (s r le (and_there (λ q. ¬ S g q) t r (λ q from lt b. lasts q from lt ((gs q).yes.0 b)) no_g))),
        λ h r le lasts. settled f r fs (λ m.
            h r le (λ q from lt b. lasts q from (omega arith) ((gs q).yes.1 b))
            (λ a. m ((fs r).yes.1 a), λ b. lasts r le (omega arith) ((gs r).yes.1 b))),
      );
      no = (
        λ n none. n (λ r le lasts. settled f r fs (λ m.
            none r le (λ q from lt. (gs q).no.0 (lasts q from (omega arith))) ((fs r).no.0 m, (gs r).no.0 (lasts r le (omega arith))))),
        λ h s. h (λ r le lasts b. (fs r).no.1 b.0 (s r le
            (and_there (λ q. ¬ S g q) t r (λ q from lt. (gs q).no.1 (lasts q from lt)) ((gs r).no.1 b.1)))),
      );
    }

    strong_both : (t : ℕ) → IsNormal word (two Strong f g) t
    strong_both t = record {
      yes = (
        λ s none. s (λ r le lasts a.
            none r le (λ q from lt. (gs q).yes.0 (lasts q from (omega arith))) ((fs r).yes.0 a, (gs r).yes.0 (lasts r le (omega arith)))),
        λ h none. h (λ r le lasts x. none r le
            (and_there (λ q. S g q) t r (λ q from lt. (gs q).yes.1 (lasts q from lt)) ((gs r).yes.1 x.1)) ((fs r).yes.1 x.0)),
      );
      no = (
        λ n r le lasts x. x.0 ((fs r).no.0 (λ a. x.1 ((gs r).no.0 (λ b. n (λ none. none r le
            (and_there (λ q. S g q) t r (λ q from lt. settled g q gs (λ m. lasts q from lt ((gs q).no.0 m))) b) a))))),
        λ h s. s (λ r le lasts a. h r le (λ q from lt x. (gs q).no.1 x (lasts q from (omega arith)))
            (λ x. (fs r).no.1 x a, λ y. (gs r).no.1 y (lasts r le (omega arith)))),
      );
    }

  pub normal_of : (f : Formula) (t : ℕ) → IsNormal word f t
  normal_of (constant true) t = record { yes = (λ s. tt, λ h. refl); no = (λ n. n refl, λ h s. h) }
  normal_of (constant false) t = record { yes = (λ s. true≢false (sym s), λ h. absurd h); no = (λ n. tt, λ h s. true≢false (sym s)) }
  normal_of (proposition p) t = record { yes = (λ s. s, λ h. h); no = (to_false (word t p), of_false (word t p)) }
  normal_of (bracket f) t = record { yes = (normal_of f t).yes; no = (normal_of f t).no }
  normal_of (one Not f) t = flip f (normal_of f) t
  normal_of (one Next f) t = step f (normal_of f) t
  normal_of (one Finally f) t = in_the_end f (normal_of f) t
  normal_of (one Globally f) t = always f (normal_of f) t
  normal_of (two Implies f g) t = if_so f g (normal_of f) (normal_of g) t
  normal_of (two Equivalent f g) t = same_both f g (normal_of f) (normal_of g) t
  normal_of (two Or f g) t = any f g (normal_of f) (normal_of g) t
  normal_of (two Exclusive f g) t = other_both f g (normal_of f) (normal_of g) t
  normal_of (two And f g) t = all f g (normal_of f) (normal_of g) t
  normal_of (two Also f g) t =
      let is = all f g (normal_of f) (normal_of g) t in
      record { yes = is.yes; no = is.no }
  normal_of (two Until f g) t = until_both f g (normal_of f) (normal_of g) t
  normal_of (two Release f g) t = release_both f g (normal_of f) (normal_of g) t
  normal_of (two Weak f g) t = weak_both f g (normal_of f) (normal_of g) t
  normal_of (two Strong f g) t = strong_both f g (normal_of f) (normal_of g) t

pub normality : (word : ℕ → ℕ → Bool) (f : Formula) (t : ℕ) → IsNormal word f t
normality word f t = normal_of word f t
