-- Lines of which a repeated successor counts once, as they are read.
use Rattle.pg_text.proofs.Common.{◌≡◌, ℕ, List, [], ◌∷◌, ◌++◌, Option, Ok, Err, refl, sym, ap, ◌∙◌, put, rising, rising_put, Player, Line}
use Rattle.pg_text.proofs.Common.{counted, TokenFault, Refusal, Memory, Token, ◌>>=◌, Read, Fails, Step, item, stop, items_at, natural_at}
use Rattle.pg_text.proofs.Common.{numbers_at, further_at, owner_at, ending_at, line_at, item_at, successors_at, counted_line_at}
use Rattle.pg_text.proofs.Common.{counted_step, counted_item_at}
use Rattle.pg_text.proofs.Steps.{bind_ok, ok, ok_is}
use Rattle.pg_text.proofs.FirstBytes.{line_of, item_of_number}
use Rattle.pg_text.proofs.Items.{with_front}
use Rattle.pg_text.proofs.Parts.{HaveCome, one_comes, all_came, none_comes}

-- ---- successors, as a loop reads them

abbrev rising_read : List ℕ × List ℕ → Read (List ℕ × List ℕ)
rising_read x = ok (rising x.0, x.1)

-- numbers that have come, of which the list holds each
pub record HaveGathered (list rest : List ℕ) (all : Read (List ℕ × List ℕ)) : Type 0 where
  pub front : List ℕ
  pub come : HaveCome front rest all
  pub same : rising list ≡ rising front

abbrev Numbers : Type 0
Numbers = List ℕ × Unit {0} × List ℕ

abbrev without_end : Numbers → Read (List ℕ × List ℕ)
without_end x = ok (x.0, x.2)

abbrev behind_first : ℕ → Numbers → Read (List ℕ × List ℕ)
behind_first n x = ok (n ∷ x.0, x.2)

first_come : (n : ℕ) (read : Read Numbers) → (with_front (n ∷ []) read >>= without_end) ≡ (read >>= behind_first n)
first_come n (Ok x) = refl
first_come n (Err fault) = refl

pub first_gathered : (bytes : List ℕ) (n : ℕ) (rest : List ℕ) → natural_at bytes ≡ Ok (n, rest) → HaveGathered (n ∷ []) rest (numbers_at bytes)
unfolding numbers_at
first_gathered bytes n rest e = record {
  front = n ∷ [];
  come = first_come n (items_at further_at rest) ∙ ap (λ (r : Read (ℕ × List ℕ)). r >>= λ first. items_at further_at first.1 >>= behind_first first.0) (sym e);
  same = refl;
}

pub one_gathered : (list roomy rest : List ℕ) (n : ℕ) (after : List ℕ) (all : Read (List ℕ × List ℕ)) → rising roomy ≡ rising list
    → further_at rest ≡ Ok (item n, after) → HaveGathered list rest all → HaveGathered (roomy ++ n ∷ []) after all
one_gathered list roomy rest n after all kept e g = record {
  front = g.front ++ n ∷ [];
  come = one_comes g.front rest n after all e g.come;
  same = sym (rising_put roomy n) ∙ ap (put n) (kept ∙ g.same) ∙ rising_put g.front n;
}

pub all_gathered : (list rest : List ℕ) (u : Unit {0}) (after : List ℕ) (all : Read (List ℕ × List ℕ))
    → further_at rest ≡ Ok (stop u, after) → HaveGathered list rest all → (all >>= rising_read) ≡ Ok (rising list, after)
all_gathered list rest u after all e g =
    ap (λ (r : Read (List ℕ × List ℕ)). r >>= rising_read) (all_came g.front rest u after all e g.come) ∙ ap (λ (l : List ℕ). ok (l, after)) (sym g.same)

pub none_gathered : (list rest : List ℕ) (fault : TokenFault) (all : Read (List ℕ × List ℕ)) → further_at rest ≡ Err fault
    → HaveGathered list rest all → (all >>= rising_read) ≡ Err fault
none_gathered list rest fault all e g =
    ap (λ (r : Read (List ℕ × List ℕ)). r >>= rising_read) (none_comes g.front rest fault all e g.come)

-- ---- lines and items

bind_then : {A B C : Type 0} (o : Read A) (f : A → Read B) (g : B → Read C) (h : A → Read C) → ((x : A) → (f x >>= g) ≡ h x) → ((o >>= f) >>= g) ≡ (o >>= h)
bind_then (Err e) f g h same = refl
bind_then (Ok x) f g h same = same x

abbrev counted_read : Line × List ℕ → Read (Line × List ℕ)
counted_read l = ok (counted l.0, l.1)

abbrev made : ℕ → ℕ → Player → List ℕ → Option (List ℕ) × List ℕ → Read (Line × List ℕ)
made identifier priority owner successors ending = ok (
  record { identifier = identifier; priority = priority; owner = owner; successors = successors; name = ending.0 },
  ending.1,
)

abbrev behind_successors : ℕ → ℕ → Player → List ℕ × List ℕ → Read (Line × List ℕ)
behind_successors identifier priority owner s = ending_at s.1 >>= made identifier priority owner s.0

abbrev behind_owner : ℕ → ℕ → Player × List ℕ → Read (Line × List ℕ)
behind_owner identifier priority o = numbers_at o.1 >>= behind_successors identifier priority o.0

abbrev counted_behind_owner : ℕ → ℕ → Player × List ℕ → Read (Line × List ℕ)
counted_behind_owner identifier priority o = successors_at o.1 >>= behind_successors identifier priority o.0

owner_counts : (identifier priority : ℕ) (o : Player × List ℕ)
    → (behind_owner identifier priority o >>= counted_read) ≡ counted_behind_owner identifier priority o
unfolding successors_at
owner_counts identifier priority o =
    let behind = behind_successors identifier priority o.0 in
    bind_then (numbers_at o.1) behind counted_read (λ s. behind (rising s.0, s.1))
    (λ s. bind_then (ending_at s.1) (made identifier priority o.0 s.0) counted_read (made identifier priority o.0 (rising s.0)) (λ e. refl))
    ∙ sym (bind_then (numbers_at o.1) rising_read behind (λ s. behind (rising s.0, s.1)) (λ s. refl))

counted_line : (identifier : ℕ) (bytes : List ℕ) → (line_at identifier bytes >>= counted_read) ≡ counted_line_at identifier bytes
unfolding line_at counted_line_at
counted_line identifier bytes =
    bind_then (natural_at bytes) (λ p. owner_at p.1 >>= behind_owner identifier p.0) counted_read (λ p. owner_at p.1 >>= counted_behind_owner identifier p.0)
    (λ p. bind_then (owner_at p.1) (behind_owner identifier p.0) counted_read (counted_behind_owner identifier p.0) (owner_counts identifier p.0))

abbrev StepRead : Type 0
StepRead = Read (Step Line (Unit {0}) × List ℕ)

abbrev step_counted : Step Line (Unit {0}) × List ℕ → StepRead
step_counted x = ok (counted_step x.0, x.1)

-- what was read, with its line counted
abbrev counted_of : StepRead → StepRead
counted_of read = read >>= step_counted

abbrev as_item : Line × List ℕ → StepRead
as_item l = ok (item l.0, l.1)

pub counted_item : (bytes : List ℕ) (read : StepRead) → item_at bytes ≡ read → counted_item_at bytes ≡ counted_of read
unfolding counted_item_at
counted_item bytes read e = ap counted_of e

pub counted_item_of_line : (bytes : List ℕ) (n : ℕ) (rest : List ℕ) → item_at bytes ≡ line_of (n, rest)
    → counted_item_at bytes ≡ (counted_line_at n rest >>= λ l. ok (item l.0, l.1))
counted_item_of_line bytes n rest is =
    let both : Line × List ℕ → StepRead = λ l. ok (item (counted l.0), l.1) in
    counted_item bytes (line_of (n, rest)) is
    ∙ bind_then (line_at n rest) as_item step_counted both (λ l. refl)
    ∙ sym (bind_then (line_at n rest) counted_read as_item both (λ l. refl))
    ∙ ap (λ (r : Read (Line × List ℕ)). r >>= as_item) (counted_line n rest)

pub counted_item_fails : (refusal : Refusal) (bytes : List ℕ) (n : ℕ) (rest : List ℕ) → item_at bytes ≡ line_of (n, rest)
    → Fails refusal (counted_line_at n rest) → Fails refusal (counted_item_at bytes)
counted_item_fails Memory bytes n rest is f = tt
counted_item_fails (Token e) bytes n rest is f = counted_item_of_line bytes n rest is ∙ ap (λ (r : Read (Line × List ℕ)). r >>= as_item) f

-- a line of which each part was read
pub counted_item_of_parts : (bytes : List ℕ) (i : ℕ) (b1 : List ℕ) (p : ℕ) (b2 : List ℕ) (o : Player) (b3 list b4 : List ℕ)
    (n : Option (List ℕ)) (b5 : List ℕ) → natural_at bytes ≡ Ok (i, b1) → natural_at b1 ≡ Ok (p, b2) → owner_at b2 ≡ Ok (o, b3)
    → successors_at b3 ≡ Ok (list, b4) → ending_at b4 ≡ Ok (n, b5)
    → counted_item_at bytes ≡ Ok (item (record { identifier = i; priority = p; owner = o; successors = list; name = n }), b5)
unfolding counted_line_at
counted_item_of_parts bytes i b1 p b2 o b3 list b4 n b5 identifier priority owner successors ending =
    counted_item_of_line bytes i b1 (item_of_number bytes i b1 identifier) ∙ rw (priority, owner, successors, ending) refl

-- ---- the line that was counted

pub record IsCounted (bytes : List ℕ) (line : Line) (after : List ℕ) : Type 0 where
  pub written : Line
  pub read : item_at bytes ≡ Ok (item written, after)
  pub is : counted written ≡ line

abbrev AStep : Type 0
AStep = Step Line (Unit {0})

same_step : (s t : AStep) (x y : List ℕ) → ok {A = AStep × List ℕ} (s, x) ≡ ok (t, y) → (s ≡ t) × (x ≡ y)
same_step s t x y e =
    let both = ok_is {A = AStep × List ℕ} (s, x) (t, y) e in
    (ap (λ (p : AStep × List ℕ). p.0) both, ap (λ (p : AStep × List ℕ). p.1) both)

item_is : (x y : Line) → ◌≡◌ {A = AStep} (item x) (item y) → x ≡ y
item_is x y e = cc

no_item : (x : Line) (u : Unit {0}) → ◌≡◌ {A = AStep} (item x) (stop u) → ⊥
no_item x u e = absurd cc

counted_from : (bytes : List ℕ) (x : Step Line (Unit {0}) × List ℕ) (line : Line) (after : List ℕ) → item_at bytes ≡ Ok x
    → step_counted x ≡ Ok (item line, after) → IsCounted bytes line after
counted_from bytes (item written, rest) line after e same =
    let both = same_step (item (counted written)) (item line) rest after same in
    record { written = written; read = e ∙ ap (λ (r : List ℕ). ok {A = AStep × List ℕ} (item written, r)) both.1; is = item_is (counted written) line both.0 }
counted_from bytes (stop u, rest) line after e same = absurd (no_item line u (sym (same_step (stop u) (item line) rest after same).0))

pub written_line : (bytes : List ℕ) (line : Line) (after : List ℕ) → counted_item_at bytes ≡ Ok (item line, after) → IsCounted bytes line after
unfolding counted_item_at
written_line bytes line after e =
    let b = bind_ok (item_at bytes) step_counted (item line, after) e in
    counted_from bytes b.0 line after b.1 b.2

stop_from : (x : Step Line (Unit {0}) × List ℕ) (u : Unit {0}) (after : List ℕ) → step_counted x ≡ Ok (stop u, after) → x ≡ (stop u, after)
stop_from (item written, rest) u after same = absurd (no_item (counted written) u (same_step (item (counted written)) (stop u) rest after same).0)
stop_from (stop v, rest) u after same = ok_is (stop v, rest) (stop u, after) same

pub no_line : (bytes : List ℕ) (u : Unit {0}) (after : List ℕ) → counted_item_at bytes ≡ Ok (stop u, after) → item_at bytes ≡ Ok (stop u, after)
unfolding counted_item_at
no_line bytes u after e =
    let b = bind_ok (item_at bytes) step_counted (stop u, after) e in
    b.1 ∙ ap ok (stop_from b.0 u after b.2)

err_from : (read : StepRead) (fault : TokenFault) → counted_of read ≡ Err fault → read ≡ Err fault
err_from (Ok x) fault e = absurd cc
err_from (Err f) fault e = cc

pub written_fails : (refusal : Refusal) (bytes : List ℕ) → Fails refusal (counted_item_at bytes) → Fails refusal (item_at bytes)
unfolding counted_item_at
written_fails Memory bytes f = tt
written_fails (Token e) bytes f = err_from (item_at bytes) e f
