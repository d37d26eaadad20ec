-- What is taken of links that tell their replies.
use Rattle.pg_coord_rounds.proofs.Common.{◌≡◌, ◌≢◌, ℕ, map, Result, Ok, Err, List, ◌∷◌, Option, Some, refl, sym, ◌∙◌, ap, subst, arith, rules}
use Rattle.pg_coord_rounds.proofs.Common.{inl, inr, All, IfErr, OnOk, ◌↔◌, Bool, true, false, ◌==◌, if◌then◌else◌, cases_Bool, BoundList}
use Rattle.pg_coord_rounds.proofs.Common.{MeasureValue, Values, Frame, ValueKind, Dense, Sparse, spelling, Spells, Measured, dense_value}
use Rattle.pg_coord_rounds.proofs.Common.{told_values, frame_of, one_frame, dense_told, CutValue, kind_of, Joins, LinkFault, OutOfMemory, Failed}
use Rattle.pg_coord_rounds.proofs.Common.{refusal, SendsTold, RestartsTold, HandsOver, IsOfPart, AreOfPart, FailsLink, TakesFrame, TellsAfter}
use Rattle.pg_coord_rounds.proofs.Common.{AnswersSetUp, acceptance, told_with}
use Rattle.pg_wire.specs.declared.frame.Frame.TheVariants as frames

-- ---- one call

pub restarted : (old new : Option (List (List ℕ))) (r : Result (Unit {0}) LinkFault) (left : List (List ℕ)) → RestartsTold old new r → old ≡ Some left
    → TellsAfter left new r
restarted old new r left h is = subst (λ (o : Option (List (List ℕ))). RestartsTold o new r) is h

pub takes_next : (old new : Option (List (List ℕ))) (r : Result Frame LinkFault) (next : List ℕ) (left : List (List ℕ)) → TakesFrame old new r
    → old ≡ Some (next ∷ left) → TakesFrame (Some (next ∷ left)) new r
takes_next old new r next left h is = subst (λ (o : Option (List (List ℕ))). TakesFrame o new r) is h

pub handed_over : (old new : Option (List (List ℕ))) (r : Result (Unit {0}) LinkFault) (bytes next : List ℕ) (left : List (List ℕ))
    → HandsOver old new r bytes → old ≡ Some (next ∷ left) → (r ≢ Err Failed) × OnOk r ((bytes ≡ next) × (new ≡ Some left))
handed_over old new r bytes next left h is = subst (λ (o : Option (List (List ℕ))). HandsOver o new r bytes) is h

-- ---- values

-- a frame of measures that is one of values
pub record IsDense (kind : ValueKind) (width : ℕ) (ms : List Measured) (v : Values) : Type 0 where
  pub kind_is : kind ≡ Dense
  pub width_is : width ≡ v.width
  pub measures : ms ≡ told_values v.values

is_dense : (kind : ValueKind) (width : ℕ) (ms : List Measured) (v : Values) → frame_of kind width ms ≡ frames.Values v → IsDense kind width ms v
is_dense Dense width ms v e =
    let same : record { width = width; values = map dense_value ms } ≡ v = cc in
    record {
      kind_is = refl;
      width_is = ap (λ (w : Values). w.width) same;
      measures = sym (dense_told ms) ∙ ap (λ (w : Values). told_values w.values) same;
    }
is_dense Sparse width ms v e = absurd (cc)

-- what a reader finds is what the frame holds
pub found_dense : (kind : ValueKind) (width : ℕ) (ms : List Measured) (v : Values) (bytes next : List ℕ) → Spells (frame_of kind width ms) bytes → bytes ≡ next
    → Spells (frames.Values v) next → IsDense kind width ms v
found_dense kind width ms v bytes next found same s =
    is_dense kind width ms v (one_frame (frame_of kind width ms) (frames.Values v) next (subst (Spells (frame_of kind width ms)) same found) s)

pub part_again : (agreed kind : ValueKind) (bounds : BoundList) (cut cut' : CutValue) (worker width : ℕ) (ms : List Measured) (v : Values)
    → IsDense kind width ms v
    → agreed ≡ Dense → cut' ≡ cut → AreOfPart Dense bounds cut worker Dense v.width (told_values v.values) → AreOfPart agreed bounds cut' worker kind width ms
part_again agreed kind bounds cut cut' worker width ms v d a c p = rw (a, c, d.kind_is, d.width_is, d.measures) p

pub frame_joins : (kind : ValueKind) (width : ℕ) (ms : List Measured) (v : Values) (f g : List MeasureValue) → IsDense kind width ms v → Joins f ms g
    → Joins f (told_values v.values) g
frame_joins kind width ms v f g d j = subst (λ (ns : List Measured). Joins f ns g) d.measures j

-- a frame of measures of the part doesn't fail its link
pub part_well : (agreed kind : ValueKind) (bounds : BoundList) (cut cut' : CutValue) (worker width : ℕ) (ms : List Measured) (bytes next : List ℕ)
    → Spells (frame_of kind width ms) bytes → bytes ≡ next → agreed ≡ Dense → cut' ≡ cut → AreOfPart agreed bounds cut' worker kind width ms
    → FailsLink bounds cut worker next → ⊥
part_well agreed Dense bounds cut cut' worker width ms bytes next s same dense cut_is part fails =
    let told : told_values (map dense_value ms) ≡ ms = dense_told ms in
    fails.values (record { width = width; values = map dense_value ms }) (subst (Spells (frame_of Dense width ms)) same s) (record {
      kind_is = refl;
      width_is = part.width_is;
      measures = subst (All (IsOfPart bounds cut worker)) (sym told) (subst (λ (c : CutValue). All (IsOfPart bounds c worker) ms) cut_is part.measures);
    })
part_well agreed Sparse bounds cut cut' worker width ms bytes next s same dense cut_is part fails = absurd (let k = part.kind_is in cc)

pub sent_values : (kind : ValueKind) (width : ℕ) (ms : List Measured) (old new : Option (List (List ℕ))) (r : Result (Unit {0}) LinkFault)
    (left : List (List ℕ))
    → SendsTold (frame_of kind width ms) old new r → old ≡ Some left → TellsAfter left new r
sent_values Dense width ms old new r left h is = subst (λ (o : Option (List (List ℕ))). SendsTold (frame_of Dense width ms) o new r) is h
sent_values Sparse width ms old new r left h is = subst (λ (o : Option (List (List ℕ))). SendsTold (frame_of Sparse width ms) o new r) is h

-- ---- a set-up

pub refusal_spells : Spells refusal (spelling refusal)
refusal_spells = record { well = inr (refl, search rules); within = omega arith; spelled = refl }

abbrev status_of : Frame → ℕ
status_of (frames.Report r) = r.status
status_of f = 0

-- no frame both takes and refuses it
one_answer : (f : Frame) → f ≡ acceptance → f ≡ refusal → ⊥
one_answer f taken refused =
    let same : 1 ≡ 2 = ap status_of (sym taken ∙ refused) in
    omega (arith, same)

-- what a frame that was taken says of a set-up
pub answers_set_up : (f : Frame) (r : Result Bool LinkFault) (next : List ℕ) (left : List (List ℕ)) (new : Option (List (List ℕ))) → Spells f next
    → new ≡ Some left → (r ≡ Ok true ↔ f ≡ acceptance) → (r ≡ Ok false ↔ f ≡ refusal) → IfErr r (λ e. e ≡ Failed) → AnswersSetUp next left new r
answers_set_up f (Ok true) next left new s told is_taken is_refused neither =
    let taken : f ≡ acceptance = is_taken.0 refl in
    record {
      accepted = λ a. ((λ e. cc), (refl, told));
      refused = λ b. absurd (one_answer f taken (one_frame f refusal next s b));
      neither = λ na nb. absurd (na (subst (λ (g : Frame). Spells g next) taken s));
    }
answers_set_up f (Ok false) next left new s told is_taken is_refused neither =
    let refused : f ≡ refusal = is_refused.0 refl in
    record {
      accepted = λ a. absurd (one_answer f (one_frame f acceptance next s a) refused);
      refused = λ b. ((λ e. cc), (refl, told));
      neither = λ na nb. absurd (nb (subst (λ (g : Frame). Spells g next) refused s));
    }
answers_set_up f (Err Failed) next left new s told is_taken is_refused neither = record {
  accepted = λ a. absurd (let is = is_taken.1 (one_frame f acceptance next s a) in cc);
  refused = λ b. absurd (let is = is_refused.1 (one_frame f refusal next s b) in cc);
  neither = λ na nb. (refl, λ e. told);
}
answers_set_up f (Err OutOfMemory) next left new s told is_taken is_refused neither = absurd (cc)

-- what is known where no frame was taken
pub breaks_set_up : (fault : LinkFault) (next : List ℕ) (left : List (List ℕ)) (new : Option (List (List ℕ)))
    → TakesFrame (Some (next ∷ left)) new (Err fault) → AnswersSetUp next left new (Err fault)
breaks_set_up fault next left new taken = record {
  accepted = λ a. ((λ e. (taken.0 acceptance a).0 (cc)), tt);
  refused = λ b. ((λ e. (taken.0 refusal b).0 (cc)), tt);
  neither = λ na nb. (refl, λ e. taken.2 (cc));
}

-- a set-up of a version is refused ahead where values go sparse under it
pub told_setup : (version : ℕ) (kind : ValueKind) (left : List (List ℕ)) → kind_of version ≡ kind
    → (if version == 2 then spelling refusal ∷ left else left) ≡ told_with kind left
told_setup version kind left e =
    let each : (if version == 2 then spelling refusal ∷ left else left) ≡ told_with (kind_of version) left =
    elim (cases_Bool (version == 2)) [
      | inl t ↦ rw t refl
      | inr t ↦ rw t refl
    ] in
    each ∙ ap (λ (k : ValueKind). told_with k left) e
