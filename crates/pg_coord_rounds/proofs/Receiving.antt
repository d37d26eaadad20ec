-- A reply that is received frame by frame.
use Rattle.pg_coord_rounds.proofs.Common.{◌≡◌, ◌≢◌, ◌⊎◌, ℕ, ◌+◌, ◌<◌, Bool, true, false, List, [], ◌∷◌, ◌++◌, length, Option, Some, Result, Ok}
use Rattle.pg_coord_rounds.proofs.Common.{Err, refl, sym, ◌∙◌, ap, subst, arith, append_assoc, inl, inr, All, OnOk, flat_map, length-append}
use Rattle.pg_coord_rounds.proofs.Common.{append-nil, flat_map-append, flat_map-cons, All-head, All-tail, BoundList, MeasureValue, Values, Report}
use Rattle.pg_coord_rounds.proofs.Common.{ValueKind, Dense, spelling, Spells, Measured, told_values, CutValue, Joins, joins_none, AreOfPart}
use Rattle.pg_coord_rounds.proofs.Common.{CoordinatorMap, LinkFault, OutOfMemory, Failed, Ending, reported, spoiled, missing, Reply, FailsLink}
use Rattle.pg_coord_rounds.proofs.Common.{EndsSo, IsReply, spelled_ending, spelled_reply, AnswersAfter, FailsAfter, told_reply, reply_measures}
use Rattle.pg_coord_rounds.proofs.Common.{answer_to, ReceivesReply}
use Rattle.pg_wire.specs.declared.frame.Frame.TheVariants as frames
use Rattle.pg_coord_rounds.proofs.Joins.{joins_then}

abbrev pub values_measures : List Values → List Measured
values_measures vs = flat_map (λ v. told_values v.values) vs

values_more : (front : List Values) (v : Values) → values_measures (front ++ v ∷ []) ≡ values_measures front ++ told_values v.values
values_more front v =
    let f : Values → List Measured = λ w. told_values w.values in
    flat_map-append f front (v ∷ [])
    ∙ ap (λ (ms : List Measured). values_measures front ++ ms) (flat_map-cons f v [] ∙ append-nil (told_values v.values))

-- ---- the frames of a reply

middle_of : (P : Values → Type 0) (front : List Values) (v : Values) (rest : List Values) → All P (front ++ v ∷ rest) → P v
middle_of P [] v rest h = All-head P v rest h
middle_of P (w ∷ front) v rest h = middle_of P front v rest (All-tail P w (front ++ v ∷ rest) h)

-- so many frames of values of the reply were received
pub record HasReceived (r : Reply) (left : List (List ℕ)) (n : ℕ) (told : Option (List (List ℕ))) (f g : List MeasureValue) : Type 0 where
  pub front : List Values
  pub rest : List Values
  pub parts : r.values ≡ front ++ rest
  pub count : length front ≡ n
  pub told_is : told ≡ Some (told_reply rest r.ending left)
  pub joins : Joins f (values_measures front) g

pub received_none : (r : Reply) (left : List (List ℕ)) (told : Option (List (List ℕ))) (f : List MeasureValue)
    → told ≡ Some (spelled_reply r ++ left) → HasReceived r left 0 told f f
received_none r left told f is = record { front = []; rest = r.values; parts = refl; count = refl; told_is = is; joins = joins_none f }

-- the next frame is one of values
record IsValuesNext (bounds : BoundList) (cut : CutValue) (worker : ℕ) (r : Reply) (left : List (List ℕ)) (n : ℕ)
    (told : Option (List (List ℕ)))
    (f g : List MeasureValue) : Type 0 where
  values : Values
  rest : List (List ℕ)
  told_is : told ≡ Some (spelling (frames.Values values) ∷ rest)
  spells : Spells (frames.Values values) (spelling (frames.Values values))
  part : AreOfPart Dense bounds cut worker Dense values.width (told_values values.values)
  received : (told' : Option (List (List ℕ))) (g' : List MeasureValue) → told' ≡ Some rest → Joins g (told_values values.values) g'
      → HasReceived r left (n + 1) told' f g'

-- the next frame is the report
record IsReportNext (r : Reply) (left : List (List ℕ)) (told : Option (List (List ℕ))) : Type 0 where
  report : Report
  ending_is : r.ending ≡ reported report
  told_is : told ≡ Some (spelling (frames.Report report) ∷ left)
  spells : Spells (frames.Report report) (spelling (frames.Report report))
  well : report.status ≢ 2

-- the next frame fails the link
record IsSpoiledNext (bounds : BoundList) (cut : CutValue) (worker : ℕ) (r : Reply) (left : List (List ℕ)) (told : Option (List (List ℕ)))
    : Type 0 where
  bytes : List ℕ
  ending_is : r.ending ≡ spoiled bytes
  told_is : told ≡ Some (bytes ∷ left)
  fails : FailsLink bounds cut worker bytes

-- the reply has no further frame, and as many as it may have, or the link has none either
record IsMissingNext (r : Reply) (left : List (List ℕ)) (n : ℕ) (told : Option (List (List ℕ))) : Type 0 where
  ending_is : r.ending ≡ missing
  told_is : told ≡ Some left
  cause : (n ≡ 65536) ⊎ (left ≡ [])

-- the values are joined, and the reply ends next
record IsEndNext (bounds : BoundList) (cut : CutValue) (worker : ℕ) (r : Reply) (left : List (List ℕ)) (n : ℕ)
    (told : Option (List (List ℕ)))
    (f g : List MeasureValue) : Type 0 where
  joins : Joins f (reply_measures r) g
  end : IsReportNext r left told ⊎ (IsSpoiledNext bounds cut worker r left told ⊎ IsMissingNext r left n told)

end_next : (bounds : BoundList) (cut : CutValue) (worker : ℕ) (r : Reply) (left : List (List ℕ)) (n : ℕ) (told : Option (List (List ℕ)))
    (e : Ending) → r.ending ≡ e → length r.values ≡ n → EndsSo bounds cut worker (length r.values) left e
    → told ≡ Some (spelled_ending e ++ left)
    → IsReportNext r left told ⊎ (IsSpoiledNext bounds cut worker r left told ⊎ IsMissingNext r left n told)
end_next bounds cut worker r left n told (reported q) is count ends told_is =
    inl (record { report = q; ending_is = is; told_is = told_is; spells = ends.1; well = ends.2 })
end_next bounds cut worker r left n told (spoiled bytes) is count ends told_is =
    inr (inl (record { bytes = bytes; ending_is = is; told_is = told_is; fails = ends.1 }))
end_next bounds cut worker r left n told missing is count ends told_is =
    inr (inr (record {
      ending_is = is;
      told_is = told_is;
      cause = elim ends [ inl many ↦ inl (sym count ∙ many) | inr none ↦ inr none.1 ];
    }))

next_by : (bounds : BoundList) (cut : CutValue) (worker : ℕ) (r : Reply) (left : List (List ℕ)) (n : ℕ) (told : Option (List (List ℕ)))
    (f g : List MeasureValue)
    (front rest : List Values) → IsReply bounds cut worker r left → r.values ≡ front ++ rest → length front ≡ n
    → told ≡ Some (told_reply rest r.ending left)
    → Joins f (values_measures front) g → IsValuesNext bounds cut worker r left n told f g ⊎ IsEndNext bounds cut worker r left n told f g
next_by bounds cut worker r left n told f g front [] is parts count told_is joins =
    let all : r.values ≡ front = parts ∙ append-nil front in
    inr (record {
      joins = subst (λ (vs : List Values). Joins f (values_measures vs) g) (sym all) joins;
      end = end_next bounds cut worker r left n told r.ending refl (ap length all ∙ count) is.ends told_is;
    })
next_by bounds cut worker r left n told f g front (v ∷ vs) is parts count told_is joins =
    let Spelled : Values → Type 0 = λ w. Spells (frames.Values w) (spelling (frames.Values w)) in
    let Part : Values → Type 0 = λ w. AreOfPart Dense bounds cut worker Dense w.width (told_values w.values) in
    inl (record {
      values = v;
      rest = told_reply vs r.ending left;
      told_is = told_is;
      spells = middle_of Spelled front v vs (subst (All Spelled) parts is.spelled);
      part = middle_of Part front v vs (subst (All Part) parts is.values);
      received = λ told' g' later more. record {
        front = front ++ v ∷ [];
        rest = vs;
        parts = parts ∙ sym (append_assoc front (v ∷ []) vs);
        count = omega (arith, length-append front (v ∷ []));
        told_is = later;
        joins = subst (λ (ms : List Measured). Joins f ms g') (sym (values_more front v))
            (joins_then f g g' (values_measures front) (told_values v.values) joins more);
      };
    })

-- ---- one frame is read

-- what reading a frame comes to
pub record ReadsFrame (bounds : BoundList) (cut : CutValue) (worker : ℕ) (kind : ValueKind) (told told' : Option (List (List ℕ)))
    (b b' : CoordinatorMap) (result : Result Bool LinkFault) : Type 0 where
  pub values : (v : Values) (next : List ℕ) (left : List (List ℕ)) → told ≡ Some (next ∷ left) → Spells (frames.Values v) next
      → kind ≡ Dense → AreOfPart Dense bounds cut worker Dense v.width (told_values v.values)
      → AnswersAfter false left told' result × OnOk result (Joins b.map.measures (told_values v.values) b'.map.measures)
  pub report : (r : Report) (next : List ℕ) (left : List (List ℕ)) → told ≡ Some (next ∷ left) → Spells (frames.Report r) next
      → r.status ≢ 2 → AnswersAfter true left told' result × (b' ≡ b)
  pub failing : (next : List ℕ) (left : List (List ℕ)) → told ≡ Some (next ∷ left) → FailsLink bounds cut worker next → kind ≡ Dense
      → FailsAfter left told' result × (b' ≡ b)
  pub ended : told ≡ Some [] → FailsAfter [] told' result × (b' ≡ b)

-- what a reply comes to once one frame more was read
abbrev pub ComesTo : Reply → List (List ℕ) → ℕ → Option (List (List ℕ)) → List MeasureValue → List MeasureValue → Result Bool LinkFault
    → Type 0
ComesTo r left n told f g (Ok false) = HasReceived r left (n + 1) told f g
ComesTo r left n told f g (Ok true) = ReceivesReply r left f g told (Ok tt)
ComesTo r left n told f g (Err e) = ReceivesReply r left f g told (Err e)

-- where the frame failed its link, or there was none
fails : (r : Reply) (left : List (List ℕ)) (n : ℕ) (told' : Option (List (List ℕ))) (f : List MeasureValue) (b b' : CoordinatorMap)
    (result : Result Bool LinkFault) → answer_to r.ending ≡ Err Failed → Joins f (reply_measures r) b.map.measures
    → FailsAfter left told' result → b' ≡ b → ComesTo r left n told' f b'.map.measures result
fails r left n told' f b b' (Ok x) answer joins after same = absurd (let no = after.0 in cc)
fails r left n told' f b b' (Err OutOfMemory) answer joins after same = λ no. absurd (no refl)
fails r left n told' f b b' (Err Failed) answer joins after same = λ no.
    (sym answer, after.1 refl, subst (λ (c : CoordinatorMap). Joins f (reply_measures r) c.map.measures) (sym same) joins)

pub one_more : (bounds : BoundList) (cut : CutValue) (worker : ℕ) (kind : ValueKind) (r : Reply) (left : List (List ℕ)) (n : ℕ)
    (told told' : Option (List (List ℕ))) (f : List MeasureValue) (b b' : CoordinatorMap) (result : Result Bool LinkFault) → n < 65536
    → kind ≡ Dense → IsReply bounds cut worker r left → HasReceived r left n told f b.map.measures
    → ReadsFrame bounds cut worker kind told told' b b' result → ComesTo r left n told' f b'.map.measures result
one_more bounds cut worker kind r left n told told' f b b' result few dense is h reads =
    by_next (next_by bounds cut worker r left n told f b.map.measures h.front h.rest is h.parts h.count h.told_is h.joins)
  where
    by_values : (a : Result Bool LinkFault) (v : IsValuesNext bounds cut worker r left n told f b.map.measures)
        → AnswersAfter false v.rest told' a × OnOk a (Joins b.map.measures (told_values v.values.values) b'.map.measures)
        → ComesTo r left n told' f b'.map.measures a
    by_values (Ok false) v x = v.received told' b'.map.measures x.0.1.1 x.1
    by_values (Ok true) v x = absurd (let no = x.0.1.0 in cc)
    by_values (Err OutOfMemory) v x = λ no. absurd (no refl)
    by_values (Err Failed) v x = absurd (x.0.0 refl)

    by_report : (a : Result Bool LinkFault) → IsReportNext r left told → Joins f (reply_measures r) b.map.measures
        → AnswersAfter true left told' a × (b' ≡ b) → ComesTo r left n told' f b'.map.measures a
    by_report (Ok false) q joins x = absurd (let no = x.0.1.0 in cc)
    by_report (Ok true) q joins x = λ no. (
      sym (ap answer_to q.ending_is),
      x.0.1.1,
      subst (λ (c : CoordinatorMap). Joins f (reply_measures r) c.map.measures) (sym x.1) joins,
    )
    by_report (Err OutOfMemory) q joins x = λ no. absurd (no refl)
    by_report (Err Failed) q joins x = absurd (x.0.0 refl)

    at_end : Joins f (reply_measures r) b.map.measures
        → IsReportNext r left told ⊎ (IsSpoiledNext bounds cut worker r left told ⊎ IsMissingNext r left n told)
        → ComesTo r left n told' f b'.map.measures result
    at_end joins (inl q) = by_report result q joins (reads.report q.report _ left q.told_is q.spells q.well)
    at_end joins (inr (inl q)) =
        let x = reads.failing q.bytes left q.told_is q.fails dense in
        fails r left n told' f b b' result (ap answer_to q.ending_is) joins x.0 x.1
    at_end joins (inr (inr q)) =
        elim q.cause [
          | inl many ↦ absurd (omega arith)
          | inr none ↦
              let x = reads.ended (q.told_is ∙ ap (λ (l : List (List ℕ)). Some l) none) in
              fails r left n told' f b b' result (ap answer_to q.ending_is) joins
              (subst (λ (l : List (List ℕ)). FailsAfter l told' result) (sym none) x.0) x.1
        ]

    by_next : IsValuesNext bounds cut worker r left n told f b.map.measures ⊎ IsEndNext bounds cut worker r left n told f b.map.measures
        → ComesTo r left n told' f b'.map.measures result
    by_next (inl v) = by_values result v (reads.values v.values _ v.rest v.told_is v.spells dense v.part)
    by_next (inr q) = at_end q.joins q.end

-- as many frames of values were received as a reply has at most
pub received_full : (bounds : BoundList) (cut : CutValue) (worker : ℕ) (r : Reply) (left : List (List ℕ)) (n : ℕ)
    (told : Option (List (List ℕ)))
    (f g : List MeasureValue) → n ≡ 65536 → IsReply bounds cut worker r left → HasReceived r left n told f g
    → ReceivesReply r left f g told (Err Failed)
received_full bounds cut worker r left n told f g all is h = λ no. full h.front h.rest r.ending refl is.ends h.parts h.count h.told_is
    h.joins
  where
    full : (front rest : List Values) (e : Ending) → r.ending ≡ e → EndsSo bounds cut worker (length r.values) left e
        → r.values ≡ front ++ rest → length front ≡ n → told ≡ Some (told_reply rest r.ending left) → Joins f (values_measures front) g
        → (Err Failed ≡ answer_to r.ending) × (told ≡ Some left) × Joins f (reply_measures r) g
    full front rest (reported q) same ends parts count told_is joins =
        let few = ends.0 in
        absurd (omega (arith, ap length parts, length-append front rest))
    full front rest (spoiled bytes) same ends parts count told_is joins =
        let few = ends.0 in
        absurd (omega (arith, ap length parts, length-append front rest))
    full front [] missing same ends parts count told_is joins = (
      sym (ap answer_to same),
      subst (λ (e : Ending). told ≡ Some (spelled_ending e ++ left)) same told_is,
      subst (λ (vs : List Values). Joins f (values_measures vs) g) (sym (parts ∙ append-nil front)) joins,
    )
    full front (v ∷ vs) missing same ends parts count told_is joins =
        let more : n < length r.values = omega (arith, ap length parts, length-append front (v ∷ vs)) in
        absurd (elim ends [ inl many ↦ omega arith | inr none ↦ let few = none.0 in omega arith ])
