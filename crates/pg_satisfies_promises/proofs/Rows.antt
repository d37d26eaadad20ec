-- The alternatives of a form.
use Rattle.std.proofs.Common.{◌≡◌, ℕ, Bool, ◌+◌, ◌<◌, ◌≤◌, List, [], ◌∷◌, ◌++◌, map, length, get_or, take, arith, refl, sym, ap, subst, ◌∙◌}
use Rattle.std.specs.Prelude.{All}
use Rattle.std.specs.declared.vec.Vec.{Vec}
use Rattle.std.specs.declared.alloc.Global.{Global}
use Rattle.std.proofs.lemmas.List.{length-map, length_push}
use Rattle.std.proofs.lemmas.List.Elements.{All-weaker, All-more, All-nil, All-cons, All-head, All-push, All-append, All-map, All-get_or}
use Rattle.pg_ltl.specs.declared.normal.NormalNode.{NormalNode}
use Rattle.pg_ltl.specs.declared.normal.NormalNode.TheVariants as nodes
use Rattle.pg_ltl.specs.NormalForms.{NormalForm, both, either, Holds}
use Rattle.pg_ltl.specs.Mirrors.Nodes.{normal_at, normal_reach, normal_node_in, AreNormalNodes}
use Rattle.pg_ltl.specs.Mirrors.Pairs.{Extends}
use Rattle.pg_ltl.proofs.Nodes.{extends_twice}
use Rattle.pg_means_look.specs.Mirrors.Choices.{part, AreForms}
use Rattle.pg_means_look.specs.Mirrors.Tables.{row_at}
use Rattle.pg_means_look.proofs.Steps.{rows_push}
use Rattle.pg_satisfies_promises.specs.Mirrors.Promises.{IsStronger}
use Rattle.pg_satisfies_promises.specs.declared.frame.OperandFrame.{OperandFrame}
use Rattle.pg_satisfies_promises.specs.declared.frame.OperandFrame.TheVariants as frames
use Rattle.pg_satisfies_promises.specs.Mirrors.Growing.{AreWithin, AddsNode}
use Rattle.pg_satisfies_promises.specs.Mirrors.Alternatives.{NoneHolds, AreStronger, IsSplit, AreSplit, AreRowsWithin, framed_node, framed, left_reach}
use Rattle.pg_satisfies_promises.specs.Mirrors.Alternatives.{NoFrameHolds, AreFramesStronger, AddsFrames, AddsProducts, AddsAlternatives, AddsAllAlternatives}
use Rattle.pg_satisfies_promises.proofs.NodeLists.{All-left, All-right, All-last, All-less, extends_itself, forms_before, within_kept, form_added}

-- ---- frames

pub framed_reach : (frame : OperandFrame) (operand n : ℕ) → left_reach frame ≤ n → operand < n → normal_reach (framed_node frame operand) ≤ n
framed_reach (frames.Both left) operand n le lt = omega arith
framed_reach frames.Next operand n le lt = omega arith
framed_reach (frames.Until left) operand n le lt = omega arith

left_within : (frame : OperandFrame) (operand place n : ℕ) → normal_reach (framed_node frame operand) ≤ place → place ≤ n → left_reach frame ≤ n
left_within (frames.Both left) operand place n reach le = omega arith
left_within frames.Next operand place n reach le = omega arith
left_within (frames.Until left) operand place n reach le = omega arith

framed_is : (forms : List NormalForm) (frame : OperandFrame) (operand : ℕ)
    → normal_at forms (framed_node frame operand) ≡ framed forms frame (part forms operand)
framed_is forms (frames.Both left) operand = refl
framed_is forms frames.Next operand = refl
framed_is forms (frames.Until left) operand = refl

-- no frame so far
pub frames_none : (list : List NormalNode) (places operands : List ℕ) (frame : OperandFrame) → AreNormalNodes list → AreWithin list places
    → AddsFrames list list places places frame (take 0 operands)
frames_none list places operands frame ordered within = record {
  grown = extends_itself list;
  ordered = ordered;
  within = within;
  none = λ forms are word t none. (none, All-nil (λ operand. ¬ Holds word (framed forms frame (part forms operand)) t));
  stronger = λ forms are weak places_strong frames_strong. places_strong;
}

-- one frame more
pub frames_more : (old mid new : List NormalNode) (before now after operands : List ℕ) (frame : OperandFrame) (i place : ℕ) (node : NormalNode)
    → i < length operands → AddsFrames old mid before now frame (take i operands) → node ≡ framed_node frame (get_or operands i 0)
    → AddsNode mid new node place → after ≡ now ++ place ∷ [] → AddsFrames old new before after frame (take (i + 1) operands)
frames_more old mid new before now after operands frame i place node lt so is adds e =
    let operand : ℕ = get_or operands i 0 in
    record {
      grown = extends_twice old mid new so.grown adds.grown;
      ordered = adds.ordered;
      within =
          subst (AreWithin new) (sym e)
          (All-push (λ p. p < length new) now place (within_kept mid new adds.grown now so.within) adds.below);
      none = λ forms are word t none.
          let pushed = subst (NoneHolds word forms t) e none in
          let here : ¬ Holds word (framed forms frame (part forms operand)) t =
          subst (λ (f : NormalForm). ¬ Holds word f t)
          (form_added mid new node place adds forms are ∙ ap (normal_at forms) is ∙ framed_is forms frame operand)
          (All-last (λ p. ¬ Holds word (part forms p) t) now place pushed) in
          let there = so.none forms (forms_before mid new adds.grown forms are) word t
          (All-left (λ p. ¬ Holds word (part forms p) t) now (place ∷ []) pushed) in
          (there.0, All-more (λ p. ¬ Holds word (framed forms frame (part forms p)) t) operands i 0 lt there.1 here);
      stronger = λ forms are weak places_strong frames_strong.
          let split = All-less (λ p. IsStronger (framed forms frame (part forms p)) weak) operands i 0 lt frames_strong in
          let here : IsStronger (part forms place) weak =
          subst (λ (f : NormalForm). IsStronger f weak)
          (sym (form_added mid new node place adds forms are ∙ ap (normal_at forms) is ∙ framed_is forms frame operand)) split.1 in
          subst (AreStronger forms weak) (sym e)
          (All-push (λ p. IsStronger (part forms p) weak) now place
          (so.stronger forms (forms_before mid new adds.grown forms are) weak places_strong split.0) here);
    }

-- ---- products

pub products_none : (list : List NormalNode) (places firsts seconds : List ℕ) → places ≡ [] → AreNormalNodes list
    → AddsProducts list list places (take 0 firsts) seconds
products_none list places firsts seconds e ordered = record {
  grown = extends_itself list;
  ordered = ordered;
  within = subst (AreWithin list) (sym e) (All-nil (λ p. p < length list));
  none = λ forms are word t none. All-nil (λ first. NoFrameHolds word forms t (frames.Both first) seconds);
  stronger = λ forms are weak strong. subst (AreStronger forms weak) (sym e) (All-nil (λ p. IsStronger (part forms p) weak));
}

pub products_more : (old mid new : List NormalNode) (now after firsts seconds : List ℕ) (i : ℕ) → i < length firsts
    → AddsProducts old mid now (take i firsts) seconds → AddsFrames mid new now after (frames.Both (get_or firsts i 0)) seconds
    → AddsProducts old new after (take (i + 1) firsts) seconds
products_more old mid new now after firsts seconds i lt so adds = record {
  grown = extends_twice old mid new so.grown adds.grown;
  ordered = adds.ordered;
  within = adds.within;
  none = λ forms are word t none.
      let here = adds.none forms are word t none in
      All-more (λ first. NoFrameHolds word forms t (frames.Both first) seconds) firsts i 0 lt
      (so.none forms (forms_before mid new adds.grown forms are) word t here.0) here.1;
  stronger = λ forms are weak strong.
      let split = All-less (λ first. AreFramesStronger forms weak (frames.Both first) seconds) firsts i 0 lt strong in
      adds.stronger forms are weak (so.stronger forms (forms_before mid new adds.grown forms are) weak split.0) split.1;
}

-- ---- alternatives

-- where no frame around an alternative holds, the frame around the whole doesn't
refuted : (forms : List NormalForm) (frame : OperandFrame) (operand : ℕ) (alternatives : List ℕ) → IsSplit forms operand alternatives
    → (word : ℕ → ℕ → Bool) (t : ℕ) → NoFrameHolds word forms t frame alternatives → ¬ Holds word (framed forms frame (part forms operand)) t
refuted forms (frames.Both left) operand alternatives split word t none holds =
    split.holds word t holds.1
    (All-weaker (λ p. ¬ (Holds word (part forms left) t × Holds word (part forms p) t)) (λ p. ¬ Holds word (part forms p) t)
    (λ p not h. not (holds.0, h)) alternatives none)
refuted forms frames.Next operand alternatives split word t none holds = split.holds word (t + 1) holds none
refuted forms (frames.Until left) operand alternatives split word t none holds =
    holds (λ s le lasts h. split.holds word s h
    (All-weaker (λ p. ¬ Holds word (framed forms (frames.Until left) (part forms p)) t) (λ p. ¬ Holds word (part forms p) s)
    (λ p not now. not (λ never. never s le lasts now)) alternatives none))

-- around a stronger form, a frame is stronger
framed_stronger : (forms : List NormalForm) (frame : OperandFrame) (strong weak : NormalForm) → IsStronger strong weak
    → IsStronger (framed forms frame strong) (framed forms frame weak)
framed_stronger forms (frames.Both left) strong weak implies word t h = (h.0, implies word t h.1)
framed_stronger forms frames.Next strong weak implies word t h = implies word (t + 1) h
framed_stronger forms (frames.Until left) strong weak implies word t h = λ never. h (λ s le lasts now. never s le lasts (implies word s now))

-- the form of a node that was there before
form_before : (old new : List NormalNode) (place : ℕ) (node : NormalNode) → Extends old new → place < length old
    → normal_node_in old place ≡ node → (forms : List NormalForm) → AreForms new forms → part forms place ≡ normal_at forms node
form_before old new place node grown lt is forms are = forms_before old new grown forms are place lt ∙ ap (normal_at forms) is

pub node_reach : (list : List NormalNode) (place : ℕ) (node : NormalNode) → AreNormalNodes list → place < length list
    → normal_node_in list place ≡ node → normal_reach node ≤ place
node_reach list place node ordered lt is = subst (λ (n : NormalNode). normal_reach n ≤ place) is (ordered place lt)

pub frame_reach : (list : List NormalNode) (place operand : ℕ) (frame : OperandFrame) → AreNormalNodes list → place < length list
    → normal_node_in list place ≡ framed_node frame operand → left_reach frame ≤ length list
frame_reach list place operand frame ordered lt is =
    let reach : normal_reach (framed_node frame operand) ≤ place = node_reach list place (framed_node frame operand) ordered lt is in
    left_within frame operand place (length list) reach (omega (arith, lt))

pub alternatives_alone : (list : List NormalNode) (rows : List (Vec ℕ Global)) (place : ℕ) (alternatives : List ℕ) → AreNormalNodes list
    → place < length list → alternatives ≡ place ∷ [] → AddsAlternatives list list rows place alternatives
alternatives_alone list rows place alternatives ordered lt e = record {
  grown = extends_itself list;
  ordered = ordered;
  within = subst (AreWithin list) (sym e) (All-cons (λ p. p < length list) place [] lt (All-nil (λ p. p < length list)));
  split = λ forms are rows_split. record {
    holds = λ word t holds none. All-head (λ p. ¬ Holds word (part forms p) t) place [] (subst (NoneHolds word forms t) e none) holds;
    stronger = (
        let P : ℕ → Type 0 = λ p. IsStronger (part forms p) (part forms place) in
        subst (AreStronger forms (part forms place)) (sym e) (All-cons P place [] (λ word t holds. holds) (All-nil P))
        );
  };
}

pub alternatives_framed : (old new : List NormalNode) (rows : List (Vec ℕ Global)) (place operand : ℕ) (frame : OperandFrame)
    (operands alternatives : List ℕ) → operands ≡ row_at rows operand → operand < length rows → place < length old
    → normal_node_in old place ≡ framed_node frame operand → AddsFrames old new [] alternatives frame operands
    → AddsAlternatives old new rows place alternatives
alternatives_framed old new rows place operand frame operands alternatives e below lt is adds = record {
  grown = adds.grown;
  ordered = adds.ordered;
  within = adds.within;
  split = λ forms are rows_split.
      let operand_split : IsSplit forms operand operands = subst (IsSplit forms operand) (sym e) (rows_split operand below) in
      let whole : NormalForm = framed forms frame (part forms operand) in
      let same : part forms place ≡ whole =
      form_before old new place (framed_node frame operand) adds.grown lt is forms are ∙ framed_is forms frame operand in
      record {
        holds = λ word t holds none.
            refuted forms frame operand operands operand_split word t (adds.none forms are word t none).1
            (subst (λ (f : NormalForm). Holds word f t) same holds);
        stronger =
            subst (λ (f : NormalForm). AreStronger forms f alternatives) (sym same)
            (adds.stronger forms are whole (All-nil (λ p. IsStronger (part forms p) whole))
            (All-weaker (λ p. IsStronger (part forms p) (part forms operand)) (λ p. IsStronger (framed forms frame (part forms p)) whole)
            (λ p implies. framed_stronger forms frame (part forms p) (part forms operand) implies) operands operand_split.stronger));
      };
}

pub alternatives_both : (old new : List NormalNode) (rows : List (Vec ℕ Global)) (place left right : ℕ) (firsts seconds alternatives : List ℕ)
    → firsts ≡ row_at rows left → seconds ≡ row_at rows right → left < length rows → right < length rows → place < length old
    → normal_node_in old place ≡ nodes.Both left right → AddsProducts old new alternatives firsts seconds
    → AddsAlternatives old new rows place alternatives
alternatives_both old new rows place left right firsts seconds alternatives e f left_below right_below lt is adds = record {
  grown = adds.grown;
  ordered = adds.ordered;
  within = adds.within;
  split = λ forms are rows_split.
      let left_split : IsSplit forms left firsts = subst (IsSplit forms left) (sym e) (rows_split left left_below) in
      let right_split : IsSplit forms right seconds = subst (IsSplit forms right) (sym f) (rows_split right right_below) in
      let whole : NormalForm = both (part forms left) (part forms right) in
      let same : part forms place ≡ whole = form_before old new place (nodes.Both left right) adds.grown lt is forms are in
      record {
        holds = λ word t holds none.
            let h : Holds word whole t = subst (λ (g : NormalForm). Holds word g t) same holds in
            left_split.holds word t h.0
            (All-weaker (λ first. NoFrameHolds word forms t (frames.Both first) seconds) (λ first. ¬ Holds word (part forms first) t)
            (λ first not first_holds. refuted forms (frames.Both first) right seconds right_split word t not (first_holds, h.1)) firsts
            (adds.none forms are word t none));
        stronger =
            subst (λ (g : NormalForm). AreStronger forms g alternatives) (sym same)
            (adds.stronger forms are whole
            (All-weaker (λ first. IsStronger (part forms first) (part forms left))
            (λ first. AreFramesStronger forms whole (frames.Both first) seconds)
            (λ first left_implied. All-weaker (λ second. IsStronger (part forms second) (part forms right))
            (λ second. IsStronger (both (part forms first) (part forms second)) whole)
            (λ second right_implied word t h. (left_implied word t h.0, right_implied word t h.1)) seconds right_split.stronger) firsts
            left_split.stronger));
      };
}

-- ---- rows of alternatives

abbrev items : Vec ℕ Global → List ℕ
items row = row.items

pub row_within : (list : List NormalNode) (rows : List (Vec ℕ Global)) (place : ℕ) → place < length rows → AreRowsWithin list rows
    → AreWithin list (row_at rows place)
row_within list rows place lt within =
    All-get_or (AreWithin list) (map items rows) place [] (let l = length-map rows items in omega (arith, l))
    (All-map (AreWithin list) items rows within)

pub alternatives_either : (list : List NormalNode) (rows : List (Vec ℕ Global)) (place left right : ℕ) (alternatives : List ℕ)
    → left < length rows → right < length rows → place < length list → normal_node_in list place ≡ nodes.Either left right → AreNormalNodes list
    → AreRowsWithin list rows → alternatives ≡ row_at rows left ++ row_at rows right → AddsAlternatives list list rows place alternatives
alternatives_either list rows place left right alternatives left_below right_below lt is ordered within e =
    let lefts : List ℕ = row_at rows left in
    let rights : List ℕ = row_at rows right in
    record {
      grown = extends_itself list;
      ordered = ordered;
      within =
          subst (AreWithin list) (sym e)
          (All-append (λ p. p < length list) lefts rights (row_within list rows left left_below within) (row_within list rows right right_below within));
      split = λ forms are rows_split.
          let left_split : IsSplit forms left lefts = rows_split left left_below in
          let right_split : IsSplit forms right rights = rows_split right right_below in
          let whole : NormalForm = either (part forms left) (part forms right) in
          let same : part forms place ≡ whole = form_before list list place (nodes.Either left right) (extends_itself list) lt is forms are in
          record {
            holds = λ word t holds none.
                let P : ℕ → Type 0 = λ p. ¬ Holds word (part forms p) t in
                let all = subst (NoneHolds word forms t) e none in
                let h : Holds word whole t = subst (λ (x : NormalForm). Holds word x t) same holds in
                h (
                  λ l. left_split.holds word t l (All-left P lefts rights all),
                  λ r. right_split.holds word t r (All-right P lefts rights all),
                );
            stronger = (
                let P : ℕ → Type 0 = λ p. IsStronger (part forms p) whole in
                let left_strong : All P lefts =
                All-weaker (λ p. IsStronger (part forms p) (part forms left)) P (λ p implies word t h neither. neither.0 (implies word t h)) lefts
                left_split.stronger in
                let right_strong : All P rights =
                All-weaker (λ p. IsStronger (part forms p) (part forms right)) P (λ p implies word t h neither. neither.1 (implies word t h)) rights
                right_split.stronger in
                subst (λ (x : NormalForm). AreStronger forms x alternatives) (sym same)
                (subst (AreStronger forms whole) (sym e) (All-append P lefts rights left_strong right_strong))
                );
          };
    }

pub rows_kept : (old new : List NormalNode) (rows : List (Vec ℕ Global)) → Extends old new → AreRowsWithin old rows → AreRowsWithin new rows
rows_kept old new rows grown =
    All-weaker (λ (row : Vec ℕ Global). AreWithin old row.items) (λ (row : Vec ℕ Global). AreWithin new row.items)
    (λ row within. within_kept old new grown row.items within) rows

-- the rows have the alternatives of the first forms
pub record AreFirstRows (old new : List NormalNode) (rows : List (Vec ℕ Global)) (count : ℕ) : Type 0 where
  pub grown : Extends old new
  pub ordered : AreNormalNodes new
  pub long : length rows ≡ count
  pub within : AreRowsWithin new rows
  pub split : (forms : List NormalForm) → AreForms new forms → AreSplit forms rows

pub rows_none : (list : List NormalNode) (rows : List (Vec ℕ Global)) → rows ≡ [] → AreNormalNodes list → AreFirstRows list list rows 0
rows_none list rows e ordered = record {
  grown = extends_itself list;
  ordered = ordered;
  long = ap length e;
  within = subst (AreRowsWithin list) (sym e) (All-nil (λ (row : Vec ℕ Global). AreWithin list row.items));
  split = λ forms are place lt. absurd (let none = ap length e in omega (arith, none, lt));
}

pub rows_more : (old mid new : List NormalNode) (rows longer : List (Vec ℕ Global)) (row : Vec ℕ Global) (count : ℕ)
    → AreFirstRows old mid rows count → AddsAlternatives mid new rows count row.items → longer ≡ rows ++ row ∷ []
    → AreFirstRows old new longer (count + 1)
rows_more old mid new rows longer row count so adds e = record {
  grown = extends_twice old mid new so.grown adds.grown;
  ordered = adds.ordered;
  long = (let l = ap length e in let k = length_push rows row in let n = so.long in omega (arith, l, k, n));
  within =
      subst (AreRowsWithin new) (sym e)
      (All-push (λ (r : Vec ℕ Global). AreWithin new r.items) rows row (rows_kept mid new rows adds.grown so.within) adds.within);
  split = λ forms are.
      let before = so.split forms (forms_before mid new adds.grown forms are) in
      rows_push rows (IsSplit forms) row longer e before
      (subst (λ (n : ℕ). IsSplit forms n row.items) (sym so.long) (adds.split forms are before));
}

pub all_alternatives : (old new : List NormalNode) (rows : List (Vec ℕ Global)) (count root : ℕ) (list : List ℕ)
    → AreFirstRows old new rows count → root < length rows → list ≡ row_at rows root → AddsAllAlternatives old new root list
all_alternatives old new rows count root list so lt e = record {
  grown = so.grown;
  ordered = so.ordered;
  within = subst (AreWithin new) (sym e) (row_within new rows root lt so.within);
  split = λ forms are. subst (IsSplit forms root) (sym e) (so.split forms are root lt);
}
