-- A text that is read spells what is read, and what a text spells is read.
use Rattle.pg_aiger_reader.proofs.Common.{◌≡◌, ℕ, ◌+◌, ◌≤◌, List, [], ◌++◌, take, drop, map}
use Rattle.pg_aiger_reader.proofs.Common.{length, Option, Some, None, refl, sym, ap, subst, ◌∙◌, inl, inr, ◌>>=◌, bytes_eq, codes}
use Rattle.pg_aiger_reader.proofs.Common.{true, some, some_is, none_is_some, take-append-drop, bytes_eq-Decides}
use Rattle.pg_aiger_reader.proofs.Common.{header_at, sections_at, many_at, input_at, latch_at, gate_at, latches_at, symbols_at, text_at, length-map}
use Rattle.pg_aiger_reader.proofs.Common.{Err, GivesAs, arith, fault_at, first_named, reset_fault, text_fault}
use Rattle.pg_aiger_reader.proofs.Common.{Each, chosen, none, rules, behind_line, newline_at, take_at, drop_at}
use Rattle.pg_aiger_reader.proofs.Lines.{is_plain, newline_found, newline_only, newline_of, line_made}
use Rattle.std.specs.Prelude.{unwrap_or}
use Rattle.pg_aiger_reader.proofs.Many.{many_found, many_only}
use Rattle.pg_aiger_reader.proofs.ItemLaws.{input_found, input_only, latch_found, latch_only, gate_found, gate_only}
use Rattle.pg_aiger_reader.proofs.Latches.{latches_found, latches_only, reset_found, reset_only, resets_none}
use Rattle.pg_aiger_reader.proofs.SymbolLaws.{symbols_found, all_symbols_only}
use Rattle.pg_aiger_reader.proofs.HeaderLaws.{IsHeader, IsRefusedHeader, fault_found, fault_only, header_found, header_only, header_unnamed}
use Rattle.pg_aiger.specs.declared.gate.Latch.{Latch}
use Rattle.pg_aiger_reader.specs.declared.header.Header.{Header}
use Rattle.pg_aiger_reader.specs.declared.item.AigerFormat.{AigerFormat}
use Rattle.pg_aiger_reader.specs.declared.item.AigerFormat.TheVariants.{Ascii, Binary}
use Rattle.pg_aiger_reader.specs.declared.item.LatchLine.{LatchLine}
use Rattle.pg_aiger_reader.specs.declared.fault.ReaderFault.{ReaderFault}
use Rattle.pg_aiger_reader.specs.declared.fault.ReaderFault.TheVariants as faults
use Rattle.pg_aiger_reader.specs.declared.reader.Parts as declared
use Rattle.pg_aiger.specs.Circuits.{Circuit}
use Rattle.pg_aiger.specs.CircuitText.{Kind, input, latch, output, Symbol, count_of}
use Rattle.pg_aiger_reader.specs.Texts.{HasLine, AreItems, IsInput, IsOutput, IsLatch, IsGate, HasBody, IsBody, IsRead, SpellsNone, form_text, latch_in}
use Rattle.pg_aiger_reader.specs.Faults.{HasHeaderFault, HasReset, IsNamedFault, Refuses}
use Rattle.pg_aiger_reader.specs.Views.{circuit_in, symbols_in}
use Rattle.pg_aiger_reader.specs.Mirrors.Steps.{turned}
use Rattle.pg_aiger_reader.specs.Mirrors.Headers.{head}
use Rattle.pg_aiger_reader.specs.Mirrors.Sections.{Parts, parts_of}
use Rattle.pg_aiger_reader.specs.Mirrors.Symbols.{count_in}
use Rattle.pg_aiger_reader.specs.Mirrors.Reading.{behind_verdict, circuit_of, parts_in}

-- ---- a first line `REALIZABLE` or `UNREALIZABLE`

-- a front that is there
front_found : (n : ℕ) (line bytes : List ℕ) → bytes_eq (take n bytes) line ≡ true → bytes ≡ line ++ drop n bytes
front_found n line bytes h =
    sym (take-append-drop n bytes) ∙ ap (λ (t : List ℕ). t ++ drop n bytes) ((bytes_eq-Decides (take n bytes) line).0 h)

behind_found : (line bytes rest : List ℕ) → Each is_plain line → behind_line line bytes ≡ Some rest → HasLine bytes line rest
unfolding behind_line
behind_found line bytes rest plain e =
    let n = length line in
    elim (chosen (bytes_eq (take n bytes) line) (newline_at (drop n bytes)) none (some rest) e) [
      | inl w ↦ line_made line bytes (drop n bytes) rest plain (front_found n line bytes w.0) (newline_found (drop n bytes) rest w.1)
      | inr w ↦ absurd (none_is_some rest w.1)
    ]

behind_only : (line bytes rest : List ℕ) → HasLine bytes line rest → behind_line line bytes ≡ Some rest
unfolding behind_line
behind_only line bytes rest has =
    let (behind, parts, newline) = newline_of bytes line rest has in
    let same : bytes_eq line line ≡ true = (bytes_eq-Decides line line).1 refl in
    rw (parts, take_at line behind (length line) refl, same, drop_at line behind (length line) refl) (newline_only behind rest newline)

abbrev realizable : List ℕ
realizable = codes "REALIZABLE"

abbrev unrealizable : List ℕ
unrealizable = codes "UNREALIZABLE"

verdict_found : (bytes : List ℕ) → HasBody bytes (behind_verdict bytes)
verdict_found bytes = of_first (behind_line realizable bytes) refl
  where
    of_second : (read : Option (List ℕ)) → behind_line unrealizable bytes ≡ read → HasBody bytes (unwrap_or read bytes)
    of_second None same = inl refl
    of_second (Some rest) same = inr (inr (behind_found unrealizable bytes rest (search rules) same))

    of_first : (read : Option (List ℕ)) → behind_line realizable bytes ≡ read
        → HasBody bytes (unwrap_or read (unwrap_or (behind_line unrealizable bytes) bytes))
    of_first None same = of_second (behind_line unrealizable bytes) refl
    of_first (Some rest) same = inr (inl (behind_found realizable bytes rest (search rules) same))

-- a line that begins with another letter
not_behind : (bytes rest : List ℕ) → HasLine bytes unrealizable rest → behind_line realizable bytes ≡ None
unfolding behind_line
not_behind bytes rest has = rw (newline_of bytes unrealizable rest has).1 refl

verdict_only : (form : AigerFormat) (text bytes : List ℕ) → HasBody bytes (form_text form ++ text) → behind_verdict bytes ≡ form_text form ++ text
unfolding behind_line
verdict_only Ascii text bytes (inl e) = rw e refl
verdict_only Binary text bytes (inl e) = rw e refl
verdict_only form text bytes (inr (inl has)) =
    ap (λ read. unwrap_or read (unwrap_or (behind_line unrealizable bytes) bytes)) (behind_only realizable bytes (form_text form ++ text) has)
verdict_only form text bytes (inr (inr has)) =
    ap (λ read. unwrap_or read (unwrap_or (behind_line unrealizable bytes) bytes)) (not_behind bytes (form_text form ++ text) has)
    ∙ ap (λ read. unwrap_or read bytes) (behind_only unrealizable bytes (form_text form ++ text) has)

-- a body that is the same
same_body : (bytes body other : List ℕ) → body ≡ other → HasBody bytes body → HasBody bytes other
same_body bytes body other same whole = rw (sym same) whole

-- ---- sections

record AreSections (h : Header) (bytes : List ℕ) (parts : Parts) (rest : List ℕ) : Type 0 where
  behind_inputs : List ℕ
  behind_latches : List ℕ
  behind_outputs : List ℕ
  inputs : AreItems (IsInput h.form) 1 bytes parts.inputs behind_inputs
  count_inputs : length parts.inputs ≡ h.inputs
  latches : AreItems (IsLatch h.form) (1 + h.inputs) behind_inputs parts.lines behind_latches
  count_latches : length parts.lines ≡ h.latches
  outputs : AreItems IsOutput 1 behind_latches parts.outputs behind_outputs
  count_outputs : length parts.outputs ≡ h.outputs
  gates : AreItems (IsGate h.form) (1 + h.inputs + h.latches) behind_outputs parts.gates rest
  count_gates : length parts.gates ≡ h.gates

-- a step that went well
bound : {A B : Type 0} (read : Option A) (f : A → Option B) (y : B) → (read >>= f) ≡ some y → (x : A) × (read ≡ some x) × (f x ≡ some y)
bound None f y e = absurd (none_is_some y e)
bound (Some x) f y e = (x, refl, e)

sections_found : (h : Header) (bytes : List ℕ) (x : Parts × List ℕ) → sections_at h bytes ≡ Some x → AreSections h bytes x.0 x.1
unfolding sections_at
sections_found h bytes x e =
    let (i, is_i, e1) = bound (many_at (input_at h.form) h.inputs 1 bytes) _ x e in
    let (l, is_l, e2) = bound (many_at (latch_at h.form) h.latches (1 + h.inputs) i.1) _ x e1 in
    let (o, is_o, e3) = bound (many_at (input_at Ascii) h.outputs 1 l.1) _ x e2 in
    let (g, is_g, e4) = bound (many_at (gate_at h.form) h.gates (1 + h.inputs + h.latches) o.1) _ x e3 in
    let inputs = many_found (IsInput h.form) (input_at h.form) (input_found h.form) h.inputs 1 bytes i is_i in
    let latches = many_found (IsLatch h.form) (latch_at h.form) (latch_found h.form) h.latches (1 + h.inputs) i.1 l is_l in
    let outputs = many_found IsOutput (input_at Ascii) (input_found Ascii) h.outputs 1 l.1 o is_o in
    let gates = many_found (IsGate h.form) (gate_at h.form) (gate_found h.form) h.gates (1 + h.inputs + h.latches) o.1 g is_g in
    subst (λ (y : Parts × List ℕ). AreSections h bytes y.0 y.1) (some_is (parts_of i.0 l.0 o.0 g.0, g.1) x e4)
    (record {
      behind_inputs = i.1;
      behind_latches = l.1;
      behind_outputs = o.1;
      inputs = inputs.1;
      count_inputs = inputs.0;
      latches = latches.1;
      count_latches = latches.0;
      outputs = outputs.1;
      count_outputs = outputs.0;
      gates = gates.1;
      count_gates = gates.0;
    })

-- the header of a text
head_of : AigerFormat → Circuit → Header
head_of form c = head form c.greatest (length c.inputs) (length c.latches) (length c.outputs) (length c.gates)

parts_in_text : Circuit → List LatchLine → Parts
parts_in_text c lines = parts_of c.inputs lines c.outputs c.gates

sections_only : (form : AigerFormat) (bytes : List ℕ) (c : Circuit) (lines : List LatchLine) (rest : List ℕ) (t : IsBody form bytes c lines rest)
    → sections_at (head_of form c) t.behind_header ≡ Some (parts_in_text c lines, rest)
unfolding sections_at head_of parts_in_text
sections_only form bytes c lines rest t =
    let count : length c.latches ≡ length lines = ap length t.same ∙ length-map lines latch_in in
    let inputs = many_only (IsInput form) (input_at form) (input_only form) c.inputs 1 t.behind_header t.behind_inputs t.inputs in
    let latches = many_only (IsLatch form) (latch_at form) (latch_only form) lines (1 + length c.inputs) t.behind_inputs t.behind_latches t.latches in
    let outputs = many_only IsOutput (input_at Ascii) (input_only Ascii) c.outputs 1 t.behind_latches t.behind_outputs t.outputs in
    let gates = many_only (IsGate form) (gate_at form) (gate_only form) c.gates (1 + length c.inputs + length c.latches) t.behind_outputs rest t.gates in
    rw (inputs, ap (λ n. many_at (latch_at form) n (1 + length c.inputs) t.behind_inputs) count ∙ latches, outputs, gates) refl

header_of_body : (form : AigerFormat) (bytes : List ℕ) (c : Circuit) (lines : List LatchLine) (rest : List ℕ) (t : IsBody form bytes c lines rest)
    → IsHeader bytes (head_of form c) t.behind_header
unfolding head_of
header_of_body form bytes c lines rest t = record {
  text = t.text;
  zeros = t.zeros;
  begins = t.begins;
  line = t.header;
  few_zeros = t.few_zeros;
  zero = t.zero;
  variables = t.variables;
  few_variables = t.few_variables;
  few_outputs = t.few_outputs;
}

-- ---- all of a text

counts_of : (c : Circuit) (h : Header) → length c.inputs ≡ h.inputs → length c.latches ≡ h.latches → length c.outputs ≡ h.outputs
    → (k : Kind) → count_of c k ≡ count_in h k
counts_of c h i l o input = i
counts_of c h i l o latch = l
counts_of c h i l o output = o

abbrev pub Read : Type 0
Read = Circuit × List Symbol

body_made : (bytes : List ℕ) (h : Header) (behind_header : List ℕ) (parts : Parts) (behind_gates : List ℕ) → IsHeader bytes h behind_header
    → AreSections h behind_header parts behind_gates
    → IsBody h.form bytes (circuit_of h.greatest parts (map latch_in parts.lines)) parts.lines behind_gates
body_made bytes h behind_header parts behind_gates is are =
    let count : length (map latch_in parts.lines) ≡ h.latches = length-map parts.lines latch_in ∙ are.count_latches in
    record {
      text = is.text;
      zeros = is.zeros;
      behind_header = behind_header;
      behind_inputs = are.behind_inputs;
      behind_latches = are.behind_latches;
      behind_outputs = are.behind_outputs;
      begins = is.begins;
      header = rw (are.count_inputs, count, are.count_outputs, are.count_gates) is.line;
      few_zeros = is.few_zeros;
      zero = is.zero;
      variables = rw (are.count_inputs, count, are.count_gates) is.variables;
      inputs = are.inputs;
      latches = rw are.count_inputs are.latches;
      same = refl;
      outputs = are.outputs;
      gates = rw (are.count_inputs, count) are.gates;
      few_variables = is.few_variables;
      few_outputs = subst (λ n. n ≤ 16777216) (sym are.count_outputs) is.few_outputs;
    }

text_made : (bytes : List ℕ) (h : Header) (behind_header : List ℕ) (parts : Parts) (behind_gates : List ℕ) (latches : List Latch)
    (symbols : List Symbol) → IsHeader (behind_verdict bytes) h behind_header → AreSections h behind_header parts behind_gates
    → latches_at parts.lines ≡ Some latches → symbols_at h (length behind_gates + 1) behind_gates ≡ Some symbols
    → IsRead bytes (circuit_of h.greatest parts latches) symbols
text_made bytes h behind_header parts behind_gates latches symbols is are plain named =
    let c = circuit_of h.greatest parts (map latch_in parts.lines) in
    let start = latches_found parts.lines latches plain in
    let count : length (map latch_in parts.lines) ≡ h.latches = length-map parts.lines latch_in ∙ are.count_latches in
    let names = symbols_found h c (counts_of c h are.count_inputs count are.count_outputs) (length behind_gates + 1) 0 behind_gates symbols named in
    let read : IsRead bytes c symbols = record {
      form = h.form;
      body = behind_verdict bytes;
      whole = verdict_found bytes;
      text = record {
        lines = parts.lines;
        behind_gates = behind_gates;
        comment = names.comment;
        body = body_made (behind_verdict bytes) h behind_header parts behind_gates is are;
        start = start.1;
        names = names.are;
        ends = names.ends;
      };
    } in
    subst (λ (ls : List Latch). IsRead bytes (circuit_of h.greatest parts ls) symbols) (sym start.0) read

pub text_found : (bytes : List ℕ) (x : Read) → text_at bytes ≡ Some x → IsRead bytes x.0 x.1
unfolding text_at
text_found bytes x e =
    let (h, is_h, e1) = bound (header_at (behind_verdict bytes)) _ x e in
    let (s, is_s, e2) = bound (sections_at h.0 h.1) _ x e1 in
    let (latches, is_latches, e3) = bound (latches_at s.0.lines) _ x e2 in
    let (symbols, is_symbols, e4) = bound (symbols_at h.0 (length s.1 + 1) s.1) _ x e3 in
    subst (λ (y : Read). IsRead bytes y.0 y.1) (some_is (circuit_of h.0.greatest s.0 latches, symbols) x e4)
    (text_made bytes h.0 h.1 s.0 s.1 latches symbols (header_found (behind_verdict bytes) h is_h) (sections_found h.0 h.1 s is_s) is_latches is_symbols)

same_latches : (c : Circuit) (latches : List Latch) → c.latches ≡ latches
    → circuit_of c.greatest (parts_of c.inputs [] c.outputs c.gates) latches ≡ c
same_latches c latches e = ap (λ ls. circuit_of c.greatest (parts_of c.inputs [] c.outputs c.gates) ls) (sym e)

behind_is : (form : AigerFormat) (text body bytes : List ℕ) → HasBody bytes body → body ≡ form_text form ++ text → behind_verdict bytes ≡ body
behind_is form text body bytes whole begins =
    verdict_only form text bytes (same_body bytes body (form_text form ++ text) begins whole) ∙ sym begins

pub text_only : (bytes : List ℕ) (c : Circuit) (symbols : List Symbol) → IsRead bytes c symbols → text_at bytes ≡ Some (c, symbols)
unfolding text_at head_of parts_in_text
text_only bytes c symbols r =
    let t = r.text in
    let h = head_of r.form c in
    let body = behind_is r.form t.body.text r.body bytes r.whole t.body.begins in
    let header : header_at r.body ≡ Some (h, t.body.behind_header) =
    header_only r.body h t.body.behind_header (header_of_body r.form r.body c t.lines t.behind_gates t.body) in
    let sections = sections_only r.form r.body c t.lines t.behind_gates t.body in
    let latches = latches_only t.lines t.start in
    let named = all_symbols_only h c (counts_of c h refl refl refl) symbols 0 t.behind_gates t.comment t.names t.ends in
    rw (body, header, sections, latches, named) (ap (λ d. some (d, symbols)) (same_latches c (map latch_in t.lines) t.body.same))

-- ---- faults by their names

by_header : (bytes : List ℕ) (fault : ReaderFault) → HasHeaderFault bytes fault → IsNamedFault bytes fault
by_header bytes (faults.Reset n) h = absurd h.wrong
by_header bytes faults.OutOfMemory h = h
by_header bytes (faults.Syntax n) h = h
by_header bytes (faults.NumberTooLarge n) h = h
by_header bytes faults.TooLarge h = h
by_header bytes faults.TooFewVariables h = h
by_header bytes faults.OtherVariables h = h
by_header bytes (faults.LeftOut s) h = h

header_wrong : (bytes : List ℕ) (fault : ReaderFault) → IsRefusedHeader (behind_verdict bytes) fault → HasHeaderFault bytes fault
header_wrong bytes fault is = record {
  form = is.form;
  text = is.text;
  rest = is.rest;
  m = is.m;
  i = is.i;
  l = is.l;
  o = is.o;
  a = is.a;
  counts = is.counts;
  whole = same_body bytes (behind_verdict bytes) (form_text is.form ++ is.text) is.begins (verdict_found bytes);
  line = is.line;
  few = is.few;
  wrong = is.wrong;
}

header_right : (bytes : List ℕ) (fault : ReaderFault) → HasHeaderFault bytes fault → IsRefusedHeader (behind_verdict bytes) fault
header_right bytes fault is = record {
  form = is.form;
  text = is.text;
  rest = is.rest;
  m = is.m;
  i = is.i;
  l = is.l;
  o = is.o;
  a = is.a;
  counts = is.counts;
  begins = verdict_only is.form is.text bytes is.whole;
  line = is.line;
  few = is.few;
  wrong = is.wrong;
}

reset_made : (bytes : List ℕ) (h : Header × List ℕ) (s : Parts × List ℕ) (fault : ReaderFault) → IsHeader (behind_verdict bytes) h.0 h.1
    → AreSections h.0 h.1 s.0 s.1 → reset_fault 0 s.0.lines ≡ Some fault → IsNamedFault bytes fault
reset_made bytes h s fault is are e =
    let (k, same, first) = reset_found s.0.lines 0 fault e in
    let at : 0 + k ≡ k = omega arith in
    let has : HasReset bytes k = record {
      form = h.0.form;
      body = behind_verdict bytes;
      circuit = circuit_of h.0.greatest s.0 (map latch_in s.0.lines);
      lines = s.0.lines;
      rest = s.1;
      whole = verdict_found bytes;
      good = body_made (behind_verdict bytes) h.0 h.1 s.0 s.1 is are;
      wrong = first;
    } in
    subst (IsNamedFault bytes) (sym (same ∙ ap faults.Reset at)) has

-- what is refused by name behind the header
abbrev later_fault : List ℕ → Option ReaderFault
later_fault bytes = header_at (behind_verdict bytes) >>= λ h. sections_at h.0 h.1 >>= λ s. reset_fault 0 s.0.lines

later_found : (bytes : List ℕ) (fault : ReaderFault) → later_fault bytes ≡ Some fault → IsNamedFault bytes fault
later_found bytes fault e =
    let (h, is_h, e1) = bound (header_at (behind_verdict bytes)) (λ h. sections_at h.0 h.1 >>= λ s. reset_fault 0 s.0.lines) fault e in
    let (s, is_s, e2) = bound (sections_at h.0 h.1) (λ s. reset_fault 0 s.0.lines) fault e1 in
    reset_made bytes h s fault (header_found (behind_verdict bytes) h is_h) (sections_found h.0 h.1 s is_s) e2

either_found : (bytes : List ℕ) (fault : ReaderFault) (named : Option ReaderFault) → fault_at (behind_verdict bytes) ≡ named
    → first_named named (later_fault bytes) ≡ Some fault → IsNamedFault bytes fault
either_found bytes fault None same e = later_found bytes fault e
either_found bytes fault (Some g) same e =
    by_header bytes fault (header_wrong bytes fault (fault_found (behind_verdict bytes) fault (same ∙ e)))

text_fault_found : (bytes : List ℕ) (fault : ReaderFault) → text_fault bytes ≡ Some fault → IsNamedFault bytes fault
unfolding text_fault
text_fault_found bytes fault e = either_found bytes fault (fault_at (behind_verdict bytes)) refl e

only_header : (bytes : List ℕ) (fault : ReaderFault) → HasHeaderFault bytes fault → text_fault bytes ≡ Some fault
unfolding text_fault
only_header bytes fault is = rw (fault_only (behind_verdict bytes) fault (header_right bytes fault is)) refl

-- where all is good up to the symbols, the latches say what is wrong
only_latches : (bytes : List ℕ) (form : AigerFormat) (body : List ℕ) (c : Circuit) (lines : List LatchLine) (rest : List ℕ) → HasBody bytes body
    → IsBody form body c lines rest → text_fault bytes ≡ reset_fault 0 lines
unfolding text_fault head_of parts_in_text
only_latches bytes form body c lines rest whole t =
    let is = header_of_body form body c lines rest t in
    rw (
      behind_is form t.text body bytes whole t.begins,
      header_unnamed body (head_of form c) t.behind_header is,
      header_only body (head_of form c) t.behind_header is,
      sections_only form body c lines rest t,
    ) refl

only_reset : (bytes : List ℕ) (place : ℕ) → HasReset bytes place → text_fault bytes ≡ Some (faults.Reset place)
only_reset bytes place r =
    let at : 0 + place ≡ place = omega arith in
    only_latches bytes r.form r.body r.circuit r.lines r.rest r.whole r.good
    ∙ reset_only r.lines 0 place r.wrong ∙ ap (λ n. some (faults.Reset n)) at

text_fault_only : (bytes : List ℕ) (fault : ReaderFault) → IsNamedFault bytes fault → text_fault bytes ≡ Some fault
text_fault_only bytes (faults.Reset n) is = only_reset bytes n is
text_fault_only bytes faults.OutOfMemory is = only_header bytes faults.OutOfMemory is
text_fault_only bytes (faults.Syntax n) is = only_header bytes (faults.Syntax n) is
text_fault_only bytes (faults.NumberTooLarge n) is = only_header bytes (faults.NumberTooLarge n) is
text_fault_only bytes faults.TooLarge is = only_header bytes faults.TooLarge is
text_fault_only bytes faults.TooFewVariables is = only_header bytes faults.TooFewVariables is
text_fault_only bytes faults.OtherVariables is = only_header bytes faults.OtherVariables is
text_fault_only bytes (faults.LeftOut s) is = only_header bytes (faults.LeftOut s) is

pub named_once : (bytes : List ℕ) (fault other : ReaderFault) → IsNamedFault bytes fault → IsNamedFault bytes other → fault ≡ other
named_once bytes fault other is are =
    some_is fault other (sym (text_fault_only bytes fault is) ∙ text_fault_only bytes other are)

pub read_unnamed : (bytes : List ℕ) (c : Circuit) (symbols : List Symbol) (fault : ReaderFault) → IsRead bytes c symbols
    → ¬ IsNamedFault bytes fault
read_unnamed bytes c symbols fault r is =
    let t = r.text in
    none_is_some fault (sym (only_latches bytes r.form r.body c t.lines t.behind_gates r.whole t.body ∙ resets_none t.lines 0 t.start)
    ∙ text_fault_only bytes fault is)

-- ---- what a call answers

pub is_found : (bytes : List ℕ) (parts : declared.Parts) → text_at bytes ≡ Some (parts_in parts) → IsRead bytes (circuit_in parts) (symbols_in parts)
is_found bytes parts e = text_found bytes (parts_in parts) e

none_spelt : (bytes : List ℕ) → text_at bytes ≡ None → SpellsNone bytes
none_spelt bytes e = λ c symbols r. none_is_some (c, symbols) (sym e ∙ text_only bytes c symbols r)

unnamed : (bytes : List ℕ) → text_fault bytes ≡ None → (fault : ReaderFault) → ¬ IsNamedFault bytes fault
unnamed bytes e fault is = none_is_some fault (sym e ∙ text_fault_only bytes fault is)

pub is_refused : (bytes : List ℕ) (len : ℕ) (fault : ReaderFault) → GivesAs parts_in (text_fault bytes) (Err fault) (text_at bytes)
    → Refuses bytes (turned len fault)
is_refused bytes len faults.OutOfMemory e = tt
is_refused bytes len (faults.Syntax n) e = (none_spelt bytes e.0, unnamed bytes e.1)
is_refused bytes len (faults.NumberTooLarge n) e = (none_spelt bytes e.0, unnamed bytes e.1)
is_refused bytes len faults.TooLarge e = (none_spelt bytes e.0, text_fault_found bytes faults.TooLarge e.1)
is_refused bytes len faults.TooFewVariables e = (none_spelt bytes e.0, text_fault_found bytes faults.TooFewVariables e.1)
is_refused bytes len faults.OtherVariables e = (none_spelt bytes e.0, text_fault_found bytes faults.OtherVariables e.1)
is_refused bytes len (faults.LeftOut s) e = (none_spelt bytes e.0, text_fault_found bytes (faults.LeftOut s) e.1)
is_refused bytes len (faults.Reset n) e = (none_spelt bytes e.0, text_fault_found bytes (faults.Reset n) e.1)
