use Rattle.std.proofs.Common.{◌≡◌, ◌∙◌, ◌++◌, ap, sym, refl, map, take, nat_lt, codes, length, arith, List, ℕ, false}
use Rattle.std.specs.List.{flat_map}
use Rattle.std.proofs.lemmas.Bool.Decides.{nat_tests}
use Rattle.std.proofs.lemmas.Grind.{put_two}
use Rattle.std.proofs.lemmas.List.{length-map, length-take-le, take-map}
use Rattle.pg_satisfies_texts.specs.FaultTexts.{after_comma, name_bytes, others_text}
use Rattle.pg_satisfies_texts.proofs.fault.write_others.Goals as goal

pub slice_bounds-write_more-length : goal.slice_bounds-write_more-length
slice_bounds-write_more-length g c = sym (length-take-le 63 c.args.names.now (let h = c.if-names-lt-MOST_SHOWN.false in omega arith))

pub returns : goal.returns
returns g c = λ plain ok.
    let names = c.args.names.now in
    let long : nat_lt (length (map name_bytes names)) 64 ≡ false =
    grind (arith, nat_tests, length-map names name_bytes, c.if-names-lt-MOST_SHOWN.false) in
    let all : flat_map after_comma (map name_bytes (take 63 names)) ++ codes ", .." ≡ others_text (map name_bytes names) =
    ap (λ (l : List (List ℕ)). flat_map after_comma l ++ codes ", ..") (sym (take-map name_bytes 63 names)) ∙ rw long refl in
    let first = c.in_ok-write_more.ensures plain refl in
    put_two g.W.Write.write_str_gives _ _ _ _ _ _ first (c.write_str.ensures.writes first.plain ok) all
