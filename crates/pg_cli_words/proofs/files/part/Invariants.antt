use Rattle.std.proofs.Common.{◌≡◌, ◌++◌, false, map, drop}
use Rattle.std.specs.String.{string_bytes}
use Rattle.pg_cli_words.specs.Files.{names_in, others_in}
use Rattle.pg_cli_words.proofs.files.part.Given as goal

abbrev pub invariant-loop-word : goal.invariant-loop-word
invariant-loop-word l = record {
  files : map (λ w. w.now) l.files.items ++ names_in l.is_value (map string_bytes (drop l.word-index l.words))
      ≡ names_in false (map string_bytes l.words);
  others : map (λ w. w.now) l.others.items ++ others_in l.is_value (map string_bytes (drop l.word-index l.words))
      ≡ map (λ w. w.now) l.fn.others.items ++ others_in false (map string_bytes l.words);
}
