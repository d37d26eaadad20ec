-- Words, regardless of where they lie in memory.
use Rattle.pg_ltl.specs.declared.word.Word as words
use Rattle.pg_ltl.specs.declared.word.Word.TheVariants as variants
use Rattle.pg_ltl.specs.Words.{Word, name, sign}

abbrev pub as_word : words.Word → Word
as_word (variants.Name w) = name w.now
as_word (variants.Sign t) = sign t
