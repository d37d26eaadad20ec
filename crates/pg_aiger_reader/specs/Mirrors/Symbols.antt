-- What the functions that read symbols compute: a mirror of them for proofs, whose laws are in proofs/.
use Rattle.std.specs.Prelude.{ℕ, suc, zero, ◌+◌, ◌-◌, ◌==◌, ◌&&◌, ◌||◌, Bool, true, false, List, [], ◌∷◌, length, take, drop, Option, Some, None, nat_lt}
use Rattle.std.specs.Prelude.{codes, if◌then◌else◌}
use Rattle.std.specs.Str.{bytes_eq}
use Rattle.std.specs.List.{prefix_len, take_while}
use Rattle.pg_hoa_automaton.specs.Mirrors.Steps.{◌>>=◌}
use Rattle.pg_aiger_reader.specs.declared.header.Header.{Header}
use Rattle.pg_aiger.specs.CircuitText.{Kind, input, latch, output, Symbol, is_inner}
use Rattle.pg_aiger_reader.specs.Mirrors.Scan.{field_at}
use Rattle.pg_aiger_reader.specs.Views.{symbol_of}

abbrev pub count_in : Header → Kind → ℕ
count_in header input = header.inputs
count_in header latch = header.latches
count_in header output = header.outputs

abbrev pub kind_at : ℕ → Option Kind
kind_at b =
    if b == 105 then Some input
    else (if b == 108 then Some latch
    else (if b == 111 then Some output
    else None))

-- nothing but empty lines
unfoldable pub is_blank : List ℕ → Bool
is_blank [] = true
is_blank (b ∷ []) = b == 10
is_blank (b ∷ c ∷ rest) = if b == 10 then is_blank (c ∷ rest) else b == 13 && c == 10 && is_blank rest

-- a comment
abbrev pub is_comment : List ℕ → Bool
is_comment [] = false
is_comment (b ∷ rest) = b == 99

unfoldable pub is_end : List ℕ → Bool
is_end bytes = is_comment bytes || is_blank bytes

-- a line without a carriage return at its end
unfoldable pub without_return : List ℕ → List ℕ
without_return line = if bytes_eq (drop (length line - 1) line) (codes "\r") then take (length line - 1) line else line

unfoldable pub name_at : List ℕ → Option (List ℕ × List ℕ)
name_at bytes =
    if nat_lt (prefix_len is_inner bytes) (length bytes)
    then Some (without_return (take_while is_inner bytes), drop (prefix_len is_inner bytes + 1) bytes)
    else None

-- the name after the position, if a space separates them
abbrev pub named_at : Kind → ℕ × Bool × List ℕ → Option (Symbol × List ℕ)
named_at kind (position, true, text) = None
named_at kind (position, false, text) = name_at text >>= λ x. Some (symbol_of kind position x.0, x.1)

unfoldable pub symbol_at : List ℕ → Option (Symbol × List ℕ)
symbol_at [] = None
symbol_at (b ∷ bytes) = kind_at b >>= λ kind. field_at bytes >>= named_at kind

-- a symbol that names something
unfoldable pub good_at : Header → List ℕ → Option (Symbol × List ℕ)
good_at header bytes =
    symbol_at bytes >>= λ x. if nat_lt x.0.position (count_in header x.0.kind) then Some x else None

-- fewer symbols than the given number, up to the end or a comment
unfoldable pub symbols_at : Header → ℕ → List ℕ → Option (List Symbol)
symbols_at header zero bytes = None
symbols_at header (suc n) bytes =
    if is_end bytes then Some []
    else (good_at header bytes >>= λ x. symbols_at header n x.1 >>= λ xs. Some (x.0 ∷ xs))
