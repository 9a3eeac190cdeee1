-- The limits of a source: more than these is refused, as `size` where the text is read, and as `frame` or `count`
-- where names are resolved.
use Rattle.std.specs.Prelude.{ℕ}

-- the bytes of a source
abbrev pub max_source_bytes : ℕ
max_source_bytes = 65536

-- the blocks and bodies round a statement
abbrev pub max_depth : ℕ
max_depth = 64

-- the `(` and `[` that are open at once in a statement
abbrev pub max_open_brackets : ℕ
max_open_brackets = 64

-- the operators of one expression between the same brackets
abbrev pub max_operators : ℕ
max_operators = 64

-- the value of a literal
abbrev pub max_literal : ℕ
max_literal = 2147483647

-- the words of an array
abbrev pub max_array_words : ℕ
max_array_words = 16384

-- the words of a frame
abbrev pub max_frame_words : ℕ
max_frame_words = 32768

-- the functions of a program
abbrev pub max_functions : ℕ
max_functions = 256

-- the words of a function's parameters
abbrev pub max_parameter_words : ℕ
max_parameter_words = 8
