-- How the fixed words of the log are spelled.
use Rattle.std.specs.Prelude.{Option, codes}
use Rattle.std.specs.List.{find}
use Rattle.std.specs.Str.{bytes_eq}
use Rattle.proof_stream.specs.declared.keyword.Keyword.{Keyword}
use Rattle.proof_stream.specs.declared.keyword.Keyword.TheVariants.{Record, Reach, Steady, Break, Nibble, At, Var, Input, Read, Clause, Cube, Step, Sat, Unsat, Spent, Broken, Runs, Breaks}
use Rattle.proof_stream.specs.declared.keyword.TheConstants.{KEYWORDS}
use Rattle.proof_stream.specs.Words.{Word}

abbrev pub spelling : Keyword → Word
spelling Record = codes "record"
spelling Reach = codes "reach"
spelling Steady = codes "steady"
spelling Break = codes "break"
spelling Nibble = codes "nibble"
spelling At = codes "at"
spelling Var = codes "var"
spelling Input = codes "input"
spelling Read = codes "read"
spelling Clause = codes "clause"
spelling Cube = codes "cube"
spelling Step = codes "step"
spelling Sat = codes "sat"
spelling Unsat = codes "unsat"
spelling Spent = codes "spent"
spelling Broken = codes "broken"
spelling Runs = codes "runs"
spelling Breaks = codes "breaks"

-- the keyword that is spelled so
unfoldable pub keyword_of : Word → Option Keyword
keyword_of word = find (λ keyword. bytes_eq (spelling keyword) word) KEYWORDS
