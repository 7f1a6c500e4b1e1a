-- The sources that are built so far: one skeleton, whose ingress has statements of two forms. What counts is its tokens, so
-- blanks, comments, macros and directives may stand anywhere.
use Rattle.std.specs.Prelude.{◌≡◌, ℕ, ◌+◌, ◌<◌, ◌≤◌, List, [], ◌∷◌, ◌++◌, Option, None, Some, length, codes, count_by, slice_get}
use Prim.Native.Nat.{suc}
use Rattle.std.specs.Fmt.{decimal}
use Rattle.std.specs.List.{flat_map, AllByRecursion}
use Rattle.p4_lexer.specs.declared.token.Token.{Token}
use Rattle.p4_lexer.specs.declared.token.Tokens.{Tokens}
use Rattle.p4_lexer.specs.Tokens.{HasTokens, IsRefused as IsRefusedByScan}
use Rattle.p4_tree.specs.declared.declarations.Source.{Source}
use Rattle.p4_grammar.specs.Reading.{IsReading, IsReadFault}
use Rattle.p4_program.specs.declared.program.Program.{Program}
use Rattle.p4_program.specs.declared.program.Statement.{Statement}
use Rattle.p4_program.specs.declared.program.StatementKind.{StatementKind}
use Rattle.p4_program.specs.declared.program.StatementKind.TheVariants.{AssignEgressSpec, MarkToDrop}
use Rattle.p4_program.specs.declared.v1model.TheConstants.{PORT_END}
use Rattle.tg_base.specs.declared.place.Code.{Code}
use Rattle.tg_base.specs.declared.place.Code.TheVariants.{Limit, NotBuilt}
use Rattle.tg_base.specs.declared.place.Refusal.{Refusal}
use Rattle.tg_base.specs.declared.place.Span.{Span}
use Rattle.testgen_engine.specs.declared.skeleton.TheConstants.{MOST_STATEMENTS}
use Rattle.testgen_engine.specs.declared.source.TheConstants.{MAX_BYTES}
use Rattle.testgen_engine.specs.Written.{is_blank, written}

-- The words before the statements. Behind each word of these texts stands a blank.
unfoldable pub head_text : List ℕ
head_text = codes "struct H { } struct M { } parser P ( packet_in b , out H h , inout M m , inout standard_metadata_t s ) { state start { transition accept ; } } control V ( inout H h , inout M m ) { apply { } } control I ( inout H h , inout M m , inout standard_metadata_t s ) { apply { "

-- the words after the statements
unfoldable pub tail_text : List ℕ
tail_text = codes "} } control E ( inout H h , inout M m , inout standard_metadata_t s ) { apply { } } control C ( inout H h , inout M m ) { apply { } } control D ( packet_out b , in H h ) { apply { } } V1Switch ( P ( ) , V ( ) , I ( ) , E ( ) , C ( ) , D ( ) ) main ; "

-- what stands before and after the number of an assignment, and the words of a call
unfoldable pub assign_text : List ℕ
assign_text = codes "s . egress_spec = "

unfoldable pub drop_text : List ℕ
drop_text = codes "mark_to_drop ( s ) ; "

unfoldable pub end_text : List ℕ
end_text = codes " ; "

-- the words of a statement
abbrev pub statement_text : StatementKind → List ℕ
statement_text (AssignEgressSpec value) = assign_text ++ (decimal value ++ end_text)
statement_text MarkToDrop = drop_text

-- a constant fits the nine bits of egress_spec
abbrev pub FitsNineBits : StatementKind → Type 0
FitsNineBits (AssignEgressSpec value) = value < PORT_END
FitsNineBits MarkToDrop = Unit {0}

-- the words of the source with these statements
abbrev pub source_text : List StatementKind → List ℕ
source_text kinds = head_text ++ (flat_map statement_text kinds ++ tail_text)

-- how many words such a text has
abbrev pub words_in : List ℕ → ℕ
words_in text = count_by is_blank text

-- the place of a token, by its number from 0
abbrev pub place_or : Span → Option Token → Span
place_or end None = end
place_or end (Some t) = t.span

abbrev pub place_of : Tokens → ℕ → Span
place_of tokens at = place_or tokens.end (slice_get tokens.tokens at)

-- the statements with their numbers, the first of them having this one, each at its first token; that of the first has
-- this number
abbrev pub placed_from : Tokens → ℕ → ℕ → List StatementKind → List Statement
placed_from tokens number at [] = []
placed_from tokens number at (kind ∷ kinds) =
    record { number = number; place = place_of tokens at; kind = kind } ∷ placed_from tokens (suc number) (at + words_in (statement_text kind)) kinds

-- The tokens are those of the skeleton with at most sixteen statements, and this is its program.
pub record IsProgramOf (tokens : Tokens) (p : Program) : Type 0 where
  pub kinds : List StatementKind
  pub few : length kinds ≤ MOST_STATEMENTS
  pub fit : AllByRecursion FitsNineBits kinds
  pub text : written tokens.tokens ≡ source_text kinds
  pub statements : p.statements ≡ placed_from tokens 1 (words_in head_text) kinds

-- the tokens are those of no program that is built
abbrev pub IsNoProgram : Tokens → Type 0
IsNoProgram tokens = (p : Program) → IsProgramOf tokens p → ⊥

-- The tokens have a tree that is nowhere too deep, and are those of this program.
pub record AreBuiltAs (tokens : Tokens) (p : Program) : Type 0 where
  pub source : Source
  pub read : IsReading source tokens
  pub program : IsProgramOf tokens p

-- The bytes are a source of this program: few enough, and their tokens are built as the program.
pub record StandsFor (bytes : List ℕ) (p : Program) : Type 0 where
  pub few : length bytes ≤ MAX_BYTES
  pub tokens : Tokens
  pub scanned : HasTokens bytes tokens
  pub built : AreBuiltAs tokens p

-- what refuses a source as a whole, at its first place
abbrev pub at_start : Code → Refusal
at_start code = record { code = code; line = 1; column = 1 }

-- The tokens are refused so: by the reading, or since the program is not built yet.
pub data AreRefused (tokens : Tokens) (refusal : Refusal) : Type 0 where
  not_read : IsReadFault tokens refusal → AreRefused tokens refusal
  not_built : (source : Source) → IsReading source tokens → IsNoProgram tokens → refusal ≡ at_start NotBuilt → AreRefused tokens refusal

-- The bytes are refused so, by the first pass that refuses them: the size; the scan; and what refuses their tokens.
pub data IsRefused (bytes : List ℕ) (refusal : Refusal) : Type 0 where
  too_long : MAX_BYTES < length bytes → refusal ≡ at_start Limit → IsRefused bytes refusal
  no_tokens : length bytes ≤ MAX_BYTES → IsRefusedByScan bytes refusal → IsRefused bytes refusal
  no_program : (tokens : Tokens) → length bytes ≤ MAX_BYTES → HasTokens bytes tokens → AreRefused tokens refusal → IsRefused bytes refusal
