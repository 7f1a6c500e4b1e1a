-- Which directive pieces are, found from left to right: plain functions that meet the definition of a directive.
use Rattle.std.specs.Prelude.{ℕ, Bool, true, false, not, ◌&&◌, List, [], ◌∷◌, length, drop, codes, nat_eq, nat_lt, Option, Some, None, if◌then◌else◌}
use Rattle.std.specs.List.{find, list_all, prefix_len, starts_with}
use Rattle.std.specs.Option.{option_map}
use Rattle.std.specs.Str.{bytes_eq}
use Rattle.p4_lexer.specs.declared.piece.Kind.{Kind}
use Rattle.p4_lexer.specs.declared.piece.Kind.TheVariants.{Blank, Comment, Name, Sign, OpenComment}
use Rattle.p4_lexer.specs.declared.directives.DirectiveWord.{DirectiveWord}
use Rattle.p4_lexer.specs.declared.directives.DirectiveWord.TheVariants as w
use Rattle.p4_lexer.specs.declared.directives.TheConstants.{DIRECTIVE_WORDS}
use Rattle.p4_lexer.specs.Bytes.{line_feed}
use Rattle.p4_lexer.specs.Cuts.{Cut}
use Rattle.p4_lexer.specs.Directives.{Directive, Include, Define, Undefine, IfDefined, IfNotDefined, Else, EndIf}

-- how the word of a directive is spelled
abbrev pub word_spelling : DirectiveWord → List ℕ
word_spelling w.Include = codes "include"
word_spelling w.Define = codes "define"
word_spelling w.Undefine = codes "undef"
word_spelling w.IfDefined = codes "ifdef"
word_spelling w.IfNotDefined = codes "ifndef"
word_spelling w.Else = codes "else"
word_spelling w.EndIf = codes "endif"

abbrev pub word_among : List DirectiveWord → List ℕ → Option DirectiveWord
word_among words spelling = find (λ v. bytes_eq (word_spelling v) spelling) words

abbrev pub is_name : Kind → Bool
is_name Name = true
is_name _ = false

abbrev pub is_blank_kind : Kind → Bool
is_blank_kind Blank = true
is_blank_kind _ = false

abbrev pub is_filler_kind : Kind → Bool
is_filler_kind Blank = true
is_filler_kind Comment = true
is_filler_kind OpenComment = true
is_filler_kind _ = false

abbrev pub is_sign_kind : Kind → Bool
is_sign_kind Sign = true
is_sign_kind _ = false

-- a blank of the line itself
abbrev pub is_gap : Cut → Bool
is_gap c = is_blank_kind c.kind && not (bytes_eq c.bytes (line_feed ∷ []))

abbrev pub are_filler : List Cut → Bool
are_filler cuts = list_all (λ c. is_filler_kind c.kind) cuts

abbrev pub begins_with_parenthesis : List Cut → Bool
begins_with_parenthesis [] = false
begins_with_parenthesis (c ∷ cuts) = is_sign_kind c.kind && bytes_eq c.bytes (codes "(")

abbrev pub begins_with_name : List Cut → Bool
begins_with_name [] = false
begins_with_name (c ∷ cuts) = is_name c.kind

-- how many pieces stand before the name, where blanks, at least one, and a name stand first
abbrev pub name_index : List Cut → Option ℕ
name_index cuts = if nat_lt 0 (prefix_len is_gap cuts) && begins_with_name (drop (prefix_len is_gap cuts) cuts) then Some (prefix_len is_gap cuts) else None

abbrev pub defined_from : List Cut → Option Directive
defined_from [] = None
defined_from (c ∷ left) = if begins_with_parenthesis left then None else Some (Define c.bytes left)

abbrev pub defined_at : Option ℕ → List Cut → Option Directive
defined_at None cuts = None
defined_at (Some i) cuts = defined_from (drop i cuts)

abbrev pub alone_from : List Cut → Option (List ℕ)
alone_from [] = None
alone_from (c ∷ left) = if are_filler left then Some c.bytes else None

abbrev pub alone_at : Option ℕ → List Cut → Option (List ℕ)
alone_at None cuts = None
alone_at (Some i) cuts = alone_from (drop i cuts)

-- the name that stands alone
abbrev pub name_alone : List Cut → Option (List ℕ)
name_alone cuts = alone_at (name_index cuts) cuts

abbrev pub is_none_left : List ℕ → Bool
is_none_left [] = true
is_none_left (b ∷ file) = false

-- the pieces have these bytes, and are blanks and comments behind them
abbrev pub is_file_alone : List ℕ → List Cut → Bool
is_file_alone file [] = is_none_left file
is_file_alone file (c ∷ cuts) = if is_none_left file then are_filler (c ∷ cuts) else (starts_with nat_eq file c.bytes && is_file_alone (drop (length c.bytes) file) cuts)

abbrev pub is_included : List Cut → Bool
is_included cuts = if is_file_alone (codes "<core.p4>") (drop (prefix_len is_gap cuts) cuts) then true else is_file_alone (codes "<v1model.p4>") (drop (prefix_len is_gap cuts) cuts)

-- the directive with this word
abbrev pub directive_by : DirectiveWord → List Cut → Option Directive
directive_by w.Include cuts = if is_included cuts then Some Include else None
directive_by w.Define cuts = defined_at (name_index cuts) cuts
directive_by w.Undefine cuts = option_map (λ n. Undefine n) (name_alone cuts)
directive_by w.IfDefined cuts = option_map (λ n. IfDefined n) (name_alone cuts)
directive_by w.IfNotDefined cuts = option_map (λ n. IfNotDefined n) (name_alone cuts)
directive_by w.Else cuts = if are_filler cuts then Some Else else None
directive_by w.EndIf cuts = if are_filler cuts then Some EndIf else None

abbrev pub directive_if : Option DirectiveWord → List Cut → Option Directive
directive_if None cuts = None
directive_if (Some word) cuts = directive_by word cuts

-- the directive that these pieces are
abbrev pub directive_of : List Cut → Option Directive
directive_of [] = None
directive_of (c ∷ cuts) = if is_name c.kind then directive_if (word_among DIRECTIVE_WORDS c.bytes) cuts else None
