-- The names and annotations of a source. Each definition is given what is below a node, and covers the rows of its form.
use Rattle.std.specs.Prelude.{ℕ, ◌==◌, Bool, ◌||◌, List, [], ◌∷◌, Option, None, Some}
use Rattle.p4_lexer.specs.declared.token.Word.{Word}
use Rattle.p4_lexer.specs.declared.token.Word.TheVariants as word
use Rattle.p4_lexer.specs.declared.token.Token.{Token}
use Rattle.p4_lexer.specs.Spellings.{keyword_spelling}
use Rattle.p4_tree.specs.declared.names.Name.{Name}
use Rattle.p4_tree.specs.declared.names.Annotation.{Annotation}
use Rattle.p4_tree.specs.declared.names.AnnotationKind.{AnnotationKind}
use Rattle.p4_tree.specs.declared.names.AnnotationKind.TheVariants as annotation
use Rattle.p4_grammar.specs.declared.symbols.TheConstants.{ID, TYPE_NAME, BASE, KEYWORD_ACTIONS, KEYWORD_APPLY, KEYWORD_ENTRIES, KEYWORD_KEY, KEYWORD_STATE, NAMED, DEFAULT_ONLY, TABLE_ONLY}
use Rattle.p4_grammar.specs.Parses.{Parse, End, Word as Leaf, Node, option_map, both}

-- the spelling of a name, or of a keyword that serves as one
abbrev pub name_spelling : Word → Option (List ℕ)
name_spelling (word.Id text) = Some text
name_spelling (word.TypeName text) = Some text
name_spelling (word.Base text) = Some text
name_spelling (word.Keyword k) = Some (keyword_spelling k)
name_spelling _ = None

abbrev pub name_at : Token → Option Name
name_at t = option_map (λ text. record { text = text; span = t.span }) (name_spelling t.word)

-- the symbols of words that serve as names
abbrev pub can_be_name : ℕ → Bool
can_be_name x = (x == ID) || (x == TYPE_NAME) || (x == BASE) || (x == KEYWORD_ACTIONS) || (x == KEYWORD_APPLY) || (x == KEYWORD_ENTRIES)
    || (x == KEYWORD_KEY) || (x == KEYWORD_STATE)

-- WORD
abbrev pub word_name : Parse → Option Name
word_name (Leaf t End) = name_at t
word_name _ = None

-- NAME
abbrev pub name_of : Parse → Option Name
name_of (Leaf t End) = name_at t
name_of (Node k r below End) = word_name below
name_of _ = None

abbrev pub annotation_kind : Word → Option AnnotationKind
annotation_kind (word.Named text) = Some (annotation.Named text)
annotation_kind word.DefaultOnly = Some annotation.DefaultOnly
annotation_kind word.TableOnly = Some annotation.TableOnly
annotation_kind _ = None

-- the symbols of annotations
abbrev pub is_annotation : ℕ → Bool
is_annotation x = (x == NAMED) || (x == DEFAULT_ONLY) || (x == TABLE_ONLY)

abbrev pub annotation_at : Token → Option Annotation
annotation_at t = option_map (λ kind. record { kind = kind; span = t.span }) (annotation_kind t.word)

-- ANNOTATIONS
abbrev pub annotations : Parse → Option (List Annotation)
annotations End = Some []
annotations (Leaf t (Node k r rest End)) = both (λ one more. one ∷ more) (annotation_at t) (annotations rest)
annotations _ = None
