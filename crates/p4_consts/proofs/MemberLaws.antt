-- Fields and members, found among the names of their types.
use Rattle.std.specs.Prelude.{◌≡◌, ℕ, ◌+◌, List, [], ◌∷◌, map, Bool, cond, not, nat_lt, length, Option, None, Some, option_map, slice_get}
use Rattle.std.proofs.Common.{refl, ap, ◌∙◌}
use Rattle.std.proofs.lemmas.List.{length-map}
use Rattle.std.proofs.lemmas.Map.Made.{lookup-map_values}
use Rattle.std.proofs.lemmas.Option.{slice_get-map}
use Rattle.std.specs.List.{position, position_or_len}
use Rattle.std.specs.Map.{lookup}
use Rattle.std.specs.Str.{bytes_eq}
use Rattle.p4_rules.specs.declared.types.FieldOf.{FieldOf}
use Rattle.p4_rules.specs.declared.types.SourceType.{SourceType}
use Rattle.p4_rules.specs.Scopes.{listed}
use Rattle.p4_rules.specs.Things.{field_in, numbered_field}
use Rattle.p4_consts.specs.declared.meanings.Meaning.{Meaning}
use Rattle.p4_consts.specs.Meanings.{meaning_of}
use Rattle.p4_consts.specs.Scopes.{fields_of, members_of}

-- ---- places in a list that is mapped

prefix_mapped : {X Y : Type 0} (f : X → Y) (p : Y → Bool) (xs : List X) → position_or_len p (map f xs) ≡ position_or_len (λ x. p (f x)) xs
prefix_mapped f p [] = refl
prefix_mapped f p (x ∷ xs) = ap (λ n. cond (not (p (f x))) (1 + n) 0) (prefix_mapped f p xs)

position_mapped : {X Y : Type 0} (f : X → Y) (p : Y → Bool) (xs : List X) → position p (map f xs) ≡ position (λ x. p (f x)) xs
position_mapped f p xs =
    ap (λ n. cond (nat_lt n (length (map f xs))) (Some n) None) (prefix_mapped f p xs)
    ∙ ap (λ m. cond (nat_lt (position_or_len (λ x. p (f x)) xs) m) (Some (position_or_len (λ x. p (f x)) xs)) None) (length-map xs f)

pub position_of_name : {V : Type 0} (es : List (List ℕ × V)) (name : List ℕ) →
    position (λ other. bytes_eq other name) (map (λ e. e.0) es) ≡ position (λ e. bytes_eq e.0 name) es
position_of_name es name = position_mapped (λ e. e.0) (λ other. bytes_eq other name) es

-- ---- fields

abbrev at : ℕ → SourceType → ℕ × SourceType
at k t = (k, t)

abbrev field_of : List ℕ × SourceType → FieldOf
field_of entry = record { name = entry.0; type_of = entry.1 }

typed : (k : ℕ) (entry : Option (List ℕ × SourceType)) →
    option_map (λ (field : FieldOf). at k field.type_of) (option_map field_of entry) ≡ option_map (at k) (option_map (λ e. e.1) entry)
typed k None = refl
typed k (Some entry) = refl

pub no_field : (es : List (List ℕ × SourceType)) (name : List ℕ) → position {X = List ℕ × SourceType} (λ e. bytes_eq e.0 name) es ≡ None →
    field_in (fields_of es) name ≡ None
no_field es name e =
    ap (λ place. numbered_field place (fields_of es))
    (position_mapped field_of (λ field. bytes_eq field.name name) es ∙ e)

pub field_at : (es : List (List ℕ × SourceType)) (name : List ℕ) (k : ℕ) (t : Option SourceType) →
    position {X = List ℕ × SourceType} (λ e. bytes_eq e.0 name) es ≡ Some k → option_map (λ e. e.1) (slice_get es k) ≡ t →
    field_in (fields_of es) name ≡ option_map (at k) t
field_at es name k t e f =
    ap (λ place. numbered_field place (fields_of es))
    (position_mapped field_of (λ field. bytes_eq field.name name) es ∙ e)
    ∙ ap (option_map (λ (field : FieldOf). at k field.type_of)) (slice_get-map field_of es k)
    ∙ typed k (slice_get es k)
    ∙ ap (option_map (at k)) f

-- the fields of the struct or header with a number
pub fields_at : (rows : List (List (List ℕ × SourceType))) (n : ℕ) (fields : List (List ℕ × SourceType)) → slice_get rows n ≡ Some fields →
    listed (slice_get (map fields_of rows) n) ≡ fields_of fields
fields_at rows n fields e = ap listed (slice_get-map fields_of rows n) ∙ ap (λ row. listed (option_map fields_of row)) e

pub no_fields : (rows : List (List (List ℕ × SourceType))) (n : ℕ) (name : List ℕ) → slice_get rows n ≡ None →
    field_in (listed (slice_get (map fields_of rows) n)) name ≡ None
no_fields rows n name e =
    ap (λ row. field_in (listed row) name) (slice_get-map fields_of rows n) ∙ ap (λ row. field_in (listed (option_map fields_of row)) name) e

-- ---- members

pub told_member : (members : List (List ℕ × Meaning)) (name : List ℕ) →
    lookup (λ other. bytes_eq other name) (members_of members) ≡ option_map meaning_of (lookup (λ other. bytes_eq other name) members)
told_member members name = lookup-map_values meaning_of (λ other. bytes_eq other name) members

-- the members of the enumeration with a number
pub members_at : (rows : List (List (List ℕ × Meaning))) (n : ℕ) (members : List (List ℕ × Meaning)) → slice_get rows n ≡ Some members →
    listed (slice_get (map members_of rows) n) ≡ members_of members
members_at rows n members e = ap listed (slice_get-map members_of rows n) ∙ ap (λ row. listed (option_map members_of row)) e

pub no_members : (rows : List (List (List ℕ × Meaning))) (n : ℕ) → slice_get rows n ≡ None → listed (slice_get (map members_of rows) n) ≡ []
no_members rows n e = ap listed (slice_get-map members_of rows n) ∙ ap (λ row. listed (option_map members_of row)) e
