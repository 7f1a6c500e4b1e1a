-- Annotations: the names that they give, which the control plane sees, and those that bar an action from entries.
use Rattle.std.specs.Prelude.{ℕ, ◌==◌, nat_le, List, [], ◌∷◌, Bool, true, false, ◌&&◌, ◌||◌, not, Option, None, Some, if◌then◌else◌}
use Rattle.std.specs.List.{list_all, list_any}
use Rattle.tg_base.specs.declared.place.Span.{Span}
use Rattle.tg_base.specs.declared.place.Code.TheVariants as code
use Rattle.p4_tree.specs.declared.names.Annotation.{Annotation}
use Rattle.p4_tree.specs.declared.names.AnnotationKind.{AnnotationKind}
use Rattle.p4_tree.specs.declared.names.AnnotationKind.TheVariants as note
use Rattle.p4_rules.specs.declared.faults.Pass.TheVariants.{Checking}
use Rattle.p4_rules.specs.Faults.{Checked, Right, fault_at, beside}
use Rattle.p4_rules.specs.Scopes.{or_else}

-- a letter, a digit, `_`, `.` or `$`
abbrev pub is_name_byte : ℕ → Bool
is_name_byte c = (nat_le 48 c && nat_le c 57) || (nat_le 65 c && nat_le c 90) || (nat_le 97 c && nat_le c 122)
    || (c == 95) || (c == 46) || (c == 36)

-- "Control-plane names": the text of `@name` is of these and does not begin with a `.`
abbrev pub begins_well : List ℕ → Bool
begins_well [] = true
begins_well (c ∷ more) = not (c == 46)

abbrev pub is_plane_name : List ℕ → Bool
is_plane_name text = list_all is_name_byte text && begins_well text

abbrev pub note_right : AnnotationKind → Span → Checked Bool
note_right (note.Named text) place = if is_plane_name text then Right true else fault_at Checking code.Unsupported place
note_right _ place = Right true

-- every `@name`, wherever it stands
abbrev pub notes_right : List Annotation → Checked Bool
notes_right [] = Right true
notes_right (a ∷ more) = beside (note_right a.kind a.span) (notes_right more)

-- what stands behind annotations
abbrev pub noted : {X : Type 0} → List Annotation → Checked X → Checked X
noted notes part = beside (notes_right notes) part

abbrev pub name_in : AnnotationKind → Option (List ℕ)
name_in (note.Named text) = Some text
name_in _ = None

-- of several names the last counts
abbrev pub given_name : List Annotation → Option (List ℕ)
given_name [] = None
given_name (a ∷ more) = or_else (given_name more) (name_in a.kind)

abbrev pub bars_entries : AnnotationKind → Bool
bars_entries note.DefaultOnly = true
bars_entries _ = false

abbrev pub is_default_only : List Annotation → Bool
is_default_only notes = list_any (λ a. bars_entries a.kind) notes
