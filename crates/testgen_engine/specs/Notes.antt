-- What a person is told of wrong words, a refusal or a fault.
use Rattle.std.specs.Prelude.{ℕ, List, [], ◌∷◌, codes}
use Rattle.std.specs.Fmt.{decimal}
use Rattle.std.specs.List.{concat}
use Rattle.tg_base.specs.declared.place.Refusal.{Refusal}
use Rattle.tg_base.specs.Code.{number_of, name_of}

abbrev pub usage_note : List ℕ
usage_note = codes "usage: gen NAME | replay NAME TEST FILL | load NUMBER SIZE\n"

abbrev pub read_fault_note : List ℕ
read_fault_note = codes "read fault\n"

-- the number, the name and the place of a refusal
abbrev pub refusal_note : Refusal → List ℕ
refusal_note r = concat (codes "refused " ∷ decimal (number_of r.code) ∷ codes " " ∷ name_of r.code
    ∷ codes " at " ∷ decimal r.line ∷ codes ":" ∷ decimal r.column ∷ codes "\n" ∷ [])
