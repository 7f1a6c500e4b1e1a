-- The source of a number and a size: the skeleton of docs/FORMATS.md with a struct of two fields, and with one assignment
-- and then so many branches in its ingress. Each four branches are one of each kind: a port of its own, an impossible
-- port, two ports at once, and a field that nothing sets.
use Rattle.std.specs.Prelude.{ℕ, ◌+◌, ◌*◌, ◌/◌, ◌%◌, ◌≤◌, ◌==◌, List, [], ◌∷◌, ◌++◌, codes, if◌then◌else◌}
use Prim.Native.Nat.{zero, suc}
use Rattle.std.specs.Fmt.{decimal}
use Rattle.std.specs.List.{concat}
use Rattle.load_maker.specs.Words.{word_at, generator_of}

-- ports are drawn below this number, and field values below that one
abbrev pub ports : ℕ
ports = 510

abbrev pub values : ℕ
values = 256

-- the most branches of a source, which has one at least
abbrev pub most_branches : ℕ
most_branches = 1000

abbrev pub IsSize : ℕ → Type 0
IsSize size = (1 ≤ size) × (size ≤ most_branches)

-- what stands before the branches, and after them
abbrev pub head : List ℕ
head = codes "#include <core.p4>\n#include <v1model.p4>\nstruct H { }\nstruct M { bit<8> u; bit<8> y; }\nparser P(packet_in b, out H h, inout M m, inout standard_metadata_t s) {\n  state start { transition accept; }\n}\ncontrol V(inout H h, inout M m) { apply { } }\ncontrol I(inout H h, inout M m, inout standard_metadata_t s) {\n  apply {\n    s.egress_spec = 1;\n"

abbrev pub tail : List ℕ
tail = codes "  }\n}\ncontrol E(inout H h, inout M m, inout standard_metadata_t s) { apply { } }\ncontrol C(inout H h, inout M m) { apply { } }\ncontrol D(packet_out b, in H h) { apply { } }\nV1Switch(P(), V(), I(), E(), C(), D()) main;\n"

-- how many words the branch of a place draws: 1, 1, 2 and 2 in turn
abbrev pub draws_of : ℕ → ℕ
draws_of place = if place % 4 == 0 then 1 else if place % 4 == 1 then 1 else 2

-- how many words are drawn before the branch of a place: one for the base, six for each four branches, and those of the
-- branches before it in its own four
abbrev pub words_before : ℕ → ℕ
words_before place =
    1 + 6 * (place / 4) + (if place % 4 == 0 then 0 else if place % 4 == 1 then 1 else if place % 4 == 2 then 2 else 4)

-- the four kinds of branches
abbrev pub own_port_branch : ℕ → ℕ → List ℕ
own_port_branch port value = concat (codes "    if (s.ingress_port == " ∷ decimal port ∷ codes ") m.y = " ∷ decimal value ∷ codes ";\n" ∷ [])

abbrev pub no_port_branch : ℕ → List ℕ
no_port_branch value = concat (codes "    if (s.ingress_port > 510) m.y = " ∷ decimal value ∷ codes ";\n" ∷ [])

abbrev pub two_ports_branch : ℕ → ℕ → List ℕ
two_ports_branch port value = concat (codes "    if (s.ingress_port == " ∷ decimal port ∷ codes " && s.ingress_port == " ∷ decimal (port + 1)
    ∷ codes ") m.y = " ∷ decimal value ∷ codes ";\n" ∷ [])

abbrev pub unset_field_branch : ℕ → ℕ → List ℕ
unset_field_branch field value = concat (codes "    if (m.u == " ∷ decimal field ∷ codes ") m.y = " ∷ decimal value ∷ codes ";\n" ∷ [])

-- the branch of a place, where the base is this and the words that it draws are these
abbrev pub branch : ℕ → (ℕ → ℕ) → ℕ → List ℕ
branch base words place =
    if place % 4 == 0 then own_port_branch (1 + (base + place / 4) % ports) (words 0 % values)
    else if place % 4 == 1 then no_port_branch (words 0 % values)
    else if place % 4 == 2 then two_ports_branch (words 0 % ports) (words 1 % values)
    else unset_field_branch (words 0 % values) (words 1 % values)

-- the branch of a place in the source of a number
abbrev pub branch_at : ℕ → ℕ → List ℕ
branch_at number place =
    let words = word_at (generator_of number) in
    branch (words 0 % ports) (λ k. words (words_before place + k)) place

-- the branches of so many places, from 0 on
unfoldable pub branches : ℕ → ℕ → List ℕ
branches number zero = []
branches number (suc size) = branches number size ++ branch_at number size

-- the whole source
abbrev pub load_source : ℕ → ℕ → List ℕ
load_source number size = head ++ branches number size ++ tail
