-- The bits of a packet and the bytes of headers (P4-16, "Data extraction from packets", "Data insertion into packets").
use Rattle.std.specs.Prelude.{ℕ, zero, suc, ◌+◌, ◌-◌, ◌*◌, ◌/◌, ◌%◌, ◌^◌, nat_le, true, false, List, [], ◌∷◌, ◌++◌, length, Option, Some, None, ⊤, if◌then◌else◌}
use Rattle.std.specs.List.{fold}
use Rattle.p4_program.specs.declared.typed.paths.Path.{Path}
use Rattle.p4_program.specs.declared.typed.paths.Step.{Step}
use Rattle.p4_program.specs.declared.typed.paths.Step.TheVariants.{Next}
use Rattle.p4_program.specs.WellFormed.Types.{width_of}
use Rattle.p4_meaning.specs.Runs.Acts.{Environment, Store, Act, Raised, stops, gives, becomes, changes, at_root, packet_too_short, stack_out_of_bounds, ◌>>◌}
use Rattle.p4_meaning.specs.Runs.Contents.{Content, Cell, HeaderOf, StackOf, StructOf, Contents, NoContents, Also, listed, bits, bits_in, number_in}
use Rattle.p4_meaning.specs.Runs.Paths.{part_along, part, next_in, size_of, with_one_more}

-- ---- numbers in a row

-- a number of so many bits
pub record Row : Type 0 where
  pub width : ℕ
  pub value : ℕ

-- a row with a number behind it, the row in the higher bits
abbrev pub joined : Row → Content → Row
joined row c = record { width = row.width + bits_in c; value = row.value * 2 ^ bits_in c + number_in c }

abbrev pub no_row : Row
no_row = record { width = 0; value = 0 }

-- numbers in a row, the first in the highest bits
abbrev pub row_of : List Content → Row
row_of cs = fold joined no_row cs

-- this many digits of a number in a base, the highest first
abbrev pub digits : (base count value : ℕ) → List ℕ
digits base zero value = []
digits base (suc count) value = value / base ^ count % base ∷ digits base count value

abbrev pub bytes_of : Row → List ℕ
bytes_of row = digits 256 (row.width / 8) row.value

-- ---- extraction

-- how many bits a packet has, and the number that they make, the first bit highest
abbrev pub length_in_bits : List ℕ → ℕ
length_in_bits packet = 8 * length packet

abbrev pub packet_value : List ℕ → ℕ
packet_value packet = fold (λ value byte. value * 256 + byte) 0 packet

-- the number that this many bits make from a place on
abbrev pub bits_from : List ℕ → (first width : ℕ) → ℕ
bits_from packet first width = packet_value packet / 2 ^ (length_in_bits packet - first - width) % 2 ^ width

-- the fields of a header, one after another from a place of the packet on
abbrev pub received_fields : List ℕ → ℕ → Contents → Contents
received_fields packet first NoContents = NoContents
received_fields packet first (Also (Cell scalar value) cs) =
    Also (Cell scalar (Some (bits_from packet first (width_of scalar)))) (received_fields packet (first + width_of scalar) cs)
received_fields packet first (Also c cs) = Also c (received_fields packet first cs)

abbrev pub received : List ℕ → ℕ → Content → Content
received packet first (HeaderOf valid fields) = HeaderOf true (received_fields packet first fields)
received packet first c = c

abbrev pub width_of_fields : Contents → ℕ
width_of_fields NoContents = 0
width_of_fields (Also c cs) = bits_in c + width_of_fields cs

abbrev pub width_of_header : Content → ℕ
width_of_header (HeaderOf valid fields) = width_of_fields fields
width_of_header _ = 0

-- Past the end of the packet is an error, and nothing is done; else the act has what the cursor was.
abbrev pub within_packet : {A : Type 0} → Environment → ℕ → (ℕ → Act A) → Act A
within_packet env width act store =
    if nat_le (store.cursor + width) (length_in_bits env.input.packet) then act store.cursor store
    else stops (Raised packet_too_short) store

abbrev pub moved : ℕ → Store → Store
moved width store = record store { cursor = store.cursor + width }

-- `lookahead` of bits: the cursor stays
abbrev pub looks_ahead : Environment → ℕ → Act Content
looks_ahead env width = within_packet env width (λ cursor. gives (bits width (bits_from env.input.packet cursor width)))

-- "Skipping bits"
abbrev pub advances : Environment → ℕ → Act ⊤
advances env count = within_packet env count (λ cursor. becomes (moved count))

-- "Fixed-width extraction": the header becomes valid, with the next bits of the packet as its fields
abbrev pub fills : Environment → Path → Content → Act ⊤
fills env path header = within_packet env (width_of_header header)
    (λ cursor. changes path (received env.input.packet cursor) >> becomes (moved (width_of_header header)))

abbrev pub behind_step : Step → Option (List Step) → Option (List Step)
behind_step step None = None
behind_step step (Some before) = Some (step ∷ before)

-- the steps before a `next` that ends them, where it does
abbrev pub before_last_next : List Step → Option (List Step)
before_last_next [] = None
before_last_next (Next ∷ []) = Some []
before_last_next (step ∷ steps) = behind_step step (before_last_next steps)

-- the stack of this path, of which the next element is extracted; that it is full is found first
abbrev pub fills_next : Environment → Path → List Step → Content → Act ⊤
fills_next env path before stack store =
    if nat_le (size_of stack) (next_in stack) then stops (Raised stack_out_of_bounds) store
    else (fills env path (part Next stack)
    >> changes (record { root = path.root; steps = before; value_type = path.value_type }) with_one_more) store

abbrev pub extracts_at : Environment → Path → Option (List Step) → Content → Act ⊤
extracts_at env path None root = fills env path (part_along path.steps root)
extracts_at env path (Some before) root = fills_next env path before (part_along before root)

abbrev pub extracts : Environment → Path → Act ⊤
extracts env path store = extracts_at env path (before_last_next path.steps) (at_root path.root store) store

-- ---- emission: a valid header's fields, and of a stack or struct those of each element or field in order

abbrev mutual
  pub bytes_in : Content → List ℕ
  bytes_in (Cell scalar value) = []
  bytes_in (HeaderOf true fields) = bytes_of (row_of (listed fields))
  bytes_in (HeaderOf false fields) = []
  bytes_in (StackOf elements next) = all_bytes_in elements
  bytes_in (StructOf fields) = all_bytes_in fields

  pub all_bytes_in : Contents → List ℕ
  all_bytes_in NoContents = []
  all_bytes_in (Also c cs) = bytes_in c ++ all_bytes_in cs

abbrev pub emits : Content → Act ⊤
emits c = becomes (λ store. record store { emitted = store.emitted ++ bytes_in c })
