-- Steps into contents, changes of a part, and copies (P4-16, "L-values", "Operations on headers", "Operations on header stacks",
-- "Operations on struct types").
use Rattle.std.specs.Prelude.{ℕ, ◌+◌, ◌-◌, ◌==◌, min, Bool, true, false, ◌||◌, List, [], ◌∷◌, ◌++◌, map, length, take, drop}
use Rattle.p4_program.specs.declared.typed.paths.Step.{Step}
use Rattle.p4_program.specs.declared.typed.paths.Step.TheVariants.{Field, Element, Next, Last}
use Rattle.p4_meaning.specs.Runs.Contents.{Content, HeaderOf, StackOf, StructOf, Contents, Also, nothing, numbered_content, changed_content, listed, contents_of, opened, made_invalid}

-- ---- parts

-- the part that a step leads to; a field of an invalid header is unspecified, whatever stands there
abbrev pub part : Step → Content → Content
part (Field n) (StructOf fields) = numbered_content fields n
part (Field n) (HeaderOf true fields) = numbered_content fields n
part (Field n) (HeaderOf false fields) = opened (numbered_content fields n)
part (Element n) (StackOf elements next) = numbered_content elements n
part Next (StackOf elements next) = numbered_content elements next
part Last (StackOf elements next) = numbered_content elements (next - 1)
part _ _ = nothing

abbrev pub part_along : List Step → Content → Content
part_along [] c = c
part_along (step ∷ steps) c = part_along steps (part step c)

-- the content with that part changed; a write to a field of an invalid header changes nothing
abbrev pub with_part : Step → (Content → Content) → Content → Content
with_part (Field n) change (StructOf fields) = StructOf (changed_content fields n change)
with_part (Field n) change (HeaderOf true fields) = HeaderOf true (changed_content fields n change)
with_part (Element n) change (StackOf elements next) = StackOf (changed_content elements n change) next
with_part Next change (StackOf elements next) = StackOf (changed_content elements next change) next
with_part Last change (StackOf elements next) = StackOf (changed_content elements (next - 1) change) next
with_part _ change c = c

abbrev pub with_part_along : List Step → (Content → Content) → Content → Content
with_part_along [] change c = change c
with_part_along (step ∷ steps) change c = with_part step (with_part_along steps change) c

-- `last` of a stack with no element stands on the way
abbrev pub is_last_of_none : Step → Content → Bool
is_last_of_none Last (StackOf elements next) = next == 0
is_last_of_none _ _ = false

abbrev pub passes_last_of_none : List Step → Content → Bool
passes_last_of_none [] c = false
passes_last_of_none (step ∷ steps) c = is_last_of_none step c || passes_last_of_none steps (part step c)

-- ---- copies

abbrev mutual
  -- What stands at a place after a value was copied to it, path by path. A stack keeps the number of its next element, since
  -- the copy is of numbers and validity alone.
  pub copied_over : (value old : Content) → Content
  copied_over (StackOf elements next) (StackOf those kept) = StackOf elements kept
  copied_over (StructOf fields) (StructOf those) = StructOf (all_copied_over fields those)
  copied_over value _ = value

  pub all_copied_over : (values old : Contents) → Contents
  all_copied_over (Also value values) (Also c cs) = Also (copied_over value c) (all_copied_over values cs)
  all_copied_over values _ = values

-- ---- stacks

abbrev pub next_in : Content → ℕ
next_in (StackOf elements next) = next
next_in _ = 0

abbrev pub size_of : Content → ℕ
size_of (StackOf elements next) = length (listed elements)
size_of _ = 0

-- after an element was extracted
abbrev pub with_one_more : Content → Content
with_one_more (StackOf elements next) = StackOf elements (next + 1)
with_one_more c = c

-- `push_front`: elements move up as they are, specified or not, and the first become invalid
abbrev pub pushed : ℕ → List Content → List Content
pushed count elements = map made_invalid (take count elements) ++ take (length elements - count) elements

abbrev pub pushed_front : ℕ → Content → Content
pushed_front count (StackOf elements next) =
    StackOf (contents_of (pushed count (listed elements))) (min (next + count) (length (listed elements)))
pushed_front count c = c

-- `pop_front`: they move down, and the last become invalid
abbrev pub popped : ℕ → List Content → List Content
popped count elements = drop count elements ++ map made_invalid (take count elements)

abbrev pub popped_front : ℕ → Content → Content
popped_front count (StackOf elements next) = StackOf (contents_of (popped count (listed elements))) (next - count)
popped_front count c = c
