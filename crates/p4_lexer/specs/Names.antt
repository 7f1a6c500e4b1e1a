-- What a set of names has.
use Rattle.std.specs.Prelude.{ℕ, Bool, List}
use Rattle.std.specs.List.{list_any}
use Rattle.std.specs.Str.{bytes_eq}
use Rattle.p4_lexer.specs.declared.names.Names.{Names}

-- the name is in the set
abbrev pub has : Names → List ℕ → Bool
has names name = list_any (λ k. bytes_eq name k.items) names.names.keys
