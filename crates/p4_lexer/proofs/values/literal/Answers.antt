use Rattle.p4_lexer.proofs.LiteralLemmas.{stands, value_behind}
use Rattle.p4_lexer.proofs.values.literal.Goals as goal

pub returns : goal.returns
returns c =
    stands c.args.spelling.now (record { int_type = c.literal_type.result; value = c.plain_value.result; spelling = c.in_ok-owned.owned })
    c.requires c.in_ok-owned.ensures c.literal_type.ensures
    (value_behind c.args.spelling.now c.width_len-width.result c.plain_value.result c.width_len-width.ensures.value c.plain_value.ensures)
