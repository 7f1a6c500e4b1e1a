use Rattle.std.proofs.Common.{map, string_bytes, [], ◌∷◌, ap, sym, ◌∙◌, subst}
use Rattle.std.proofs.lemmas.Slice.Eq.{bytes_eq-Decides}
use Rattle.testgen_engine.specs.Words.{IsName}
use Rattle.testgen_engine.proofs.Lists.{two_items}
use Rattle.testgen_engine.proofs.words.job_of.Goals as goal

pub returns-in-len2 : goal.returns-in-len2
returns-in-len2 c =
    let two = two_items c.args.words.now c.verb-item.result c.name-item.result c.in-len2.len_at_least c.in-len2.len_below c.verb-item.is c.name-item.is in
    let verb = (bytes_eq-Decides c.as_str.result.now (103 ∷ 101 ∷ 110 ∷ [])).0 (sym c.eq.ensures ∙ c.if-eq.true) in
    let name = c.as_str-then-eq.ensures.value ∙ sym c.as_str-in-len2.ensures.value in
    let as_word = c.as_str.ensures.value in
    let as_name = c.as_str-in-len2.ensures.value in
    record {
      said = ap (map string_bytes) two ∙ cc;
      named = subst IsName name (c.is_name.ensures.0 c.if-is_name.true);
      bounds = c.default.ensures;
    }
