use Rattle.std.proofs.Common.{◌∙◌, map, subst, sym, ap}
use Rattle.std.proofs.lemmas.Option.{slice_get-get_or}
use Rattle.tg_base.specs.declared.place.Refusal.{Refusal}
use Rattle.tg_base.specs.declared.place.Code.TheVariants.{Limit}
use Rattle.tg_base.specs.Deciding.{IsDeciding}
use Rattle.p4_lexer.specs.declared.limits.TheConstants.{MAX_WORDS}
use Rattle.p4_lexer.specs.Extents.{entry_at}
use Rattle.p4_lexer.specs.Tokens.{IsPastCount, refusal_at}
use Rattle.p4_lexer.proofs.ScanningLemmas.{one_past, mapped_at}
use Rattle.p4_lexer.proofs.scanning.past_count.Goals as goal

pub returns : goal.returns
returns c text =
    subst (λ (fault : Refusal). IsDeciding (IsPastCount (map (entry_at text) c.args.entries.now)) fault)
    (sym (c.refusal_at.ensures ∙ ap (refusal_at Limit) (c.place_of.ensures text)))
    (one_past (map (entry_at text) c.args.entries.now) _
    (mapped_at (entry_at text) c.args.entries.now MAX_WORDS _ (slice_get-get_or c.args.entries.now MAX_WORDS _ c.if-entries-le-MAX_WORDS.false)))
