-- The parse is over the grammar's rows, and each symbol of the tokens is one of its tokens.
use Rattle.std.proofs.Common.{◌≡◌, ℕ, ◌<◌, List, ◌∙◌, sym, subst, arith}
use Rattle.std.specs.List.{AllByRecursion}
use Rattle.ll1_engine.specs.declared.grammar.Row.{Row}
use Rattle.ll1_engine.specs.Table.{IsToken}
use Rattle.ll1_engine.specs.Open.{TellTrees}
use Rattle.ll1_engine.specs.Parse.{StopsAt}
use Rattle.p4_grammar.specs.declared.symbols.TheConstants.{SYMBOL_COUNT}
use Rattle.p4_grammar.specs.Rows.{grammar_rows}
use Rattle.p4_grammar.specs.Words.{terminals_of}
use Rattle.p4_grammar.proofs.WordsLemmas.{terminals_are_tokens}
use Rattle.p4_grammar.proofs.ReadingLemmas.{stop_tells}
use Rattle.p4_grammar.proofs.derivation.parsed.Goals as goal

pub parse-requires : goal.parse-requires
parse-requires c =
    let symbols : c.as_slice.result.now ≡ terminals_of c.args.tokens.now = c.as_slice.ensures ∙ c.in-Ok.ensures in (
      omega arith,
      subst (λ (g : List Row). AllByRecursion (λ t. (t < SYMBOL_COUNT) × IsToken g t) c.as_slice.result.now) (sym c.requires)
          (subst (λ (ts : List ℕ). AllByRecursion (λ t. (t < SYMBOL_COUNT) × IsToken grammar_rows t) ts) (sym symbols) (terminals_are_tokens c.args.tokens.now)),
    )

pub returns-clause-stop : goal.returns-clause-stop
returns-clause-stop c = λ stop e.
    let symbols : c.as_slice.result.now ≡ terminals_of c.args.tokens.now = c.as_slice.ensures ∙ c.in-Ok.ensures in
    subst (λ (g : List Row). StopsAt g (terminals_of c.args.tokens.now) stop.at) c.requires
    (subst (λ (ts : List ℕ). StopsAt c.args.table.now ts stop.at) symbols (c.parse.ensures.stop stop e))

pub returns-clause-told : goal.returns-clause-told
returns-clause-told c = λ stop e.
    let symbols : c.as_slice.result.now ≡ terminals_of c.args.tokens.now = c.as_slice.ensures ∙ c.in-Ok.ensures in
    stop_tells stop.rows c.args.tokens.now stop.at
    (subst (λ (g : List Row). StopsAt g (terminals_of c.args.tokens.now) stop.at) c.requires
    (subst (λ (ts : List ℕ). StopsAt c.args.table.now ts stop.at) symbols (c.parse.ensures.stop stop e)))
    (subst (λ (g : List Row). TellTrees g stop.rows (terminals_of c.args.tokens.now) stop.at) c.requires
    (subst (λ (ts : List ℕ). TellTrees c.args.table.now stop.rows ts stop.at) symbols (c.parse.ensures.begun stop e)))
