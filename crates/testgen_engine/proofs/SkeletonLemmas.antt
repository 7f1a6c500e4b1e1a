-- A source has one program or one refusal.
use Rattle.std.proofs.Common.{◌≡◌, ℕ, ◌<◌, ◌≤◌, List, ◌++◌, length, map, ap, sym, ◌∙◌, subst, arith, length-append, Result, Ok, Err, IfOk, MatchResult}
use mathlib.Core.HLevel.{is_prop→PathP}
use Rattle.std.proofs.Props.{props}
use Rattle.std.specs.List.{All}
use Rattle.p4_lexer.specs.declared.token.Tokens.{Tokens}
use Rattle.p4_lexer.proofs.TokensLemmas.{one_tokens, one_refusal, no_both}
use Rattle.p4_grammar.proofs.OneReadingLemmas.{one_refusal as one_fault, no_both as never_both}
use Rattle.tg_base.specs.declared.place.Refusal.{Refusal}
use Rattle.p4_program.specs.Numbered.{number_of, numbers_from}
use Rattle.p4_program.specs.Placed.{IsPlaced}
use Rattle.p4_program.specs.declared.program.Program.{Program}
use Rattle.p4_program.specs.declared.program.TheConstants.{MAX_STATEMENTS}
use Rattle.p4_lexer.specs.Tokens.{HasTokens}
use Rattle.testgen_engine.specs.declared.source.TheConstants.{MAX_BYTES, MOST_BYTES}
use Rattle.testgen_engine.specs.Skeleton.{head_text, placed_from, words_in, AreBuiltAs, AreRefused, IsProgramOf, StandsFor, IsRefused}
use Rattle.testgen_engine.specs.Skeleton.AreRefused.{not_read, not_built}
use Rattle.testgen_engine.specs.Skeleton.IsRefused.{too_long, no_tokens, no_program}
use Rattle.testgen_engine.specs.Statements.{IsSkeletonOf}
use Rattle.testgen_engine.specs.Written.{written}
use Rattle.testgen_engine.proofs.StatementLemmas.{same_skeleton}

-- the words of a program are those of a skeleton
pub is_skeleton : (tokens : Tokens) (p : Program) → (s : IsProgramOf tokens p) → IsSkeletonOf (written tokens.tokens) s.kinds
is_skeleton tokens p s = record { few = s.few; fit = s.fit; whole = s.text }

-- no tokens are both built and refused
tokens_refused_or_built : (tokens : Tokens) (p : Program) (refusal : Refusal) → AreBuiltAs tokens p → AreRefused tokens refusal → ⊥
tokens_refused_or_built tokens p refusal b (not_read fault) = never_both tokens b.source refusal b.read fault
tokens_refused_or_built tokens p refusal b (not_built source read none e) = none p b.program

-- tokens have one refusal
one_refusal_of_tokens : (tokens : Tokens) (r s : Refusal) → AreRefused tokens r → AreRefused tokens s → r ≡ s
one_refusal_of_tokens tokens r s (not_read fault) (not_read other) = one_fault tokens r s fault other
one_refusal_of_tokens tokens r s (not_read fault) (not_built source read none e) = absurd (never_both tokens source r read fault)
one_refusal_of_tokens tokens r s (not_built source read none e) (not_read fault) = absurd (never_both tokens source s read fault)
one_refusal_of_tokens tokens r s (not_built source read none e) (not_built other also nothing f) = e ∙ sym f

-- so it is with the bytes that have these tokens
stand_or_refused : (bytes : List ℕ) (tokens : Tokens) (built : Result Program Refusal) → length bytes ≤ MAX_BYTES → HasTokens bytes tokens
    → MatchResult built (AreBuiltAs tokens) (AreRefused tokens) → MatchResult built (StandsFor bytes) (IsRefused bytes)
stand_or_refused bytes tokens (Ok p) few has b = record { few = few; tokens = tokens; scanned = has; built = b }
stand_or_refused bytes tokens (Err refusal) few has refused = no_program tokens few has refused

pub all_stand_or_refused : {E : Type 0} (bytes : List ℕ) (tokens : Tokens) (r : Result (Result Program Refusal) E) → length bytes ≤ MAX_BYTES → HasTokens bytes tokens
    → IfOk r (λ built. MatchResult built (AreBuiltAs tokens) (AreRefused tokens)) → IfOk r (λ built. MatchResult built (StandsFor bytes) (IsRefused bytes))
all_stand_or_refused bytes tokens (Ok built) few has h = stand_or_refused bytes tokens built few has h
all_stand_or_refused bytes tokens (Err e) few has h = tt

-- no source both has a program and is refused
pub refused_or_built : (bytes : List ℕ) (p : Program) (refusal : Refusal) → StandsFor bytes p → IsRefused bytes refusal → ⊥
refused_or_built bytes p refusal s (too_long many e) = let few = s.few in absurd (omega arith)
refused_or_built bytes p refusal s (no_tokens few refused) = no_both bytes s.tokens refusal s.scanned refused
refused_or_built bytes p refusal s (no_program tokens few has refused) =
    tokens_refused_or_built tokens p refusal (subst (λ t. AreBuiltAs t p) (one_tokens bytes s.tokens tokens s.scanned has) s.built) refused

pub same_refusal : (bytes : List ℕ) (r s : Refusal) → IsRefused bytes r → IsRefused bytes s → r ≡ s
same_refusal bytes r s (too_long many e) (too_long more f) = e ∙ sym f
same_refusal bytes r s (too_long many e) (no_tokens few refused) = absurd (omega arith)
same_refusal bytes r s (too_long many e) (no_program tokens few has refused) = absurd (omega arith)
same_refusal bytes r s (no_tokens few refused) (too_long many e) = absurd (omega arith)
same_refusal bytes r s (no_tokens few refused) (no_tokens also other) = one_refusal bytes r s refused other
same_refusal bytes r s (no_tokens few refused) (no_program tokens also has other) = absurd (no_both bytes tokens r has refused)
same_refusal bytes r s (no_program tokens few has refused) (too_long many f) = absurd (omega arith)
same_refusal bytes r s (no_program tokens few has refused) (no_tokens also other) = absurd (no_both bytes tokens s has other)
same_refusal bytes r s (no_program tokens few has refused) (no_program others also too other) =
    one_refusal_of_tokens others r s (subst (λ t. AreRefused t r) (one_tokens bytes tokens others has too) refused) other

-- a program is its statements
same_program : (p q : Program) → p.statements ≡ q.statements → p ≡ q
same_program p q e =
    λ i. record {
      statements = e i;
      within = is_prop→PathP (λ j. length (e j) ≤ MAX_STATEMENTS) (λ j. hlevel props) p.within q.within i;
      numbered = is_prop→PathP (λ j. map number_of (e j) ≡ numbers_from 1 (length (e j))) (λ j. hlevel props) p.numbered q.numbered i;
      placed = is_prop→PathP (λ j. All IsPlaced (e j)) (λ j. hlevel props) p.placed q.placed i;
    }

-- tokens are those of one program
same_program_of : (tokens : Tokens) (p q : Program) → IsProgramOf tokens p → IsProgramOf tokens q → p ≡ q
same_program_of tokens p q h k =
    let kinds = same_skeleton (written tokens.tokens) h.kinds k.kinds (is_skeleton tokens p h) (is_skeleton tokens q k) in
    same_program p q (h.statements ∙ ap (placed_from tokens 1 (words_in head_text)) kinds ∙ sym k.statements)

-- a source has one program
pub same_source : (bytes : List ℕ) (p q : Program) → StandsFor bytes p → StandsFor bytes q → p ≡ q
same_source bytes p q h k =
    same_program_of h.tokens p q h.built.program
    (subst (λ t. IsProgramOf t q) (one_tokens bytes k.tokens h.tokens k.scanned h.scanned) k.built.program)

-- a source that is built is shorter than what is taken of one
pub built_short : (bytes : List ℕ) (p : Program) → StandsFor bytes p → length bytes < MOST_BYTES
built_short bytes p s = let few = s.few in omega arith

-- so the first bytes of a file tell whether it is refused, where they are too many
pub refused_whole : (bytes rest : List ℕ) (refusal : Refusal) → length bytes ≡ MOST_BYTES → IsRefused bytes refusal → IsRefused (bytes ++ rest) refusal
refused_whole bytes rest refusal long (too_long many e) = too_long (omega (arith, length-append bytes rest)) e
refused_whole bytes rest refusal long (no_tokens few refused) = absurd (omega arith)
refused_whole bytes rest refusal long (no_program tokens few has refused) = absurd (omega arith)
