-- A text read part by part, with the fault that decides.
use Rattle.std.proofs.Common.{◌≡◌, ℕ, ◌+◌, ◌-◌, ◌≤◌, Bool, List, [], ◌∷◌, ◌++◌, Option, Some, None, length, take, drop, map, reverse, ◌⊎◌, refl, sym, ap, ◌∙◌, subst, arith}
use Rattle.std.proofs.Math.Seq.{take-add}
use Rattle.std.proofs.Math.ListN.{drop_of_length-le}
use Rattle.std.proofs.lemmas.List.{append-nil}
use Rattle.std.proofs.lemmas.List.Elements.{All-nil}
use Rattle.tg_base.specs.declared.place.Code.TheVariants.{Directive as DirectiveCode}
use Rattle.tg_base.specs.declared.place.Refusal.{Refusal}
use Rattle.tg_base.specs.declared.place.Span.{Span}
use Rattle.p4_lexer.specs.declared.extents.PieceAt.{PieceAt}
use Rattle.p4_lexer.specs.declared.extents.Event.{Event}
use Rattle.p4_lexer.specs.declared.scope.ScopeAt.{ScopeAt}
use Rattle.p4_lexer.specs.Places.{place_after}
use Rattle.p4_lexer.specs.Directives.{Directive, IsDirective}
use Rattle.p4_lexer.specs.Scope.{Scope, outermost}
use Rattle.p4_lexer.specs.ScopeState.{StandsFor, condition_at}
use Rattle.p4_lexer.specs.Parts.{Part, Line, part_bytes, scope_behind, AtLineStart, BeginsWithHash}
use Rattle.p4_lexer.specs.Extents.{cut_at}
use Rattle.p4_lexer.specs.LineExtents.{IsLineAt}
use Rattle.p4_lexer.specs.PartSteps.{PartAt, Tells, EventFits, Obeys}
use Rattle.p4_lexer.specs.Tokens.{scope_of, text_of, scope_before, refusal_at, IsPartFault}
use Rattle.p4_lexer.specs.Scanning.{IsFirstOf, IsSplit}
use Rattle.p4_lexer.specs.PartFaults.{FaultHere, FaultsOf, IsBadWhereTaken, IsStray, IsNoText, IsNotEnded, IsOpenAt, IsOneOf}
use Rattle.p4_lexer.specs.FaultSteps.{ReadsFault, FaultProgress, IsReadWith}
use Rattle.p4_lexer.proofs.PartLemmas.{joined}
use Rattle.p4_lexer.proofs.LinePartLemmas.{line_read, no_line_read}
use Rattle.p4_lexer.proofs.ReadLemmas.{read_more, goes_on, read_all}
use Rattle.p4_lexer.proofs.PartFaultLemmas.{text_more, one_part_more, or_one_part_more, ByParts, by_parts, of_parts}
use Rattle.p4_lexer.proofs.FirstFaultLemmas.{first_of_both, first_same, first_alone}
use Rattle.p4_lexer.proofs.LineFaultLemmas.{line_faults}
use Rattle.p4_lexer.proofs.OpenFaultLemmas.{open_are}

-- the bytes up to behind a `#`
pub slice_to_hash : (text : List ℕ) (at lead : ℕ) → take at text ++ take (at + lead + 1 - at) (drop at text) ≡ take (at + lead + 1) text
slice_to_hash text at lead =
    let n : at + (at + lead + 1 - at) ≡ at + lead + 1 = omega arith in
    sym (take-add at (at + lead + 1 - at) text) ∙ ap (λ k. take k text) n

-- a line that is no directive
pub no_line_reads : (text : List ℕ) (at lead end : ℕ) (pieces : List PieceAt) (scope : Scope) (s : ScopeAt) (events : List Event) (place : Span) (fault : Refusal) → StandsFor s scope → AtLineStart (take at text)
    → (begins : BeginsWithHash (drop at text)) → length begins.lead ≡ lead → IsLineAt text (at + lead + 1) pieces end → ((d : Directive) → ¬ IsDirective (map (cut_at text) pieces) d)
    → place ≡ place_after (take at text ++ begins.lead) → fault ≡ refusal_at DirectiveCode place
    → ReadsFault text at (end - at) scope s events events (Some fault)
unfolding no_line_read
no_line_reads text at lead end pieces scope s events place fault st start begins long line is there fault_is =
    let same : fault ≡ refusal_at DirectiveCode (place_after (take at text ++ begins.lead)) = fault_is ∙ ap (refusal_at DirectiveCode) there in
    record {
      reads = no_line_read text at lead end pieces scope s events st start begins long line is;
      first = first_alone (FaultHere (take at text) scope (Line begins.lead (map (cut_at text) pieces) None) (drop (at + (end - at)) text)) fault same (λ f found. found ∙ sym same);
    }

-- a line that is a directive
pub line_reads : (text : List ℕ) (at lead end : ℕ) (pieces : List PieceAt) (scope : Scope) (n : ScopeAt) (d : Directive) (place : Span) (old new : List Event) (answer : Bool) (fault : Option Refusal) → AtLineStart (take at text)
    → (begins : BeginsWithHash (drop at text)) → length begins.lead ≡ lead → IsLineAt text (at + lead + 1) pieces end → IsDirective (map (cut_at text) pieces) d
    → place ≡ place_after (take at text ++ begins.lead) → Obeys text scope place d n old new answer
    → IsFirstOf (λ f. IsBadWhereTaken text pieces n.taken f ⊎ IsStray answer place f) fault
    → ReadsFault text at (end - at) scope n old new fault
unfolding line_read
line_reads text at lead end pieces scope n d place old new answer fault start begins long line is there obeys first =
    let o : Obeys text scope (place_after (take at text ++ begins.lead)) d n old new answer = subst (λ q. Obeys text scope q d n old new answer) there obeys in
    record {
      reads = line_read text at lead end pieces scope n d place old new answer start begins long line is there obeys;
      first = line_faults text at lead end pieces scope d n.taken answer place fault begins long line o.stands.taken o.answered there first;
    }

-- a part that leaves in force what is
pub part_reads : (text : List ℕ) (at len : ℕ) (scope : Scope) (s : ScopeAt) (old new : List Event) (fault : Option Refusal) → StandsFor s scope
    → (p : Part) × PartAt text at len scope p × Tells text at scope p old new × (scope_behind (take at text) scope p ≡ scope) × IsFirstOf (FaultHere (take at text) scope p (drop (at + len) text)) fault
    → ReadsFault text at len scope s old new fault
part_reads text at len scope s old new fault st (p, stood, told, same, first) = record {
  reads = record { part = p; stood = stood; told = told; stands = subst (StandsFor s) (sym same) st };
  first = first;
}

-- nothing is read
pub nothing_read : (text : List ℕ) (place : Span) (s : ScopeAt) → StandsFor s outermost → place ≡ place_after [] → FaultProgress text 0 place s [] None
nothing_read text place s st there = record {
  progress = record {
    scope = outermost;
    stands = st;
    read = record {
      parts = [];
      within = omega arith;
      into = λ later from. from;
      told = λ later. refl;
      behind = λ later. refl;
      goes_on = λ more. refl;
      fit = All-nil (EventFits text);
    };
    placed = there;
  };
  bytes = refl;
  first = λ f none. none;
}

-- one more part is read
pub goes_on_with : (text : List ℕ) (at len : ℕ) (place next : Span) (s n : ScopeAt) (old new : List Event) (fault more result : Option Refusal) (p : FaultProgress text at place s old fault)
    → ReadsFault text at len p.progress.scope n old new more → next ≡ place_after (take at text ++ take len (drop at text)) → IsOneOf fault more result
    → FaultProgress text (at + len) next n new result
unfolding goes_on read_more
goes_on_with text at len place next s n old new fault more result p r e one =
    let parts = p.progress.read.parts in
    let part = r.reads.part in
    let left = drop (at + len) text in
    let scope : scope_of [] outermost parts ≡ p.progress.scope = ap (scope_of [] outermost) (sym (append-nil parts)) ∙ p.progress.read.behind [] in
    let whole : part_bytes part ++ left ≡ drop at text = ap (λ xs. xs ++ left) r.reads.stood.bytes ∙ joined text at len in
    let so_far : IsFirstOf (FaultsOf [] outermost parts (part_bytes part ++ left)) fault = subst (λ xs. IsFirstOf (FaultsOf [] outermost parts xs) fault) (sym whole) p.first in
    let here : IsFirstOf (FaultHere (text_of parts) (scope_of [] outermost parts) part left) more =
    subst (λ xs. IsFirstOf (FaultHere xs (scope_of [] outermost parts) part left) more) (sym p.bytes) (subst (λ sc. IsFirstOf (FaultHere (take at text) sc part left) more) (sym scope) r.first) in
    record {
      progress = goes_on text at len place next s n old new p.progress r.reads e;
      bytes = sym (append-nil (text_of (parts ++ part ∷ []))) ∙ text_more parts part [] ∙ ap (λ xs. text_of parts ++ xs) (append-nil (part_bytes part))
          ∙ ap (λ xs. xs ++ part_bytes part) p.bytes ∙ ap (λ xs. take at text ++ xs) r.reads.stood.bytes ∙ sym (take-add at len text);
      first = first_same (λ f. FaultsOf [] outermost parts (part_bytes part ++ left) f ⊎ FaultHere (text_of parts) (scope_of [] outermost parts) part left f)
          (FaultsOf [] outermost (parts ++ part ∷ []) left) result
          (λ f found. or_one_part_more [] outermost parts part left f found) (λ f found. one_part_more [] outermost parts part left f found)
          (first_of_both (FaultsOf [] outermost parts (part_bytes part ++ left)) (FaultHere (text_of parts) (scope_of [] outermost parts) part left) fault more result so_far here one);
    }

pub read_all_with : (text : List ℕ) (at : ℕ) (place : Span) (s : ScopeAt) (events : List Event) (fault : Option Refusal) → length text ≤ at → FaultProgress text at place s events fault → IsReadWith text s events fault
unfolding read_all
read_all_with text at place s events fault past p = record {
  read = read_all text at place s events past p.progress;
  first = subst (λ xs. IsFirstOf (FaultsOf [] outermost p.progress.read.parts xs) fault) (drop_of_length-le text past) p.first;
}

-- the fault of a whole text from those of its parts, of conditions that are not ended, and of its bytes
pub split_is : (text : List ℕ) (s : ScopeAt) (events : List Event) (in_parts open_one bytes behind result : Option Refusal) → IsReadWith text s events in_parts → IsFirstOf (IsOpenAt s.conditions) open_one
    → IsFirstOf (IsNoText text) bytes → IsOneOf in_parts open_one behind → IsOneOf bytes behind result → IsSplit text events result
split_is text s events in_parts open_one bytes behind result r not_ended no_text one all =
    let parts = r.read.parts in
    let conditions = (scope_before parts).conditions in
    let are : conditions ≡ map condition_at (reverse s.conditions) = ap (λ (sc : Scope). sc.conditions) r.read.behind ∙ r.read.stands.conditions in
    record {
      parts = parts;
      are_parts = r.read.are_parts;
      words = r.read.words;
      fit = r.read.fit;
      first = first_same (ByParts text parts) (IsPartFault text parts) result (λ f found. of_parts text parts f found) (λ f found. by_parts text parts f found)
          (first_of_both (IsNoText text) (λ f. FaultsOf [] outermost parts [] f ⊎ IsNotEnded conditions f) bytes behind result no_text
          (first_of_both (FaultsOf [] outermost parts []) (IsNotEnded conditions) in_parts open_one behind r.first (open_are conditions s.conditions open_one are not_ended) one) all);
    }
