-- One part of a text at a place: a piece, or a line that is skipped.
use Rattle.std.proofs.Common.{◌≡◌, ℕ, ◌+◌, ◌-◌, ◌<◌, true, false, IsTrue, List, [], ◌∷◌, ◌++◌, Option, Some, None, MatchOption, length, take, drop, take-append-drop, drop-drop, length-drop, length-append, inl, inr, sym, refl, ap, ◌∙◌, subst, arith}
use Rattle.std.proofs.lemmas.List.{length-take-le, append-nil}
use Rattle.std.proofs.lemmas.List.Elements.{All-nil, All-cons}
use Rattle.p4_lexer.specs.declared.piece.Kind.{Kind}
use Rattle.p4_lexer.specs.declared.extents.Event.{Event}
use Rattle.p4_lexer.specs.declared.extents.Event.TheVariants.{Word as WordEvent}
use Rattle.tg_base.specs.declared.place.Span.{Span}
use Rattle.p4_lexer.specs.Bytes.{line_feed}
use Rattle.p4_lexer.specs.Places.{place_after}
use Rattle.p4_lexer.specs.Pieces.{Begins}
use Rattle.p4_lexer.specs.Cuts.{Cut}
use Rattle.p4_lexer.specs.Scope.{Scope, is_taken}
use Rattle.p4_lexer.specs.Parts.{Part, Piece, Skipped, AtLineStart, BeginsWithHash, IsRestOfLine, scope_behind}
use Rattle.p4_lexer.specs.SourceWords.{is_word, word_at, part_words}
use Rattle.p4_lexer.specs.Extents.{words_of}
use Rattle.p4_lexer.specs.PartSteps.{PartAt, EventFits, Tells}
use Rattle.p4_lexer.proofs.TextLemmas.{rest_from}
use Rattle.p4_lexer.proofs.LineLemmas.{some_bytes}

abbrev IsLead : List ℕ → Option ℕ → Type 0
IsLead xs r = MatchOption r (¬ BeginsWithHash xs) (λ len. (begins : BeginsWithHash xs) × (length begins.lead ≡ len))

lead_by : (S : Type 0) (xs : List ℕ) (r : Option ℕ) → S → IsLead xs r → MatchOption r (¬ (S × BeginsWithHash xs)) (λ len. S × ((begins : BeginsWithHash xs) × (length begins.lead ≡ len)))
lead_by S xs None s lead = λ both. lead both.1
lead_by S xs (Some len) s lead = (s, lead)

pub lead_there : (text : List ℕ) (at : ℕ) (r : Option ℕ) → AtLineStart (take at text) → IsLead (take (length text - at) (drop at text)) r
    → MatchOption r (¬ (AtLineStart (take at text) × BeginsWithHash (drop at text))) (λ len. AtLineStart (take at text) × ((begins : BeginsWithHash (drop at text)) × (length begins.lead ≡ len)))
lead_there text at r start lead = lead_by (AtLineStart (take at text)) (drop at text) r start (subst (λ (xs : List ℕ). IsLead xs r) (rest_from text at) lead)

-- the bytes at a place and the text behind them
pub joined : (text : List ℕ) (at len : ℕ) → take len (drop at text) ++ drop (at + len) text ≡ drop at text
joined text at len = ap (λ xs. take len (drop at text) ++ xs) (sym (drop-drop len at text)) ∙ take-append-drop len (drop at text)

some_rest : (bytes left : List ℕ) → IsRestOfLine bytes left → 0 < length bytes
some_rest [] left (inl ended) = absurd (omega (arith, ap length ended.1, length-append ended.0 (line_feed ∷ [])))
some_rest [] left (inr whole) = absurd (whole.0 refl)
some_rest (c ∷ bytes) left rest = omega arith

abbrev RestLen : List ℕ → ℕ → Type 0
RestLen xs len = IsRestOfLine (take len xs) (drop len xs) × (length (take len xs) ≡ len)

pub skipped_at : (text : List ℕ) (at len : ℕ) (scope : Scope) → at < length text → is_taken scope ≡ false → ¬ (AtLineStart (take at text) × BeginsWithHash (drop at text))
    → IsRestOfLine (take len (drop at text)) (drop len (drop at text)) → length (take len (drop at text)) ≡ len
    → PartAt text at len scope (Skipped (take len (drop at text)))
skipped_at text at len scope below untaken plain rest long = record {
  some = omega (arith, some_rest (take len (drop at text)) (drop len (drop at text)) rest);
  within = omega (arith, long, ap length (take-append-drop len (drop at text)), length-append (take len (drop at text)) (drop len (drop at text)), length-drop at text);
  bytes = refl;
  there = (
    untaken,
    λ both. plain (subst (λ xs. AtLineStart (take at text) × BeginsWithHash xs) (joined text at len) both),
    subst (IsRestOfLine (take len (drop at text))) (drop-drop len at text) rest,
  );
}

pub nothing_told : (text : List ℕ) (at len : ℕ) (scope : Scope) (events : List Event) → Tells text at scope (Skipped (take len (drop at text))) events events
nothing_told text at len scope events = record { more = []; added = sym (append-nil events); fit = All-nil (EventFits text); words = λ tail. refl }

-- the rest of the line as it was read from a slice
pub rest_read : (text : List ℕ) (at len : ℕ) (P : List ℕ → Type 0) → P (take (length text - at) (drop at text)) → P (drop at text)
rest_read text at len P h = subst P (rest_from text at) h

abbrev pub cut_from : List ℕ → ℕ → Kind → ℕ → Cut
cut_from text at kind len = record { kind = kind; bytes = take len (drop at text) }

pub piece_there : (text : List ℕ) (at : ℕ) (kind : Kind) (len : ℕ) (scope : Scope) → at < length text → IsTrue (is_taken scope) → ¬ (AtLineStart (take at text) × BeginsWithHash (drop at text))
    → Begins (drop at text) kind len → PartAt text at len scope (Piece (cut_from text at kind len))
piece_there text at kind len scope below taken plain b = record {
  some = some_bytes (drop at text) kind len (omega (arith, length-drop at text)) b;
  within = omega (arith, b.within, length-drop at text);
  bytes = refl;
  there = (
    taken,
    λ both. plain (subst (λ xs. AtLineStart (take at text) × BeginsWithHash xs) (joined text at len) both),
    subst (λ xs. Begins xs kind (length (take len (drop at text)))) (sym (joined text at len)) (subst (Begins (drop at text) kind) (sym (length-take-le len (drop at text) b.within)) b),
  );
}

no_word : (before : List ℕ) (scope : Scope) (c : Cut) → is_word c.kind ≡ false → word_at before scope c ≡ []
no_word before scope c e = rw e refl

one_word : (before : List ℕ) (scope : Scope) (c : Cut) → is_word c.kind ≡ true → word_at before scope c ≡ record { word = record { cut = c; place = place_after before; replacement = false }; macros = scope.macros } ∷ []
one_word before scope c e = rw e refl

pub no_word_told : (text : List ℕ) (at : ℕ) (kind : Kind) (len : ℕ) (scope : Scope) (events : List Event) → is_word kind ≡ false → Tells text at scope (Piece (cut_from text at kind len)) events events
no_word_told text at kind len scope events e = record {
  more = [];
  added = sym (append-nil events);
  fit = All-nil (EventFits text);
  words = λ tail. sym (ap (λ ws. ws ++ words_of text scope.macros tail) (no_word (take at text) scope (cut_from text at kind len) e));
}

pub word_told : (text : List ℕ) (at : ℕ) (kind : Kind) (len : ℕ) (place : Span) (scope : Scope) (old new : List Event) → at < length text → is_word kind ≡ true → Begins (drop at text) kind len → place ≡ place_after (take at text)
    → new ≡ old ++ WordEvent (record { piece = record { kind = kind; extent = record { at = at; len = len } }; place = place; replacement = false }) ∷ []
    → Tells text at scope (Piece (cut_from text at kind len)) old new
word_told text at kind len place scope old new below e b p added = record {
  more = WordEvent (record { piece = record { kind = kind; extent = record { at = at; len = len } }; place = place; replacement = false }) ∷ [];
  added = added;
  fit = All-cons (EventFits text) (WordEvent (record { piece = record { kind = kind; extent = record { at = at; len = len } }; place = place; replacement = false })) [] (
    record {
      within = omega (arith, b.within, length-drop at text);
      some = some_bytes (drop at text) kind len (omega (arith, length-drop at text)) b;
      piece = b.piece;
    },
    e,
    refl,
  ) (All-nil (EventFits text));
  words = λ tail.
      ap (λ q. record { word = record { cut = cut_from text at kind len; place = q; replacement = false }; macros = scope.macros } ∷ words_of text scope.macros tail) p
      ∙ sym (ap (λ ws. ws ++ words_of text scope.macros tail) (one_word (take at text) scope (cut_from text at kind len) e));
}

-- a part that has no words and leaves what is in force as it is adds no events
pub nothing_added : (text : List ℕ) (at : ℕ) (scope : Scope) (p : Part) (events : List Event) → part_words (take at text) scope p ≡ [] → scope_behind (take at text) scope p ≡ scope → Tells text at scope p events events
nothing_added text at scope p events none same = record {
  more = [];
  added = sym (append-nil events);
  fit = All-nil (EventFits text);
  words = λ tail. sym (ap (λ ws. ws ++ words_of text (scope_behind (take at text) scope p).macros tail) none ∙ ap (λ (s : Scope). words_of text s.macros tail) same);
}
