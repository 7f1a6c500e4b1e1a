-- A line is read from its words alone.
use Rattle.std.proofs.Common.{◌≡◌, ℕ, List, [], ◌∷◌, refl, sym, ap, ◌∙◌, subst}
use Rattle.std.specs.Prelude.{Some, codes}
use Rattle.std.specs.Fmt.{decimal}
use Rattle.cnf_core.specs.declared.derivation.Derived.TheVariants.{Cube, Step}
use Rattle.cnf_core.specs.declared.derivation.Var.{Var}
use Rattle.cnf_core.specs.declared.derivation.Var.TheVariants.{Input, Read}
use Rattle.proof_stream.specs.declared.keyword.Keyword.{Keyword}
use Rattle.proof_stream.specs.declared.keyword.Keyword.TheVariants as k
use Rattle.proof_stream.specs.declared.line.Line.{Line}
use Rattle.proof_stream.specs.declared.line.Line.TheVariants as line
use Rattle.proof_stream.specs.declared.record.End.TheVariants.{Sat, Unsat, Spent}
use Rattle.proof_stream.specs.declared.record.Kind.{Kind}
use Rattle.proof_stream.specs.declared.record.Kind.TheVariants.{Reach, Steady, Break, Nibble}
use Rattle.proof_stream.specs.Keywords.{spelling, keyword_of}
use Rattle.proof_stream.specs.Reading.{◌>>=◌, number_of, kind_of, statement_kind, nibble_kind, var_of, input_var, read_var, one_number_of, bits_of, clause_of, cube_of, step_of, values_onto, alone, operands_of, line_of}
use Rattle.proof_stream.specs.Spelling.{kind_words, var_words, keyword, operands}
use Rattle.proof_stream.specs.Valid.{Is32, IsLine, Fits}
use Rattle.proof_stream.specs.Words.{Word}
use Rattle.proof_stream.proofs.NumberLemmas.{some_is, bind_some, number_is, number_again}
use Rattle.proof_stream.proofs.WordLemmas.{keyword_is, keyword_again, bits_are, bits_of_again}
use Rattle.proof_stream.proofs.HexWordLemmas.{values_in, values_again}
use Rattle.proof_stream.proofs.ClauseLemmas.{cube_is, cube_again, step_is, step_again, clause_is, clause_again}

two_words : (a b v w : Word) → a ≡ v → b ≡ w → v ∷ w ∷ [] ≡ a ∷ b ∷ []
two_words a b v w p q = cc

three_words : (a b c u v w : Word) → a ≡ u → b ≡ v → c ≡ w → u ∷ v ∷ w ∷ [] ≡ a ∷ b ∷ c ∷ []
three_words a b c u v w p q r = cc

statement_is : (kw : Keyword) (n : ℕ) (kind : Kind) → statement_kind kw n ≡ Some kind → (kind_words kind ≡ spelling kw ∷ decimal n ∷ []) × (Is32 n → Fits (line.Head kind))
statement_is k.Reach n kind e = subst (λ (x : Kind). (kind_words x ≡ codes "reach" ∷ decimal n ∷ []) × (Is32 n → Fits (line.Head x))) (some_is (Reach n) kind e) (refl, λ h. h)
statement_is k.Steady n kind e = subst (λ (x : Kind). (kind_words x ≡ codes "steady" ∷ decimal n ∷ []) × (Is32 n → Fits (line.Head x))) (some_is (Steady n) kind e) (refl, λ h. h)
statement_is k.Break n kind e = subst (λ (x : Kind). (kind_words x ≡ codes "break" ∷ decimal n ∷ []) × (Is32 n → Fits (line.Head x))) (some_is (Break n) kind e) (refl, λ h. h)
statement_is other n kind e = absurd cc

nibble_is : (kw : Keyword) (t n : ℕ) (kind : Kind) → nibble_kind kw t n ≡ Some kind → (kind_words kind ≡ spelling kw ∷ decimal t ∷ decimal n ∷ []) × (Is32 t → Is32 n → Fits (line.Head kind))
nibble_is k.Nibble t n kind e = subst (λ (x : Kind). (kind_words x ≡ codes "nibble" ∷ decimal t ∷ decimal n ∷ []) × (Is32 t → Is32 n → Fits (line.Head x))) (some_is (Nibble t n) kind e) (refl, λ g h. (g, h))
nibble_is other t n kind e = absurd cc

kind_is : (ws : List Word) (kind : Kind) → kind_of ws ≡ Some kind → (kind_words kind ≡ ws) × Fits (line.Head kind)
unfolding kind_of
kind_is [] kind e = absurd cc
kind_is (a ∷ []) kind e = absurd cc
kind_is (a ∷ b ∷ []) kind e =
    let first = bind_some (keyword_of a) (λ keyword. number_of b >>= statement_kind keyword) kind e in
    let second = bind_some (number_of b) (statement_kind first.0) kind first.2 in
    let n = number_is b second.0 second.1 in
    let is = statement_is first.0 second.0 kind second.2 in
    (is.0 ∙ two_words a b (spelling first.0) (decimal second.0) (keyword_is a first.0 first.1) n.0, is.1 n.1)
kind_is (a ∷ b ∷ c ∷ []) kind e =
    let first = bind_some (keyword_of a) (λ keyword. number_of b >>= λ t. number_of c >>= nibble_kind keyword t) kind e in
    let second = bind_some (number_of b) (λ t. number_of c >>= nibble_kind first.0 t) kind first.2 in
    let third = bind_some (number_of c) (nibble_kind first.0 second.0) kind second.2 in
    let t = number_is b second.0 second.1 in
    let n = number_is c third.0 third.1 in
    let is = nibble_is first.0 second.0 third.0 kind third.2 in
    (is.0 ∙ three_words a b c (spelling first.0) (decimal second.0) (decimal third.0) (keyword_is a first.0 first.1) t.0 n.0, is.1 t.1 n.1)
kind_is (a ∷ b ∷ c ∷ d ∷ ws) kind e = absurd cc

kind_again : (kind : Kind) → Fits (line.Head kind) → kind_of (kind_words kind) ≡ Some kind
unfolding kind_of
kind_again (Reach s) fits = rw (keyword_again k.Reach, number_again s fits) refl
kind_again (Steady s) fits = rw (keyword_again k.Steady, number_again s fits) refl
kind_again (Break s) fits = rw (keyword_again k.Break, number_again s fits) refl
kind_again (Nibble t n) fits = rw (keyword_again k.Nibble, number_again t fits.0, number_again n fits.1) refl

input_is : (kw : Keyword) (n : ℕ) (var : Var) → input_var kw n ≡ Some var → (var_words var ≡ spelling kw ∷ decimal n ∷ []) × (Is32 n → Fits (line.Var var))
input_is k.Input n var e = subst (λ (x : Var). (var_words x ≡ codes "input" ∷ decimal n ∷ []) × (Is32 n → Fits (line.Var x))) (some_is (Input n) var e) (refl, λ h. h)
input_is other n var e = absurd cc

read_is : (kw : Keyword) (t n : ℕ) (var : Var) → read_var kw t n ≡ Some var → (var_words var ≡ spelling kw ∷ decimal t ∷ decimal n ∷ []) × (Is32 t → Is32 n → Fits (line.Var var))
read_is k.Read t n var e = subst (λ (x : Var). (var_words x ≡ codes "read" ∷ decimal t ∷ decimal n ∷ []) × (Is32 t → Is32 n → Fits (line.Var x))) (some_is (Read t n) var e) (refl, λ g h. (g, h))
read_is other t n var e = absurd cc

var_is : (ws : List Word) (var : Var) → var_of ws ≡ Some var → (var_words var ≡ ws) × Fits (line.Var var)
unfolding var_of
var_is [] var e = absurd cc
var_is (a ∷ []) var e = absurd cc
var_is (a ∷ b ∷ []) var e =
    let first = bind_some (keyword_of a) (λ keyword. number_of b >>= input_var keyword) var e in
    let second = bind_some (number_of b) (input_var first.0) var first.2 in
    let n = number_is b second.0 second.1 in
    let is = input_is first.0 second.0 var second.2 in
    (is.0 ∙ two_words a b (spelling first.0) (decimal second.0) (keyword_is a first.0 first.1) n.0, is.1 n.1)
var_is (a ∷ b ∷ c ∷ []) var e =
    let first = bind_some (keyword_of a) (λ keyword. number_of b >>= λ t. number_of c >>= read_var keyword t) var e in
    let second = bind_some (number_of b) (λ t. number_of c >>= read_var first.0 t) var first.2 in
    let third = bind_some (number_of c) (read_var first.0 second.0) var second.2 in
    let t = number_is b second.0 second.1 in
    let n = number_is c third.0 third.1 in
    let is = read_is first.0 second.0 third.0 var third.2 in
    (is.0 ∙ three_words a b c (spelling first.0) (decimal second.0) (decimal third.0) (keyword_is a first.0 first.1) t.0 n.0, is.1 t.1 n.1)
var_is (a ∷ b ∷ c ∷ d ∷ ws) var e = absurd cc

var_again : (var : Var) → Fits (line.Var var) → var_of (var_words var) ≡ Some var
unfolding var_of
var_again (Input n) fits = rw (keyword_again k.Input, number_again n fits) refl
var_again (Read t n) fits = rw (keyword_again k.Read, number_again t fits.0, number_again n fits.1) refl

one_number_is : (ws : List Word) (n : ℕ) → one_number_of ws ≡ Some n → (decimal n ∷ [] ≡ ws) × Is32 n
unfolding one_number_of
one_number_is [] n e = absurd cc
one_number_is (w ∷ []) n e = let is = number_is w n e in (ap (λ x. x ∷ []) (sym is.0), is.1)
one_number_is (w ∷ v ∷ ws) n e = absurd cc

-- the line has these words
pub record IsSpelledBy (kw : Keyword) (ws : List Word) (l : Line) : Type 0 where
  pub first : keyword l ≡ spelling kw
  pub rest : operands l ≡ ws
  pub line : IsLine l
  pub fits : Fits l

alone_is : (kw : Keyword) (made : Line) (ws : List Word) (l : Line) → IsSpelledBy kw [] made → alone made ws ≡ Some l → IsSpelledBy kw ws l
alone_is kw made [] l spelled e = subst (λ (x : Line). IsSpelledBy kw [] x) (some_is made l e) spelled
alone_is kw made (w ∷ ws) l spelled e = absurd cc

operands_is : (kw : Keyword) (ws : List Word) (l : Line) → operands_of kw ws ≡ Some l → IsSpelledBy kw ws l
unfolding operands_of
operands_is k.Record ws l e =
    let b = bind_some (kind_of ws) (λ x. Some (line.Head x)) l e in
    let is = kind_is ws b.0 b.1 in
    subst (λ (l : Line). IsSpelledBy k.Record ws l) (some_is (line.Head b.0) l b.2) (record { first = refl; rest = is.0; line = tt; fits = is.1 })
operands_is k.At ws l e =
    let b = bind_some (bits_of ws) (λ x. Some (line.At x)) l e in
    let is = bits_are ws b.0 b.1 in
    subst (λ (l : Line). IsSpelledBy k.At ws l) (some_is (line.At b.0) l b.2) (record { first = refl; rest = is.0; line = is.1; fits = tt })
operands_is k.Var ws l e =
    let b = bind_some (var_of ws) (λ x. Some (line.Var x)) l e in
    let is = var_is ws b.0 b.1 in
    subst (λ (l : Line). IsSpelledBy k.Var ws l) (some_is (line.Var b.0) l b.2) (record { first = refl; rest = is.0; line = tt; fits = is.1 })
operands_is k.Clause ws l e =
    let b = bind_some (clause_of ws) (λ x. Some (line.Clause x)) l e in
    let is = clause_is ws b.0 b.1 in
    subst (λ (l : Line). IsSpelledBy k.Clause ws l) (some_is (line.Clause b.0) l b.2) (record { first = refl; rest = is.0; line = (is.1.0, is.2); fits = is.1.1 })
operands_is k.Cube ws l e =
    let b = bind_some (cube_of ws) (λ x. Some (line.Derived (Cube x))) l e in
    let is = cube_is ws b.0 b.1 in
    subst (λ (l : Line). IsSpelledBy k.Cube ws l) (some_is (line.Derived (Cube b.0)) l b.2) (record { first = refl; rest = is.0; line = is.1.0; fits = is.1.1 })
operands_is k.Step ws l e =
    let b = bind_some (step_of ws) (λ x. Some (line.Derived (Step x))) l e in
    let is = step_is ws b.0 b.1 in
    subst (λ (l : Line). IsSpelledBy k.Step ws l) (some_is (line.Derived (Step b.0)) l b.2) (record { first = refl; rest = is.0; line = (is.1.0, is.2.0); fits = (is.1.1, is.2.1) })
operands_is k.Sat ws l e =
    let b = bind_some (bits_of ws) (λ x. Some (line.End (Sat x))) l e in
    let is = bits_are ws b.0 b.1 in
    subst (λ (l : Line). IsSpelledBy k.Sat ws l) (some_is (line.End (Sat b.0)) l b.2) (record { first = refl; rest = is.0; line = is.1; fits = tt })
operands_is k.Unsat ws l e = alone_is k.Unsat (line.End Unsat) ws l (record { first = refl; rest = refl; line = tt; fits = tt }) e
operands_is k.Spent ws l e = alone_is k.Spent (line.End Spent) ws l (record { first = refl; rest = refl; line = tt; fits = tt }) e
operands_is k.Broken ws l e =
    let b = bind_some (one_number_of ws) (λ x. Some (line.Broken x)) l e in
    let is = one_number_is ws b.0 b.1 in
    subst (λ (l : Line). IsSpelledBy k.Broken ws l) (some_is (line.Broken b.0) l b.2) (record { first = refl; rest = is.0; line = tt; fits = is.1 })
operands_is k.Runs ws l e =
    let b = bind_some (values_onto [] ws) (λ x. Some (line.Runs x)) l e in
    let is = values_in [] ws b.0 b.1 in
    let words : operands (line.Runs b.0) ≡ ws = rw is.1 (sym is.2) in
    subst (λ (l : Line). IsSpelledBy k.Runs ws l) (some_is (line.Runs b.0) l b.2) (record { first = refl; rest = words; line = tt; fits = tt })
operands_is k.Breaks ws l e =
    let b = bind_some (values_onto [] ws) (λ x. Some (line.Breaks x)) l e in
    let is = values_in [] ws b.0 b.1 in
    let words : operands (line.Breaks b.0) ≡ ws = rw is.1 (sym is.2) in
    subst (λ (l : Line). IsSpelledBy k.Breaks ws l) (some_is (line.Breaks b.0) l b.2) (record { first = refl; rest = words; line = tt; fits = tt })
operands_is other ws l e = absurd cc

-- a line that words spell has these words
pub line_is : (ws : List Word) (l : Line) → line_of ws ≡ Some l → (keyword l ∷ operands l ≡ ws) × IsLine l × Fits l
unfolding line_of
line_is [] l e = absurd cc
line_is (w ∷ ws) l e =
    let b = bind_some (keyword_of w) (λ keyword. operands_of keyword ws) l e in
    let is = operands_is b.0 ws l b.2 in
    (ap (λ x. x ∷ operands l) (is.first ∙ sym (keyword_is w b.0 b.1)) ∙ ap (λ x. w ∷ x) is.rest, is.line, is.fits)

-- its words spell a line
pub line_again : (l : Line) → IsLine l → Fits l → line_of (keyword l ∷ operands l) ≡ Some l
unfolding line_of operands_of one_number_of
line_again (line.Head kind) is fits = rw (keyword_again k.Record, kind_again kind fits) refl
line_again (line.At bits) is fits = rw (keyword_again k.At, bits_of_again bits is) refl
line_again (line.Var var) is fits = rw (keyword_again k.Var, var_again var fits) refl
line_again (line.Clause lits) is fits = rw (keyword_again k.Clause, clause_again lits (is.0, fits) is.1) refl
line_again (line.Derived (Cube lits)) is fits = rw (keyword_again k.Cube, cube_again lits (is, fits)) refl
line_again (line.Derived (Step step)) is fits = rw (keyword_again k.Step, step_again step (is.0, fits.0) (is.1, fits.1)) refl
line_again (line.End (Sat bits)) is fits = rw (keyword_again k.Sat, bits_of_again bits is) refl
line_again (line.End Unsat) is fits = rw (keyword_again k.Unsat) refl
line_again (line.End Spent) is fits = rw (keyword_again k.Spent) refl
line_again (line.Broken target) is fits = rw (keyword_again k.Broken, number_again target fits) refl
line_again (line.Runs values) is fits = rw (keyword_again k.Runs, values_again [] values) refl
line_again (line.Breaks values) is fits = rw (keyword_again k.Breaks, values_again [] values) refl
